-- A context without faults is a formed program.
use Rattle.std.proofs.Common.{◌≡◌, ◌||◌, ◌&&◌, ◌++◌, ◌≤◌, ℕ, zero, suc, ◌+◌, ◌-◌, Bool, true, false, not, List, [], ◌∷◌, Option, Some, None, length, map, refl, sym, ap, ◌∙◌, subst, arith, fold, if◌then◌else◌, nat_eq}
use Rattle.std.specs.Prelude.{nat_le, is_some, slice_get}
use Rattle.std.specs.List.{list_any, list_all}
use Rattle.std.specs.Str.{bytes_eq}
use Rattle.std.proofs.lemmas.Bool.{true≢false, and_parts, and_from, leb-true, le-leb, eq-eqb}
use Rattle.std.proofs.lemmas.Option.{same_Some}
use Rattle.micro_isa.specs.declared.instr.Instr.{Instr}
use Rattle.micro_isa.specs.declared.program.VReg.{VReg}
use Rattle.micro_isa.specs.declared.program.Line.{Line}
use Rattle.micro_isa.specs.Formed.{Each, firsts_after, named_by, names_below, target_of, is_labelled, fits_channels, always_rises, never_falls, never_drops, all_below, is_distinct, IsFormedProgram}
use Rattle.asm_lines.specs.Cutting.{TextLine}
use Rattle.asm_lines.specs.Tables.{knows, declare, one}
use Rattle.asm_lines.specs.declared.fault.BundleKind.TheVariants as kind
use Rattle.asm_lines.proofs.First.{none_met}
use Rattle.asm_lines.proofs.Verdicts.{none_at}
use Rattle.asm_context.specs.Forms.{does, ends, registers_in}
use Rattle.asm_context.specs.Said.{Said, with_line, line_body, said_by, count}
use Rattle.asm_context.specs.Faults.{Channels, body_test, line_fault, faults_after, lines_fault}
use Rattle.asm_context.specs.Programs.{instr_in, on_line, line_code, code_after, code_of, labels_from, program_of}
use Rattle.asm_context.proofs.Naming.{said_snoc}
use Rattle.asm_context.proofs.Numbering.{numbers, places_all, firsts-append, first_names}
use Rattle.asm_context.proofs.Labelling.{names_from, targets_from}
use Rattle.asm_context.proofs.Ordering.{IsOrderly, orderly, done_grows, registers_grow}
use Rattle.asm_context.proofs.Instructing.{IsClean, FormFact, form_fact, known_fold, made_body}

-- code from a line on, behind which so much is said
record IsCode (chs : Channels) (all s : Said) (least : ℕ) (code : List Line) : Type 0 where
  counted : length code + s.done ≡ all.done
  named : list_all (λ l. names_below (λ r. r.0) (length all.registers) all.done l.instr) code ≡ true
  labelled : list_all (λ l. is_labelled (labels_from 0 all.labels all.targets) (target_of l.instr)) code ≡ true
  fits : list_all (λ l. fits_channels chs.kinds l.instr) code ≡ true
  numbered : firsts_after (numbers s.registers) (named_by code) ≡ numbers all.registers
  rises : always_rises least (map (λ l. l.line) code) ≡ true
  ends : (last : Line) → slice_get code (length code - 1) ≡ Some last → never_falls last.instr ≡ true

pub rises_weaker : (a b : ℕ) (xs : List ℕ) → a ≤ b → always_rises b xs ≡ true → always_rises a xs ≡ true
rises_weaker a b [] le e = refl
rises_weaker a b (x ∷ xs) le e =
    let parts = and_parts (nat_le b x) (always_rises (x + 1) xs) e in
    and_from (nat_le a x) (always_rises (x + 1) xs) (le-leb a x (omega (arith, leb-true b x parts.0))) parts.1

last_of : (l : Line) (later : List Line) → (length later ≡ 0 → never_falls l.instr ≡ true) → ((last : Line) → slice_get later (length later - 1) ≡ Some last → never_falls last.instr ≡ true) → (last : Line) → slice_get (l ∷ later) (length (l ∷ later) - 1) ≡ Some last → never_falls last.instr ≡ true
last_of l [] here there last e = subst (λ (k : Line). never_falls k.instr ≡ true) (same_Some l last e) (here refl)
last_of l (x ∷ xs) here there last e =
    let at : length (l ∷ x ∷ xs) - 1 ≡ suc (length (x ∷ xs) - 1) = omega arith in
    there last (sym (ap (slice_get (l ∷ x ∷ xs)) at) ∙ e)

-- a line in front of code
code_line : (chs : Channels) (all s : Said) (least : ℕ) (line : TextLine) (o : Option (Instr VReg)) (later : List Line) → FormFact chs all (with_line s line) (line_body line).form o → (does (line_body line).form ≡ true → (with_line s line).done ≡ all.done → ends (line_body line).form ≡ true) → least ≤ line.number → IsCode chs all (with_line s line) (line.number + 1) later → IsCode chs all s least (on_line line.number o ++ later)
code_line chs all s least line None later f end le c =
    let same : (with_line s line).done ≡ s.done = ap (λ d. s.done + count d) f.0 ∙ omega arith in
    let registers : (with_line s line).registers ≡ s.registers = ap (fold declare s.registers) f.1 in
    record {
      counted = omega (arith, c.counted, same);
      named = c.named;
      labelled = c.labelled;
      fits = c.fits;
      numbered = ap (λ r. firsts_after (numbers r) (named_by later)) (sym registers) ∙ c.numbered;
      rises = rises_weaker least (line.number + 1) (map (λ l. l.line) later) (omega arith) c.rises;
      ends = c.ends;
    }
code_line chs all s least line (Some i) later f end le c =
    let form = (line_body line).form in
    let now = with_line s line in
    let more : now.done ≡ s.done + 1 = ap (λ d. s.done + count d) f.0 in
    let l : Line = record { instr = i; line = line.number } in
    record {
      counted = omega (arith, c.counted, more);
      named = and_from (names_below (λ r. r.0) (length all.registers) all.done i) (list_all (λ l. names_below (λ r. r.0) (length all.registers) all.done l.instr) later) f.1 c.named;
      labelled = and_from (is_labelled (labels_from 0 all.labels all.targets) (target_of i)) (list_all (λ l. is_labelled (labels_from 0 all.labels all.targets) (target_of l.instr)) later) f.2 c.labelled;
      fits = and_from (fits_channels chs.kinds i) (list_all (λ l. fits_channels chs.kinds l.instr) later) f.3 c.fits;
      numbered =
          ap (λ ns. firsts_after (numbers s.registers) (ns ++ named_by later)) f.4
          ∙ firsts-append (numbers s.registers) (map _ (registers_in form)) (named_by later)
          ∙ ap (λ seen. firsts_after seen (named_by later)) (first_names (registers_in form) s.registers now.registers (places_all now.registers))
          ∙ c.numbered;
      rises = and_from (nat_le least line.number) (always_rises (line.number + 1) (map (λ l. l.line) later)) (le-leb least line.number le) c.rises;
      ends = last_of l later (λ none. f.5 ∙ end f.0 (omega (arith, c.counted, none))) c.ends;
    }

end_here : (a b : ℕ) (d e label : Bool) → d ≡ true → a ≡ b → (nat_eq a b && (if d then not e else label)) ≡ false → e ≡ true
end_here a b true true label is same f = refl
end_here a b true false label is same f = absurd (true≢false (sym (ap (λ t. t && true) (eq-eqb a b same)) ∙ f))
end_here a b false e label is same f = absurd (true≢false (sym is))

coded_line : (chs : Channels) (all s : Said) (least : ℕ) (line : TextLine) (later : List Line) → IsOrderly all all → length (with_line s line).registers ≤ length all.registers → line_fault chs s all line ≡ None → least ≤ line.number → IsCode chs all (with_line s line) (line.number + 1) later → IsCode chs all s least (line_code chs.names s all line ++ later)
coded_line chs all s least line later o grown e le c =
    let b = line_body line in
    let now = with_line s line in
    let t = none_met (body_test chs (list_any (knows s.labels) (one b.label)) now all line.fair b) e in
    let clean : IsClean chs all b.form = record { known = t kind.Directive; counted = t kind.Operands; channel = t kind.ChannelKind; label = t kind.LabelUnknown } in
    code_line chs all s least line (instr_in now.registers chs.names all b.form) later
    (form_fact chs all now b.form (made_body line.words) clean o (known_fold (registers_in b.form) s.registers) grown)
    (λ is same. end_here now.done all.done (does b.form) (ends b.form) (is_some b.label) is same (t kind.FallsOff))
    le c

coded_after : (chs : Channels) (all : Said) (before lines : List TextLine) (least : ℕ) → IsOrderly all all → faults_after chs all before lines ≡ None → all ≡ fold with_line (said_by before) lines → always_rises least (map (λ l. l.number) lines) ≡ true → IsCode chs all (said_by before) least (code_after chs.names all before lines)
coded_after chs all before [] least o e is rises = record {
  counted = omega (arith, ap (λ (a : Said). a.done) is);
  named = refl;
  labelled = refl;
  fits = refl;
  numbered = ap (λ (a : Said). numbers a.registers) (sym is);
  rises = refl;
  ends = λ last none. absurd (cc);
}
coded_after chs all before (line ∷ lines) least o e is rises =
    let s = said_by before in
    let both = none_at line.number (line_fault chs s all line) (faults_after chs all (before ++ line ∷ []) lines) e in
    let numbers_rise = and_parts (nat_le least line.number) (always_rises (line.number + 1) (map (λ l. l.number) lines)) rises in
    let grown : length (with_line s line).registers ≤ length all.registers = omega (arith, registers_grow lines (with_line s line), ap (λ (a : Said). length a.registers) is) in
    let later = coded_after chs all (before ++ line ∷ []) lines (line.number + 1) o both.1 (is ∙ ap (λ s. fold with_line s lines) (sym (said_snoc before line))) numbers_rise.1 in
    let later_here = subst (λ s. IsCode chs all s (line.number + 1) (code_after chs.names all (before ++ line ∷ []) lines)) (said_snoc before line) later in
    coded_line chs all s least line (code_after chs.names all (before ++ line ∷ []) lines) o grown both.0 (leb-true least line.number numbers_rise.0) later_here

some_done : (lines : List TextLine) (s : Said) → list_any (λ l. does (line_body l).form) lines ≡ true → 1 ≤ (fold with_line s lines).done
some_done [] s e = absurd (true≢false (sym e))
some_done (line ∷ lines) s e =
    let Goal : Bool → Type 0 = λ d. does (line_body line).form ≡ d → (d || list_any (λ l. does (line_body l).form) lines) ≡ true → 1 ≤ (fold with_line (with_line s line) lines).done in
    let go : (d : Bool) → Goal d = λ d. elim d as Goal [
      | true ↦ λ is f. let one_more : (with_line s line).done ≡ s.done + 1 = ap (λ d. s.done + count d) is in omega (arith, one_more, done_grows lines (with_line s line))
      | false ↦ λ is f. some_done lines (with_line s line) f
    ] in go (does (line_body line).form) refl e

each_by : {A : Type 0} (test : A → Bool) (xs : List A) → list_all test xs ≡ true → Each xs (λ a. test a ≡ true)
each_by test [] h i a e = absurd (cc)
each_by test (x ∷ xs) h zero a e = subst (λ k. test k ≡ true) (same_Some x a e) (and_parts (test x) (list_all test xs) h).0
each_by test (x ∷ xs) h (suc i) a e = each_by test xs (and_parts (test x) (list_all test xs) h).1 i a e

code_formed : (chs : Channels) (lines : List TextLine) → lines_fault chs lines ≡ None → always_rises 1 (map (λ l. l.number) lines) ≡ true → IsCode chs (said_by lines) (said_by []) 1 (code_of chs.names lines)
code_formed chs lines e rises = coded_after chs (said_by lines) [] lines 1 (orderly chs lines e) e refl rises

pub channels_fit : (chs : Channels) (lines : List TextLine) → lines_fault chs lines ≡ None → always_rises 1 (map (λ l. l.number) lines) ≡ true → Each (code_of chs.names lines) (λ l. fits_channels chs.kinds l.instr ≡ true)
channels_fit chs lines e rises = each_by (λ (l : Line). fits_channels chs.kinds l.instr) (code_of chs.names lines) (code_formed chs lines e rises).fits

pub program_formed : (chs : Channels) (name : List ℕ) (lines : List TextLine) → lines_fault chs lines ≡ None → list_any (λ l. does (line_body l).form) lines ≡ true → always_rises 1 (map (λ l. l.number) lines) ≡ true → IsFormedProgram (program_of chs.names name lines)
program_formed chs name lines e some rises =
    let all = said_by lines in
    let o = orderly chs lines e in
    let c = code_formed chs lines e rises in
    let code = code_of chs.names lines in
    let size : all.done ≡ length code = omega (arith, c.counted) in
    let named_here = subst (λ n. list_all (λ (l : Line). names_below (λ r. r.0) (length all.registers) n l.instr) code ≡ true) size c.named in
    let targets = targets_from 0 all.labels all.targets (omega (arith, o.labels.same)) in
    record {
      some = omega (arith, size, some_done lines (said_by []) some);
      few = omega (arith, size, o.done);
      registers = o.registers;
      named = each_by (λ (l : Line). names_below (λ r. r.0) (length all.registers) (length code) l.instr) code named_here;
      numbered = c.numbered;
      distinct = o.distinct;
      labelled = each_by (λ (l : Line). is_labelled (labels_from 0 all.labels all.targets) (target_of l.instr)) code c.labelled;
      label_names = ap (is_distinct bytes_eq) (names_from 0 all.labels all.targets) ∙ o.labels.distinct;
      label_targets = ap (all_below (length code)) targets ∙ subst (λ n. all_below n all.targets ≡ true) size o.labels.below;
      label_order = ap (never_drops 0) targets ∙ o.labels.order;
      lines = c.rises;
      ends = c.ends;
    }
