-- A text without faults says a formed bundle.
use Rattle.std.proofs.Common.{◌≡◌, ◌||◌, ◌&&◌, ◌++◌, ◌≤◌, ◌<◌, ℕ, zero, suc, ◌+◌, Bool, true, false, not, List, [], ◌∷◌, Option, Some, None, length, map, refl, sym, ap, ◌∙◌, subst, arith, fold, if◌then◌else◌, nat_eq, append_assoc, append-nil}
use Rattle.std.specs.Prelude.{nat_le, is_none, unwrap_or}
use Rattle.std.specs.List.{list_any}
use Rattle.std.specs.Str.{bytes_eq}
use Rattle.std.proofs.lemmas.Bool.{true≢false, and_parts, and_from, leb-false, le-leb}
use Rattle.std.proofs.lemmas.List.{length-append}
use Rattle.std.proofs.lemmas.Option.{same_Some}
use Rattle.micro_isa.specs.declared.program.Program.{Program}
use Rattle.micro_isa.specs.Formed.{Each, always_rises, is_distinct, fits_channels, IsFormedProgram, IsFormedBundle}
use Rattle.asm_lines.specs.declared.fault.BundleKind.{BundleKind}
use Rattle.asm_lines.specs.declared.fault.BundleKind.TheVariants as kind
use Rattle.micro_isa.specs.declared.program.Bundle.{Bundle}
use Rattle.asm_lines.specs.Cutting.{Words, TextLine, numbered, lines_from, text_lines}
use Rattle.asm_lines.specs.Faults.{At}
use Rattle.asm_lines.specs.Verdicts.{first_fault}
use Rattle.micro_isa.specs.declared.limits.TheConstants.{MOST_CONTEXTS, MOST_FILE, MOST_MEMORY}
use Rattle.asm_lines.specs.Tables.{knows, declare, one}
use Rattle.asm_lines.proofs.First.{none_met}
use Rattle.asm_lines.proofs.Verdicts.{none_at, none_in}
use Rattle.asm_lines.proofs.Known.{declare_new, distinct_snoc, other_word}
use Rattle.asm_header.specs.Headers.{Header}
use Rattle.asm_header.specs.Faults.{header_verdicts}
use Rattle.asm_header.specs.Sound.{IsSound}
use Rattle.asm_header.proofs.Sounding.{sound_header}
use Rattle.asm_context.specs.Faults as context
use Rattle.asm_context.proofs.Forming.{program_formed, channels_fit, rises_weaker}
use Rattle.asm_lines.specs.Sections.{starts, ahead}
use Rattle.asm_text.specs.Contexts.{name_in, has_instruction, start_test, start_fault, context_verdicts, names_with, contexts_verdicts, contexts_fault, program_at, programs}
use Rattle.asm_text.specs.Texts.{header_in, end_verdict, lines_fault, bundle_said, Spells}

each_cons : {A : Type 0} (P : A → Type 0) (x : A) (xs : List A) → P x → Each xs P → Each (x ∷ xs) P
each_cons P x xs p ps zero y e = subst P (same_Some x y e) p
each_cons P x xs p ps (suc i) y e = ps i y e

-- a context line without a fault
record IsStarted (h : Header) (names : Words) (line : TextLine) (lines : List TextLine) : Type 0 where
  name : List ℕ
  is : name_in line.words ≡ Some name
  new : knows names name ≡ false
  room : length names < MOST_CONTEXTS
  file : (is_none h.file && nat_eq (length names) 0) ≡ false
  some : has_instruction lines ≡ true

not_false : (b : Bool) → not b ≡ false → b ≡ true
not_false true e = refl
not_false false e = absurd (true≢false e)

first_of : (a : Bool) → (a || false) ≡ false → a ≡ false
first_of true e = e
first_of false e = refl

started_as : (h : Header) (names : Words) (line : TextLine) (lines : List TextLine) (o : Option (List ℕ)) → name_in line.words ≡ o → is_none o ≡ false → list_any (knows names) (one o) ≡ false → length names < MOST_CONTEXTS → (is_none h.file && nat_eq (length names) 0) ≡ false → has_instruction lines ≡ true → IsStarted h names line lines
started_as h names line lines None is some new room file has = absurd (true≢false some)
started_as h names line lines (Some name) is some new room file has = record {
  name = name;
  is = is;
  new = first_of (knows names name) new;
  room = room;
  file = file;
  some = has;
}

started : (h : Header) (names : Words) (line : TextLine) (lines : List TextLine) → start_fault h names line lines ≡ None → IsStarted h names line lines
started h names line lines e =
    let t = none_met (start_test h names line lines) e in
    started_as h names line lines (name_in line.words) refl (t kind.Operands) (t kind.Repeated) (leb-false MOST_CONTEXTS (length names) (t kind.Limit)) (t kind.Missing) (not_false (has_instruction lines) (t kind.Empty))

ahead_rises : (least : ℕ) (lines : List TextLine) → always_rises least (map (λ l. l.number) lines) ≡ true → always_rises least (map (λ l. l.number) (ahead lines)) ≡ true
ahead_rises least [] e = refl
ahead_rises least (line ∷ lines) e =
    let parts = and_parts (nat_le least line.number) (always_rises (line.number + 1) (map (λ l. l.number) lines)) e in
    elim (starts line.words) as (λ b. always_rises least (map (λ l. l.number) (if b then [] else line ∷ ahead lines)) ≡ true) [
      | true ↦ refl
      | false ↦ and_from (nat_le least line.number) (always_rises (line.number + 1) (map (λ l. l.number) (ahead lines))) parts.0 (ahead_rises (line.number + 1) lines parts.1)
    ]

-- programs behind contexts of these names
record AreFormed (h : Header) (names : Words) (ps : List Program) : Type 0 where
  formed : Each ps IsFormedProgram
  fits : Each ps (λ p. Each p.code (λ l. fits_channels h.channels l.instr ≡ true))
  few : length names + length ps ≤ MOST_CONTEXTS
  apart : is_distinct bytes_eq (names ++ map (λ p. p.name) ps) ≡ true

-- one context in front of others
formed_cons : (h : Header) (names : Words) (line : TextLine) (lines : List TextLine) (ps : List Program) → IsStarted h names line lines → context.lines_fault (context.channels h.names h.channels) lines ≡ None → always_rises 1 (map (λ l. l.number) lines) ≡ true → AreFormed h (names_with names line) ps → AreFormed h names (program_at h line lines ∷ ps)
formed_cons h names line lines ps s e rises later =
    let chs = context.channels h.names h.channels in
    let name = unwrap_or (name_in line.words) [] in
    let is_name : s.name ≡ name = sym (ap (λ o. unwrap_or o []) s.is) in
    let grown : names_with names line ≡ names ++ s.name ∷ [] = ap (λ o. fold declare names (one o)) s.is ∙ declare_new names s.name s.new in
    record {
      formed = each_cons IsFormedProgram (program_at h line lines) ps (program_formed chs name lines e s.some rises) later.formed;
      fits = each_cons (λ (p : Program). Each p.code (λ l. fits_channels h.channels l.instr ≡ true)) (program_at h line lines) ps (channels_fit chs lines e rises) later.fits;
      few = omega (arith, later.few, ap length grown, length-append names (s.name ∷ []));
      apart = ap (is_distinct bytes_eq) (sym (ap (λ ns. ns ++ map (λ p. p.name) ps) grown ∙ append_assoc names (s.name ∷ []) (map (λ p. p.name) ps) ∙ ap (λ n. names ++ (n ∷ map (λ p. p.name) ps)) is_name)) ∙ later.apart;
    }

names_apart : (h : Header) (names : Words) (line : TextLine) (lines : List TextLine) → IsStarted h names line lines → is_distinct bytes_eq names ≡ true → is_distinct bytes_eq (names_with names line) ≡ true
names_apart h names line lines s were =
    ap (is_distinct bytes_eq) (ap (λ o. fold declare names (one o)) s.is ∙ declare_new names s.name s.new) ∙ distinct_snoc bytes_eq other_word names s.name were s.new

names_few : (h : Header) (names : Words) (line : TextLine) (lines : List TextLine) → IsStarted h names line lines → length (names_with names line) ≤ MOST_CONTEXTS
names_few h names line lines s =
    omega (arith, ap length (ap (λ o. fold declare names (one o)) s.is ∙ declare_new names s.name s.new), length-append names (s.name ∷ []), s.room)

contexts_formed : (h : Header) (names : Words) (least : ℕ) (lines : List TextLine) → 1 ≤ least → length names ≤ MOST_CONTEXTS → is_distinct bytes_eq names ≡ true → always_rises least (map (λ l. l.number) lines) ≡ true → contexts_fault h names lines ≡ None → AreFormed h names (programs h lines)
contexts_formed h names least [] le few apart rises e = record {
  formed = λ i p none. absurd (cc);
  fits = λ i p none. absurd (cc);
  few = omega arith;
  apart = ap (is_distinct bytes_eq) (append-nil names) ∙ apart;
}
contexts_formed h names least (line ∷ lines) le few apart rises e =
    let parts = and_parts (nat_le least line.number) (always_rises (line.number + 1) (map (λ l. l.number) lines)) rises in
    let own = context_verdicts h names line (ahead lines) in
    let rest = contexts_verdicts h (names_with names line) lines in
    let Goal : Bool → Type 0 = λ b. first_fault (if b then own ++ rest else contexts_verdicts h names lines) ≡ None → AreFormed h names (if b then program_at h line (ahead lines) ∷ programs h lines else programs h lines) in
    let go : (b : Bool) → Goal b = λ b. elim b as Goal [
      | true ↦ λ f.
          let both = none_in own rest f in
          let here = none_at line.number (start_fault h names line (ahead lines)) (context.lines_fault (context.channels h.names h.channels) (ahead lines)) both.0 in
          let s = started h names line (ahead lines) here.0 in
          let own_rises = ahead_rises 1 lines (rises_weaker 1 (line.number + 1) (map (λ l. l.number) lines) (omega arith) parts.1) in
          let later = contexts_formed h (names_with names line) (line.number + 1) lines (omega arith) (names_few h names line (ahead lines) s) (names_apart h names line (ahead lines) s apart) parts.1 both.1 in
          formed_cons h names line (ahead lines) (programs h lines) s here.1 own_rises later
      | false ↦ λ f. contexts_formed h names (line.number + 1) lines (omega arith) few apart parts.1 f
    ] in go (starts line.words) e

-- there is a size and a program where there is a context line

and_true : (b : Bool) → (b && true) ≡ false → b ≡ false
and_true true e = e
and_true false e = refl

record HasContext (h : Header) (ps : List Program) : Type 0 where
  file : is_none h.file ≡ false
  some : 1 ≤ length ps

context_there : (h : Header) (lines : List TextLine) → list_any (λ l. starts l.words) lines ≡ true → contexts_fault h [] lines ≡ None → HasContext h (programs h lines)
context_there h [] has e = absurd (true≢false (sym has))
context_there h (line ∷ lines) has e =
    let own = context_verdicts h [] line (ahead lines) in
    let rest = contexts_verdicts h (names_with [] line) lines in
    let Goal : Bool → Type 0 = λ b. (b || list_any (λ l. starts l.words) lines) ≡ true → first_fault (if b then own ++ rest else contexts_verdicts h [] lines) ≡ None → HasContext h (if b then program_at h line (ahead lines) ∷ programs h lines else programs h lines) in
    let go : (b : Bool) → Goal b = λ b. elim b as Goal [
      | true ↦ λ has f.
          let both = none_in own rest f in
          let here = none_at line.number (start_fault h [] line (ahead lines)) (context.lines_fault (context.channels h.names h.channels) (ahead lines)) both.0 in
          let s = started h [] line (ahead lines) here.0 in
          record { file = and_true (is_none h.file) s.file; some = omega arith }
      | false ↦ λ has f. context_there h lines has f
    ] in go (starts line.words) has e

not_none : (at : At) → Some at ≡ None → false ≡ true
not_none at e = absurd (cc)

end_there : (lines : List TextLine) → first_fault (end_verdict lines ∷ []) ≡ None → list_any (λ l. starts l.words) lines ≡ true
end_there lines e =
    let none : Option BundleKind = None in
    let Goal : Bool → Type 0 = λ b. first_fault ((length lines + 1, if b then none else Some kind.Missing) ∷ []) ≡ None → b ≡ true in
    let go : (b : Bool) → Goal b = λ b. elim b as Goal [
      | true ↦ λ f. refl
      | false ↦ λ f. not_none (record { line = length lines + 1; kind = kind.Missing }) f
    ] in go (list_any (λ l. starts l.words) lines) e

file_formed : (h : Header) (o : Option ℕ) → h.file ≡ o → IsSound h → is_none o ≡ false → (1 ≤ unwrap_or o 0) × (unwrap_or o 0 ≤ MOST_FILE)
file_formed h None is s some = absurd (true≢false some)
file_formed h (Some n) is s some = s.file n is

memory_formed : (h : Header) (o : Option ℕ) → h.memory ≡ o → IsSound h → unwrap_or o 0 ≤ MOST_MEMORY
memory_formed h None is s = omega arith
memory_formed h (Some n) is s = s.memory n is

lines_formed : (lines : List TextLine) → always_rises 1 (map (λ l. l.number) lines) ≡ true → lines_fault lines ≡ None → IsFormedBundle (bundle_said lines)
lines_formed lines rises e =
    let h = header_in lines in
    let first = none_in (header_verdicts (ahead lines)) (contexts_verdicts h [] lines ++ end_verdict lines ∷ []) e in
    let second = none_in (contexts_verdicts h [] lines) (end_verdict lines ∷ []) first.1 in
    let s = sound_header (ahead lines) first.0 in
    let c = contexts_formed h [] 1 lines (omega arith) (omega arith) refl rises second.0 in
    let t = context_there h lines (end_there lines second.1) second.0 in
    let size = file_formed h h.file refl s t.file in
    record {
      file = size.0;
      small = size.1;
      setting = record { memory = memory_formed h h.memory refl s; few = omega (arith, s.few, s.same); rings = s.rings; ports = s.ports; distinct = s.apart; words = omega (arith, s.words, s.counted) };
      some = t.some;
      few = omega (arith, c.few);
      programs = c.formed;
      names = s.same;
      distinct = s.distinct;
      contexts = c.apart;
      channels = c.fits;
    }

numbered_rises : (n : ℕ) (ls : Words) → always_rises n (map (λ l. l.number) (numbered n ls)) ≡ true
numbered_rises n [] = refl
numbered_rises n (l ∷ ls) = and_from (nat_le n n) (always_rises (n + 1) (map (λ l. l.number) (numbered (n + 1) ls))) (le-leb n n (omega arith)) (numbered_rises (n + 1) ls)

-- what a text spells is formed
pub spelled_formed : (text : List ℕ) (b : Bundle) → Spells text b → IsFormedBundle b
spelled_formed text b s = subst IsFormedBundle (sym s.said) (lines_formed (text_lines text) (numbered_rises 1 (lines_from [] text)) s.free)
