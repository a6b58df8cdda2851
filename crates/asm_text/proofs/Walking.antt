-- One line further among the lines of contexts.
use Rattle.std.proofs.Common.{◌≡◌, ◌<◌, ◌≤◌, ◌+◌, ◌||◌, ◌++◌, Bool, true, false, List, [], ◌∷◌, length, None, refl, sym, ap, ◌∙◌, subst, arith, append_assoc, append-nil, if◌then◌else◌}
use Rattle.std.specs.List.{list_any}
use Rattle.micro_isa.specs.declared.program.Program.{Program}
use Rattle.asm_lines.specs.declared.fault.BundleFault.{BundleFault}
use Rattle.asm_lines.specs.Cutting.{Words, TextLine}
use Rattle.asm_lines.specs.Faults.{Causes}
use Rattle.asm_lines.specs.Verdicts.{first_fault, or_else}
use Rattle.asm_lines.proofs.Causing.{caused_first}
use Rattle.asm_lines.proofs.Counting.{few_after}
use Rattle.asm_lines.proofs.Verdicts.{first_append}
use Rattle.asm_header.specs.Headers.{Header}
use Rattle.asm_lines.specs.Sections.{starts, ahead, after, LinesLeft, Takes, IsPast}
use Rattle.asm_context.specs.Forms.{does}
use Rattle.asm_context.specs.Said.{line_body}
use Rattle.asm_text.specs.Contexts.{has_instruction, names_with, context_verdicts, context_fault, contexts_verdicts, contexts_fault, program_at, programs}

contexts_cons : (h : Header) (names : Words) (x : TextLine) (ls : List TextLine) → starts x.words ≡ true → contexts_fault h names (x ∷ ls) ≡ or_else (context_fault h names x (ahead ls)) (contexts_fault h (names_with names x) ls)
contexts_cons h names x ls s =
    let own = context_verdicts h names x (ahead ls) in
    let later = contexts_verdicts h (names_with names x) ls in
    ap (λ b. first_fault (if b then own ++ later else contexts_verdicts h names ls)) s ∙ first_append own later

programs_cons : (h : Header) (x : TextLine) (ls : List TextLine) → starts x.words ≡ true → programs h (x ∷ ls) ≡ program_at h x (ahead ls) ∷ programs h ls
programs_cons h x ls s = ap (λ b. if b then program_at h x (ahead ls) ∷ programs h ls else programs h ls) s

-- lines before a context line say nothing of contexts

pub passed : (h : Header) (names : Words) (lines : List TextLine) → contexts_fault h names (after lines) ≡ contexts_fault h names lines
passed h names [] = refl
passed h names (x ∷ ls) =
    let found = context_verdicts h names x (ahead ls) ++ contexts_verdicts h (names_with names x) ls in
    let go : (b : Bool) → starts x.words ≡ b → contexts_fault h names (if b then x ∷ ls else after ls) ≡ first_fault (if b then found else contexts_verdicts h names ls) = elim [
      | true ↦ λ s. ap (λ b. first_fault (if b then found else contexts_verdicts h names ls)) s
      | false ↦ λ s. passed h names ls
    ] in go (starts x.words) refl

pub passed_programs : (h : Header) (lines : List TextLine) → programs h (after lines) ≡ programs h lines
passed_programs h [] = refl
passed_programs h (x ∷ ls) =
    let found = program_at h x (ahead ls) ∷ programs h ls in
    let go : (b : Bool) → starts x.words ≡ b → programs h (if b then x ∷ ls else after ls) ≡ (if b then found else programs h ls) = elim [
      | true ↦ λ s. programs_cons h x ls s
      | false ↦ λ s. passed_programs h ls
    ] in go (starts x.words) refl

pub after_again : (lines : List TextLine) → after (after lines) ≡ after lines
after_again [] = refl
after_again (x ∷ ls) =
    let go : (b : Bool) → starts x.words ≡ b → after (if b then x ∷ ls else after ls) ≡ (if b then x ∷ ls else after ls) = elim [
      | true ↦ λ s. ap (λ b. if b then x ∷ ls else after ls) s
      | false ↦ λ s. after_again ls
    ] in go (starts x.words) refl

-- a line at which a section ends begins a context
pub starts_there : (x : TextLine) (ls : List TextLine) → after (x ∷ ls) ≡ x ∷ ls → starts x.words ≡ true
starts_there x ls e =
    let go : (b : Bool) → (if b then x ∷ ls else after ls) ≡ x ∷ ls → b ≡ true = elim [
      | true ↦ λ f. refl
      | false ↦ λ f. absurd (omega (arith, ap length f, few_after ls))
    ] in go (starts x.words) e

-- there is a program for each context line
pub none_started : (h : Header) (lines : List TextLine) → length (programs h lines) ≡ 0 → list_any (λ l. starts l.words) lines ≡ false
none_started h [] e = refl
none_started h (x ∷ ls) e =
    let go : (b : Bool) → length (if b then program_at h x (ahead ls) ∷ programs h ls else programs h ls) ≡ 0 → (b || list_any (λ l. starts l.words) ls) ≡ false = elim [
      | true ↦ λ f. absurd (omega (arith, f))
      | false ↦ λ f. none_started h ls f
    ] in go (starts x.words) e

pub some_started : (h : Header) (lines : List TextLine) → 0 < length (programs h lines) → list_any (λ l. starts l.words) lines ≡ true
some_started h [] e = absurd (omega (arith, e))
some_started h (x ∷ ls) e =
    let go : (b : Bool) → 0 < length (if b then program_at h x (ahead ls) ∷ programs h ls else programs h ls) → (b || list_any (λ l. starts l.words) ls) ≡ true = elim [
      | true ↦ λ f. refl
      | false ↦ λ f. some_started h ls f
    ] in go (starts x.words) e

-- an instruction line among those of a context

pub has_here : (x : TextLine) (left later whole : List TextLine) → left ≡ x ∷ later → does (line_body x).form ≡ true → has_instruction left ≡ has_instruction whole → true ≡ has_instruction whole
has_here x left later whole is it e = sym (ap has_instruction is ∙ ap (λ b. b || has_instruction later) it) ∙ e

pub has_later : (x : TextLine) (left later whole : List TextLine) → left ≡ x ∷ later → does (line_body x).form ≡ false → has_instruction left ≡ has_instruction whole → has_instruction later ≡ has_instruction whole
has_later x left later whole is it e = sym (ap has_instruction is ∙ ap (λ b. b || has_instruction later) it) ∙ e

pub has_none : (left whole : List TextLine) → left ≡ [] → has_instruction left ≡ has_instruction whole → false ≡ has_instruction whole
has_none left whole is e = sym (ap has_instruction is) ∙ e

-- as far as contexts were read
pub record AreRead (h : Header) (names : Words) (all : List Program) (left whole : LinesLeft) : Type 0 where
  pub faults : contexts_fault h names left.lines ≡ contexts_fault h [] whole.lines
  pub programs : all ++ programs h left.lines ≡ programs h whole.lines
  pub there : after left.lines ≡ left.lines
  pub few : length left.lines ≤ length whole.lines
  pub count : left.number + length left.lines ≡ whole.number + length whole.lines

-- one context more
pub read_on : (h : Header) (names names2 : Words) (all all2 : List Program) (x : TextLine) (p : Program) (left next later whole : LinesLeft) → Takes left x next → IsPast next later → names2 ≡ names_with names x → context_fault h names x (ahead next.lines) ≡ None → p ≡ program_at h x (ahead next.lines) → all2 ≡ all ++ p ∷ [] → AreRead h names all left whole → AreRead h names2 all2 later whole
read_on h names names2 all all2 x p left next later whole t past n free is more r =
    let s = starts_there x next.lines (ap after (sym t.lines) ∙ r.there ∙ t.lines) in
    let rest = contexts_fault h (names_with names x) next.lines in
    let own = program_at h x (ahead next.lines) in
    record {
      faults =
          ap (contexts_fault h names2) past.after ∙ passed h names2 next.lines ∙ ap (λ ns. contexts_fault h ns next.lines) n
          ∙ sym (ap (contexts_fault h names) t.lines ∙ contexts_cons h names x next.lines s ∙ ap (λ f. or_else f rest) free)
          ∙ r.faults;
      programs =
          ap (λ ps. ps ++ programs h later.lines) (more ∙ ap (λ q. all ++ q ∷ []) is)
          ∙ append_assoc all (own ∷ []) (programs h later.lines)
          ∙ ap (λ ps. all ++ own ∷ ps) (ap (programs h) past.after ∙ passed_programs h next.lines)
          ∙ ap (λ ps. all ++ ps) (sym (ap (programs h) t.lines ∙ programs_cons h x next.lines s))
          ∙ r.programs;
      there = ap after past.after ∙ after_again next.lines ∙ sym past.after;
      few = omega (arith, ap length past.after, few_after next.lines, ap length t.lines, r.few);
      count = omega (arith, past.count, t.number, ap length t.lines, r.count);
    }

pub fewer : (x : TextLine) (left next later : LinesLeft) → Takes left x next → IsPast next later → length later.lines < length left.lines
fewer x left next later t past = omega (arith, ap length past.after, few_after next.lines, ap length t.lines)

-- a fault of a context is the first of those from its line on
pub caused_here : (why : BundleFault) (h : Header) (names : Words) (all : List Program) (x : TextLine) (left next whole : LinesLeft) → Takes left x next → Causes why (context_fault h names x (ahead next.lines)) → AreRead h names all left whole → Causes why (contexts_fault h [] whole.lines)
caused_here why h names all x left next whole t c r =
    let s = starts_there x next.lines (ap after (sym t.lines) ∙ r.there ∙ t.lines) in
    subst (Causes why) (sym (ap (contexts_fault h names) t.lines ∙ contexts_cons h names x next.lines s) ∙ r.faults)
    (caused_first why (context_fault h names x (ahead next.lines)) (contexts_fault h (names_with names x) next.lines) c)

-- before the first context
pub unread : (h : Header) (names : Words) (all : List Program) (left : LinesLeft) → names ≡ [] → all ≡ [] → after left.lines ≡ left.lines → AreRead h names all left left
unread h names all left n a there = record {
  faults = ap (λ ns. contexts_fault h ns left.lines) n;
  programs = ap (λ ps. ps ++ programs h left.lines) a;
  there = there;
  few = omega arith;
  count = refl;
}

-- after the last

pub all_free : (h : Header) (names : Words) (all : List Program) (left whole : LinesLeft) → left.lines ≡ [] → AreRead h names all left whole → contexts_fault h [] whole.lines ≡ None
all_free h names all left whole is r = sym r.faults ∙ ap (contexts_fault h names) is

pub all_programs : (h : Header) (names : Words) (all : List Program) (left whole : LinesLeft) → left.lines ≡ [] → AreRead h names all left whole → all ≡ programs h whole.lines
all_programs h names all left whole is r = sym (append-nil all) ∙ ap (λ ls. all ++ programs h ls) (sym is) ∙ r.programs

pub all_counted : (h : Header) (names : Words) (all : List Program) (left new whole : LinesLeft) → left.lines ≡ [] → new ≡ left → AreRead h names all left whole → new.number ≡ whole.number + length whole.lines
all_counted h names all left new whole is same r = omega (arith, ap (λ (l : LinesLeft). l.number) same, ap length is, r.count)
