-- The words of an instruction's line say the instruction again.
use Rattle.std.proofs.Common.{◌≡◌, ◌<◌, ◌≤◌, ◌==◌, ℕ, zero, suc, Bool, true, false, not, List, [], ◌∷◌, Option, Some, None, refl, sym, ap, ◌∙◌, arith, length, map, take, decimal, slice_get, slice_index, get_or, nat_lt}
use Rattle.std.specs.Prelude.{is_some}
use Rattle.std.proofs.lemmas.Bool.{and_parts, or_from, ltb-true}
use mathlib.Core.List.{map-map}
use Rattle.std.proofs.lemmas.List.{length-map}
use Rattle.std.proofs.lemmas.Option.{slice_get_within}
use Rattle.std.specs.List.{list_any, list_all, cons_option}
use Rattle.std.specs.Option.{option_map}
use Rattle.std.specs.Str.{bytes_eq}
use Rattle.micro_isa.specs.declared.instr.Instr.{Instr}
use Rattle.micro_isa.specs.declared.instr.Instr.TheVariants as instr
use Rattle.micro_isa.specs.declared.operation.Operation.{Operation}
use Rattle.micro_isa.specs.declared.operation.Role.{Role}
use Rattle.micro_isa.specs.declared.operation.Role.TheVariants.{To, A, B}
use Rattle.micro_isa.specs.declared.operands.Extra.{Extra}
use Rattle.micro_isa.specs.declared.operands.Extra.TheVariants.{Nothing, Number, Target, Receive, Send}
use Rattle.micro_isa.specs.declared.operands.Operands.{Operands}
use Rattle.micro_isa.specs.declared.program.VReg.{VReg}
use Rattle.micro_isa.specs.declared.program.Label.{Label}
use Rattle.micro_isa.specs.declared.program.Channel.{Channel}
use Rattle.micro_isa.specs.declared.program.Program.{Program}
use Rattle.micro_isa.specs.Names.{name_test}
use Rattle.micro_isa.specs.Columns.{target_in}
use Rattle.micro_isa.specs.Formed as formed
use Rattle.micro_isa.specs.Operands.{operation_of, operands_of, instr_of}
use Rattle.micro_isa.specs.Table.{row_of, roles_of}
use Rattle.micro_isa.proofs.Laws as laws
use Rattle.asm_lines.specs.Cutting.{Words}
use Rattle.asm_lines.specs.Numbers.{number_or}
use Rattle.asm_lines.specs.Tables.{knows, place_of, misnamed}
use Rattle.asm_context.specs.Spelt as operand
use Rattle.asm_context.specs.Spelt.{operands_in, each, each_extra}
use Rattle.asm_context.specs.Forms.{Form, Body, Instruction, counted_form, named_form, labelled, body_of, is_unknown, is_miscounted, does, ends, registers_in, goes_to, receives_from, sends_to, number_in}
use Rattle.asm_context.specs.Programs.{register, target, instr_in}
use Rattle.asm_context.specs.Said.{Said}
use Rattle.asm_context.proofs.Instructing.{registers_each}
use Rattle.asm_print.specs.Canonical.{name_at, register_name, target_name, spelt, word_in, instruction_row}
use Rattle.asm_print.proofs.Plain.{row_words}
use Rattle.asm_print.specs.Typed.{ExtraFits, NumberFits}
use Rattle.asm_print.proofs.InTurn.{AllKnown, known_place, name_is}
use Rattle.asm_print.proofs.Mnemonics.{no_label}
use Rattle.asm_print.proofs.Tables.{place_is, known_at}
use Rattle.asm_print.proofs.Targets.{found}
use Rattle.asm_print.proofs.Words.{number_is}

-- the form of an instruction's line
abbrev pub form_for : Words → Program → Instr VReg → Form
form_for chs p i = Instruction (operation_of i) (spelt chs p (operands_of i))

abbrev pub body_for : Words → Program → Instr VReg → Body
body_for chs p i = record { label = None; form = form_for chs p i }

abbrev pub is_named : Extra ℕ ℕ → Bool
is_named Nothing = false
is_named _ = true

-- there is an operand in the role
abbrev pub is_there : Operands VReg ℕ ℕ → Role → Bool
is_there x To = is_some x.to
is_there x A = is_some x.a
is_there x B = is_some x.b
is_there x _ = is_named x.extra

-- an operation's roles are those of the operands that its instruction has, and the words in them are the operands again
pub record Written (chs : Words) (p : Program) (i : Instr VReg) : Type 0 where
  pub there : list_all (is_there (operands_of i)) (roles_of (operation_of i)) ≡ true
  pub again : operands_in (roles_of (operation_of i)) (map (word_in (spelt chs p (operands_of i))) (roles_of (operation_of i))) ≡ Some (spelt chs p (operands_of i))

pub written : (chs : Words) (p : Program) (i : Instr VReg) → Written chs p i
written chs p (instr.Li to n) = record { there = refl; again = refl }
written chs p _ = record { there = refl; again = refl }

pub body_again : (chs : Words) (p : Program) (i : Instr VReg) → body_of (row_words (instruction_row chs p i)) ≡ body_for chs p i
body_again chs p i =
    ap (λ (label : Option (List ℕ)). labelled label (row_of op).mnemonic words) (no_label op)
    ∙ ap (λ (o : Option Operation). record { label = None; form = named_form o words }) (laws.found op).named
    ∙ ap (λ x. record { label = None; form = counted_form op x }) (written chs p i).again
  where
    op : Operation
    op = operation_of i

    words : Words
    words = map (word_in (spelt chs p (operands_of i))) (roles_of (operation_of i))

abbrev pub received : Instr VReg → Option ℕ
received i = operand.received (operands_of i).extra

abbrev pub sent : Instr VReg → Option ℕ
sent i = operand.sent (operands_of i).extra

abbrev pub number : Instr VReg → Option ℕ
number i = operand.number_of (operands_of i).extra

-- the numbers of an instruction's registers
abbrev pub numbers_of : Instr VReg → List ℕ
numbers_of i = map (λ r. r.0) (formed.registers_in i)

-- what the tests of a line ask of a form
pub record Shape (chs : Words) (p : Program) (i : Instr VReg) : Type 0 where
  pub unknown : is_unknown (form_for chs p i) ≡ false
  pub miscounted : is_miscounted (form_for chs p i) ≡ false
  pub does : does (form_for chs p i) ≡ true
  pub ends : ends (form_for chs p i) ≡ formed.never_falls i
  pub registers : registers_in (form_for chs p i) ≡ map (name_at p.registers) (numbers_of i)
  pub goes : goes_to (form_for chs p i) ≡ option_map (target_name p.labels) (formed.target_of i)
  pub receives : receives_from (form_for chs p i) ≡ option_map (name_at chs) (received i)
  pub sends : sends_to (form_for chs p i) ≡ option_map (name_at chs) (sent i)
  pub number : number_in (form_for chs p i) ≡ option_map decimal (number i)

registers_spelt : (p : Program) (to a b : Option VReg) → cons_option (option_map (register_name p) to) (cons_option (option_map (register_name p) a) (cons_option (option_map (register_name p) b) [])) ≡ map (name_at p.registers) (map (λ (r : VReg). r.0) (cons_option to (cons_option a (cons_option b []))))
registers_spelt p to a b =
    let all = cons_option to (cons_option a (cons_option b [])) in
    registers_each (register_name p) to a b ∙ sym (map-map (name_at p.registers) (λ (r : VReg). r.0) all)

abbrev extra_spelt : Words → Program → Extra ℕ ℕ → Extra (List ℕ) (List ℕ)
extra_spelt chs p x = each_extra decimal (target_name p.labels) (name_at chs) x

-- what the words of operands beside registers are words for
record SpellsExtra (chs : Words) (p : Program) (x : Extra ℕ ℕ) : Type 0 where
  goes : target_in (extra_spelt chs p x) ≡ option_map (target_name p.labels) (target_in x)
  receives : operand.received (extra_spelt chs p x) ≡ option_map (name_at chs) (operand.received x)
  sends : operand.sent (extra_spelt chs p x) ≡ option_map (name_at chs) (operand.sent x)
  number : operand.number_of (extra_spelt chs p x) ≡ option_map decimal (operand.number_of x)

spells_extra : (chs : Words) (p : Program) (x : Extra ℕ ℕ) → SpellsExtra chs p x
spells_extra chs p Nothing = record { goes = refl; receives = refl; sends = refl; number = refl }
spells_extra chs p _ = record { goes = refl; receives = refl; sends = refl; number = refl }

pub shape : (chs : Words) (p : Program) (i : Instr VReg) → Shape chs p i
shape chs p i =
    let x = operands_of i in
    let beside = spells_extra chs p x.extra in
    record {
      unknown = refl;
      miscounted = refl;
      does = refl;
      ends = refl;
      registers = registers_spelt p x.to x.a x.b;
      goes = beside.goes;
      receives = beside.receives;
      sends = beside.sends;
      number = beside.number;
    }

-- ---- names that an instruction uses

pub named_at : (names : Words) (k : ℕ) → list_all name_test names ≡ true → k < length names → name_test (name_at names k) ≡ true
named_at [] k e h = absurd (omega arith)
named_at (n ∷ ns) zero e h = (and_parts (name_test n) (list_all name_test ns) e).0
named_at (n ∷ ns) (suc k) e h = named_at ns k (and_parts (name_test n) (list_all name_test ns) e).1 (omega arith)

pub well_named : (names : Words) (rs : List ℕ) → list_all name_test names ≡ true → formed.all_below (length names) rs ≡ true → misnamed (map (name_at names) rs) ≡ false
well_named names [] e a = refl
well_named names (r ∷ rs) e a =
    let b = and_parts (nat_lt r (length names)) (formed.all_below (length names) rs) a in
    or_from (not (name_test (name_at names r))) (misnamed (map (name_at names) rs)) (ap (λ (b : Bool). not b) (named_at names r e (ltb-true r (length names) b.0))) (well_named names rs e b.1)

-- a target of a labelled program
pub record Reached (labels : List Label) (t : ℕ) : Type 0 where
  pub named : name_test (target_name labels t) ≡ true
  pub known : knows (map (λ l. l.name) labels) (target_name labels t) ≡ true
  pub there : slice_index (map (λ l. l.target) labels) (place_of (map (λ l. l.name) labels) (target_name labels t)) ≡ t

label_named : (labels : List Label) (i : ℕ) → list_all (λ l. name_test l.name) labels ≡ true → i < length labels → name_test (get_or (map (λ l. l.name) labels) i []) ≡ true
label_named [] i e h = absurd (omega arith)
label_named (l ∷ ls) zero e h = (and_parts (name_test l.name) (list_all (λ l. name_test l.name) ls) e).0
label_named (l ∷ ls) (suc i) e h = label_named ls i (and_parts (name_test l.name) (list_all (λ l. name_test l.name) ls) e).1 (omega arith)

pub reached : (labels : List Label) (t : ℕ) → list_all (λ l. name_test l.name) labels ≡ true → formed.is_distinct bytes_eq (map (λ l. l.name) labels) ≡ true → list_any (λ l. l.target == t) labels ≡ true → Reached labels t
reached labels t e d h =
    let f = found labels t h in
    let long : length (map (λ (l : Label). l.name) labels) ≡ length labels = length-map labels (λ (l : Label). l.name) in
    record {
      named = ap name_test (sym f.named) ∙ label_named labels f.place e f.within;
      known = ap (knows (map (λ l. l.name) labels)) (sym f.named) ∙ known_at (map (λ l. l.name) labels) f.place [] (omega (arith, f.within, long));
      there = ap (λ w. slice_index (map (λ l. l.target) labels) (place_of (map (λ l. l.name) labels) w)) (sym f.named)
          ∙ ap (slice_index (map (λ l. l.target) labels)) (place_is (map (λ l. l.name) labels) f.place [] d (omega (arith, f.within, long)))
          ∙ f.there;
    }

-- the channels of a text have names of their own
pub record Channelled (chs : Words) (kinds : List Channel) : Type 0 where
  pub same : length chs ≡ length kinds
  pub named : list_all name_test chs ≡ true
  pub distinct : formed.is_distinct bytes_eq chs ≡ true

pub record Met (chs : Words) (k : ℕ) : Type 0 where
  pub named : name_test (name_at chs k) ≡ true
  pub known : knows chs (name_at chs k) ≡ true
  pub place : place_of chs (name_at chs k) ≡ k

pub met : (chs : Words) (kinds : List Channel) (k : ℕ) → Channelled chs kinds → k < length kinds → Met chs k
met chs kinds k c h =
    let within : k < length chs = omega (arith, c.same) in
    record {
      named = named_at chs k c.named within;
      known = ap (knows chs) (name_is chs k) ∙ known_at chs k [] within;
      place = ap (place_of chs) (name_is chs k) ∙ place_is chs k [] c.distinct within;
    }

-- a channel that passes a test is one of the text's
is_within : (test : Option Channel → Bool) (kinds : List Channel) (k : ℕ) → test None ≡ false → test (slice_get kinds k) ≡ true → k < length kinds
is_within test kinds k none passes = go (slice_get kinds k) refl passes
  where
    go : (o : Option Channel) → slice_get kinds k ≡ o → test o ≡ true → k < length kinds
    go None f g = absurd (cc)
    go (Some c) f g = slice_get_within kinds k c f

pub giver : (kinds : List Channel) (k : ℕ) → formed.gives_words (slice_get kinds k) ≡ true → k < length kinds
giver kinds k e = is_within formed.gives_words kinds k refl e

pub taker : (kinds : List Channel) (k : ℕ) → formed.takes_words (slice_get kinds k) ≡ true → k < length kinds
taker kinds k e = is_within formed.takes_words kinds k refl e

-- ---- the instruction of a line

register_again : (p : Program) (k : ℕ) (r : VReg) → formed.is_distinct bytes_eq p.registers ≡ true → k ≤ length p.registers → r.0 < k → register (take k p.registers) (register_name p r) ≡ r
register_again p k r d l h = ap (λ (n : ℕ). record { 0 = n }) (known_place p.registers k r.0 d h l)

-- what an instruction needs of its program, `k` registers being known, and of the channels
pub record Spelt (chs : Words) (kinds : List Channel) (p : Program) (k : ℕ) (i : Instr VReg) : Type 0 where
  pub channels : Channelled chs kinds
  pub distinct : formed.is_distinct bytes_eq p.registers ≡ true
  pub few : k ≤ length p.registers
  pub known : AllKnown k (numbers_of i)
  pub labels : list_all (λ l. name_test l.name) p.labels ≡ true
  pub label_names : formed.is_distinct bytes_eq (map (λ l. l.name) p.labels) ≡ true
  pub labelled : formed.is_labelled p.labels (formed.target_of i) ≡ true
  pub fits : formed.fits_channels kinds i ≡ true
  pub number : NumberFits i

-- a register that there may be is known
abbrev Known : ℕ → Option VReg → Type 0
Known k None = Unit {0}
Known k (Some r) = r.0 < k

known_each : (k : ℕ) (to a b : Option VReg) → AllKnown k (map (λ (r : VReg). r.0) (cons_option to (cons_option a (cons_option b [])))) → Known k to × Known k a × Known k b
known_each k None None None h = (tt, tt, tt)
known_each k None None (Some b) h = (tt, tt, h.0)
known_each k None (Some a) None h = (tt, h.0, tt)
known_each k None (Some a) (Some b) h = (tt, h.0, (h.1).0)
known_each k (Some to) None None h = (h.0, tt, tt)
known_each k (Some to) None (Some b) h = (h.0, tt, (h.1).0)
known_each k (Some to) (Some a) None h = (h.0, (h.1).0, tt)
known_each k (Some to) (Some a) (Some b) h = (h.0, (h.1).0, ((h.1).1).0)

module _ (chs : Words) (kinds : List Channel) (p : Program) (k : ℕ) (all : Said) (names : all.labels ≡ map (λ l. l.name) p.labels) (targets : all.targets ≡ map (λ l. l.target) p.labels) where
  register_told : (r : Option VReg) → formed.is_distinct bytes_eq p.registers ≡ true → k ≤ length p.registers → Known k r → option_map (register (take k p.registers)) (option_map (register_name p) r) ≡ r
  register_told None d l h = refl
  register_told (Some r) d l h = ap (λ (s : VReg). Some s) (register_again p k r d l h)

  target_told : (t : ℕ) → list_all (λ l. name_test l.name) p.labels ≡ true → formed.is_distinct bytes_eq (map (λ l. l.name) p.labels) ≡ true → formed.is_labelled p.labels (Some t) ≡ true → target all (target_name p.labels t) ≡ t
  target_told t e d h =
      ap (λ (ts : List ℕ). slice_index ts (place_of all.labels (target_name p.labels t))) targets
      ∙ ap (λ (ns : Words). slice_index (map (λ l. l.target) p.labels) (place_of ns (target_name p.labels t))) names
      ∙ (reached p.labels t e d h).there

  -- what the words of operands beside registers name
  extra_told : (x : Extra ℕ ℕ) → list_all (λ l. name_test l.name) p.labels ≡ true → formed.is_distinct bytes_eq (map (λ l. l.name) p.labels) ≡ true → formed.is_labelled p.labels (target_in x) ≡ true
      → Channelled chs kinds → formed.fits_extra kinds x ≡ true → ExtraFits x → each_extra number_or (target all) (place_of chs) (each_extra decimal (target_name p.labels) (name_at chs) x) ≡ x
  extra_told Nothing e d l c f n = refl
  extra_told (Number m) e d l c f n = ap (λ (j : ℕ). Number j) (number_is m n)
  extra_told (Target t) e d l c f n = ap (λ (j : ℕ). Target j) (target_told t e d l)
  extra_told (Receive j) e d l c f n = ap (λ (m : ℕ). Receive m) (met chs kinds j c (giver kinds j f)).place
  extra_told (Send j) e d l c f n = ap (λ (m : ℕ). Send m) (met chs kinds j c (taker kinds j f)).place

pub instr_again : (chs : Words) (kinds : List Channel) (p : Program) (k : ℕ) (all : Said) (i : Instr VReg) → all.labels ≡ map (λ l. l.name) p.labels → all.targets ≡ map (λ l. l.target) p.labels → Spelt chs kinds p k i → instr_in (take k p.registers) chs all (form_for chs p i) ≡ Some i
instr_again chs kinds p k all i names targets s =
    let x = operands_of i in
    let known = known_each k x.to x.a x.b s.known in
    let to = register_told chs kinds p k all names targets x.to s.distinct s.few known.0 in
    let a = register_told chs kinds p k all names targets x.a s.distinct s.few known.1 in
    let b = register_told chs kinds p k all names targets x.b s.distinct s.few known.2 in
    let extra = extra_told chs kinds p k all names targets x.extra s.labels s.label_names s.labelled s.channels s.fits s.number in
    let told : each (register (take k p.registers)) number_or (target all) (place_of chs) (spelt chs p x) ≡ x = rw (to, a, b, extra) refl in
    ap (λ (y : Operands VReg ℕ ℕ). instr_of (operation_of i) y) told ∙ laws.made_again i
