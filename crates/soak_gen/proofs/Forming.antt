-- A generated program is formed.
use Rattle.std.proofs.Common.{◌≡◌, ◌&&◌, ◌++◌, ◌≤◌, ◌<◌, ◌+◌, ◌-◌, ℕ, suc, Bool, true, List, [], ◌∷◌, Some, None, length, map, take, drop, refl, sym, subst, ap, ◌∙◌, arith, append-nil, append_assoc, codes}
use Rattle.std.specs.Prelude.{nat_lt, nat_le, slice_get, slice_index}
use Rattle.std.specs.List.{list_all, range_with_len}
use Rattle.std.specs.Option.{option_map}
use Rattle.std.proofs.lemmas.Bool.{lt-ltb, ltb-true, le-leb, leb-true, and_parts, and_from}
use Rattle.std.proofs.lemmas.List.{length-append, length-map, length-take, map-append, take-append-drop}
use Rattle.std.proofs.lemmas.List.Folds.{list_all-append}
use Rattle.std.proofs.lemmas.List.FromFn.{get_or-map-range_with_len}
use Rattle.std.proofs.lemmas.Option.{same_Some, slice_get-map}
use Rattle.micro_isa.specs.declared.instr.Instr.{Instr}
use Rattle.micro_isa.specs.declared.instr.Instr.TheVariants as instr
use Rattle.micro_isa.specs.declared.operands.Extra.{Extra}
use Rattle.micro_isa.specs.declared.operands.Extra.TheVariants as extra
use Rattle.micro_isa.specs.declared.program.VReg.{VReg}
use Rattle.micro_isa.specs.declared.program.Line.{Line}
use Rattle.micro_isa.specs.declared.program.Label.{Label}
use Rattle.micro_isa.specs.declared.program.Channel.{Channel}
use Rattle.micro_isa.specs.declared.program.Channel.TheVariants.{Output}
use Rattle.micro_isa.specs.Operands.{operands_of}
use Rattle.micro_isa.specs.Columns.{registers_in, target_in, target_of, never_falls}
use Rattle.micro_isa.specs.Formed.{Each, IsFormedProgram, firsts_after, named_by, names_below, option_below, all_below, is_labelled, fits_channels, fits_extra, always_rises}
use Rattle.micro_isa.proofs.Mapped.{all_mapped, each_from_all}
use Rattle.soak_gen.specs.Drafts.{drafted, closing}
use Rattle.soak_gen.specs.Bundles.{named, places, place, numbers_in, order, register_name, on_lines, lined, program}
use Rattle.soak_gen.proofs.Drafting.{is_plain, is_plain_extra, numbers_of, shaped}
use Rattle.soak_gen.proofs.Numbering.{all_placed, numbered}
use Rattle.soak_gen.proofs.Ordering.{order_few, order_names}

-- instructions on their lines

instrs_on : (line : ℕ) (is : List (Instr VReg)) → map (λ l. l.instr) (on_lines line is) ≡ is
instrs_on line [] = refl
instrs_on line (i ∷ is) = ap (λ js. i ∷ js) (instrs_on (line + 1) is)

instrs_lined : (line : ℕ) (code : List (Instr VReg)) → map (λ l. l.instr) (lined line code) ≡ code
instrs_lined line code =
    map-append (λ (l : Line). l.instr) (on_lines (line + 1) (take 2 code)) (on_lines (line + 4) (drop 2 code))
    ∙ ap (λ xs. xs ++ map (λ (l : Line). l.instr) (on_lines (line + 4) (drop 2 code))) (instrs_on (line + 1) (take 2 code))
    ∙ ap (λ xs. take 2 code ++ xs) (instrs_on (line + 4) (drop 2 code))
    ∙ take-append-drop 2 code

long_lined : (line : ℕ) (code : List (Instr VReg)) → length (lined line code) ≡ length code
long_lined line code = sym (length-map (lined line code) (λ (l : Line). l.instr)) ∙ ap length (instrs_lined line code)

rises_weaker : (a b : ℕ) (xs : List ℕ) → a ≤ b → always_rises b xs ≡ true → always_rises a xs ≡ true
rises_weaker a b [] le e = refl
rises_weaker a b (x ∷ xs) le e =
    let parts = and_parts (nat_le b x) (always_rises (x + 1) xs) e in
    and_from (nat_le a x) (always_rises (x + 1) xs) (le-leb a x (omega (arith, leb-true b x parts.0))) parts.1

rises_before : (is : List (Instr VReg)) (least line : ℕ) (rest : List ℕ) → least ≤ line → always_rises (line + length is) rest ≡ true → always_rises least (map (λ l. l.line) (on_lines line is) ++ rest) ≡ true
rises_before [] least line rest le e = rises_weaker least (line + 0) rest (omega arith) e
rises_before (i ∷ is) least line rest le e =
    let next : line + suc (length is) ≡ line + 1 + length is = omega arith in
    and_from (nat_le least line) (always_rises (line + 1) (map (λ (l : Line). l.line) (on_lines (line + 1) is) ++ rest)) (le-leb least line le)
    (rises_before is (line + 1) (line + 1) rest (omega arith) (ap (λ from. always_rises from rest) (sym next) ∙ e))

rises_lined : (line : ℕ) (code : List (Instr VReg)) → always_rises 1 (map (λ l. l.line) (lined line code)) ≡ true
rises_lined line code =
    let first = on_lines (line + 1) (take 2 code) in
    let then = on_lines (line + 4) (drop 2 code) in
    let short = length-take 2 code in
    let rest : always_rises (line + 1 + length (take 2 code)) (map (λ (l : Line). l.line) then) ≡ true =
    ap (always_rises (line + 1 + length (take 2 code))) (sym (append-nil (map (λ (l : Line). l.line) then)))
    ∙ rises_before (drop 2 code) (line + 1 + length (take 2 code)) (line + 4) [] (omega (arith, short)) refl in
    ap (always_rises 1) (map-append (λ (l : Line). l.line) first then)
    ∙ rises_before (take 2 code) 1 (line + 1) (map (λ (l : Line). l.line) then) (omega arith) rest

named_lined : (lines : List Line) → named_by lines ≡ named (map (λ l. l.instr) lines)
named_lined [] = refl
named_lined (l ∷ ls) = ap (λ xs. map (λ r. r.0) (registers_in l.instr) ++ xs) (named_lined ls)

last_at : {X : Type 0} (xs : List X) (y : X) → slice_get (xs ++ y ∷ []) (length xs) ≡ Some y
last_at [] y = refl
last_at (x ∷ xs) y = last_at xs y

-- tests that all instructions of a context pass

abbrev Test : Type 0
Test = Instr VReg → Bool

all_plain : (test : Test) → ((i : Instr VReg) → is_plain i ≡ true → test i ≡ true) → (code : List (Instr VReg)) → list_all is_plain code ≡ true → list_all test code ≡ true
all_plain test h [] e = refl
all_plain test h (i ∷ is) e =
    let parts = and_parts (is_plain i) (list_all is_plain is) e in
    and_from (test i) (list_all test is) (h i parts.0) (all_plain test h is parts.1)

all_pass : (test : Test) (numbers : List ℕ) (state : ℕ) → ((i : Instr VReg) → is_plain i ≡ true → test i ≡ true) → list_all test (closing numbers) ≡ true → list_all test (drafted numbers state).code ≡ true
all_pass test numbers state h e =
    let s = shaped numbers state in
    ap (list_all test) s.is ∙ list_all-append test s.body (closing numbers)
    ∙ and_from (list_all test s.body) (list_all test (closing numbers)) (all_plain test h s.body s.plain) e

-- a test of instructions passes on each line
each_line : (test : Test) (line : ℕ) (code : List (Instr VReg)) → list_all test code ≡ true → Each (lined line code) (λ l. test l.instr ≡ true)
each_line test line code e = each_from_all (λ (l : Line). test l.instr) (lined line code) (all_mapped test (λ (l : Line). l.instr) (lined line code) ∙ ap (list_all test) (instrs_lined line code) ∙ e)

plain_target : (e : Extra ℕ ℕ) → is_plain_extra e ≡ true → target_in e ≡ None
plain_target extra.Nothing h = refl
plain_target (extra.Number n) h = refl
plain_target (extra.Target n) h = absurd (cc)
plain_target (extra.Receive k) h = absurd (cc)
plain_target (extra.Send k) h = absurd (cc)

plain_fits : (chs : List Channel) (e : Extra ℕ ℕ) → is_plain_extra e ≡ true → fits_extra chs e ≡ true
plain_fits chs extra.Nothing h = refl
plain_fits chs (extra.Number n) h = refl
plain_fits chs (extra.Target n) h = absurd (cc)
plain_fits chs (extra.Receive k) h = absurd (cc)
plain_fits chs (extra.Send k) h = absurd (cc)

both : (p q : Test) (code : List (Instr VReg)) → list_all p code ≡ true → list_all q code ≡ true → list_all (λ i. p i && q i) code ≡ true
both p q [] e f = refl
both p q (i ∷ is) e f =
    let here = and_parts (p i) (list_all p is) e in
    let there = and_parts (q i) (list_all q is) f in
    and_from (p i && q i) (list_all (λ i. p i && q i) is) (and_from (p i) (q i) here.0 there.0) (both p q is here.1 there.1)

all_named : (most : ℕ) (code : List (Instr VReg)) → all_below most (named code) ≡ true → list_all (λ i. all_below most (map (λ r. r.0) (registers_in i))) code ≡ true
all_named most [] e = refl
all_named most (i ∷ is) e =
    let here = map (λ r. r.0) (registers_in i) in
    let parts = and_parts (all_below most here) (all_below most (named is)) (sym (list_all-append (λ x. nat_lt x most) here (named is)) ∙ e) in
    and_from (all_below most here) (list_all (λ i. all_below most (map (λ r. r.0) (registers_in i))) is) parts.0 (all_named most is parts.1)

-- the numbers that the code of a context names

numbers_are : (order names : List ℕ) → all_below 12 names ≡ true → numbers_of (numbers_in order) names ≡ map (place order) names
numbers_are order [] e = refl
numbers_are order (x ∷ xs) e =
    let parts = and_parts (nat_lt x 12) (all_below 12 xs) e in
    let at : slice_index (numbers_in order) x ≡ place order x = get_or-map-range_with_len (place order) 0 12 x x 0 (ltb-true x 12 parts.0) (omega arith) in
    ap (λ y. y ∷ numbers_of (numbers_in order) xs) at ∙ ap (λ ys. place order x ∷ ys) (numbers_are order xs parts.1)

code_names : (state : ℕ) → named (drafted (numbers_in (order state)) state).code ≡ map (place (order state)) (named (drafted places state).code)
code_names state =
    let s = shaped (numbers_in (order state)) state in
    s.names.same ∙ numbers_are (order state) (named (drafted places state).code) s.names.small

code_numbered : (state : ℕ) → firsts_after [] (map (place (order state)) (named (drafted places state).code)) ≡ range_with_len 0 (length (order state))
unfolding order
code_numbered state = numbered (named (drafted places state).code)

code_placed : (state : ℕ) → all_below (length (order state)) (map (place (order state)) (named (drafted places state).code)) ≡ true
unfolding order
code_placed state = all_placed (named (drafted places state).code)

-- targets exist and have a label
abbrev labels : List Label
labels = record { name = codes "top"; target = 2 } ∷ []

code_targets : (numbers : List ℕ) (state most : ℕ) → 2 < most → list_all (λ i. option_below most (target_of i)) (drafted numbers state).code ≡ true
code_targets numbers state most lt =
    all_pass (λ i. option_below most (target_of i)) numbers state
    (λ i plain. ap (option_below most) (plain_target (operands_of i).extra plain))
    (and_from (nat_lt 2 most) true (lt-ltb 2 most lt) refl)

code_labelled : (numbers : List ℕ) (state : ℕ) → list_all (λ i. is_labelled labels (target_of i)) (drafted numbers state).code ≡ true
code_labelled numbers state = all_pass (λ i. is_labelled labels (target_of i)) numbers state (λ i plain. ap (is_labelled labels) (plain_target (operands_of i).extra plain)) refl

-- the one channel is an output
abbrev pub channels : List Channel
channels = Output None ∷ []

code_fits : (numbers : List ℕ) (state : ℕ) → list_all (fits_channels channels) (drafted numbers state).code ≡ true
code_fits numbers state = all_pass (fits_channels channels) numbers state (λ i plain. plain_fits channels (operands_of i).extra plain) refl

pub program_fits : (context line state : ℕ) → Each (program context line state).code (λ l. fits_channels channels l.instr ≡ true)
unfolding program
program_fits context line state = each_line (fits_channels channels) line (drafted (numbers_in (order state)) state).code (code_fits (numbers_in (order state)) state)

-- the last instruction ends the context

code_end : (numbers : List ℕ) (state : ℕ) → slice_get (drafted numbers state).code (length (drafted numbers state).code - 1) ≡ Some instr.Halt
code_end numbers state =
    let s = shaped numbers state in
    let front = s.body ++ take 3 (closing numbers) in
    let is : (drafted numbers state).code ≡ front ++ instr.Halt ∷ [] = s.is ∙ sym (append_assoc s.body (take 3 (closing numbers)) (instr.Halt ∷ [])) in
    let place : length (front ++ instr.Halt ∷ []) - 1 ≡ length front = omega (arith, length-append front (instr.Halt ∷ [])) in
    ap (λ code. slice_get code (length code - 1)) is ∙ ap (slice_get (front ++ instr.Halt ∷ [])) place ∙ last_at front instr.Halt

ends_lined : (line : ℕ) (numbers : List ℕ) (state : ℕ) (last : Line) → slice_get (lined line (drafted numbers state).code) (length (lined line (drafted numbers state).code) - 1) ≡ Some last → never_falls last.instr ≡ true
ends_lined line numbers state last e =
    let code = (drafted numbers state).code in
    let at = length (lined line code) - 1 in
    let same : Some last.instr ≡ Some instr.Halt =
    ap (option_map (λ (l : Line). l.instr)) (sym e)
    ∙ sym (slice_get-map (λ (l : Line). l.instr) (lined line code) at)
    ∙ ap (λ is. slice_get is at) (instrs_lined line code)
    ∙ ap (λ n. slice_get code (n - 1)) (long_lined line code)
    ∙ code_end numbers state in
    subst (λ (i : Instr VReg). never_falls i ≡ true) (sym (same_Some last.instr instr.Halt same)) refl

pub program_formed : (context line state : ℕ) → IsFormedProgram (program context line state)
unfolding program
program_formed context line state =
    let numbers = numbers_in (order state) in
    let code = (drafted numbers state).code in
    let s = shaped numbers state in
    let size : length code ≡ length s.body + 4 = ap length s.is ∙ length-append s.body (closing numbers) in
    let long = long_lined line code in
    let registers : length (map register_name (order state)) ≡ length (order state) = length-map (order state) register_name in
    let few = order_few state in
    let below : all_below (length (order state)) (named code) ≡ true = ap (all_below (length (order state))) (code_names state) ∙ code_placed state in
    let all : list_all (names_below (λ r. r.0) (length (order state)) (length code)) code ≡ true =
    both (λ i. all_below (length (order state)) (map (λ r. r.0) (registers_in i))) (λ i. option_below (length code) (target_of i)) code
    (all_named (length (order state)) code below) (code_targets numbers state (length code) (omega (arith, size, s.some))) in
    let there : list_all (names_below (λ r. r.0) (length (map register_name (order state))) (length (lined line code))) code ≡ true =
    ap (λ n. list_all (names_below (λ r. r.0) n (length (lined line code))) code) registers
    ∙ ap (λ n. list_all (names_below (λ r. r.0) (length (order state)) n) code) long
    ∙ all in
    record {
      some = omega (arith, long, size);
      few = omega (arith, long, size, s.few);
      registers = omega (arith, registers, few);
      named = each_line (names_below (λ r. r.0) (length (map register_name (order state))) (length (lined line code))) line code there;
      numbered =
          ap (firsts_after []) (named_lined (lined line code) ∙ ap named (instrs_lined line code) ∙ code_names state)
          ∙ code_numbered state
          ∙ ap (range_with_len 0) (sym registers);
      distinct = order_names state;
      labelled = each_line (λ i. is_labelled labels (target_of i)) line code (code_labelled numbers state);
      label_names = refl;
      label_targets = and_from (nat_lt 2 (length (lined line code))) true (lt-ltb 2 _ (omega (arith, long, size, s.some))) refl;
      label_order = refl;
      lines = rises_lined line code;
      ends = ends_lined line numbers state;
    }
