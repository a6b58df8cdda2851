-- The canonical line of a label or of an instruction has no fault, and says what it was written for.
use Rattle.std.proofs.Common.{◌≡◌, ◌++◌, ◌<◌, ◌≤◌, ◌^◌, ◌==◌, ◌||◌, ◌&&◌, ◌-◌, ℕ, ◌+◌, Bool, true, false, not, List, [], ◌∷◌, Option, Some, None, refl, sym, ap, ◌∙◌, arith, length, map, take, decimal, codes, slice_get, slice_index, nat_lt, nat_eq, fold, if◌then◌else◌}
use Rattle.std.proofs.lemmas.Bool.{or_from, le-ltb, ne_eqb, eqb-true}
use Rattle.std.proofs.lemmas.List.{map-append, length-append, length-take-le}
use Rattle.std.proofs.Math.Seq.{get_or-append_seam, take-append_seam}
use Rattle.std.specs.List.{list_any, list_all}
use Rattle.std.specs.Option.{option_map}
use Rattle.std.specs.Str.{bytes_eq}
use Rattle.micro_isa.specs.declared.instr.Instr.{Instr}
use Rattle.micro_isa.specs.declared.operands.Extra.{Extra}
use Rattle.micro_isa.specs.declared.operands.Extra.TheVariants.{Nothing, Number, Target, Receive, Send}
use Rattle.micro_isa.specs.declared.limits.TheConstants.{MOST_REGISTERS, MOST_INSTRUCTIONS}
use Rattle.micro_isa.specs.declared.program.VReg.{VReg}
use Rattle.micro_isa.specs.declared.program.Label.{Label}
use Rattle.micro_isa.specs.declared.program.Channel.{Channel}
use Rattle.micro_isa.specs.declared.program.Program.{Program}
use Rattle.micro_isa.specs.Names.{name_test}
use Rattle.micro_isa.specs.Formed as formed
use Rattle.micro_isa.specs.Operands.{operands_of}
use Rattle.asm_context.specs.Spelt as operand
use Rattle.asm_lines.specs.Cutting.{Words, TextLine}
use Rattle.asm_lines.specs.Numbers.{is_no_number}
use Rattle.asm_lines.specs.Tables.{knows, declare, misnamed, one}
use Rattle.asm_context.specs.Faults.{channels, is_misnamed, is_stray, gives_none, takes_none, body_test, body_fault}
use Rattle.asm_context.specs.Forms.{Form, Body, label_in, labelled, body_of, does, ends, registers_in, goes_to, receives_from, sends_to}
use Rattle.asm_context.specs.Forms as form
use Rattle.asm_context.specs.Programs.{instr_in, on_line}
use Rattle.asm_context.specs.Said.{Said, with_body, count, targets_after}
use Rattle.asm_print.specs.Canonical.{name_at, target_name, instruction_row}
use Rattle.asm_print.proofs.Plain.{row_words}
use Rattle.asm_print.specs.Typed.{OfAny}
use Rattle.asm_lines.specs.declared.fault.BundleKind.{BundleKind}
use Rattle.asm_lines.specs.declared.fault.BundleKind.TheVariants as kind
use Rattle.asm_lines.proofs.First.{no_kind}
use Rattle.asm_print.proofs.InTurn.{InTurn, grown, declare_all}
use Rattle.asm_print.proofs.InstructionAgain.{form_for, body_for, body_again, numbers_of, shape, received, sent, number, well_named, reached, Channelled, met, giver, taker, Spelt, instr_again}
use Rattle.asm_print.proofs.Tables.{fresh, declare_new}
use Rattle.asm_print.proofs.Walking.{Walks, one_walk, instrs}
use Rattle.asm_print.proofs.Words.{number_there}

-- what lines say that hold these labels of a program and the first `k` of its registers, and `at` instructions
abbrev pub stands : Program → List Label → ℕ → ℕ → Said
stands p labels k at = record { labels = map (λ l. l.name) labels; targets = map (λ l. l.target) labels; registers = take k p.registers; done = at }

-- what all lines of a program say
abbrev pub final : Program → Said
final p = record { labels = map (λ l. l.name) p.labels; targets = map (λ l. l.target) p.labels; registers = p.registers; done = length p.code }

abbrev pub line : ℕ → Words → TextLine
line n words = record { number = n; fair = true; words = words }

-- ---- labels

last_off : (w : List ℕ) → length (w ++ codes ":") - 1 ≡ length w
last_off w = omega (arith, length-append w (codes ":"))

pub label_again : (w : List ℕ) → label_in (w ++ codes ":") ≡ Some w
label_again w =
    ap (λ k. if slice_index (w ++ codes ":") k == 58 then Some (take k (w ++ codes ":")) else None) (last_off w)
    ∙ ap (λ c. if c == 58 then Some (take (length w) (w ++ codes ":")) else None) (get_or-append_seam w 58 [] 0)
    ∙ ap Some (take-append_seam w (codes ":"))

label_body : (w : List ℕ) → body_of ((w ++ codes ":") ∷ []) ≡ record { label = Some w; form = form.Blank }
label_body w = ap (λ o. labelled o (w ++ codes ":") []) (label_again w)

-- where a program's line may stand
pub record Placed (p : Program) (k at : ℕ) : Type 0 where
  pub few : k ≤ length p.registers
  pub registers : length p.registers ≤ MOST_REGISTERS
  pub within : at < length p.code
  pub short : length p.code ≤ MOST_INSTRUCTIONS

few_now : (p : Program) (k at : ℕ) → k ≤ length p.registers → length p.registers ≤ MOST_REGISTERS → at ≤ MOST_INSTRUCTIONS → (nat_lt MOST_REGISTERS (length (take k p.registers)) || nat_lt MOST_INSTRUCTIONS at) ≡ false
few_now p k at f r s =
    or_from (nat_lt MOST_REGISTERS (length (take k p.registers))) (nat_lt MOST_INSTRUCTIONS at)
    (le-ltb MOST_REGISTERS (length (take k p.registers)) (omega (arith, length-take-le k p.registers f))) (le-ltb MOST_INSTRUCTIONS at s)

abbrev label_form : Label → Body
label_form l = record { label = Some l.name; form = form.Blank }

label_free : (chs : Words) (kinds : List Channel) (p : Program) (k at : ℕ) (before : List Label) (l : Label) → Placed p k at → name_test l.name ≡ true → knows (map (λ l. l.name) before) l.name ≡ false
    → (x : BundleKind) → body_test (channels chs kinds) (list_any (knows (stands p before k at).labels) (one (Some l.name))) (with_body (stands p before k at) (label_form l)) (final p) true (label_form l) x ≡ false
label_free chs kinds p k at before l placed named new kind.Name = ap (λ (x : Bool). (not x || false) || (false || (false || (false || false)))) named
label_free chs kinds p k at before l placed named new kind.Limit = few_now p k (at + 0) placed.few placed.registers (omega (arith, placed.within, placed.short))
label_free chs kinds p k at before l placed named new kind.LabelTwice = ap (λ (x : Bool). x || false) new
label_free chs kinds p k at before l placed named new kind.FallsOff = ap (λ (x : Bool). x && true) (ne_eqb (at + 0) (length p.code) (λ (e : at + 0 ≡ length p.code). omega (arith, placed.within)))
label_free chs kinds p k at before l placed named new _ = refl

pub label_walk : (chs : Words) (kinds : List Channel) (p : Program) (n k at : ℕ) (before : List Label) (l : Label) (later : List Label)
    → Placed p k at → name_test l.name ≡ true → formed.is_distinct bytes_eq (map (λ l. l.name) p.labels) ≡ true → before ++ l ∷ later ≡ p.labels → l.target ≡ at
    → Walks (channels chs kinds) (final p) (stands p before k at) (line n ((l.name ++ codes ":") ∷ []) ∷ []) (stands p (before ++ l ∷ []) k at) []
label_walk chs kinds p n k at before l later placed named distinct parts here =
    let s : Said = stands p before k at in
    let b = label_form l in
    let new : knows (map (λ (l : Label). l.name) before) l.name ≡ false =
    fresh (map (λ (l : Label). l.name) before) l.name (map (λ (l : Label). l.name) later)
    (ap (formed.is_distinct bytes_eq) (sym (map-append (λ (l : Label). l.name) before (l ∷ later)) ∙ ap (map (λ (l : Label). l.name)) parts) ∙ distinct) in
    let twice = list_any (knows s.labels) (one b.label) in
    let free : body_fault (channels chs kinds) twice (with_body s b) (final p) true b ≡ None =
    no_kind (body_test (channels chs kinds) twice (with_body s b) (final p) true b) (label_free chs kinds p k at before l placed named new) in
    one_walk (channels chs kinds) (final p) s (stands p (before ++ l ∷ []) k at) (line n ((l.name ++ codes ":") ∷ [])) []
    (ap (λ (b : Body). body_fault (channels chs kinds) (list_any (knows s.labels) (one b.label)) (with_body s b) (final p) true b) (label_body l.name) ∙ free)
    (ap (with_body s) (label_body l.name)
    ∙ ap (λ (ns : Words). record { labels = ns; targets = targets_after s.labels s.targets s.done (Some l.name); registers = s.registers; done = at + 0 })
    (declare_new s.labels l.name new ∙ sym (map-append (λ (l : Label). l.name) before (l ∷ [])))
    ∙ ap (λ (x : Bool). record { labels = map (λ (l : Label). l.name) (before ++ l ∷ []); targets = if x then s.targets else s.targets ++ at ∷ []; registers = s.registers; done = at + 0 }) new
    ∙ ap (λ (t : ℕ). record { labels = map (λ (l : Label). l.name) (before ++ l ∷ []); targets = s.targets ++ t ∷ []; registers = s.registers; done = at + 0 }) (sym here)
    ∙ ap (λ (ts : List ℕ). record { labels = map (λ (l : Label). l.name) (before ++ l ∷ []); targets = ts; registers = s.registers; done = at + 0 }) (sym (map-append (λ (l : Label). l.target) before (l ∷ [])))
    ∙ ap (λ (d : ℕ). record { labels = map (λ (l : Label). l.name) (before ++ l ∷ []); targets = map (λ (l : Label). l.target) (before ++ l ∷ []); registers = s.registers; done = d }) (omega arith))
    (ap (λ (b : Body). instrs (on_line n (instr_in (with_body s b).registers chs (final p) b.form))) (label_body l.name))

-- ---- instructions

-- what an instruction that fits the channels receives from, and sends to
channels_fit : (kinds : List Channel) (x : Extra ℕ ℕ) → formed.fits_extra kinds x ≡ true → OfAny (operand.received x) (λ k. formed.gives_words (slice_get kinds k) ≡ true) × OfAny (operand.sent x) (λ k. formed.takes_words (slice_get kinds k) ≡ true)
channels_fit kinds Nothing e = (tt, tt)
channels_fit kinds (Number n) e = (tt, tt)
channels_fit kinds (Target t) e = (tt, tt)
channels_fit kinds (Receive k) e = (e, tt)
channels_fit kinds (Send k) e = (tt, e)

module _ (chs : Words) (kinds : List Channel) (p : Program) where
  number_said : (o : Option ℕ) → OfAny o (λ n. n < 2 ^ 32) → list_any is_no_number (one (option_map decimal o)) ≡ false
  number_said None h = refl
  number_said (Some n) h = ap (λ (b : Bool). b || false) (number_there n h)

  target_named : (o : Option ℕ) → list_all (λ l. name_test l.name) p.labels ≡ true → formed.is_distinct bytes_eq (map (λ l. l.name) p.labels) ≡ true → formed.is_labelled p.labels o ≡ true → misnamed (one (option_map (target_name p.labels) o)) ≡ false
  target_named None e d h = refl
  target_named (Some t) e d h = ap (λ (b : Bool). not b || false) (reached p.labels t e d h).named

  target_known : (o : Option ℕ) → list_all (λ l. name_test l.name) p.labels ≡ true → formed.is_distinct bytes_eq (map (λ l. l.name) p.labels) ≡ true → formed.is_labelled p.labels o ≡ true → list_any (λ label. not (knows (final p).labels label)) (one (option_map (target_name p.labels) o)) ≡ false
  target_known None e d h = refl
  target_known (Some t) e d h = ap (λ (b : Bool). not b || false) (reached p.labels t e d h).known

  channel_named : (o : Option ℕ) → Channelled chs kinds → OfAny o (λ k. k < length kinds) → misnamed (one (option_map (name_at chs) o)) ≡ false
  channel_named None c h = refl
  channel_named (Some k) c h = ap (λ (b : Bool). not b || false) (met chs kinds k c h).named

  channel_known : (o : Option ℕ) → Channelled chs kinds → OfAny o (λ k. k < length kinds) → is_stray (channels chs kinds) (option_map (name_at chs) o) ≡ false
  channel_known None c h = refl
  channel_known (Some k) c h = ap (λ (b : Bool). not b || false) (met chs kinds k c h).known

  gives_some : (o : Option ℕ) → Channelled chs kinds → OfAny o (λ k. formed.gives_words (slice_get kinds k) ≡ true) → gives_none (channels chs kinds) (option_map (name_at chs) o) ≡ false
  gives_some None c h = refl
  gives_some (Some k) c h =
      ap (λ j. not (formed.gives_words (slice_get kinds j)) || false) (met chs kinds k c (giver kinds k h)).place ∙ ap (λ (b : Bool). not b || false) h

  takes_some : (o : Option ℕ) → Channelled chs kinds → OfAny o (λ k. formed.takes_words (slice_get kinds k) ≡ true) → takes_none (channels chs kinds) (option_map (name_at chs) o) ≡ false
  takes_some None c h = refl
  takes_some (Some k) c h =
      ap (λ j. not (formed.takes_words (slice_get kinds j)) || false) (met chs kinds k c (taker kinds k h)).place ∙ ap (λ (b : Bool). not b || false) h

  givers : (o : Option ℕ) → OfAny o (λ k. formed.gives_words (slice_get kinds k) ≡ true) → OfAny o (λ k. k < length kinds)
  givers None h = tt
  givers (Some k) h = giver kinds k h

  takers : (o : Option ℕ) → OfAny o (λ k. formed.takes_words (slice_get kinds k) ≡ true) → OfAny o (λ k. k < length kinds)
  takers None h = tt
  takers (Some k) h = taker kinds k h

  never_loose : (at len : ℕ) (never : Bool) → (at + 1 ≡ len → never ≡ true) → (nat_eq (at + 1) len && not never) ≡ false
  never_loose at len never h = go (nat_eq (at + 1) len) refl
    where
      go : (b : Bool) → nat_eq (at + 1) len ≡ b → (nat_eq (at + 1) len && not never) ≡ false
      go true e = ap (λ (b : Bool). b && not never) e ∙ ap (λ (b : Bool). not b) (h (eqb-true (at + 1) len e))
      go false e = ap (λ (b : Bool). b && not never) e

  -- the registers that an instruction brings
  brings : (k at : ℕ) (i : Instr VReg) → Placed p k at → Spelt chs kinds p (grown k (numbers_of i)) i → InTurn k (numbers_of i) → formed.all_below (length p.registers) (numbers_of i) ≡ true
      → fold declare (take k p.registers) (registers_in (form_for chs p i)) ≡ take (grown k (numbers_of i)) p.registers
  brings k at i placed spelt turn within =
      ap (fold declare (take k p.registers)) (shape chs p i).registers ∙ declare_all p.registers k (numbers_of i) spelt.distinct placed.few within turn

  well_spelt : (k : ℕ) (i : Instr VReg) → Spelt chs kinds p k i → formed.all_below (length p.registers) (numbers_of i) ≡ true → list_all name_test p.registers ≡ true → is_misnamed (body_for chs p i) ≡ false
  well_spelt k i spelt within named =
      let f : Form = form_for chs p i in
      let sh = shape chs p i in
      let r = (channels_fit kinds (operands_of i).extra spelt.fits).0 in
      let t = (channels_fit kinds (operands_of i).extra spelt.fits).1 in
      or_from (misnamed (registers_in f)) _ (ap misnamed sh.registers ∙ well_named p.registers (numbers_of i) named within)
      (or_from (misnamed (one (goes_to f))) _ (ap (λ o. misnamed (one o)) sh.goes ∙ target_named (formed.target_of i) spelt.labels spelt.label_names spelt.labelled)
      (or_from (misnamed (one (receives_from f))) (misnamed (one (sends_to f))) (ap (λ o. misnamed (one o)) sh.receives ∙ channel_named (received i) spelt.channels (givers (received i) r))
      (ap (λ o. misnamed (one o)) sh.sends ∙ channel_named (sent i) spelt.channels (takers (sent i) t))))

  -- where an instruction may stand
  record Stands (k at : ℕ) (i : Instr VReg) : Type 0 where
    placed : Placed p k at
    spelt : Spelt chs kinds p (grown k (numbers_of i)) i
    turn : InTurn k (numbers_of i)
    within : formed.all_below (length p.registers) (numbers_of i) ≡ true
    named : list_all name_test p.registers ≡ true
    ends : at + 1 ≡ length p.code → formed.never_falls i ≡ true

  instruction_free : (k at : ℕ) (before : List Label) (i : Instr VReg) → Stands k at i → (x : BundleKind) → body_test (channels chs kinds) false (with_body (stands p before k at) (body_for chs p i)) (final p) true (body_for chs p i) x ≡ false
  instruction_free k at before i s kind.Directive = (shape chs p i).unknown
  instruction_free k at before i s kind.Operands = (shape chs p i).miscounted
  instruction_free k at before i s kind.Name = well_spelt (grown k (numbers_of i)) i s.spelt s.within s.named
  instruction_free k at before i s kind.Number = ap (λ o. list_any is_no_number (one o)) (shape chs p i).number ∙ number_said (number i) s.spelt.number
  instruction_free k at before i s kind.Limit =
      ap (λ (rs : Words). nat_lt MOST_REGISTERS (length rs) || nat_lt MOST_INSTRUCTIONS (at + count (does (form_for chs p i)))) (brings k at i s.placed s.spelt s.turn s.within)
      ∙ ap (λ d. nat_lt MOST_REGISTERS (length (take (grown k (numbers_of i)) p.registers)) || nat_lt MOST_INSTRUCTIONS (at + count d)) (shape chs p i).does
      ∙ few_now p (grown k (numbers_of i)) (at + 1) s.spelt.few s.placed.registers (omega (arith, s.placed.within, s.placed.short))
  instruction_free k at before i s kind.ChannelUnknown =
      let f : Form = form_for chs p i in
      or_from (is_stray (channels chs kinds) (receives_from f)) (is_stray (channels chs kinds) (sends_to f))
      (ap (is_stray (channels chs kinds)) (shape chs p i).receives ∙ channel_known (received i) s.spelt.channels (givers (received i) ((channels_fit kinds (operands_of i).extra s.spelt.fits).0)))
      (ap (is_stray (channels chs kinds)) (shape chs p i).sends ∙ channel_known (sent i) s.spelt.channels (takers (sent i) ((channels_fit kinds (operands_of i).extra s.spelt.fits).1)))
  instruction_free k at before i s kind.ChannelKind =
      let f : Form = form_for chs p i in
      or_from (gives_none (channels chs kinds) (receives_from f)) (takes_none (channels chs kinds) (sends_to f))
      (ap (gives_none (channels chs kinds)) (shape chs p i).receives ∙ gives_some (received i) s.spelt.channels ((channels_fit kinds (operands_of i).extra s.spelt.fits).0))
      (ap (takes_none (channels chs kinds)) (shape chs p i).sends ∙ takes_some (sent i) s.spelt.channels ((channels_fit kinds (operands_of i).extra s.spelt.fits).1))
  instruction_free k at before i s kind.LabelUnknown =
      ap (λ o. list_any (λ label. not (knows (final p).labels label)) (one o)) (shape chs p i).goes ∙ target_known (formed.target_of i) s.spelt.labels s.spelt.label_names s.spelt.labelled
  instruction_free k at before i s kind.FallsOff =
      ap (λ d. nat_eq (at + count d) (length p.code) && (if d then not (form.ends (form_for chs p i)) else false)) (shape chs p i).does
      ∙ ap (λ e. nat_eq (at + 1) (length p.code) && not e) (shape chs p i).ends
      ∙ never_loose at (length p.code) (formed.never_falls i) s.ends
  instruction_free k at before i s _ = refl

  pub instruction_walk : (n k at : ℕ) (before : List Label) (i : Instr VReg)
      → Placed p k at → Spelt chs kinds p (grown k (numbers_of i)) i → InTurn k (numbers_of i) → formed.all_below (length p.registers) (numbers_of i) ≡ true → list_all name_test p.registers ≡ true
      → (at + 1 ≡ length p.code → formed.never_falls i ≡ true)
      → Walks (channels chs kinds) (final p) (stands p before k at) (line n (row_words (instruction_row chs p i)) ∷ []) (stands p before (grown k (numbers_of i)) (at + 1)) (i ∷ [])
  instruction_walk n k at before i placed spelt turn within named ends =
      let s : Said = stands p before k at in
      let b : Body = body_for chs p i in
      let f : Form = form_for chs p i in
      let sh = shape chs p i in
      let grows = brings k at i placed spelt turn within in
      let here : Stands k at i = record { placed = placed; spelt = spelt; turn = turn; within = within; named = named; ends = ends } in
      let free : body_fault (channels chs kinds) false (with_body s b) (final p) true b ≡ None =
      no_kind (body_test (channels chs kinds) false (with_body s b) (final p) true b) (instruction_free k at before i here) in
      one_walk (channels chs kinds) (final p) s (stands p before (grown k (numbers_of i)) (at + 1)) (line n (row_words (instruction_row chs p i))) (i ∷ [])
      (ap (λ (b : Body). body_fault (channels chs kinds) (list_any (knows s.labels) (one b.label)) (with_body s b) (final p) true b) (body_again chs p i) ∙ free)
      (ap (with_body s) (body_again chs p i)
      ∙ ap (λ (rs : Words). record { labels = s.labels; targets = s.targets; registers = rs; done = at + count (does f) }) grows
      ∙ ap (λ (d : Bool). record { labels = s.labels; targets = s.targets; registers = take (grown k (numbers_of i)) p.registers; done = at + count d }) sh.does)
      (ap (λ (b : Body). instrs (on_line n (instr_in (with_body s b).registers chs (final p) b.form))) (body_again chs p i)
      ∙ ap (λ (rs : Words). instrs (on_line n (instr_in rs chs (final p) f))) grows
      ∙ ap (λ o. instrs (on_line n o)) (instr_again chs kinds p (grown k (numbers_of i)) (final p) i refl refl spelt))
