-- The instruction of a line without a fault.
use Rattle.std.proofs.Common.{◌≡◌, ◌||◌, ◌≤◌, ◌<◌, ◌∙◌, ℕ, Bool, true, false, not, List, [], ◌∷◌, Option, Some, None, length, map, refl, sym, ap, subst, arith, fold, nat_lt}
use Rattle.std.specs.Prelude.{slice_get}
use Rattle.std.specs.List.{list_any, cons_option}
use Rattle.std.specs.Option.{option_map, is_some}
use Rattle.std.proofs.lemmas.Bool.{true≢false, lt-ltb, and_from}
use Rattle.micro_isa.specs.declared.instr.Instr.{Instr}
use Rattle.micro_isa.specs.declared.operation.Operation.{Operation}
use Rattle.micro_isa.specs.declared.operation.Operation.TheVariants.{Li}
use Rattle.micro_isa.specs.declared.operands.Extra.{Extra}
use Rattle.micro_isa.specs.declared.operands.Extra.TheVariants as extra
use Rattle.micro_isa.specs.declared.operands.Operands.{Operands}
use Rattle.micro_isa.specs.declared.program.VReg.{VReg}
use Rattle.micro_isa.specs.Columns.{registers, target_in}
use Rattle.micro_isa.specs.Columns as columns
use Rattle.micro_isa.specs.Formed as formed
use Rattle.micro_isa.specs.Formed.{names_below, option_below, all_below, target_of, is_labelled, fits_channels, fits_extra, gives_words, takes_words, never_falls}
use Rattle.micro_isa.specs.Operands.{instr_of}
use Rattle.micro_isa.specs.Table.{named, roles_of}
use Rattle.micro_isa.proofs.Laws.{made_of}
use Rattle.asm_lines.specs.Cutting.{Words}
use Rattle.asm_lines.specs.Numbers.{number_or}
use Rattle.asm_lines.specs.Tables.{knows, place_of, declare, one}
use Rattle.asm_lines.proofs.Known.{place_of_below, knows_it, knows_fold}
use Rattle.asm_context.specs.Spelt.{operands_in, each, each_extra, received, sent}
use Rattle.asm_context.specs.Forms.{Form, Blank, Instruction, Miscounted, Unknown, counted_form, named_form, form_of, label_in, labelled, body_of, is_unknown, is_miscounted, does, ends, registers_in, goes_to, receives_from, sends_to}
use Rattle.asm_context.specs.Said.{Said}
use Rattle.asm_context.specs.Faults.{Channels, gives_none, takes_none}
use Rattle.asm_context.specs.Programs.{register, target, instr_in, labels_from}
use Rattle.asm_context.proofs.Labelling.{labelled_at, target_below}
use Rattle.asm_context.proofs.Ordering.{IsOrderly}

-- a line with a word for each role has an instruction, whatever its words name

abbrev pub has_instr : (register : List ℕ → VReg) → (number target channel : List ℕ → ℕ) → Form → Bool
has_instr register number target channel (Instruction o x) = is_some (instr_of o (each register number target channel x))
has_instr register number target channel _ = true

abbrev pub IsMade : Form → Type 0
IsMade form = (register : List ℕ → VReg) (number target channel : List ℕ → ℕ) → has_instr register number target channel form ≡ true

-- by computing, of any operation with none, one, two, three or more words
made_counted : (o : Operation) (ws : Words) → IsMade (counted_form o (operands_in (roles_of o) ws))
made_counted Li [] = λ r m t k. refl
made_counted _ [] = λ r m t k. refl
made_counted _ (u ∷ []) = λ r m t k. refl
made_counted _ (u ∷ v ∷ []) = λ r m t k. refl
made_counted _ (u ∷ v ∷ w ∷ []) = λ r m t k. refl
made_counted _ _ = λ r m t k. refl

made_named : (o : Option Operation) (ws : Words) → IsMade (named_form o ws)
made_named None ws = λ r m t k. refl
made_named (Some o) ws = made_counted o ws

made_form : (ws : Words) → IsMade (form_of ws)
made_form [] = λ r m t k. refl
made_form (word ∷ ws) = made_named (named word) ws

pub made_body : (ws : Words) → IsMade (body_of ws).form
made_body [] = λ r m t k. refl
made_body (word ∷ ws) = go (label_in word)
  where
    go : (label : Option (List ℕ)) → IsMade (labelled label word ws).form
    go None = made_form (word ∷ ws)
    go (Some name) = made_form ws

-- these words are known
abbrev pub AreKnown : Words → Words → Type 0
AreKnown names [] = Unit {0}
AreKnown names (w ∷ ws) = (knows names w ≡ true) × AreKnown names ws

pub known_fold : (words names : Words) → AreKnown (fold declare names words) words
known_fold [] names = tt
known_fold (w ∷ ws) names = (knows_fold ws (declare names w) w (knows_it names w), known_fold ws (declare names w))

-- what the tests of a line say of its form, where they are not met
pub record IsClean (chs : Channels) (all : Said) (form : Form) : Type 0 where
  pub known : is_unknown form ≡ false
  pub counted : is_miscounted form ≡ false
  pub channel : (gives_none chs (receives_from form) || takes_none chs (sends_to form)) ≡ false
  pub label : list_any (λ label. not (knows all.labels label)) (one (goes_to form)) ≡ false

-- an instruction fits its line and its program; a line without one says no register
abbrev pub FormFact : Channels → Said → Said → Form → Option (Instr VReg) → Type 0
FormFact chs all now form None = (does form ≡ false) × (registers_in form ≡ [])
FormFact chs all now form (Some i) =
    (does form ≡ true)
    × (names_below (λ r. r.0) (length all.registers) all.done i ≡ true)
    × (is_labelled (labels_from 0 all.labels all.targets) (target_of i) ≡ true)
    × (fits_channels chs.kinds i ≡ true)
    × (map (λ r. r.0) (formed.registers_in i) ≡ map (λ w. place_of now.registers w) (registers_in form))
    × (never_falls i ≡ ends form)

is_there : (o : Option (Instr VReg)) → is_some o ≡ true → (i : Instr VReg) × (o ≡ Some i)
is_there None e = absurd (true≢false (sym e))
is_there (Some i) e = (i, refl)

known_part : (a : Bool) → (not a || false) ≡ false → a ≡ true
known_part true e = refl
known_part false e = absurd (true≢false e)

first_part : (a : Bool) → ((not a || false) || false) ≡ false → a ≡ true
first_part true e = refl
first_part false e = absurd (true≢false e)

label_place : (all : Said) (label : List ℕ) → IsOrderly all all → knows all.labels label ≡ true → place_of all.labels label < length all.labels
label_place all label o k = place_of_below all.labels label k

goes_below : (all : Said) (label : List ℕ) → IsOrderly all all → knows all.labels label ≡ true → nat_lt (target all label) all.done ≡ true
goes_below all label o k = target_below all.done all.targets (place_of all.labels label) o.labels.below (omega (arith, place_of_below all.labels label k, o.labels.same))

goes_labelled : (all : Said) (label : List ℕ) → knows all.labels label ≡ true → is_labelled (labels_from 0 all.labels all.targets) (Some (target all label)) ≡ true
goes_labelled all label k = labelled_at 0 all.labels all.targets (place_of all.labels label) (place_of all.labels label) (place_of_below all.labels label k) (omega arith)

-- the registers of operands, each by a function
pub registers_each : {X Y : Type 0} (f : X → Y) (to a b : Option X) → cons_option (option_map f to) (cons_option (option_map f a) (cons_option (option_map f b) [])) ≡ map f (cons_option to (cons_option a (cons_option b [])))
registers_each f None None None = refl
registers_each f None None (Some b) = refl
registers_each f None (Some a) None = refl
registers_each f None (Some a) (Some b) = refl
registers_each f (Some to) None None = refl
registers_each f (Some to) None (Some b) = refl
registers_each f (Some to) (Some a) None = refl
registers_each f (Some to) (Some a) (Some b) = refl

places_of : (rs : Words) (ws : Words) → map (λ (r : VReg). r.0) (map (register rs) ws) ≡ map (λ w. place_of rs w) ws
places_of rs [] = refl
places_of rs (w ∷ ws) = ap (λ (ns : List ℕ). place_of rs w ∷ ns) (places_of rs ws)

module _ (chs : Channels) (all now : Said) (ordered : IsOrderly all all) where
  registers_below : (ws : Words) → AreKnown now.registers ws → length now.registers ≤ length all.registers → all_below (length all.registers) (map (λ (r : VReg). r.0) (map (register now.registers) ws)) ≡ true
  registers_below [] k le = refl
  registers_below (w ∷ ws) k le =
      and_from (nat_lt (place_of now.registers w) (length all.registers)) (all_below (length all.registers) (map (λ (r : VReg). r.0) (map (register now.registers) ws)))
      (lt-ltb _ _ (omega (arith, le, place_of_below now.registers w k.0)))
      (registers_below ws k.1 le)

  -- what the operands beside registers name
  abbrev named_extra : Extra (List ℕ) (List ℕ) → Extra ℕ ℕ
  named_extra e = each_extra number_or (target all) (place_of chs.names) e

  target_named : (e : Extra (List ℕ) (List ℕ)) → list_any (λ label. not (knows all.labels label)) (one (target_in e)) ≡ false → (option_below all.done (target_in (named_extra e)) ≡ true) × (is_labelled (labels_from 0 all.labels all.targets) (target_in (named_extra e)) ≡ true)
  target_named extra.Nothing h = (refl, refl)
  target_named (extra.Number n) h = (refl, refl)
  target_named (extra.Target label) h =
      let known = known_part (knows all.labels label) h in
      (goes_below all label ordered known, goes_labelled all label known)
  target_named (extra.Receive channel) h = (refl, refl)
  target_named (extra.Send channel) h = (refl, refl)

  channel_named : (e : Extra (List ℕ) (List ℕ)) → (gives_none chs (received e) || takes_none chs (sent e)) ≡ false → fits_extra chs.kinds (named_extra e) ≡ true
  channel_named extra.Nothing h = refl
  channel_named (extra.Number n) h = refl
  channel_named (extra.Target label) h = refl
  channel_named (extra.Receive channel) h = first_part (gives_words (slice_get chs.kinds (place_of chs.names channel))) h
  channel_named (extra.Send channel) h = known_part (takes_words (slice_get chs.kinds (place_of chs.names channel))) h

pub form_fact : (chs : Channels) (all now : Said) (form : Form) → IsMade form → IsClean chs all form → IsOrderly all all → AreKnown now.registers (registers_in form) → length now.registers ≤ length all.registers → FormFact chs all now form (instr_in now.registers chs.names all form)
form_fact chs all now Blank m c o k le = (refl, refl)
form_fact chs all now (Instruction op x) m c o k le =
    let made = is_there (instr_of op y) (m (register now.registers) number_or (target all) (place_of chs.names)) in
    subst (FormFact chs all now (Instruction op x)) (sym made.1) (fact made.0 made.1)
  where
    y : Operands VReg ℕ ℕ
    y = each (register now.registers) number_or (target all) (place_of chs.names) x

    same : registers y ≡ map (register now.registers) (registers x)
    same = registers_each (register now.registers) x.to x.a x.b

    fact : (i : Instr VReg) → instr_of op y ≡ Some i → FormFact chs all now (Instruction op x) (Some i)
    fact i e =
        let is = made_of op y.to y.a y.b y.extra i e in
        let goes = target_named chs all now o x.extra c.label in
        let listed : formed.registers_in i ≡ map (register now.registers) (registers x) = ap registers is.operands ∙ same in
        let aimed : target_of i ≡ target_in y.extra = ap (λ (z : Operands VReg ℕ ℕ). target_in z.extra) is.operands in (
          refl,
          and_from (all_below (length all.registers) (map (λ (r : VReg). r.0) (formed.registers_in i))) (option_below all.done (target_of i))
              (ap (λ (rs : List VReg). all_below (length all.registers) (map (λ (r : VReg). r.0) rs)) listed ∙ registers_below chs all now o (registers x) k le)
              (ap (option_below all.done) aimed ∙ goes.0),
          ap (is_labelled (labels_from 0 all.labels all.targets)) aimed ∙ goes.1,
          ap (λ (z : Operands VReg ℕ ℕ). fits_extra chs.kinds z.extra) is.operands ∙ channel_named chs all now o x.extra c.channel,
          ap (map (λ (r : VReg). r.0)) listed ∙ places_of now.registers (registers x),
          ap columns.ends is.operation,
        )
form_fact chs all now Miscounted m c o k le = absurd (true≢false c.counted)
form_fact chs all now Unknown m c o k le = absurd (true≢false c.known)
