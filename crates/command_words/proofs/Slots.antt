-- The places for texts on the command line, and what the command's walk makes of a text for each.
use Rattle.std.proofs.Common.{◌≡◌, ◌++◌, Bool, true, false, List, [], ◌∷◌, Option, Some, None, refl, sym, ◌∙◌, codes, unwrap_or, append-nil}
use Rattle.std.proofs.lemmas.Bool.{true≢false}
use Rattle.std.specs.Str.{bytes_eq}
use Rattle.clap.specs.Walk.{Row, Rule, Held, arg_by_index, arg_by_long, settled, used, has_row, first_of, without, more_values, action_of, reading_by, with_default}
use Rattle.clap.specs.Simple.{Shape, built, new_rule}
use Rattle.clap.specs.Takes.{settle_passes}
use Rattle.clap.specs.Faults.{settle_fault}
use Rattle.clap.specs.declared.builder.action.ArgAction.TheVariants.{Set}
use Rattle.clap.specs.declared.parser.matches.ValueSource.TheVariants.{CommandLine}
use Rattle.command_words.specs.Command.{command_app}
use Rattle.command_words.specs.Texts.{Text, OptionName, steps, order, Parts}
use Rattle.command_words.proofs.Rows.{absent_row, first_added, first_other, has_added, has_other}
use Rattle.command_words.proofs.Spelling.{same_if}

abbrev pub shape : Shape
shape = (built command_app).top

abbrev pub rules : List Rule
rules = shape.rules

pub data Slot : Type 0 where
  first : Slot
  second : Slot
  valued : OptionName → Slot

abbrev pub id_of : Slot → Text
id_of first = codes "command"
id_of second = codes "number"
id_of (valued steps) = codes "steps"
id_of (valued order) = codes "order"

abbrev pub option_built : OptionName → Rule
option_built steps = unwrap_or (arg_by_long rules (codes "steps")) (new_rule [])
option_built order = unwrap_or (arg_by_long rules (codes "order")) (new_rule [])

abbrev pub rule_at : Slot → Rule
rule_at first = unwrap_or (arg_by_index rules 1) (new_rule [])
rule_at second = unwrap_or (arg_by_index rules 2) (new_rule [])
rule_at (valued n) = option_built n

abbrev pub part : Parts → Slot → Option Text
part p first = p.command
part p second = p.number
part p (valued steps) = p.steps
part p (valued order) = p.order

abbrev pub put : Slot → Text → Parts → Parts
put first v p = record p { command = Some v }
put second v p = record p { number = Some v }
put (valued steps) v p = record p { steps = Some v }
put (valued order) v p = record p { order = Some v }

-- ---- what is held

-- what is held once the pending argument is used
abbrev pub rows_of : Held → List Row
rows_of h = (settled rules h).rows

abbrev pub with_pending : Held → Text → List Text → Held
with_pending h id vs = record { rows = rows_of h; pending = Some (id, vs); skip = h.skip }

abbrev pub with_used : Held → OptionName → Text → Held
with_used h n v = record { rows = used (option_built n) (v ∷ []) (rows_of h); pending = None; skip = h.skip }

abbrev pub row_for : Rule → Text → Row
row_for a v = record { id = a.id; values = v ∷ []; count = None; source = Some CommandLine; reading = reading_by a }

used_absent : (a : Rule) (v : Text) (rows : List Row) → action_of a ≡ Set → has_row a.id rows ≡ false → used a (v ∷ []) rows ≡ rows ++ row_for a v ∷ []
used_absent a v rows is gone =
    let left : without a.id rows ≡ rows = absent_row a.id (λ _. []) [] rows gone ∙ append-nil rows in
    rw (is, left) (absent_row a.id (more_values CommandLine (v ∷ [])) (row_for a v ∷ []) rows gone)

pub used_once : (i : Slot) (v : Text) (rows : List Row) → has_row (id_of i) rows ≡ false → used (rule_at i) (v ∷ []) rows ≡ rows ++ row_for (rule_at i) v ∷ []
used_once first v rows gone = used_absent (rule_at first) v rows refl gone
used_once second v rows gone = used_absent (rule_at second) v rows refl gone
used_once (valued steps) v rows gone = used_absent (rule_at (valued steps)) v rows refl gone
used_once (valued order) v rows gone = used_absent (rule_at (valued order)) v rows refl gone

pub pending_rows : (i : Slot) (h : Held) (v : Text) → rows_of (with_pending h (id_of i) (v ∷ [])) ≡ used (rule_at i) (v ∷ []) (rows_of h)
pending_rows first h v = refl
pending_rows second h v = refl
pending_rows (valued steps) h v = refl
pending_rows (valued order) h v = refl

pub pending_passes : (i : Slot) (h : Held) (v : Text) → has_row (id_of i) (rows_of h) ≡ false → settle_passes rules false (with_pending h (id_of i) (v ∷ [])) ≡ true
pending_passes first h v e = rw e refl
pending_passes second h v e = rw e refl
pending_passes (valued steps) h v e = rw e refl
pending_passes (valued order) h v e = rw e refl

pub pending_faults : (i : Slot) (h : Held) (v : Text) → has_row (id_of i) (rows_of h) ≡ false → settle_fault rules false (with_pending h (id_of i) (v ∷ [])) ≡ []
pending_faults first h v e = rw e refl
pending_faults second h v e = rw e refl
pending_faults (valued steps) h v e = rw e refl
pending_faults (valued order) h v e = rw e refl

-- ---- rows by their slots

abbrev pub is_same : Slot → Slot → Bool
is_same first first = true
is_same second second = true
is_same (valued steps) (valued steps) = true
is_same (valued order) (valued order) = true
is_same _ _ = false

abbrev pub either : {X : Type 0} → Bool → X → X → X
either true x y = x
either false x y = y

same_ids : (i j : Slot) (v : Text) → bytes_eq (row_for (rule_at i) v).id (id_of j) ≡ is_same i j
same_ids first first v = refl
same_ids first second v = refl
same_ids first (valued steps) v = refl
same_ids first (valued order) v = refl
same_ids second first v = refl
same_ids second second v = refl
same_ids second (valued steps) v = refl
same_ids second (valued order) v = refl
same_ids (valued steps) first v = refl
same_ids (valued steps) second v = refl
same_ids (valued steps) (valued steps) v = refl
same_ids (valued steps) (valued order) v = refl
same_ids (valued order) first v = refl
same_ids (valued order) second v = refl
same_ids (valued order) (valued steps) v = refl
same_ids (valued order) (valued order) v = refl

pub put_part : (i j : Slot) (v : Text) (p : Parts) → part (put i v p) j ≡ either (is_same i j) (Some v) (part p j)
put_part first first v p = refl
put_part first second v p = refl
put_part first (valued steps) v p = refl
put_part first (valued order) v p = refl
put_part second first v p = refl
put_part second second v p = refl
put_part second (valued steps) v p = refl
put_part second (valued order) v p = refl
put_part (valued steps) first v p = refl
put_part (valued steps) second v p = refl
put_part (valued steps) (valued steps) v p = refl
put_part (valued steps) (valued order) v p = refl
put_part (valued order) first v p = refl
put_part (valued order) second v p = refl
put_part (valued order) (valued steps) v p = refl
put_part (valued order) (valued order) v p = refl

-- equal slots have equal ids
same_slot : (i j : Slot) (rows : List Row) → is_same i j ≡ true → has_row (id_of i) rows ≡ false → has_row (id_of j) rows ≡ false
same_slot first first rows s e = e
same_slot second second rows s e = e
same_slot (valued steps) (valued steps) rows s e = e
same_slot (valued order) (valued order) rows s e = e
same_slot first second rows s e = absurd (true≢false (sym s))
same_slot first (valued n) rows s e = absurd (true≢false (sym s))
same_slot second first rows s e = absurd (true≢false (sym s))
same_slot second (valued n) rows s e = absurd (true≢false (sym s))
same_slot (valued steps) first rows s e = absurd (true≢false (sym s))
same_slot (valued steps) second rows s e = absurd (true≢false (sym s))
same_slot (valued steps) (valued order) rows s e = absurd (true≢false (sym s))
same_slot (valued order) first rows s e = absurd (true≢false (sym s))
same_slot (valued order) second rows s e = absurd (true≢false (sym s))
same_slot (valued order) (valued steps) rows s e = absurd (true≢false (sym s))

pub first_with : (i j : Slot) (v : Text) (rows : List Row) → has_row (id_of i) rows ≡ false → first_of (id_of j) (rows ++ row_for (rule_at i) v ∷ []) ≡ either (is_same i j) (Some v) (first_of (id_of j) rows)
first_with i j v rows gone =
    let go : (b : Bool) → is_same i j ≡ b → first_of (id_of j) (rows ++ row_for (rule_at i) v ∷ []) ≡ either b (Some v) (first_of (id_of j) rows) = elim [
      | true ↦ λ s. first_added (id_of j) v [] (row_for (rule_at i) v) rows (same_slot i j rows s gone) (same_ids i j v ∙ s) refl
      | false ↦ λ s. first_other (id_of j) (row_for (rule_at i) v) rows (same_ids i j v ∙ s)
    ] in go (is_same i j) refl

pub has_with : (i j : Slot) (v : Text) (rows : List Row) → has_row (id_of j) (rows ++ row_for (rule_at i) v ∷ []) ≡ either (is_same i j) true (has_row (id_of j) rows)
has_with i j v rows =
    let go : (b : Bool) → is_same i j ≡ b → has_row (id_of j) (rows ++ row_for (rule_at i) v ∷ []) ≡ either b true (has_row (id_of j) rows) = elim [
      | true ↦ λ s. has_added (id_of j) (row_for (rule_at i) v) rows (same_ids i j v ∙ s)
      | false ↦ λ s. has_other (id_of j) (row_for (rule_at i) v) rows (same_ids i j v ∙ s)
    ] in go (is_same i j) refl

-- no argument has a default
pub no_default : (i : Slot) (rows : List Row) → with_default rows (rule_at i) ≡ rows
no_default first rows = same_if (has_row (id_of first) rows) (λ r. r) rows
no_default second rows = same_if (has_row (id_of second) rows) (λ r. r) rows
no_default (valued steps) rows = same_if (has_row (id_of (valued steps)) rows) (λ r. r) rows
no_default (valued order) rows = same_if (has_row (id_of (valued order)) rows) (λ r. r) rows
