-- What the walk holds stands for the parts that were given.
use Rattle.std.proofs.Common.{◌≡◌, Bool, true, false, List, [], ◌∷◌, Option, Some, None, is_some, refl, sym, ap, ◌∙◌}
use Rattle.clap.specs.Walk.{Row, Held, nothing_held, used, has_row, first_of}
use Rattle.clap.specs.Takes.{settle_passes, use_passes}
use Rattle.clap.specs.Faults.{settle_fault, react_fault}
use Rattle.clap.specs.Kinds.{or_else}
use Rattle.command_words.specs.Texts.{Text, OptionName, steps, order, Parts}
use Rattle.command_words.proofs.Slots.{rules, Slot, first, second, valued, id_of, option_built, rule_at, part, put, rows_of, with_pending, with_used, used_once, pending_rows, pending_passes, pending_faults, is_same, either, put_part, first_with, has_with}

pub record Stands (h : Held) (p : Parts) : Type 0 where
  pub passes : settle_passes rules false h ≡ true
  pub faults : settle_fault rules false h ≡ []
  pub text : (i : Slot) → first_of (id_of i) (rows_of h) ≡ part p i
  pub given : (i : Slot) → has_row (id_of i) (rows_of h) ≡ is_some (part p i)

abbrev pub no_parts : Parts
no_parts = record { command = None; number = None; steps = None; order = None }

pub stands_first : Stands nothing_held no_parts
stands_first = record {
  passes = refl;
  faults = refl;
  text = elim [ first ↦ refl | second ↦ refl | valued steps ↦ refl | valued order ↦ refl ];
  given = elim [ first ↦ refl | second ↦ refl | valued steps ↦ refl | valued order ↦ refl ];
}

either_some : (b : Bool) (v : Text) (o : Option Text) → either b true (is_some o) ≡ is_some (either b (Some v) o)
either_some true v o = refl
either_some false v o = refl

-- the slot is still free
pub is_free : (h : Held) (p : Parts) (i : Slot) → Stands h p → part p i ≡ None → has_row (id_of i) (rows_of h) ≡ false
is_free h p i s none = s.given i ∙ ap is_some none

text_after : (h : Held) (p : Parts) (i j : Slot) (v : Text) → Stands h p → part p i ≡ None → first_of (id_of j) (used (rule_at i) (v ∷ []) (rows_of h)) ≡ part (put i v p) j
text_after h p i j v s none =
    ap (first_of (id_of j)) (used_once i v (rows_of h) (is_free h p i s none))
    ∙ first_with i j v (rows_of h) (is_free h p i s none)
    ∙ ap (either (is_same i j) (Some v)) (s.text j)
    ∙ sym (put_part i j v p)

given_after : (h : Held) (p : Parts) (i j : Slot) (v : Text) → Stands h p → part p i ≡ None → has_row (id_of j) (used (rule_at i) (v ∷ []) (rows_of h)) ≡ is_some (part (put i v p) j)
given_after h p i j v s none =
    ap (has_row (id_of j)) (used_once i v (rows_of h) (is_free h p i s none))
    ∙ has_with i j v (rows_of h)
    ∙ ap (either (is_same i j) true) (s.given j)
    ∙ either_some (is_same i j) v (part p j)
    ∙ ap is_some (sym (put_part i j v p))

pub stands_pending : (h : Held) (p : Parts) (i : Slot) (v : Text) → Stands h p → part p i ≡ None → Stands (with_pending h (id_of i) (v ∷ [])) (put i v p)
stands_pending h p i v s none = record {
  passes = pending_passes i h v (is_free h p i s none);
  faults = pending_faults i h v (is_free h p i s none);
  text = λ j. ap (first_of (id_of j)) (pending_rows i h v) ∙ text_after h p i j v s none;
  given = λ j. ap (has_row (id_of j)) (pending_rows i h v) ∙ given_after h p i j v s none;
}

pub stands_used : (h : Held) (p : Parts) (n : OptionName) (v : Text) → Stands h p → part p (valued n) ≡ None → Stands (with_used h n v) (put (valued n) v p)
stands_used h p n v s none = record {
  passes = refl;
  faults = refl;
  text = λ j. text_after h p (valued n) j v s none;
  given = λ j. given_after h p (valued n) j v s none;
}

pub use_once : (n : OptionName) (v : Text) (rows : List Row) → has_row (id_of (valued n)) rows ≡ false → use_passes false (option_built n) (v ∷ []) rows ≡ true
use_once steps v rows gone = rw gone refl
use_once order v rows gone = rw gone refl

pub no_fault_once : (n : OptionName) (h : Held) (v : Text) → settle_fault rules false h ≡ [] → has_row (id_of (valued n)) (rows_of h) ≡ false → or_else (react_fault rules false (option_built n) (v ∷ []) h) [] ≡ []
no_fault_once steps h v none gone = rw (none, gone) refl
no_fault_once order h v none gone = rw (none, gone) refl
