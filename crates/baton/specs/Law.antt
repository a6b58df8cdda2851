-- The law of the table: word 0 names the holder, word 1 is the length of the history, and the slot has the value.
use Rattle.std.specs.Prelude.{ℕ, ◌≡◌, ◌<◌, ◌≤◌, ◌⊎◌, ◌==◌, true, false, List, [], ◌∷◌, length, slice_index, Option, Some, None}
use Rattle.std.specs.Bool.{MatchBool}
use mathlib.Core.Option.{some}
use mathlib.Core.List.{IsPrefix}
use lib.ListN.{get_elem?}
use Rattle.atomic_table.specs.Table.{State, Me, Step}
use Rattle.baton.specs.declared.view.View.{View}
use Rattle.baton.specs.Views.{Stands, Apart, Once, taken_view, busy_view, posted_view, freed_view, looked_view}

module _ {E O : Type 0} where
  -- a view is of this origin and of this many callers, or it was joined to another
  abbrev pub IsOf : O → ℕ → View E O → Type 0
  IsOf o callers v = (v.origin ≡ None) ⊎ ((v.origin ≡ Some o) × (v.callers ≡ callers))

  -- what each view keeps by itself
  pub record IsSound (o : O) (callers : ℕ) (v : View E O) : Type 0 where
    pub of : IsOf o callers v
    pub few : v.number ≤ callers
    -- that of a note has no entries of its own and holds nothing
    pub note : v.number ≡ 0 → (v.mine ≡ []) × (v.holding ≡ false)
    pub also : IsPrefix v.also v.seen
    pub stands : Stands v.mine v.seen
    pub once : Once v.mine

module _ {T E O : Type 0} where
  -- one holds it, and each other has seen a beginning of what that one has seen
  pub record IsOut (s : State (Option T) (View E O)) : Type 0 where
    pub holder : ℕ
    pub view : View E O
    pub by : get_elem? s.views holder ≡ some view
    pub holds : view.holding ≡ true
    pub number : slice_index s.words 0 ≡ view.number
    pub taken : 0 < view.number
    pub count : slice_index s.words 1 ≡ length view.seen
    pub each : (i : ℕ) (v : View E O) → get_elem? s.views i ≡ some v → ¬ (i ≡ holder) → IsPrefix v.seen view.seen × (v.holding ≡ false)
    pub last : view.ended ≡ true → get_elem? s.homes 0 ≡ some (some None)

module _ {T E O : Type 0} (history : T → List E) (origin : T → O) where
  -- no one holds the value, and each has seen a beginning of its history
  pub record IsHome (o : O) (s : State (Option T) (View E O)) : Type 0 where
    pub value : T
    pub from : origin value ≡ o
    pub free : slice_index s.words 0 ≡ 0
    pub home : get_elem? s.homes 0 ≡ some (some (Some value))
    pub count : slice_index s.words 1 ≡ length (history value)
    pub each : (i : ℕ) (v : View E O) → get_elem? s.views i ≡ some v → IsPrefix v.seen (history value) × (v.holding ≡ false)

  -- what holds between any two steps
  pub record IsLawful (o : O) (callers : ℕ) (s : State (Option T) (View E O)) : Type 0 where
    pub two : length s.words ≡ 2
    pub sound : (i : ℕ) (v : View E O) → get_elem? s.views i ≡ some v → IsSound o callers v
    pub apart : (i j : ℕ) (v w : View E O) → ¬ (i ≡ j) → get_elem? s.views i ≡ some v → get_elem? s.views j ≡ some w → Apart v.mine w.mine
    pub place : IsHome o s ⊎ IsOut s

  -- take: the word was 0, and the seat has the value, where its own entries stand; or another holds it
  abbrev pub Takes : Step (Option T) → Me (Option T) (View E O) → ℕ → Me (Option T) (View E O) → Type 0
  Takes s me found me' = MatchBool (found == 0)
      ((v : T) × (me'.1 ≡ (0, Some v) ∷ me.1) × (me'.0 ≡ taken_view me.0 (history v))
      × IsPrefix me.0.seen (history v) × (me.0.origin ≡ Some (origin v)) × Stands me.0.mine (history v))
      ((found ≤ me.0.callers) × (me'.1 ≡ me.1) × (me'.0 ≡ busy_view me.0 found))

module _ {T E : Type 0} (history : T → List E) where
  -- the history of the value in the slot that is out with the seat
  abbrev pub carried_history : List (ℕ × Option T) → List E → List E
  carried_history [] h = h
  carried_history (x ∷ xs) h = elim x.1 [ None ↦ h | Some v ↦ history v ]

module _ {T E O : Type 0} (history : T → List E) where
  -- post: the seat has seen the history of the value that it carries
  abbrev pub Posts : Step (Option T) → Me (Option T) (View E O) → ℕ → Me (Option T) (View E O) → Type 0
  Posts s me found me' = (me'.1 ≡ me.1) × (me'.0 ≡ posted_view me.0 (carried_history history me.1 me.0.seen))

module _ {T E O : Type 0} where
  -- free: the slot goes back
  abbrev pub Frees : Step (Option T) → Me (Option T) (View E O) → ℕ → Me (Option T) (View E O) → Type 0
  Frees s me found me' = (me'.1 ≡ []) × (me'.0 ≡ freed_view me.0)

  -- look: the length is no less than that of what was seen
  abbrev pub Looks : Step (Option T) → Me (Option T) (View E O) → ℕ → Me (Option T) (View E O) → Type 0
  Looks s me found me' = (me'.1 ≡ me.1) × (me'.0 ≡ looked_view me.0 found) × (length me.0.seen ≤ found)

  -- what the law says of the view itself
  abbrev pub Recalls : Step (Option T) → Me (Option T) (View E O) → ℕ → Me (Option T) (View E O) → Type 0
  Recalls s me found me' = (me'.1 ≡ me.1) × (me'.0 ≡ me.0) × IsPrefix me.0.also me.0.seen × Once me.0.mine

  -- the empty slot goes back for good, and the word stays
  abbrev pub Ends : Step (Option T) → Me (Option T) (View E O) → ℕ → Me (Option T) (View E O) → Type 0
  Ends s me found me' = (me'.1 ≡ []) × (me'.0 ≡ record me.0 { ended = true })
