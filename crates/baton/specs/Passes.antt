-- What clauses say of passes and notes. The first part of a seat's `me` is what it knows, the second has the slots that it has taken out.
use Rattle.std.specs.Prelude.{ℕ, ◌<◌, ◌≤◌, length, slice_index_or, ◌≡◌, Option, Some, None, true, false, List, [], ◌∷◌}
use mathlib.Core.Option.{some}
use mathlib.Core.List.{IsPrefix}
use lib.ListN.{get_elem?}
use Rattle.atomic_table.specs.declared.shared.Seat.{Seat}
use Rattle.atomic_table.specs.declared.shared.Shared.{Shared}
use Rattle.baton.specs.declared.law.Opening.{Opening}
use Rattle.baton.specs.declared.view.View.{View}
use Rattle.baton.specs.Views.{Apart}

module _ {T E O P : Type 0} (origin : T → O) where
  -- the seat is of this table, knows the callers that it was opened with, and what its value began with
  abbrev pub IsOfBaton : Shared (Option T) (View E O) (Opening T) P → Seat (Option T) (View E O) → Type 0
  IsOfBaton shared seat = (seat.table_id ≡ shared.table_id) × (seat.me.0.callers ≡ shared.key.callers) × (seat.me.0.origin ≡ Some (origin shared.key.value.value))

module _ {T E O : Type 0} where
  -- it holds nothing
  abbrev pub IsIdle : Seat (Option T) (View E O) → Type 0
  IsIdle seat = (seat.me.1 ≡ []) × (seat.me.0.holding ≡ false)

  -- it holds the value
  abbrev pub IsHolding : Seat (Option T) (View E O) → Type 0
  IsHolding seat = (seat.me.1 ≡ (0, None) ∷ []) × (seat.me.0.holding ≡ true)

module _ {E O : Type 0} where
  -- all but what was seen is as it was
  abbrev pub Learnt : View E O → View E O → Type 0
  Learnt before after = (after.number ≡ before.number) × (after.holding ≡ before.holding) × (after.mine ≡ before.mine) × (after.reads ≡ before.reads) × (after.looks ≡ before.looks)

  -- what the one has seen and added, the other has seen and added
  pub record Gathers (one all : View E O) : Type 0 where
    pub seen : IsPrefix one.seen all.seen
    pub mine : (k : ℕ) (x : ℕ × E) → get_elem? one.mine k ≡ some x → (q : ℕ) × (get_elem? all.mine q ≡ some x)

-- the passes from the place n on are gathered in one view, and their own places never meet
pub record IsGathered {A E O : Type 0} (view : A → View E O) (passes : List A) (n : ℕ) (all : View E O) : Type 0 where
  pub each : (k : ℕ) (d : A) → n ≤ k → k < length passes → Gathers (view (slice_index_or passes k d)) all
  pub apart : (i j : ℕ) (d : A) → n ≤ i → i < j → j < length passes → Apart (view (slice_index_or passes i d)).mine (view (slice_index_or passes j d)).mine
