-- What passes and notes know, and what each kind of step makes of it.
use Rattle.std.specs.Prelude.{suc, drop, ℕ, ◌≡◌, ◌+◌, ◌++◌, true, false, List, [], ◌∷◌, length, if◌then◌else◌, nat_lt, Some, None}
use mathlib.Core.Option.{some}
use lib.ListN.{get_elem?}
use Rattle.baton.specs.declared.view.View.{View}

module _ {E : Type 0} where
  -- the entries from the place n on, each with its place
  abbrev pub numbered : ℕ → List E → List (ℕ × E)
  numbered n [] = []
  numbered n (e ∷ es) = (n, e) ∷ numbered (suc n) es

  -- each of these entries stands in the history at its place
  abbrev pub Stands : List (ℕ × E) → List E → Type 0
  Stands mine history = (k : ℕ) (x : ℕ × E) → get_elem? mine k ≡ some x → get_elem? history x.0 ≡ some x.1

  -- the places of the one list and of the other never meet
  abbrev pub Apart : List (ℕ × E) → List (ℕ × E) → Type 0
  Apart a b = (j k : ℕ) (x y : ℕ × E) → get_elem? a j ≡ some x → get_elem? b k ≡ some y → ¬ (x.0 ≡ y.0)

  -- no place stands in the list twice
  abbrev pub Once : List (ℕ × E) → Type 0
  Once a = (j k : ℕ) (x y : ℕ × E) → ¬ (j ≡ k) → get_elem? a j ≡ some x → get_elem? a k ≡ some y → ¬ (x.0 ≡ y.0)

  -- what a history has more than was seen, as one's own entries
  abbrev pub added : List E → List E → List (ℕ × E)
  added seen history = numbered (length seen) (drop (length seen) history)

  -- of two histories the longer one
  abbrev pub longer : List E → List E → List E
  longer xs ys = if nat_lt (length xs) (length ys) then ys else xs

  -- and the other one
  abbrev pub shorter : List E → List E → List E
  shorter xs ys = if nat_lt (length xs) (length ys) then xs else ys

module _ {E O : Type 0} where
  -- a pass of this number at the opening
  abbrev pub opened_view : ℕ → ℕ → List E → O → View E O
  opened_view number callers h o = record { number = number; callers = callers; holding = false; seen = h; mine = []; also = []; origin = Some o; reads = []; looks = []; ended = false }

  -- what is left of a view that was joined to another
  abbrev pub spent_view : View E O
  spent_view = record { number = 0; callers = 0; holding = false; seen = []; mine = []; also = []; origin = None; reads = []; looks = []; ended = false }

  -- after a take, where the value has this history
  abbrev pub taken_view : View E O → List E → View E O
  taken_view v h = record v { holding = true; seen = h; reads = v.reads ++ 0 ∷ [] }

  -- after a take that found this number
  abbrev pub busy_view : View E O → ℕ → View E O
  busy_view v holder = record v { reads = v.reads ++ holder ∷ [] }

  -- after a post of this history: what it has more than was seen is the pass's own
  abbrev pub posted_view : View E O → List E → View E O
  posted_view v h = record v { seen = h; mine = v.mine ++ added v.seen h }

  -- after the value was given back
  abbrev pub freed_view : View E O → View E O
  freed_view v = record v { holding = false }

  -- after a look that read this length
  abbrev pub looked_view : View E O → ℕ → View E O
  looked_view v n = record v { looks = v.looks ++ n ∷ [] }

  -- a note of what a pass has seen
  abbrev pub note_of : View E O → View E O
  note_of v = record { number = 0; callers = v.callers; holding = false; seen = v.seen; mine = []; also = []; origin = v.origin; reads = []; looks = []; ended = false }

  -- the pass of the next number
  abbrev pub dealt_of : View E O → View E O
  dealt_of v = record { number = v.number + 1; callers = v.callers; holding = false; seen = v.seen; mine = []; also = []; origin = v.origin; reads = []; looks = []; ended = false }

  -- the longer history stays, the other is kept beside it, and the own entries of both are the view's own
  abbrev pub both_of : View E O → View E O → View E O
  both_of v w = record v { seen = longer v.seen w.seen; also = shorter v.seen w.seen; mine = v.mine ++ w.mine }
