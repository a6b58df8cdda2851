-- The sources of pairs, as a set.
use Rattle.std.proofs.Common.{◌≡◌, ℕ, zero, suc, ◌<◌, length, List, ◌∷◌, replicate, Bool, true, false, refl, ◌∙◌, ap, arith}
use Rattle.std.specs.Prelude.{slice_index_or, slice_set, ◌==◌, ◌||◌, if◌then◌else◌}
use Rattle.std.proofs.lemmas.List.{get_or-set_same, get_or-set_other}
use Rattle.std.proofs.lemmas.Bool.Decides.{nat_tests}
use Rattle.edge_moves.specs.MoveSteps.{Pair, is_source}

pub none_marked : (n q : ℕ) → slice_index_or (replicate n false) q false ≡ false
none_marked zero q = refl
none_marked (suc n) zero = refl
none_marked (suc n) (suc q) = none_marked n q

pub marked : (set : List Bool) (t q : ℕ) → t < length set → slice_index_or (slice_set set t true) q false ≡ (t == q || slice_index_or set q false)
marked set t q inside = by (t == q) refl
  where
    by : (b : Bool) → (t == q) ≡ b → slice_index_or (slice_set set t true) q false ≡ (b || slice_index_or set q false)
    by true is = grind (arith, nat_tests, get_or-set_same set t true false inside)
    by false is = grind (arith, nat_tests, get_or-set_other set t q true false)

swapped : (a n s : Bool) → ((a || n) || s) ≡ (n || (if a then true else s))
swapped true true s = refl
swapped true false s = refl
swapped false true s = refl
swapped false false s = refl

-- one more pair
pub source_next : (p : Pair) (ps : List Pair) (q : ℕ) (before after : Bool) → after ≡ ((p.0).0 == q || before)
    → (after || is_source ps q) ≡ (before || is_source (p ∷ ps) q)
source_next p ps q before after e = ap (λ b. b || is_source ps q) e ∙ swapped ((p.0).0 == q) before (is_source ps q)
