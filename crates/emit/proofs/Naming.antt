-- Which places the pairs name.
use Rattle.std.proofs.Common.{◌≡◌, ℕ, List, ◌∷◌, Bool, true, false, refl, ◌∙◌, ap}
use Rattle.std.specs.Prelude.{◌==◌, ◌||◌, if◌then◌else◌}
use Rattle.edge_moves.specs.MoveSteps.{Pair, is_source}
use Rattle.edge_moves.specs.ParallelMove.{is_target}

shuffled : (a b n s t : Bool) → ((b || (a || n)) || (s || t)) ≡ (n || ((if a then true else s) || (if b then true else t)))
shuffled true true true s t = refl
shuffled true true false s t = refl
shuffled true false true s t = refl
shuffled true false false s t = refl
shuffled false true true s t = refl
shuffled false true false true t = refl
shuffled false true false false t = refl
shuffled false false true s t = refl
shuffled false false false s t = refl

pub named_next : (p : Pair) (ps : List Pair) (q : ℕ) (before between after : Bool) → between ≡ ((p.0).0 == q || before) → after ≡ ((p.1).0 == q || between) → (after || (is_source ps q || is_target ps q)) ≡ (before || (is_source (p ∷ ps) q || is_target (p ∷ ps) q))
named_next p ps q before between after one two =
    ap (λ b. b || (is_source ps q || is_target ps q)) (two ∙ ap (λ b. (p.1).0 == q || b) one) ∙ shuffled ((p.0).0 == q) ((p.1).0 == q) before (is_source ps q) (is_target ps q)
