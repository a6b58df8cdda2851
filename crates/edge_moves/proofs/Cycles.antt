-- Once a cycle is opened, each turn moves into the source just dropped, the hole, until none goes there.
use Rattle.std.proofs.Common.{◌≡◌, ◌≢◌, ℕ, List, [], ◌∷◌, Some, None, Bool, true, false, refl, ap, ◌∙◌, arith}
use Rattle.std.specs.Prelude.{◌==◌, if◌then◌else◌}
use Rattle.std.proofs.lemmas.Bool.{eqb-true, eqb-false}
use Rattle.std.proofs.lemmas.Bool.Decides.{nat_tests}
use Rattle.edge_moves.specs.MoveSteps.{Pair, is_source, first_free, without}
use Rattle.edge_moves.specs.ParallelMove.{source_to, is_target, AreDistinct}
use Rattle.edge_moves.proofs.Lists.{source_is, is_source-without}

-- every target but the hole is a source, and the hole is none
pub record Hole (h : ℕ) (left : List Pair) : Type 0 where
  pub free : is_source left h ≡ false
  pub others : (q : ℕ) → is_target left q ≡ true → q ≢ h → is_source left q ≡ true

pub stuck_by : (all ps : List Pair) → ((q : ℕ) → is_target ps q ≡ true → is_source all q ≡ true) → first_free all ps ≡ None
stuck_by all [] h = refl
stuck_by all (p ∷ ps) h =
    let here : is_source all (p.1).0 ≡ true = h (p.1).0 (grind (arith, nat_tests)) in
    let rest : first_free all ps ≡ None = stuck_by all ps (λ q t. h q (grind (arith, nat_tests))) in
    ap (λ b. if b then first_free all ps else Some p) here ∙ rest

-- where nothing goes into the hole the cycle is done
pub done : (h : ℕ) (left : List Pair) → Hole h left → is_target left h ≡ false → first_free left left ≡ None
done h left hole nt = stuck_by left left (λ q t. hole.others q t (λ e. absurd (cc)))

pub into_by : (all ps : List Pair) (h : ℕ) → is_source all h ≡ false → ((q : ℕ) → is_target ps q ≡ true → q ≢ h → is_source all q ≡ true) → is_target ps h ≡ true → (p : Pair) × (first_free all ps ≡ Some p) × ((p.1).0 ≡ h)
into_by all [] h free others t = absurd (cc)
into_by all (p ∷ ps) h free others t = by all p ps h free others t (into_by all ps h free (λ q k. others q (grind (arith, nat_tests)))) ((p.1).0 == h) refl
  where
    by : (all : List Pair) (p : Pair) (ps : List Pair) (h : ℕ) → is_source all h ≡ false → ((q : ℕ) → is_target (p ∷ ps) q ≡ true → q ≢ h → is_source all q ≡ true) → is_target (p ∷ ps) h ≡ true → (is_target ps h ≡ true → (k : Pair) × (first_free all ps ≡ Some k) × ((k.1).0 ≡ h)) → (b : Bool) → ((p.1).0 == h) ≡ b → (k : Pair) × ((if is_source all (p.1).0 then first_free all ps else Some p) ≡ Some k) × ((k.1).0 ≡ h)
    by all p ps h free others t rest true is =
        let e : (p.1).0 ≡ h = eqb-true (p.1).0 h is in
        (p, ap (λ b. if b then first_free all ps else Some p) (ap (is_source all) e ∙ free), e)
    by all p ps h free others t rest false is =
        let here : is_source all (p.1).0 ≡ true = others (p.1).0 (grind (arith, nat_tests)) (eqb-false (p.1).0 h is) in
        let k = rest (grind (arith, nat_tests)) in
        (k.0, ap (λ b. if b then first_free all ps else Some p) here ∙ k.1, k.2)

pub kept_source : (ps : List Pair) (h u q : ℕ) → AreDistinct ps → source_to ps h ≡ Some u → q ≢ u → is_source ps q ≡ true → is_source (without h ps) q ≡ true
kept_source [] h u q d s ne k = absurd (cc)
kept_source (p ∷ ps) h u q d s ne k = grind (arith, nat_tests, kept_source ps h u q, kept_all ps h q, d.1)
  where
    kept_all : (ps : List Pair) (h q : ℕ) → is_target ps h ≡ false → is_source ps q ≡ true → is_source (without h ps) q ≡ true
    kept_all [] h q t k = absurd (cc)
    kept_all (p ∷ ps) h q t k = grind (arith, nat_tests, kept_all ps h q)

pub dropped_source : (ps : List Pair) (h u : ℕ) → AreDistinct ps → source_to ps h ≡ Some u → is_source (without h ps) u ≡ false
dropped_source [] h u d s = absurd (cc)
dropped_source (p ∷ ps) h u d s = grind (arith, nat_tests, dropped_source ps h u, source_is ps h u, is_source-without h u ps, d.0, d.1)

pub was_target : (ps : List Pair) (h q : ℕ) → is_target (without h ps) q ≡ true → (is_target ps q ≡ true) × (q ≢ h)
was_target [] h q t = absurd (cc)
was_target (p ∷ ps) h q t = (grind (arith, nat_tests, was_target ps h q), grind (arith, nat_tests, was_target ps h q))

-- the hole moves to the source just dropped
pub next_hole : (h u : ℕ) (left : List Pair) → AreDistinct left → Hole h left → source_to left h ≡ Some u → Hole u (without h left)
next_hole h u left d hole s = record {
  free = dropped_source left h u d s;
  others = λ q t ne. let w = was_target left h q t in kept_source left h u q d s ne (hole.others q w.0 w.1);
}
