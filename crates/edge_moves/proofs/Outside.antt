-- The turns before the first cycle is opened: what they take are the pairs outside cycles.
use Rattle.std.proofs.Common.{◌≡◌, ℕ, zero, suc, ◌+◌, ◌≤◌, List, [], ◌∷◌, ◌++◌, length, Option, Some, None, true, refl, sym, ap, ◌∙◌, subst, arith}
use Rattle.std.specs.Prelude.{◌==◌, if◌then◌else◌}
use Rattle.std.proofs.lemmas.Bool.Decides.{nat_tests}
use Rattle.edge_moves.specs.MoveSteps.{Pair, first_free, without, turn_at, steps_from}
use Rattle.edge_moves.specs.ParallelMove.{AreDistinct}
use Rattle.edge_moves.specs.Costs.{Unwinds, SamePairs}
use Rattle.edge_moves.specs.Tally.{taken, kept, outside, inside, left_at, opens_at, openings}
use Rattle.edge_moves.proofs.Lists.{found, source_to-without, distinct-without, length-without}
use Rattle.edge_moves.specs.Remaining.{Remains}
use Rattle.edge_moves.proofs.Parallel.{remains-without}
use Rattle.edge_moves.proofs.Rings.{length-without-one, is_source-split}

pub outside-stuck : (n : ℕ) (left : List Pair) → first_free left left ≡ None → outside n left ≡ []
outside-stuck zero left stuck = refl
outside-stuck (suc n) left stuck = ap (λ o. taken o ++ outside n (kept left o)) stuck ∙ outside-stuck n left stuck

pub inside-stuck : (n : ℕ) (left : List Pair) → first_free left left ≡ None → inside n left ≡ left
inside-stuck zero left stuck = refl
inside-stuck (suc n) left stuck = ap (λ o. inside n (kept left o)) stuck ∙ inside-stuck n left stuck

same_by : (left : List Pair) (xs : List Pair) → AreDistinct left → (o : Option Pair) → first_free left left ≡ o → SamePairs xs (kept left o) → SamePairs (taken o ++ xs) left
same_by left xs d None is s = s
same_by left xs d (Some p) is s =
    let f = found left left p d is in
    record {
      number = let one = length-without-one (p.1).0 left d f.target in omega (arith, one, s.number);
      to = λ q. grind (arith, nat_tests, s.to q, source_to-without (p.1).0 q left, f.source);
      sources = λ q. ap (λ b. if (p.0).0 == q then true else b) (s.sources q) ∙ sym (is_source-split left (p.1).0 (p.0).0 q d f.source);
    }

distinct_kept : (left : List Pair) → AreDistinct left → (o : Option Pair) → AreDistinct (kept left o)
distinct_kept left d None = d
distinct_kept left d (Some p) = distinct-without (p.1).0 left d

append_one : (o : Option Pair) (xs ys : List Pair) → taken o ++ (xs ++ ys) ≡ (taken o ++ xs) ++ ys
append_one None xs ys = refl
append_one (Some p) xs ys = refl

pub same_outside : (n : ℕ) (left xs : List Pair) → AreDistinct left → SamePairs xs (inside n left) → SamePairs (outside n left ++ xs) left
same_outside zero left xs d s = s
same_outside (suc n) left xs d s =
    let o = first_free left left in
    let ih = same_outside n (kept left o) xs (distinct_kept left d o) s in
    subst (λ k. SamePairs k left) (append_one o (outside n (kept left o)) xs) (same_by left (outside n (kept left o) ++ xs) d o refl ih)

unwinds_by : (left xs ys : List Pair) → AreDistinct left → (o : Option Pair) → first_free left left ≡ o → SamePairs (taken o ++ (xs ++ ys)) left → Unwinds xs ys → Unwinds (taken o ++ xs) ys
unwinds_by left xs ys d None is s u = u
unwinds_by left xs ys d (Some p) is s u = (s.sources (p.1).0 ∙ (found left left p d is).free, u)

pub unwinds : (n : ℕ) (left xs : List Pair) → AreDistinct left → SamePairs xs (inside n left) → Unwinds (outside n left) xs
unwinds zero left xs d s = tt
unwinds (suc n) left xs d s =
    let o = first_free left left in
    let later = same_outside n (kept left o) xs (distinct_kept left d o) s in
    unwinds_by left (outside n (kept left o)) xs d o refl (same_by left (outside n (kept left o) ++ xs) d o refl later) (unwinds n (kept left o) xs (distinct_kept left d o) s)

-- where the turns suffice what remains has no target that is no source
pub record Settles (n : ℕ) (left : List Pair) : Type 0 where
  pub stuck : first_free (inside n left) (inside n left) ≡ None
  pub remains : Remains None (inside n left)

settles_by : (n : ℕ) (left : List Pair) → length left ≤ suc n → Remains None left → ((ps : List Pair) → length ps ≤ n → Remains None ps → Settles n ps) → (o : Option Pair) → first_free left left ≡ o → (first_free (inside n (kept left o)) (inside n (kept left o)) ≡ None) × Remains None (inside n (kept left o))
settles_by n left le r rest None is = let e = sym (inside-stuck n left is) in (subst (λ k. first_free k k ≡ None) e is, subst (Remains None) e r)
settles_by n left le r rest (Some p) is =
    let fewer = length-without (p.1).0 left (found left left p r.distinct is).target in
    let s = rest (without (p.1).0 left) (omega (arith, fewer)) (remains-without None (p.1).0 left r) in
    (s.stuck, s.remains)

pub settles : (n : ℕ) (left : List Pair) → length left ≤ n → Remains None left → Settles n left
settles zero [] le r = record { stuck = refl; remains = r }
settles zero (p ∷ ps) le r = absurd (omega arith)
settles (suc n) left le r = let s = settles_by n left le r (settles n) (first_free left left) refl in record { stuck = s.0; remains = s.1 }

-- the other turns come after these, with as many turns as suffice
pub record Later (n : ℕ) (left : List Pair) : Type 0 where
  pub turns : ℕ
  pub suffice : length (inside n left) ≤ turns
  pub steps : length (steps_from None n left) ≡ length (outside n left) + length (steps_from None turns (inside n left))
  pub opened : openings n left ≡ openings turns (inside n left)

-- the same, at the pair that a turn finds
record LaterAt (n : ℕ) (left : List Pair) (o : Option Pair) : Type 0 where
  turns : ℕ
  suffice : length (inside n (kept left o)) ≤ turns
  steps : length ((turn_at None left o).steps ++ steps_from None n (turn_at None left o).left) ≡ length (taken o ++ outside n (kept left o)) + length (steps_from None turns (inside n (kept left o)))
  opened : opens_at left o + openings n (left_at left o) ≡ openings turns (inside n (kept left o))

later_by : (n : ℕ) (left : List Pair) → length left ≤ suc n → AreDistinct left → ((ps : List Pair) → length ps ≤ n → AreDistinct ps → Later n ps) → (o : Option Pair) → first_free left left ≡ o → LaterAt n left o
later_by n left le d rest None is =
    let out : outside n left ≡ [] = outside-stuck n left is in
    let ins : left ≡ inside n left = sym (inside-stuck n left is) in
    let none = ap length out in
    record {
      turns = suc n;
      suffice = subst (λ k. length k ≤ suc n) ins le;
      steps = ap (λ o. length ((turn_at None left o).steps ++ steps_from None n (turn_at None left o).left)) (sym is) ∙ ap (λ k. length (steps_from None (suc n) k)) ins ∙ (let l : length (steps_from None (suc n) (inside n left)) ≡ length (outside n left) + length (steps_from None (suc n) (inside n left)) = omega (arith, none) in l);
      opened = ap (λ o. opens_at left o + openings n (left_at left o)) (sym is) ∙ ap (openings (suc n)) ins;
    }
later_by n left le d rest (Some p) is =
    let fewer = length-without (p.1).0 left (found left left p d is).target in
    let l = rest (without (p.1).0 left) (omega (arith, fewer)) (distinct-without (p.1).0 left d) in
    record { turns = l.turns; suffice = l.suffice; steps = omega (arith, l.steps); opened = omega (arith, l.opened) }

pub later : (n : ℕ) (left : List Pair) → length left ≤ n → AreDistinct left → Later n left
later zero left le d = record { turns = zero; suffice = le; steps = omega arith; opened = refl }
later (suc n) left le d =
    let l = later_by n left le d (later n) (first_free left left) refl in
    record { turns = l.turns; suffice = l.suffice; steps = l.steps; opened = l.opened }
