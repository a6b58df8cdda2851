-- What remains is the same whatever pair outside cycles is taken first.
use Rattle.std.proofs.Common.{◌≡◌, ℕ, zero, suc, ◌+◌, ◌<◌, ◌≤◌, List, [], ◌∷◌, length, Option, Some, None, Bool, true, false, refl, sym, ap, ◌∙◌, arith}
use Rattle.edge_moves.specs.MoveSteps.{Pair, is_source, first_free, without}
use Rattle.edge_moves.specs.ParallelMove.{is_target, AreDistinct}
use Rattle.edge_moves.specs.Tally.{kept, inside, left_at, opens_at, openings}
use Rattle.edge_moves.proofs.Lists.{found, none_free, is_source-without, distinct-without, length-without}
use Rattle.edge_moves.proofs.Rings.{without_none, without-without}
use Rattle.edge_moves.proofs.Outside.{inside-stuck}
use Rattle.edge_moves.proofs.Openings.{openings-none}

-- more turns than pairs change nothing
inside-turns_by : (n m : ℕ) (left : List Pair) → length left ≤ suc n → length left ≤ suc m → AreDistinct left
    → ((ps : List Pair) → length ps ≤ n → length ps ≤ m → AreDistinct ps → inside n ps ≡ inside m ps)
    → (o : Option Pair) → first_free left left ≡ o → inside n (kept left o) ≡ inside m (kept left o)
inside-turns_by n m left le lf d rest None is = inside-stuck n left is ∙ sym (inside-stuck m left is)
inside-turns_by n m left le lf d rest (Some p) is =
    let fewer = length-without (p.1).0 left (found left left p d is).target in
    rest (without (p.1).0 left) (omega (arith, fewer)) (omega (arith, fewer)) (distinct-without (p.1).0 left d)

pub inside-turns : (n m : ℕ) (left : List Pair) → length left ≤ n → length left ≤ m → AreDistinct left → inside n left ≡ inside m left
inside-turns zero m [] le lf d = sym (inside-stuck m [] refl)
inside-turns zero m (p ∷ ps) le lf d = absurd (omega arith)
inside-turns (suc n) zero [] le lf d = inside-stuck (suc n) [] refl
inside-turns (suc n) zero (p ∷ ps) le lf d = absurd (omega arith)
inside-turns (suc n) (suc m) left le lf d = inside-turns_by n m left le lf d (inside-turns n m) (first_free left left) refl

openings-turns_by : (n m : ℕ) (left : List Pair) → length left ≤ suc n → length left ≤ suc m → AreDistinct left
    → ((ps : List Pair) → length ps ≤ n → length ps ≤ m → AreDistinct ps → openings n ps ≡ openings m ps)
    → (o : Option Pair) → first_free left left ≡ o → opens_at left o + openings n (left_at left o) ≡ opens_at left o + openings m (left_at left o)
openings-turns_by n m [] le lf d rest None is = omega (arith, openings-none n, openings-none m)
openings-turns_by n m (p ∷ ps) le lf d rest None is = ap (λ k. 1 + k) (rest ps (omega arith) (omega arith) d.2)
openings-turns_by n m left le lf d rest (Some p) is =
    let fewer = length-without (p.1).0 left (found left left p d is).target in
    ap (λ k. 0 + k) (rest (without (p.1).0 left) (omega (arith, fewer)) (omega (arith, fewer)) (distinct-without (p.1).0 left d))

pub openings-turns : (n m : ℕ) (left : List Pair) → length left ≤ n → length left ≤ m → AreDistinct left → openings n left ≡ openings m left
openings-turns zero m [] le lf d = sym (openings-none m)
openings-turns zero m (p ∷ ps) le lf d = absurd (omega arith)
openings-turns (suc n) zero [] le lf d = openings-none (suc n)
openings-turns (suc n) zero (p ∷ ps) le lf d = absurd (omega arith)
openings-turns (suc n) (suc m) left le lf d = openings-turns_by n m left le lf d (openings-turns n m) (first_free left left) refl

-- a pair whose target is no source may be taken first
abbrev Commutes : ℕ → Type 0
Commutes n = (ps : List Pair) (t : ℕ) → length ps ≤ n → AreDistinct ps → is_source ps t ≡ false → inside n (without t ps) ≡ inside n ps

inside-without_by : (n : ℕ) (left : List Pair) (t : ℕ) → length left ≤ suc n → AreDistinct left → is_source left t ≡ false → is_target left t ≡ true → Commutes n
    → (o : Option Pair) → first_free left left ≡ o → inside (suc n) (without t left) ≡ inside n (kept left o)
inside-without_by n left t le d free to rest None is = let met = none_free left left is t to in absurd (cc)
inside-without_by n left t le d free to rest (Some p) is =
    let u = (p.1).0 in
    let f = found left left p d is in
    let fewer : length (without t left) < length left = length-without t left to in
    let fewer' : length (without u left) < length left = length-without u left f.target in
    inside-turns (suc n) n (without t left) (omega arith) (omega arith) (distinct-without t left d)
    ∙ sym (rest (without t left) u (omega arith) (distinct-without t left d) (is_source-without t u left f.free))
    ∙ ap (inside n) (without-without u t left)
    ∙ rest (without u left) t (omega arith) (distinct-without u left d) (is_source-without u t left free)

pub inside-without : (n : ℕ) → Commutes n
inside-without zero [] t le d free = refl
inside-without zero (p ∷ ps) t le d free = absurd (omega arith)
inside-without (suc n) left t le d free = by n left t le d free (inside-without n) (is_target left t) refl
  where
    by : (n : ℕ) (left : List Pair) (t : ℕ) → length left ≤ suc n → AreDistinct left → is_source left t ≡ false → Commutes n → (b : Bool) → is_target left t ≡ b → inside (suc n) (without t left) ≡ inside (suc n) left
    by n left t le d free rest true to = inside-without_by n left t le d free to rest (first_free left left) refl
    by n left t le d free rest false to = ap (inside (suc n)) (without_none t left to)
