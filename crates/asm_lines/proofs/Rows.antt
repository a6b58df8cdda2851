-- One line further among lines.
use Rattle.std.proofs.Common.{◌≡◌, ◌++◌, ◌<◌, ℕ, suc, ◌+◌, List, [], ◌∷◌, length, take, drop, get_or, refl, sym, ap, ◌∙◌, add-one, fold}
use Rattle.std.proofs.Math.Seq.{take-suc, drop-cons}

pub on : {A : Type 0} (xs : List A) (i : ℕ) (x : A) → i < length xs → x ≡ get_or xs i x → drop i xs ≡ x ∷ drop (i + 1) xs
on xs i x lt e = rw (add-one i) (drop-cons xs i x lt ∙ ap (λ y. y ∷ drop (suc i) xs) (sym e))

pub so_far : {A : Type 0} (xs : List A) (i : ℕ) (x : A) → i < length xs → x ≡ get_or xs i x → take (i + 1) xs ≡ take i xs ++ x ∷ []
so_far xs i x lt e = rw (add-one i) (take-suc xs i x lt ∙ ap (λ y. take i xs ++ y ∷ []) (sym e))

pub fold-snoc : {X Y : Type 0} (f : Y → X → Y) (a : Y) (xs : List X) (x : X) → fold f a (xs ++ x ∷ []) ≡ f (fold f a xs) x
fold-snoc f a [] x = refl
fold-snoc f a (y ∷ xs) x = fold-snoc f (f a y) xs x
