-- Laws of the orders by several keys.
use Rattle.std.proofs.Common.{◌≡◌, ℕ, ◌+◌, ◌≤◌, List, [], ◌∷◌, length, refl, inl, inr, arith}
use Rattle.budget.specs.Orders.{ByKey, IsNoGreater}

pub by_key_trans : (a b c : ℕ) (R S T : Type 0) → (R → S → T) → ByKey a b R → ByKey b c S → ByKey a c T
by_key_trans a b c R S T both (inl x) (inl y) = inl (omega arith)
by_key_trans a b c R S T both (inl x) (inr y) = inl (omega arith)
by_key_trans a b c R S T both (inr x) (inl y) = inl (omega arith)
by_key_trans a b c R S T both (inr x) (inr y) = inr (omega arith, both x.1 y.1)

pub by_key_weaker : (a b : ℕ) (R S : Type 0) → (R → S) → ByKey a b R → ByKey a b S
by_key_weaker a b R S on (inl x) = inl x
by_key_weaker a b R S on (inr x) = inr (x.0, on x.1)

-- both sides may be moved by the same number
pub by_key_moved : (a b c d k : ℕ) (R : Type 0) → c ≡ k + a → d ≡ k + b → ByKey a b R → ByKey c d R
by_key_moved a b c d k R e f (inl x) = inl (omega arith)
by_key_moved a b c d k R e f (inr x) = inr (omega arith, x.1)

pub by_key_le : (a b : ℕ) (R : Type 0) → ByKey a b R → a ≤ b
by_key_le a b R (inl x) = omega arith
by_key_le a b R (inr x) = omega arith

pub by_key_antisym : (a b : ℕ) (R S : Type 0) → ByKey a b R → ByKey b a S → (a ≡ b) × (R × S)
by_key_antisym a b R S (inl x) (inl y) = absurd (omega arith)
by_key_antisym a b R S (inl x) (inr y) = absurd (omega arith)
by_key_antisym a b R S (inr x) (inl y) = absurd (omega arith)
by_key_antisym a b R S (inr x) (inr y) = (x.0, (x.1, y.1))

pub no_greater_refl : (xs : List ℕ) → IsNoGreater xs xs
no_greater_refl [] = tt
no_greater_refl (x ∷ xs) = inr (refl, no_greater_refl xs)

pub no_greater_antisym : (xs ys : List ℕ) → length xs ≡ length ys → IsNoGreater xs ys → IsNoGreater ys xs → xs ≡ ys
no_greater_antisym [] [] e a b = refl
no_greater_antisym [] (y ∷ ys) e a b = absurd b
no_greater_antisym (x ∷ xs) [] e a b = absurd a
no_greater_antisym (x ∷ xs) (y ∷ ys) e a b =
    let both = by_key_antisym x y _ _ a b in
    let rest = no_greater_antisym xs ys (omega arith) both.1.0 both.1.1 in
    let head = both.0 in
    cc
