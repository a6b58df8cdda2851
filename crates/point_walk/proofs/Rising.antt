-- A rising list is told by its elements.
use Rattle.std.proofs.Common.{◌≡◌, ℕ, suc, ◌<◌, List, [], ◌∷◌, length, get_or, Contains, refl, sym, inl, inr, arith}
use Rattle.std.proofs.lemmas.Grind.{get_or_default_zero}
use Rattle.liveness.specs.Sets.{Lists}
use Rattle.plan.proofs.Entries.{here, there, no_member, member_cases}

abbrev Rising : List ℕ → Type 0
Rising xs = (a b : ℕ) → a < b → b < length xs → get_or xs a 0 < get_or xs b 0

-- the first is below the others
first_least : (x : ℕ) (xs : List ℕ) → Rising (x ∷ xs) → (k : ℕ) → Contains xs k → x < k
first_least x xs rising k has =
    let above = rising 0 (suc has.0) (omega arith) (let inside = has.1 in omega arith) in
    let same = get_or_default_zero xs has.0 k has.1 in
    let is = has.2 in
    omega arith

rest_rises : (x : ℕ) (xs : List ℕ) → Rising (x ∷ xs) → Rising xs
rest_rises x xs rising a b less inside = rising (suc a) (suc b) (omega arith) (omega arith)

same_rising : (xs ys : List ℕ) → Rising xs → Rising ys → ((k : ℕ) → Contains xs k → Contains ys k) → ((k : ℕ) → Contains ys k → Contains xs k) → xs ≡ ys
same_rising [] [] r s there_in back = refl
same_rising [] (y ∷ ys) r s there_in back = absurd (no_member y (back y (here y ys)))
same_rising (x ∷ xs) [] r s there_in back = absurd (no_member x (there_in x (here x xs)))
same_rising (x ∷ xs) (y ∷ ys) r s there_in back =
    let head : x ≡ y = elim (member_cases y x ys (there_in x (here x xs))) [
      | inl same ↦ sym same
      | inr later ↦ elim (member_cases x y xs (back y (here y ys))) [
        | inl same ↦ same
        | inr also ↦ let one = first_least y ys s x later in let two = first_least x xs r y also in absurd (omega arith)
      ]
    ] in
    let rest = same_rising xs ys (rest_rises x xs r) (rest_rises y ys s)
    (λ k has. elim (member_cases y k ys (there_in k (there x k xs has))) [
      | inl same ↦ absurd (let less = first_least x xs r k has in omega arith)
      | inr later ↦ later
    ])
    (λ k has. elim (member_cases x k xs (back k (there y k ys has))) [
      | inl same ↦ absurd (let less = first_least y ys s k has in omega arith)
      | inr later ↦ later
    ]) in
    λ j. head j ∷ rest j

pub lists_once : (S : ℕ → Type 0) (xs ys : List ℕ) → Lists S xs → Lists S ys → xs ≡ ys
lists_once S xs ys one two =
    same_rising xs ys one.rising two.rising (λ k has. (two.exact k).1 ((one.exact k).0 has)) (λ k has. (one.exact k).1 ((two.exact k).0 has))
