-- In a list of labels in the order of their targets, those with one target stand together.
use Rattle.std.proofs.Common.{◌≡◌, ◌<◌, ◌≤◌, ◌==◌, ◌+◌, ◌-◌, ℕ, zero, suc, Bool, true, false, List, [], ◌∷◌, length, map, filter, take, drop, get_or, refl, sym, ap, ◌∙◌, arith, cond, nat_le, ltb, leb}
use Rattle.std.proofs.lemmas.Bool.{and_parts}
use Rattle.std.proofs.lemmas.Bool.Decides.{nat_tests}
use Rattle.std.proofs.lemmas.List.{get_or-drop, length-drop}
use Rattle.micro_isa.specs.Formed.{never_drops}

module _ {X : Type 0} (n : X → ℕ) where
  least : (xs : List X) (m k : ℕ) (d : X) → never_drops m (map n xs) ≡ true → k < length xs → m ≤ n (get_or xs k d)
  least [] m k d s h = absurd (omega arith)
  least (x ∷ xs) m zero d s h = let a = (and_parts (nat_le m (n x)) (never_drops (n x) (map n xs)) s).0 in grind (arith, nat_tests)
  least (x ∷ xs) m (suc k) d s h =
      let a = and_parts (nat_le m (n x)) (never_drops (n x) (map n xs)) s in
      let b : n x ≤ n (get_or xs k d) = least xs (n x) k d a.1 (omega arith) in
      grind (arith, nat_tests, a.0)

  pub in_order : (xs : List X) (m : ℕ) → never_drops m (map n xs) ≡ true → (i j : ℕ) (d : X) → i ≤ j → j < length xs → n (get_or xs i d) ≤ n (get_or xs j d)
  in_order [] m s i j d le h = absurd (omega arith)
  in_order (x ∷ xs) m s zero zero d le h = omega arith
  in_order (x ∷ xs) m s zero (suc j) d le h = least xs (n x) j d (and_parts (nat_le m (n x)) _ s).1 (omega arith)
  in_order (x ∷ xs) m s (suc i) zero d le h = absurd (omega arith)
  in_order (x ∷ xs) m s (suc i) (suc j) d le h = in_order xs (n x) (and_parts (nat_le m (n x)) _ s).1 i j d (omega arith) (omega arith)

filter_step : {X : Type 0} (p : X → Bool) (x : X) (xs : List X) (b : Bool) → p x ≡ b → filter p (x ∷ xs) ≡ cond b (x ∷ filter p xs) (filter p xs)
filter_step p x xs b e = ap (λ b. cond b (x ∷ filter p xs) (filter p xs)) e

none : {X : Type 0} (p : X → Bool) (xs : List X) → ((k : ℕ) (d : X) → k < length xs → p (get_or xs k d) ≡ false) → filter p xs ≡ []
none p [] h = refl
none p (x ∷ xs) h = filter_step p x xs false (h 0 x (omega arith)) ∙ none p xs (λ k d l. h (suc k) d (omega arith))

passed : {X : Type 0} (p : X → Bool) (xs : List X) (i : ℕ) → i ≤ length xs → ((k : ℕ) (d : X) → k < i → p (get_or xs k d) ≡ false) → filter p xs ≡ filter p (drop i xs)
passed p xs zero le h = refl
passed p [] (suc i) le h = refl
passed p (x ∷ xs) (suc i) le h =
    filter_step p x xs false (h 0 x (omega arith)) ∙ passed p xs i (omega arith) (λ k d l. h (suc k) d (omega arith))

kept : {X : Type 0} (p : X → Bool) (xs : List X) (j : ℕ) → j ≤ length xs → ((k : ℕ) (d : X) → k < j → p (get_or xs k d) ≡ true) → ((k : ℕ) (d : X) → j ≤ k → k < length xs → p (get_or xs k d) ≡ false) → filter p xs ≡ take j xs
kept p xs zero le h g = none p xs (λ k d l. g k d (omega arith) l)
kept p [] (suc j) le h g = refl
kept p (x ∷ xs) (suc j) le h g =
    filter_step p x xs true (h 0 x (omega arith))
    ∙ ap (λ t. x ∷ t) (kept p xs j (omega arith) (λ k d l. h (suc k) d (omega arith)) (λ k d l m. g (suc k) d (omega arith) (omega arith)))

below : (m at : ℕ) → ltb m at ≡ true → (m == at) ≡ false
below m at e = grind (arith, nat_tests)

above : (m at : ℕ) → leb m at ≡ false → (m == at) ≡ false
above m at e = grind (arith, nat_tests)

same : (m at : ℕ) → ltb m at ≡ false → leb m at ≡ true → (m == at) ≡ true
same m at e f = grind (arith, nat_tests)

-- what stands between the first that is not below a number and the first that is above it
pub those_at : {X : Type 0} (n : X → ℕ) (xs rest : List X) (at i j : ℕ)
    → rest ≡ drop i xs → i ≤ length xs → j ≤ length rest
    → ((k : ℕ) (d : X) → k < i → ltb (n (get_or xs k d)) at ≡ true)
    → ((k : ℕ) (d : X) → i ≤ k → k < length xs → ltb (n (get_or xs k d)) at ≡ false)
    → ((k : ℕ) (d : X) → k < j → leb (n (get_or rest k d)) at ≡ true)
    → ((k : ℕ) (d : X) → j ≤ k → k < length rest → leb (n (get_or rest k d)) at ≡ false)
    → take j rest ≡ filter (λ x. n x == at) xs
those_at n xs rest at i j e ei ej f g h m =
    let long : length rest ≡ length xs - i = ap length e ∙ length-drop i xs in
    let p = passed (λ x. n x == at) xs i ei (λ k d l. below (n (get_or xs k d)) at (f k d l)) in
    let q = kept (λ x. n x == at) rest j ej
    (λ k d l. same (n (get_or rest k d)) at (ap (λ r. ltb (n (get_or r k d)) at) e ∙ ap (λ y. ltb (n y) at) (get_or-drop i xs k d) ∙ g (i + k) d (omega arith) (omega arith)) (h k d l))
    (λ k d l u. above (n (get_or rest k d)) at (m k d l u)) in
    sym (p ∙ ap (filter (λ x. n x == at)) (sym e) ∙ q)
