-- Names are numbered by their first appearance.
use Rattle.std.proofs.Common.{◌≡◌, ◌||◌, ◌++◌, ◌==◌, ◌≤◌, ◌<◌, ◌+◌, ℕ, zero, suc, Bool, true, false, not, cond, List, [], ◌∷◌, length, map, refl, sym, ap, ◌∙◌, arith, if◌then◌else◌}
use Rattle.std.specs.Prelude.{nat_lt}
use Rattle.std.specs.List.{list_any, range_with_len}
use Rattle.std.proofs.lemmas.Bool.{true≢false, lt-ltb, eqb-false, eq-eqb, ne_eqb, or_parts, or_from, and_from}
use Rattle.std.proofs.lemmas.List.{length-append}
use Rattle.std.proofs.lemmas.List.Folds.{list_any-append}
use Rattle.micro_isa.specs.Formed.{firsts_after, all_below}
use Rattle.soak_gen.specs.Bundles.{place}

pub firsts_append : (seen xs ys : List ℕ) → firsts_after seen (xs ++ ys) ≡ firsts_after (firsts_after seen xs) ys
firsts_append seen [] ys = refl
firsts_append seen (x ∷ xs) ys = firsts_append (if list_any (λ s. s == x) seen then seen else seen ++ x ∷ []) xs ys

abbrev pub holds : List ℕ → ℕ → Bool
holds names name = list_any (λ other. other == name) names

-- the names once this one was noted
abbrev pub noted : List ℕ → ℕ → List ℕ
noted known name = if holds known name then known else known ++ name ∷ []

-- the numbers of as many names
abbrev pub numbers : List ℕ → List ℕ
numbers names = range_with_len 0 (length names)

or_true : (b : Bool) → (b || true) ≡ true
or_true true = refl
or_true false = refl

or_when : (a b : Bool) → (a ≡ false → b ≡ true) → (a || b) ≡ true
or_when true b h = refl
or_when false b h = h refl

holds_more : (known : List ℕ) (a b : ℕ) → holds known a ≡ true → holds (noted known b) a ≡ true
holds_more known a b e =
    let P : Bool → Type 0 = λ t. holds (if t then known else known ++ b ∷ []) a ≡ true in
    elim (holds known b) as P [
      | true ↦ e
      | false ↦ list_any-append (λ other. other == a) known (b ∷ []) ∙ ap (λ t. t || ((b == a) || false)) e
    ]

holds_it : (known : List ℕ) (a : ℕ) → holds (noted known a) a ≡ true
holds_it known a =
    let go : (t : Bool) → holds known a ≡ t → holds (if t then known else known ++ a ∷ []) a ≡ true = λ t. elim t as (λ t. holds known a ≡ t → holds (if t then known else known ++ a ∷ []) a ≡ true) [
      | true ↦ λ e. e
      | false ↦ λ e. list_any-append (λ other. other == a) known (a ∷ []) ∙ ap (λ t. holds known a || (t || false)) (eq-eqb a a refl) ∙ or_true _
    ]
    in go (holds known a) refl

-- names that were noted stay
firsts_hold : (names known : List ℕ) (a : ℕ) → holds known a ≡ true → holds (firsts_after known names) a ≡ true
firsts_hold [] known a e = e
firsts_hold (x ∷ xs) known a e = firsts_hold xs (noted known x) a (holds_more known a x e)

place_below : (names : List ℕ) (a : ℕ) → holds names a ≡ true → place names a < length names
place_below [] a e = absurd (true≢false (sym e))
place_below (x ∷ xs) a e =
    let go : (b : Bool) → (x == a) ≡ b → place (x ∷ xs) a < length (x ∷ xs) = λ b. elim b as (λ b. (x == a) ≡ b → place (x ∷ xs) a < length (x ∷ xs)) [
      | true ↦ λ is. rw is (omega arith)
      | false ↦ λ is. let ih = place_below xs a (sym (ap (λ b. b || holds xs a) is) ∙ e) in rw is (omega (arith, ih))
    ]
    in go (x == a) refl

-- each name has its place below their number
placed_from : (names known order : List ℕ) → ((a : ℕ) → holds (firsts_after known names) a ≡ true → holds order a ≡ true) → all_below (length order) (map (place order) names) ≡ true
placed_from [] known order has = refl
placed_from (x ∷ xs) known order has =
    and_from (nat_lt (place order x) (length order)) (all_below (length order) (map (place order) xs))
    (lt-ltb _ _ (place_below order x (has x (firsts_hold xs (noted known x) x (holds_it known x)))))
    (placed_from xs (noted known x) order has)

pub all_placed : (names : List ℕ) → all_below (length (firsts_after [] names)) (map (place (firsts_after [] names)) names) ≡ true
all_placed names = placed_from names [] (firsts_after [] names) (λ a e. e)

range_holds : (a n k : ℕ) → a ≤ k → k < a + n → holds (range_with_len a n) k ≡ true
range_holds a zero k le lt = absurd (omega arith)
range_holds a (suc n) k le lt = or_when (a == k) (holds (range_with_len (a + 1) n) k) (λ no. range_holds (a + 1) n k (omega (arith, eqb-false a k no)) (omega arith))

range_lacks : (a n k : ℕ) → a + n ≤ k → holds (range_with_len a n) k ≡ false
range_lacks a zero k le = refl
range_lacks a (suc n) k le = or_from (a == k) (holds (range_with_len (a + 1) n) k) (ne_eqb a k (λ (e : a ≡ k). omega arith)) (range_lacks (a + 1) n k (omega arith))

range_more : (a n k : ℕ) → k ≡ a + n → range_with_len a n ++ k ∷ [] ≡ range_with_len a (suc n)
range_more a zero k e = ap (λ x. x ∷ []) (omega arith)
range_more a (suc n) k e = ap (λ l. a ∷ l) (range_more (a + 1) n k (omega arith))

-- places among names that are followed by more

place_step : (b : Bool) (m n : ℕ) → (b ≡ false → m ≡ n) → cond (not b) (1 + m) 0 ≡ cond (not b) (1 + n) 0
place_step true m n h = refl
place_step false m n h = ap (λ k. 1 + k) (h refl)

place_known : (xs ys : List ℕ) (a : ℕ) → holds xs a ≡ true → place (xs ++ ys) a ≡ place xs a
place_known [] ys a e = absurd (true≢false (sym e))
place_known (x ∷ xs) ys a e = place_step (x == a) (place (xs ++ ys) a) (place xs a) (λ no. place_known xs ys a (sym (ap (λ b. b || holds xs a) no) ∙ e))

place_new : (xs : List ℕ) (a : ℕ) → holds xs a ≡ false → place (xs ++ a ∷ []) a ≡ length xs
place_new [] a e = ap (λ b. cond (not b) 1 0) (eq-eqb a a refl)
place_new (x ∷ xs) a e =
    let parts = or_parts (x == a) (holds xs a) e in
    let ih = place_new xs a parts.1 in
    ap (λ b. cond (not b) (1 + place (xs ++ a ∷ []) a) 0) parts.0 ∙ omega (arith, ih)

place_if : (t : Bool) (xs ys : List ℕ) (a : ℕ) → holds xs a ≡ true → place (if t then xs else xs ++ ys) a ≡ place xs a
place_if true xs ys a e = refl
place_if false xs ys a e = place_known xs ys a e

-- the place of each known name in the order is its place among those that are known
abbrev Places : List ℕ → List ℕ → Type 0
Places known order = (a : ℕ) → holds known a ≡ true → place order a ≡ place known a

places_before : (known order : List ℕ) (x : ℕ) → Places (noted known x) order → Places known order
places_before known order x held a e = held a (holds_more known a x e) ∙ place_if (holds known x) known (x ∷ []) a e

places_first : (names known order : List ℕ) → Places (firsts_after known names) order → Places known order
places_first [] known order held = held
places_first (x ∷ xs) known order held = places_before known order x (places_first xs (noted known x) order held)

-- a name that is known adds no number, and a new one adds the next

first_number : (known order : List ℕ) (x : ℕ) → Places (noted known x) order → firsts_after (numbers known) (place order x ∷ []) ≡ numbers (noted known x)
first_number known order x held =
    let k = place order x in
    let Goal : Bool → Type 0 = λ t. k ≡ place (if t then known else known ++ x ∷ []) x → firsts_after (numbers known) (k ∷ []) ≡ numbers (if t then known else known ++ x ∷ []) in
    let go : (t : Bool) → holds known x ≡ t → Goal t = λ t. elim t as (λ t. holds known x ≡ t → Goal t) [
      | true ↦ λ e at.
          let below = place_below known x e in
          ap (λ b. if b then numbers known else numbers known ++ k ∷ []) (range_holds 0 (length known) k (omega arith) (omega (arith, at, below)))
      | false ↦ λ e at.
          let longer : suc (length known) ≡ length (known ++ x ∷ []) = omega (arith, length-append known (x ∷ [])) in
          let next : k ≡ length known = at ∙ place_new known x e in
          ap (λ b. if b then numbers known else numbers known ++ k ∷ []) (range_lacks 0 (length known) k (omega (arith, next)))
          ∙ range_more 0 (length known) k (omega (arith, next))
          ∙ ap (λ n. range_with_len 0 n) longer
    ]
    in go (holds known x) refl (held x (holds_it known x))

numbers_from : (names known order : List ℕ) → Places (firsts_after known names) order → firsts_after (numbers known) (map (place order) names) ≡ numbers (firsts_after known names)
numbers_from [] known order held = refl
numbers_from (x ∷ xs) known order held =
    ap (λ seen. firsts_after seen (map (place order) xs)) (first_number known order x (places_first xs (noted known x) order held))
    ∙ numbers_from xs (noted known x) order held

-- names that are numbered by their first appearance appear in the order of their numbers
pub numbered : (names : List ℕ) → firsts_after [] (map (place (firsts_after [] names)) names) ≡ range_with_len 0 (length (firsts_after [] names))
numbered names = numbers_from names [] (firsts_after [] names) (λ a e. refl)
