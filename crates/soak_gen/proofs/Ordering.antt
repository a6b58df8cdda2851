-- The registers of a context, in the order in which they appear: distinct names, twelve at most.
use Rattle.std.proofs.Common.{◌≡◌, ◌||◌, ◌++◌, ◌==◌, ◌≤◌, ◌<◌, ◌+◌, ℕ, zero, suc, Bool, true, false, not, List, [], ◌∷◌, length, map, refl, sym, ap, ◌∙◌, arith, if◌then◌else◌, nat_eq}
use Rattle.std.specs.Prelude.{nat_lt}
use Rattle.std.specs.Cmp.{nat_eq_equiv}
use Rattle.std.specs.List.{list_any, list_all, IsDistinct, AllByRecursion, range_with_len}
use Rattle.std.specs.Str.{bytes_eq}
use Rattle.std.proofs.lemmas.Bool.{true≢false, ltb-true, eqb-true, eqb-false, and_parts, and_from, or_from}
use Rattle.std.proofs.lemmas.List.Folds.{list_all-append}
use Rattle.std.proofs.lemmas.Map.Keys.{IsDistinct-push}
use Rattle.std.proofs.lemmas.Map.Steps.{length-le_from_distinct_below}
use Rattle.micro_isa.specs.Formed.{firsts_after, all_below, is_distinct}
use Rattle.soak_gen.specs.Drafts.{drafted}
use Rattle.soak_gen.specs.Bundles.{named, places, order, register_name}
use Rattle.soak_gen.proofs.Numbering.{holds, noted}
use Rattle.soak_gen.proofs.Drafting.{shaped}

turned : (xs : List ℕ) (x : ℕ) → list_any (nat_eq x) xs ≡ holds xs x
turned [] x = refl
turned (y ∷ ys) x = ap (λ b. b || list_any (nat_eq x) ys) (nat_eq_equiv.symm x y) ∙ ap (λ b. (y == x) || b) (turned ys x)

distinct_noted : (known : List ℕ) (x : ℕ) → IsDistinct nat_eq known → IsDistinct nat_eq (noted known x)
distinct_noted known x d =
    let go : (t : Bool) → holds known x ≡ t → IsDistinct nat_eq (if t then known else known ++ x ∷ []) = λ t. elim t as (λ t. holds known x ≡ t → IsDistinct nat_eq (if t then known else known ++ x ∷ [])) [
      | true ↦ λ e. d
      | false ↦ λ e. IsDistinct-push nat_eq_equiv known x d (turned known x ∙ e)
    ]
    in go (holds known x) refl

distinct_after : (names known : List ℕ) → IsDistinct nat_eq known → IsDistinct nat_eq (firsts_after known names)
distinct_after [] known d = d
distinct_after (x ∷ xs) known d = distinct_after xs (noted known x) (distinct_noted known x d)

small_noted : (known : List ℕ) (x : ℕ) → all_below 12 known ≡ true → nat_lt x 12 ≡ true → all_below 12 (noted known x) ≡ true
small_noted known x small here =
    elim (holds known x) as (λ t. all_below 12 (if t then known else known ++ x ∷ []) ≡ true) [
      | true ↦ small
      | false ↦ list_all-append (λ y. nat_lt y 12) known (x ∷ []) ∙ and_from (all_below 12 known) (all_below 12 (x ∷ [])) small (and_from (nat_lt x 12) true here refl)
    ]

small_after : (names known : List ℕ) → all_below 12 known ≡ true → all_below 12 names ≡ true → all_below 12 (firsts_after known names) ≡ true
small_after [] known small e = small
small_after (x ∷ xs) known small e =
    let parts = and_parts (nat_lt x 12) (all_below 12 xs) e in
    small_after xs (noted known x) (small_noted known x small parts.0) parts.1

none_distinct : IsDistinct nat_eq []
unfolding IsDistinct
none_distinct = tt

order_distinct : (state : ℕ) → IsDistinct nat_eq (order state)
unfolding order
order_distinct state = distinct_after (named (drafted places state).code) [] none_distinct

order_small : (state : ℕ) → all_below 12 (order state) ≡ true
unfolding order
order_small state = small_after (named (drafted places state).code) [] refl (shaped places state).names.small

held_below : (xs : List ℕ) (q : ℕ) → all_below 12 xs ≡ true → list_any (nat_eq q) xs ≡ true → q < 12
held_below [] q e is = absurd (true≢false (sym is))
held_below (x ∷ xs) q e is =
    let parts = and_parts (nat_lt x 12) (all_below 12 xs) e in
    let go : (b : Bool) → nat_eq q x ≡ b → (b || list_any (nat_eq q) xs) ≡ true → q < 12 = λ b. elim b as (λ b. nat_eq q x ≡ b → (b || list_any (nat_eq q) xs) ≡ true → q < 12) [
      | true ↦ λ same f. omega (arith, eqb-true q x same, ltb-true x 12 parts.0)
      | false ↦ λ other f. held_below xs q parts.1 f
    ]
    in go (nat_eq q x) refl is

pub order_few : (state : ℕ) → length (order state) ≤ 12
order_few state = length-le_from_distinct_below (order state) 12 (order_distinct state) (λ q is. held_below (order state) q (order_small state) is)

-- what passes a test for all numbers of a range passes it for each
each_in : (test : ℕ → Bool) (a n x : ℕ) → list_all test (range_with_len a n) ≡ true → a ≤ x → x < a + n → test x ≡ true
each_in test a zero x e le lt = absurd (omega arith)
each_in test a (suc n) x e le lt =
    let parts = and_parts (test a) (list_all test (range_with_len (a + 1) n)) e in
    let go : (b : Bool) → nat_eq a x ≡ b → test x ≡ true = λ b. elim b as (λ b. nat_eq a x ≡ b → test x ≡ true) [
      | true ↦ λ same. ap test (sym (eqb-true a x same)) ∙ parts.0
      | false ↦ λ other. each_in test (a + 1) n x parts.1 (omega (arith, eqb-false a x other)) (omega arith)
    ]
    in go (nat_eq a x) refl

-- two places have one name only where they are one
abbrev differ : ℕ → ℕ → Bool
differ x y = nat_eq x y || not (bytes_eq (register_name x) (register_name y))

all_differ : list_all (λ x. list_all (differ x) places) places ≡ true
all_differ = refl

not_or : (a b : Bool) → a ≡ false → (a || not b) ≡ true → b ≡ false
not_or true b e h = absurd (true≢false e)
not_or false true e h = absurd (true≢false (sym h))
not_or false false e h = refl

names_differ : (x y : ℕ) → x < 12 → y < 12 → nat_eq x y ≡ false → bytes_eq (register_name x) (register_name y) ≡ false
names_differ x y a b e =
    let row = each_in (λ x. list_all (differ x) places) 0 12 x all_differ (omega arith) (omega arith) in
    not_or (nat_eq x y) (bytes_eq (register_name x) (register_name y)) e (each_in (differ x) 0 12 y row (omega arith) (omega arith))

name_apart : (x : ℕ) (ys : List ℕ) → x < 12 → all_below 12 ys ≡ true → AllByRecursion (λ y. nat_eq x y ≡ false) ys → list_any (bytes_eq (register_name x)) (map register_name ys) ≡ false
name_apart x [] lt small apart = refl
name_apart x (y ∷ ys) lt small apart =
    let parts = and_parts (nat_lt y 12) (all_below 12 ys) small in
    or_from (bytes_eq (register_name x) (register_name y)) (list_any (bytes_eq (register_name x)) (map register_name ys))
    (names_differ x y lt (ltb-true y 12 parts.0) apart.0)
    (name_apart x ys lt parts.1 apart.1)

names_apart : (xs : List ℕ) → IsDistinct nat_eq xs → all_below 12 xs ≡ true → is_distinct bytes_eq (map register_name xs) ≡ true
unfolding IsDistinct
names_apart [] d small = refl
names_apart (x ∷ xs) d small =
    let parts = and_parts (nat_lt x 12) (all_below 12 xs) small in
    and_from (not (list_any (bytes_eq (register_name x)) (map register_name xs))) (is_distinct bytes_eq (map register_name xs))
    (ap not (name_apart x xs (ltb-true x 12 parts.0) parts.1 d.0))
    (names_apart xs d.1 parts.1)

-- the registers of a context have names of their own
pub order_names : (state : ℕ) → is_distinct bytes_eq (map register_name (order state)) ≡ true
order_names state = names_apart (order state) (order_distinct state) (order_small state)
