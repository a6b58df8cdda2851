-- Counting the registers as they appear tells whether they are numbered by their first appearance.
use Rattle.std.proofs.Common.{◌≡◌, ◌≤◌, ◌<◌, ℕ, zero, suc, ◌+◌, ◌==◌, Bool, true, false, ◌||◌, ◌++◌, List, [], ◌∷◌, length, Some, None, refl, sym, ap, ◌∙◌, arith, get_or, inl, inr, if◌then◌else◌}
use Rattle.std.specs.Prelude.{nat_lt}
use Rattle.std.specs.List.{list_any, range_with_len, fold}
use Rattle.std.specs.Bool.{Decides}
use Rattle.std.proofs.lemmas.Bool.{lt-ltb, le-ltb, eqb-true, eqb-false, eq-eqb, ne_eqb, or_from, both_ways, cases_order}
use Rattle.std.proofs.lemmas.List.{length-append, get_or_append_left, get_or_at}
use Rattle.micro_isa.specs.Formed.{firsts_after}
use Rattle.micro_isa.specs.FormedTests.{appear, is_count}

or_when : (a b : Bool) → (a ≡ false → b ≡ true) → (a || b) ≡ true
or_when true b h = refl
or_when false b h = h refl

pub range_holds : (a n k : ℕ) → a ≤ k → k < a + n → list_any (λ s. s == k) (range_with_len a n) ≡ true
range_holds a zero k le lt = absurd (omega arith)
range_holds a (suc n) k le lt = or_when (a == k) (list_any (λ s. s == k) (range_with_len (a + 1) n)) (λ no. range_holds (a + 1) n k (omega (arith, eqb-false a k no)) (omega arith))

pub range_lacks : (a n k : ℕ) → a + n ≤ k → list_any (λ s. s == k) (range_with_len a n) ≡ false
range_lacks a zero k le = refl
range_lacks a (suc n) k le = or_from (a == k) (list_any (λ s. s == k) (range_with_len (a + 1) n)) (ne_eqb a k (λ (e : a ≡ k). omega arith)) (range_lacks (a + 1) n k (omega arith))

pub range_more : (a n k : ℕ) → k ≡ a + n → range_with_len a n ++ k ∷ [] ≡ range_with_len a (suc n)
range_more a zero k e = ap (λ x. x ∷ []) (omega arith)
range_more a (suc n) k e = ap (λ l. a ∷ l) (range_more (a + 1) n k (omega arith))

range_size : (a n : ℕ) → length (range_with_len a n) ≡ n
range_size a zero = refl
range_size a (suc n) = ap suc (range_size (a + 1) n)

-- the item at a place, and the place's own number past the end
range_at : (a n i : ℕ) → get_or (range_with_len a n) i (a + i) ≡ a + i
range_at a zero i = refl
range_at a (suc n) zero = omega arith
range_at a (suc n) (suc i) = ap (λ d. get_or (range_with_len (a + 1) n) i d) (omega arith) ∙ range_at (a + 1) n i ∙ omega arith

-- the numbers that were seen stay in front
front_stays : (xs seen : List ℕ) (i d : ℕ) → i < length seen → get_or (firsts_after seen xs) i d ≡ get_or seen i d
front_stays [] seen i d lt = refl
front_stays (x ∷ xs) seen i d lt =
    let Goal : Bool → Type 0 = λ t. get_or (firsts_after (if t then seen else seen ++ x ∷ []) xs) i d ≡ get_or seen i d in
    elim (list_any (λ s. s == x) seen) as Goal [
      | true ↦ front_stays xs seen i d lt
      | false ↦ front_stays xs (seen ++ x ∷ []) i d (omega (arith, length-append seen (x ∷ []))) ∙ get_or_append_left seen (x ∷ []) d i lt
    ]

-- no count comes back from none
none_stays : (xs : List ℕ) → fold appear None xs ≡ None
none_stays [] = refl
none_stays (x ∷ xs) = none_stays xs

record Agrees (n k : ℕ) (xs : List ℕ) : Type 0 where
  to : is_count (fold appear (Some n) xs) k ≡ true → firsts_after (range_with_len 0 n) xs ≡ range_with_len 0 k
  from : firsts_after (range_with_len 0 n) xs ≡ range_with_len 0 k → is_count (fold appear (Some n) xs) k ≡ true

-- a number that is too large is at the wrong place
too_large : (n k x : ℕ) (xs : List ℕ) → n < x → firsts_after (range_with_len 0 n ++ x ∷ []) xs ≡ range_with_len 0 k → ⊥
too_large n k x xs lt e =
    let there : get_or (firsts_after (range_with_len 0 n ++ x ∷ []) xs) n n ≡ x =
    front_stays xs (range_with_len 0 n ++ x ∷ []) n n (omega (arith, length-append (range_with_len 0 n) (x ∷ []), range_size 0 n))
    ∙ get_or_at (range_with_len 0 n) x [] n n (range_size 0 n) in
    let same : get_or (range_with_len 0 k) n n ≡ n = ap (λ d. get_or (range_with_len 0 k) n d) (omega arith) ∙ range_at 0 k n ∙ omega arith in
    let both : x ≡ n = sym there ∙ ap (λ l. get_or l n n) e ∙ same in
    omega arith

-- what both become by one number
abbrev counts_to : Bool → Bool → ℕ → ℕ → List ℕ → Bool
counts_to below equal n k xs = is_count (fold appear (if below then Some n else if equal then Some (n + 1) else None) xs) k

abbrev firsts_to : Bool → ℕ → ℕ → List ℕ → List ℕ
firsts_to seen n x xs = firsts_after (if seen then range_with_len 0 n else range_with_len 0 n ++ x ∷ []) xs

moved : (n m k x : ℕ) (xs : List ℕ)
    → counts_to (nat_lt x n) (x == n) n k xs ≡ is_count (fold appear (Some m) xs) k
    → firsts_to (list_any (λ s. s == x) (range_with_len 0 n)) n x xs ≡ firsts_after (range_with_len 0 m) xs
    → Agrees m k xs → Agrees n k (x ∷ xs)
moved n m k x xs counts firsts ih = record { to = λ h. firsts ∙ ih.to (sym counts ∙ h); from = λ e. counts ∙ ih.from (sym firsts ∙ e) }

seen_before : (n k x : ℕ) (xs : List ℕ) → x < n → Agrees n k xs → Agrees n k (x ∷ xs)
seen_before n k x xs lt =
    moved n n k x xs (ap (λ b. counts_to b (x == n) n k xs) (lt-ltb x n lt)) (ap (λ b. firsts_to b n x xs) (range_holds 0 n x (omega arith) (omega arith)))

is_next : (n k x : ℕ) (xs : List ℕ) → x ≡ n → Agrees (n + 1) k xs → Agrees n k (x ∷ xs)
is_next n k x xs e =
    let more : range_with_len 0 n ++ x ∷ [] ≡ range_with_len 0 (n + 1) = range_more 0 n x (omega arith) ∙ ap (λ m. range_with_len 0 m) {x = suc n} {y = n + 1} (omega arith) in
    moved n (n + 1) k x xs
    (ap (λ b. counts_to b (x == n) n k xs) (le-ltb x n (omega arith)) ∙ ap (λ b. counts_to false b n k xs) (eq-eqb x n e))
    (ap (λ b. firsts_to b n x xs) (range_lacks 0 n x (omega arith)) ∙ ap (λ l. firsts_after l xs) more)

is_late : (n k x : ℕ) (xs : List ℕ) → n < x → Agrees n k (x ∷ xs)
is_late n k x xs lt =
    let none : counts_to (nat_lt x n) (x == n) n k xs ≡ false =
    ap (λ b. counts_to b (x == n) n k xs) (le-ltb x n (omega arith))
    ∙ ap (λ b. counts_to false b n k xs) (ne_eqb x n (λ (e : x ≡ n). omega arith))
    ∙ ap (λ o. is_count o k) (none_stays xs) in
    let late : firsts_to (list_any (λ s. s == x) (range_with_len 0 n)) n x xs ≡ firsts_after (range_with_len 0 n ++ x ∷ []) xs =
    ap (λ b. firsts_to b n x xs) (range_lacks 0 n x (omega arith)) in
    record { to = λ h. absurd (both_ways _ none h); from = λ e. absurd (too_large n k x xs lt (sym late ∙ e)) }

agree : (xs : List ℕ) (n k : ℕ) → Agrees n k xs
agree [] n k = record {
  to = λ h. ap (λ m. range_with_len 0 m) (eqb-true n k h);
  from = λ e. eq-eqb n k (sym (range_size 0 n) ∙ ap length e ∙ range_size 0 k);
}
agree (x ∷ xs) n k = elim (cases_order x n) [
  | inl e ↦ is_next n k x xs e (agree xs (n + 1) k)
  | inr apart ↦ elim apart [ inl lt ↦ seen_before n k x xs lt (agree xs n k) | inr lt ↦ is_late n k x xs lt ]
]

-- the count of the registers tells whether they are numbered by their first appearance, and all appear
pub Decides-numbered : (xs : List ℕ) (k : ℕ) → Decides (is_count (fold appear (Some 0) xs) k) (firsts_after [] xs ≡ range_with_len 0 k)
Decides-numbered xs k = ((agree xs 0 k).to, (agree xs 0 k).from)
