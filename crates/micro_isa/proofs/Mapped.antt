-- Tests over the values that a list's items give.
use Rattle.std.proofs.Common.{◌≡◌, zero, suc, Bool, true, ◌||◌, ◌&&◌, List, [], ◌∷◌, map, refl, ap, subst}
use Rattle.std.specs.List.{list_any, list_all}
use Rattle.std.proofs.lemmas.Bool.{and_parts, and_from}
use Rattle.std.specs.Bool.{Decides}
use Rattle.std.proofs.lemmas.Option.{same_Some}
use Rattle.micro_isa.specs.Formed.{Each}

pub all_mapped : {A B : Type 0} (test : B → Bool) (f : A → B) (xs : List A) → list_all (λ x. test (f x)) xs ≡ list_all test (map f xs)
all_mapped test f [] = refl
all_mapped test f (x ∷ xs) = ap (λ b. test (f x) && b) (all_mapped test f xs)

pub any_mapped : {A B : Type 0} (test : B → Bool) (f : A → B) (xs : List A) → list_any (λ x. test (f x)) xs ≡ list_any test (map f xs)
any_mapped test f [] = refl
any_mapped test f (x ∷ xs) = ap (λ b. test (f x) || b) (any_mapped test f xs)

-- each item passes a test where all do
pub each_from_all : {A : Type 0} (test : A → Bool) (xs : List A) → list_all test xs ≡ true → Each xs (λ a. test a ≡ true)
each_from_all test [] h i a e = absurd (cc)
each_from_all test (x ∷ xs) h zero a e = subst (λ k. test k ≡ true) (same_Some x a e) (and_parts (test x) (list_all test xs) h).0
each_from_all test (x ∷ xs) h (suc i) a e = each_from_all test xs (and_parts (test x) (list_all test xs) h).1 i a e

pub all_from_each : {A : Type 0} (test : A → Bool) (xs : List A) → Each xs (λ a. test a ≡ true) → list_all test xs ≡ true
all_from_each test [] h = refl
all_from_each test (x ∷ xs) h = and_from (test x) (list_all test xs) (h 0 x refl) (all_from_each test xs (λ i a e. h (suc i) a e))

-- all pass a test that decides a fact where each has the fact
pub Decides-each : {A : Type 0} (test : A → Bool) (P : A → Type 0) → ((a : A) → Decides (test a) (P a)) → (xs : List A) → Decides (list_all test xs) (Each xs P)
Decides-each test P decides xs = (λ h i a e. (decides a).0 (each_from_all test xs h i a e), λ h. all_from_each test xs (λ i a e. (decides a).1 (h i a e)))
