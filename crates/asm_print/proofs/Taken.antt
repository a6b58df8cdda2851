-- One item more of a list of which each has a fact.
use Rattle.std.proofs.Common.{◌≡◌, ◌<◌, ℕ, zero, suc, ◌+◌, Bool, true, List, [], ◌∷◌, length, take, get_or, sym, ap, ◌∙◌, arith, add-one, subst}
use Rattle.std.proofs.lemmas.Bool.{and_from}
use Rattle.std.proofs.lemmas.List.Folds.{list_all_more}
use Rattle.std.specs.List.{list_all, AllByRecursion}

more : {X : Type 0} (P : X → Type 0) (xs : List X) (i : ℕ) (x : X) → i < length xs → x ≡ get_or xs i x → P x → AllByRecursion P (take i xs) → AllByRecursion P (take (suc i) xs)
more P [] i x h e p a = absurd (omega arith)
more P (y ∷ ys) zero x h e p a = (subst P e p, tt)
more P (y ∷ ys) (suc i) x h e p a = (a.0, more P ys i x (omega arith) e p a.1)

pub all_more : {X : Type 0} (P : X → Type 0) (xs : List X) (i : ℕ) (x : X) → i < length xs → x ≡ get_or xs i x → P x → AllByRecursion P (take i xs) → AllByRecursion P (take (i + 1) xs)
all_more P xs i x h e p a = subst (λ k. AllByRecursion P (take k xs)) (sym (add-one i)) (more P xs i x h e p a)

pub tests_more : {X : Type 0} (test : X → Bool) (xs : List X) (i : ℕ) (x : X) → i < length xs → x ≡ get_or xs i x → test x ≡ true → list_all test (take i xs) ≡ true → list_all test (take (i + 1) xs) ≡ true
tests_more test xs i x h e p a =
    list_all_more test xs i x h ∙ and_from (list_all test (take i xs)) (test (get_or xs i x)) a (ap test (sym e) ∙ p)

pub all_from_places : (P : ℕ → Type 0) (xs : List ℕ) → ((k : ℕ) → k < length xs → P (get_or xs k 0)) → AllByRecursion P xs
all_from_places P [] h = tt
all_from_places P (x ∷ xs) h = (h 0 (omega arith), all_from_places P xs (λ k l. h (suc k) (omega arith)))
