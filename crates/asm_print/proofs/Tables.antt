-- Places of names that are distinct.
use Rattle.std.proofs.Common.{◌≡◌, ◌++◌, ◌<◌, ◌||◌, ℕ, zero, suc, ◌+◌, Bool, true, false, not, List, [], ◌∷◌, Some, None, refl, sym, ap, ◌∙◌, cond, if◌then◌else◌, arith, length, get_or, take, drop, unwrap_or, nat_lt, nat_eq}
use Rattle.std.proofs.lemmas.Bool.Decides.{nat_tests}
use Rattle.std.proofs.lemmas.Bool.{and_parts, and_from, or_parts, or_from, or_right, lt-ltb, not-true, not_from_false}
use Rattle.std.proofs.lemmas.List.{take-append-drop}
use Rattle.std.proofs.lemmas.List.Folds.{list_any-append}
use Rattle.std.proofs.lemmas.Slice.Eq.{bytes_eq-Decides}
use Rattle.std.specs.List.{list_any, position_or_len}
use Rattle.std.specs.Str.{bytes_eq}
use Rattle.micro_isa.specs.Formed.{is_distinct}
use Rattle.asm_lines.specs.Cutting.{Words}
use Rattle.asm_lines.specs.Tables.{knows, place_of, declare}

pub same_word : (name : List ℕ) → bytes_eq name name ≡ true
same_word name = grind (arith, bytes_eq-Decides)

turned : (a b : List ℕ) → bytes_eq a b ≡ false → bytes_eq b a ≡ false
turned a b e = grind (arith, bytes_eq-Decides)

-- what stands later is not among the earlier ones
pub fresh_by : {A : Type 0} (eq : A → A → Bool) → ((a b : A) → eq a b ≡ false → eq b a ≡ false) → (xs : List A) (y : A) (ys : List A) → is_distinct eq (xs ++ y ∷ ys) ≡ true → list_any (eq y) xs ≡ false
fresh_by eq turn [] y ys e = refl
fresh_by eq turn (x ∷ xs) y ys e =
    let a = and_parts (not (list_any (eq x) (xs ++ y ∷ ys))) (is_distinct eq (xs ++ y ∷ ys)) e in
    let b = or_parts (list_any (eq x) xs) (list_any (eq x) (y ∷ ys)) (sym (list_any-append (eq x) xs (y ∷ ys)) ∙ not-true _ a.0) in
    or_from (eq y x) (list_any (eq y) xs) (turn x y (or_parts (eq x y) (list_any (eq x) ys) b.1).0) (fresh_by eq turn xs y ys a.1)

pub fresh : (xs : Words) (y : List ℕ) (ys : Words) → is_distinct bytes_eq (xs ++ y ∷ ys) ≡ true → knows xs y ≡ false
fresh xs y ys e = fresh_by bytes_eq turned xs y ys e

nat_turned : (a b : ℕ) → nat_eq a b ≡ false → nat_eq b a ≡ false
nat_turned a b e = grind (arith, nat_tests)

pub fresh_number : (xs : List ℕ) (y : ℕ) (ys : List ℕ) → is_distinct nat_eq (xs ++ y ∷ ys) ≡ true → list_any (nat_eq y) xs ≡ false
fresh_number xs y ys e = fresh_by nat_eq nat_turned xs y ys e

pub declare_new : (names : Words) (name : List ℕ) → knows names name ≡ false → declare names name ≡ names ++ name ∷ []
declare_new names name e = ap (λ (b : Bool). if b then names else names ++ name ∷ []) e

pub declare_known : (names : Words) (name : List ℕ) → knows names name ≡ true → declare names name ≡ names
declare_known names name e = ap (λ (b : Bool). if b then names else names ++ name ∷ []) e

pub distinct_front : (xs ys : Words) → is_distinct bytes_eq (xs ++ ys) ≡ true → is_distinct bytes_eq xs ≡ true
distinct_front [] ys e = refl
distinct_front (x ∷ xs) ys e =
    let a = and_parts (not (list_any (bytes_eq x) (xs ++ ys))) (is_distinct bytes_eq (xs ++ ys)) e in
    let b = or_parts (list_any (bytes_eq x) xs) (list_any (bytes_eq x) ys) (sym (list_any-append (bytes_eq x) xs ys) ∙ not-true _ a.0) in
    and_from (not (list_any (bytes_eq x) xs)) (is_distinct bytes_eq xs) (not_from_false _ b.0) (distinct_front xs ys a.1)

pub distinct_take : (k : ℕ) (xs : Words) → is_distinct bytes_eq xs ≡ true → is_distinct bytes_eq (take k xs) ≡ true
distinct_take k xs e = distinct_front (take k xs) (drop k xs) (ap (is_distinct bytes_eq) (take-append-drop k xs) ∙ e)

not_later : (x : List ℕ) (xs : Words) (i : ℕ) (d : List ℕ) → i < length xs → list_any (bytes_eq x) xs ≡ false → bytes_eq (get_or xs i d) x ≡ false
not_later x [] i d h e = absurd (omega arith)
not_later x (y ∷ ys) zero d h e = turned x y (or_parts (bytes_eq x y) (list_any (bytes_eq x) ys) e).0
not_later x (y ∷ ys) (suc i) d h e = not_later x ys i d (omega arith) (or_parts (bytes_eq x y) (list_any (bytes_eq x) ys) e).1

place_on : (name x : List ℕ) (xs : Words) (b : Bool) → bytes_eq name x ≡ b → position_or_len (λ n. bytes_eq name n) (x ∷ xs) ≡ cond (not b) (1 + position_or_len (λ n. bytes_eq name n) xs) 0
place_on name x xs b e = ap (λ (b : Bool). cond (not b) (1 + position_or_len (λ n. bytes_eq name n) xs) 0) e

place : (xs : Words) (i : ℕ) (d : List ℕ) → is_distinct bytes_eq xs ≡ true → i < length xs → position_or_len (λ n. bytes_eq (get_or xs i d) n) xs ≡ i
place [] i d e h = absurd (omega arith)
place (x ∷ xs) zero d e h = place_on x x xs true (same_word x)
place (x ∷ xs) (suc i) d e h =
    let a = and_parts (not (list_any (bytes_eq x) xs)) (is_distinct bytes_eq xs) e in
    let ih = place xs i d a.1 (omega arith) in
    place_on (get_or xs i d) x xs false (not_later x xs i d (omega arith) (not-true _ a.0)) ∙ omega (arith, ih)

-- a name's place is where it stands
pub place_is : (xs : Words) (i : ℕ) (d : List ℕ) → is_distinct bytes_eq xs ≡ true → i < length xs → place_of xs (get_or xs i d) ≡ i
place_is xs i d e h =
    ap (λ k. unwrap_or (cond (nat_lt k (length xs)) (Some k) None) 0) (place xs i d e h)
    ∙ ap (λ (b : Bool). unwrap_or (cond b (Some i) None) 0) (lt-ltb i (length xs) h)

pub known_at : (xs : Words) (i : ℕ) (d : List ℕ) → i < length xs → knows xs (get_or xs i d) ≡ true
known_at [] i d h = absurd (omega arith)
known_at (x ∷ xs) zero d h = ap (λ b. b || knows xs x) (same_word x)
known_at (x ∷ xs) (suc i) d h = or_right (bytes_eq (get_or xs i d) x) (knows xs (get_or xs i d)) (known_at xs i d (omega arith))
