-- Tables of names: who is known, where, and that no name stands twice.
use Rattle.std.proofs.Common.{◌≡◌, ◌||◌, ◌&&◌, ◌++◌, ◌<◌, ◌+◌, ℕ, Bool, true, false, not, List, [], ◌∷◌, length, refl, sym, ap, ◌∙◌, arith, fold, cond, if◌then◌else◌, nat_eq}
use Rattle.std.proofs.lemmas.Bool.{true≢false, lt-ltb, and_parts, and_from, or_parts, or_from, not-true, not_from_false, both_ways, false_from_ne_true, eq-eqb, eqb-true}
use Rattle.std.proofs.lemmas.List.Folds.{list_any-append, list_all-append}
use Rattle.std.proofs.lemmas.Slice.Eq.{bytes_eq-Decides}
use Rattle.std.specs.List.{list_any, list_all, position_or_len}
use Rattle.std.specs.Str.{bytes_eq}
use Rattle.micro_isa.specs.Names.{name_test}
use Rattle.micro_isa.specs.Formed.{is_distinct}
use Rattle.asm_lines.specs.Cutting.{Words}
use Rattle.asm_lines.specs.Tables.{knows, place_of, declare, misnamed}

pub place_below : (p : List ℕ → Bool) (xs : Words) → list_any p xs ≡ true → position_or_len p xs < length xs
place_below p [] e = absurd (true≢false (sym e))
place_below p (x ∷ xs) e =
    let go : (b : Bool) → p x ≡ b → position_or_len p (x ∷ xs) < length (x ∷ xs) = λ b. elim b as (λ b. p x ≡ b → position_or_len p (x ∷ xs) < length (x ∷ xs)) [
      | true ↦ λ is. rw is (omega arith)
      | false ↦ λ is. let ih = place_below p xs (sym (ap (λ b. b || list_any p xs) is) ∙ e) in rw is (omega (arith, ih))
    ]
    in go (p x) refl

-- the place of a known name
pub place_of_below : (names : Words) (name : List ℕ) → knows names name ≡ true → place_of names name < length names
place_of_below names name e =
    let lt = place_below (λ n. bytes_eq name n) names e in
    rw (lt-ltb _ _ lt) lt

pub same_word : (name : List ℕ) → bytes_eq name name ≡ true
same_word name = grind (arith, bytes_eq-Decides)

or_true : (b : Bool) → (b || true) ≡ true
or_true true = refl
or_true false = refl

pub knows_more : (names : Words) (a b : List ℕ) → knows names a ≡ true → knows (declare names b) a ≡ true
knows_more names a b e =
    let P : Bool → Type 0 = λ t. knows (if t then names else names ++ b ∷ []) a ≡ true in
    elim (knows names b) as P [
      | true ↦ e
      | false ↦ list_any-append (λ n. bytes_eq a n) names (b ∷ []) ∙ ap (λ t. t || (bytes_eq a b || false)) e
    ]

pub knows_it : (names : Words) (a : List ℕ) → knows (declare names a) a ≡ true
knows_it names a =
    let go : (t : Bool) → knows names a ≡ t → knows (if t then names else names ++ a ∷ []) a ≡ true = λ t. elim t as (λ t. knows names a ≡ t → knows (if t then names else names ++ a ∷ []) a ≡ true) [
      | true ↦ λ e. e
      | false ↦ λ e. list_any-append (λ n. bytes_eq a n) names (a ∷ []) ∙ ap (λ t. list_any (λ n. bytes_eq a n) names || (t || false)) (same_word a) ∙ or_true _
    ]
    in go (knows names a) refl

pub knows_fold : (words names : Words) (a : List ℕ) → knows names a ≡ true → knows (fold declare names words) a ≡ true
knows_fold [] names a e = e
knows_fold (w ∷ ws) names a e = knows_fold ws (declare names w) a (knows_more names a w e)

-- a name that is new stands at the end
pub declare_new : (names : Words) (name : List ℕ) → knows names name ≡ false → declare names name ≡ names ++ name ∷ []
declare_new names name e = ap (λ b. if b then names else names ++ name ∷ []) e

place_last : (p : List ℕ → Bool) (xs : Words) (y : List ℕ) → list_any p xs ≡ false → p y ≡ true → position_or_len p (xs ++ y ∷ []) ≡ position_or_len p xs
place_last p [] y none is = rw is refl
place_last p (x ∷ xs) y none is = let both = or_parts (p x) (list_any p xs) none in ap (λ k. cond (not (p x)) (1 + k) 0) (place_last p xs y both.1 is)

first_place : (names : Words) (name : List ℕ) → knows names name ≡ true → place_of names name ≡ position_or_len (λ n. bytes_eq name n) names
first_place names name e = rw (lt-ltb _ _ (place_below (λ n. bytes_eq name n) names e)) refl

-- the place at which a name is added, or stands already
pub declared_place : (names : Words) (name : List ℕ) → place_of (declare names name) name ≡ position_or_len (λ n. bytes_eq name n) names
declared_place names name =
    let go : (b : Bool) → knows names name ≡ b → place_of (declare names name) name ≡ position_or_len (λ n. bytes_eq name n) names = elim [
      | true ↦ λ e. ap (λ b. place_of (if b then names else names ++ name ∷ []) name) e ∙ first_place names name e
      | false ↦ λ e.
          first_place (declare names name) name (knows_it names name)
          ∙ ap (position_or_len (λ n. bytes_eq name n)) (declare_new names name e)
          ∙ place_last (λ n. bytes_eq name n) names name e (same_word name)
    ] in go (knows names name) refl

-- no item stands twice

pub distinct_snoc : {A : Type 0} (eq : A → A → Bool) → ((a b : A) → eq a b ≡ false → eq b a ≡ false) → (xs : List A) (y : A) → is_distinct eq xs ≡ true → list_any (eq y) xs ≡ false → is_distinct eq (xs ++ y ∷ []) ≡ true
distinct_snoc eq other [] y were new = refl
distinct_snoc eq other (x ∷ xs) y were new =
    let alone = and_parts (not (list_any (eq x) xs)) (is_distinct eq xs) were in
    let apart = or_parts (eq y x) (list_any (eq y) xs) new in
    let none = list_any-append (eq x) xs (y ∷ []) ∙ or_from (list_any (eq x) xs) (eq x y || false) (not-true (list_any (eq x) xs) alone.0) (or_from (eq x y) false (other y x apart.0) refl) in
    and_from (not (list_any (eq x) (xs ++ y ∷ []))) (is_distinct eq (xs ++ y ∷ [])) (not_from_false (list_any (eq x) (xs ++ y ∷ [])) none) (distinct_snoc eq other xs y alone.1 apart.1)

pub other_word : (a b : List ℕ) → bytes_eq a b ≡ false → bytes_eq b a ≡ false
other_word a b e = false_from_ne_true (bytes_eq b a) (λ same. both_ways (bytes_eq a b) e ((bytes_eq-Decides a b).1 (sym ((bytes_eq-Decides b a).0 same))))

pub other_number : (a b : ℕ) → nat_eq a b ≡ false → nat_eq b a ≡ false
other_number a b e = false_from_ne_true (nat_eq b a) (λ same. both_ways (nat_eq a b) e (eq-eqb a b (sym (eqb-true b a same))))

pub distinct_declare : (names : Words) (w : List ℕ) → is_distinct bytes_eq names ≡ true → is_distinct bytes_eq (declare names w) ≡ true
distinct_declare names w were =
    let go : (t : Bool) → knows names w ≡ t → is_distinct bytes_eq (if t then names else names ++ w ∷ []) ≡ true = λ t. elim t as (λ t. knows names w ≡ t → is_distinct bytes_eq (if t then names else names ++ w ∷ []) ≡ true) [
      | true ↦ λ e. were
      | false ↦ λ e. distinct_snoc bytes_eq other_word names w were e
    ]
    in go (knows names w) refl

pub distinct_fold : (ws names : Words) → is_distinct bytes_eq names ≡ true → is_distinct bytes_eq (fold declare names ws) ≡ true
distinct_fold [] names were = were
distinct_fold (w ∷ ws) names were = distinct_fold ws (declare names w) (distinct_declare names w were)

-- words that are names

pub named_one : (w : List ℕ) → not (name_test w) ≡ false → name_test w ≡ true
named_one w e =
    let go : (b : Bool) → not b ≡ false → b ≡ true = elim [ true ↦ λ n. refl | false ↦ λ n. absurd (true≢false n) ] in
    go (name_test w) e

pub named_declare : (names : Words) (w : List ℕ) → list_all name_test names ≡ true → name_test w ≡ true → list_all name_test (declare names w) ≡ true
named_declare names w were is =
    elim (knows names w) as (λ t. list_all name_test (if t then names else names ++ w ∷ []) ≡ true) [
      | true ↦ were
      | false ↦ list_all-append name_test names (w ∷ []) ∙ and_from (list_all name_test names) (name_test w && true) were (and_from (name_test w) true is refl)
    ]

pub named_fold : (ws names : Words) → list_all name_test names ≡ true → misnamed ws ≡ false → list_all name_test (fold declare names ws) ≡ true
named_fold [] names were none = were
named_fold (w ∷ ws) names were none =
    let parts = or_parts (not (name_test w)) (misnamed ws) none in
    named_fold ws (declare names w) (named_declare names w were (named_one w parts.0)) parts.1
