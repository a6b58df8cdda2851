-- Items that are read one behind the other, and tables of which no test is met.
use Rattle.std.proofs.Common.{◌≡◌, ◌<◌, ◌≤◌, ◌^◌, ◌+◌, arith, not, ℕ, zero, suc, Bool, true, false, List, [], ◌∷◌, ◌++◌, length, Option, Some, None, Result, Ok, Err, refl, sym, ap, ◌∙◌, subst, if◌then◌else◌, drop, append_assoc}
use Rattle.std.specs.Prelude.{slice_index}
use Rattle.std.specs.List.{flat_map, AllByRecursion}
use Rattle.std.proofs.lemmas.List.{append-nil, get_or-drop}
use Rattle.std.proofs.lemmas.List.Concat.{flat_map-cons}
use Rattle.byteorder.specs.Endian.{little_bytes, little_number}
use Rattle.micro_isa.proofs.Words.{bytes_back_2, bytes_back_4}
use Rattle.image_load.specs.declared.fault.At.{At}
use Rattle.image_load.specs.Faults.{first_of, or_else, unless, ◌>>=◌}
use Rattle.image_load.specs.Loading.{many_at}

abbrev pub IsBytes : List ℕ → Type 0
IsBytes bytes = (i : ℕ) → slice_index bytes i < 256

pub bytes_drop : (n : ℕ) (bytes : List ℕ) → IsBytes bytes → IsBytes (drop n bytes)
bytes_drop n bytes h i = rw get_or-drop (h (n + i))

-- numbers at the front of bytes

pub front_2 : (bytes : List ℕ) → IsBytes bytes → 2 ≤ length bytes → bytes ≡ little_bytes 2 (little_number 2 bytes) ++ drop 2 bytes
front_2 (a ∷ b ∷ r) is long = sym (ap (λ t. t ++ r) (bytes_back_2 a b r (is 0) (is 1)))
front_2 _ is long = absurd (omega arith)

pub front_4 : (bytes : List ℕ) → IsBytes bytes → 4 ≤ length bytes → (bytes ≡ little_bytes 4 (little_number 4 bytes) ++ drop 4 bytes) × (little_number 4 bytes < 2 ^ 32)
front_4 (a ∷ b ∷ c ∷ d ∷ r) is long = (sym (ap (λ t. t ++ r) (bytes_back_4 a b c d r (is 0) (is 1) (is 2) (is 3))), omega (arith, is 0, is 1, is 2, is 3))
front_4 _ is long = absurd (omega arith)

-- tables

pub not_false : (a : Bool) → not a ≡ false → a ≡ true
not_false true e = refl
not_false false e = absurd (cc)

abbrev pub NoneMet : List (Bool × At) → Type 0
NoneMet [] = Unit {0}
NoneMet (row ∷ rows) = (row.0 ≡ false) × NoneMet rows

none_of : (b : Bool) (found : At) (later : Option At) → (if b then Some found else later) ≡ None → (b ≡ false) × (later ≡ None)
none_of true found later e = absurd (cc)
none_of false found later e = (refl, e)

pub none_met : (rows : List (Bool × At)) → first_of rows ≡ None → NoneMet rows
none_met [] e = tt
none_met (row ∷ rows) e = let both = none_of row.0 row.1 (first_of rows) e in (both.0, none_met rows both.1)

pub met_none : (rows : List (Bool × At)) → NoneMet rows → first_of rows ≡ None
met_none [] e = refl
met_none (row ∷ rows) e = ap (λ b. if b then Some row.1 else first_of rows) e.0 ∙ met_none rows e.1

pub none_else : (first later : Option At) → or_else first later ≡ None → (first ≡ None) × (later ≡ None)
none_else None later e = (refl, e)
none_else (Some found) later e = absurd (cc)

pub else_none : (first later : Option At) → first ≡ None → later ≡ None → or_else first later ≡ None
else_none first later a b = ap (λ o. or_else o later) a ∙ b

pub unless_ok : {A : Type 0} (o : Option At) (read : Result A At) (y : A) → unless o read ≡ Ok y → (o ≡ None) × (read ≡ Ok y)
unless_ok None read y e = (refl, e)
unless_ok (Some found) read y e = absurd (cc)

pub if_ok : {A : Type 0} (b : Bool) (found : At) (read : Result A At) (y : A) → (if b then Err found else read) ≡ Ok y → (b ≡ false) × (read ≡ Ok y)
if_ok true found read y e = absurd (cc)
if_ok false found read y e = (refl, e)

pub bind_ok : {A B : Type 0} (r : Result A At) (f : A → Result B At) (y : B) → (r >>= f) ≡ Ok y → (x : A) × (r ≡ Ok x) × (f x ≡ Ok y)
bind_ok (Ok x) f y e = (x, refl, e)
bind_ok (Err found) f y e = absurd (cc)

abbrev pub done : {A : Type 0} → A → Result A At
done x = Ok x

pub ok_is : {A : Type 0} (x y : A) → done x ≡ done y → x ≡ y
ok_is x y e = cc

-- several items

-- what a reader takes: the item's bytes from the front
pub record Takes {A : Type 0} (spelt : A → List ℕ) (bytes : List ℕ) (x : A × List ℕ) : Type 0 where
  pub parts : bytes ≡ spelt x.0 ++ x.1
  pub rest_fits : IsBytes x.1

pub record TakesMany {A : Type 0} (spelt : A → List ℕ) (fits : A → Type 0) (n : ℕ) (before : List A) (bytes : List ℕ) (x : List A × List ℕ) : Type 0 where
  pub added : List A
  pub all : x.0 ≡ before ++ added
  pub count : length added ≡ n
  pub parts : bytes ≡ flat_map spelt added ++ x.1
  pub rest_fits : IsBytes x.1
  pub fit : AllByRecursion fits added

takes_more : {A : Type 0} (spelt : A → List ℕ) (fits : A → Type 0) (n : ℕ) (before : List A) (bytes rest : List ℕ) (first : A) (x : List A × List ℕ) → bytes ≡ spelt first ++ rest → fits first → TakesMany spelt fits n (before ++ first ∷ []) rest x → TakesMany spelt fits (suc n) before bytes x
takes_more spelt fits n before bytes rest first x parts fit t = record {
  added = first ∷ t.added;
  all = t.all ∙ append_assoc before (first ∷ []) t.added;
  count = ap suc t.count;
  parts = parts ∙ ap (λ r. spelt first ++ r) t.parts ∙ sym (append_assoc (spelt first) (flat_map spelt t.added) x.1) ∙ ap (λ r. r ++ x.1) (sym (flat_map-cons spelt first t.added));
  rest_fits = t.rest_fits;
  fit = (fit, t.fit);
}

pub many_takes : {A : Type 0} (spelt : A → List ℕ) (fits : A → Type 0) (sound : List A → Type 0) (read : List A → List ℕ → Result (A × List ℕ) At)
    → ((before : List A) (bytes : List ℕ) (x : A × List ℕ) → sound before → IsBytes bytes → read before bytes ≡ Ok x → Takes spelt bytes x × fits x.0 × sound (before ++ x.0 ∷ []))
    → (n : ℕ) (before : List A) (bytes : List ℕ) (x : List A × List ℕ) → sound before → IsBytes bytes → many_at read n before bytes ≡ Ok x → TakesMany spelt fits n before bytes x × sound x.0
many_takes spelt fits sound read one zero before bytes x were is e =
    subst (λ y. TakesMany spelt fits 0 before bytes y × sound y.0) (ok_is (before, bytes) x e) (record { added = []; all = sym (append-nil before); count = refl; parts = refl; rest_fits = is; fit = tt }, were)
many_takes spelt fits sound read one (suc n) before bytes x were is e =
    let a = bind_ok (read before bytes) (λ y. many_at read n (before ++ y.0 ∷ []) y.1) x e in
    let t = one before bytes a.0 were is a.1 in
    let more = many_takes spelt fits sound read one n (before ++ a.0.0 ∷ []) a.0.1 x t.2 t.0.rest_fits a.2 in
    (takes_more spelt fits n before bytes a.0.1 a.0.0 x t.0.parts t.1 more.0, more.1)

-- each item fits what stands before it
abbrev pub AllBehind : {A : Type 0} → (List A → A → Type 0) → List A → List A → Type 0
AllBehind fits before [] = Unit {0}
AllBehind fits before (x ∷ xs) = fits before x × AllBehind fits (before ++ x ∷ []) xs

pub many_again : {A : Type 0} (spelt : A → List ℕ) (fits : List A → A → Type 0) (read : List A → List ℕ → Result (A × List ℕ) At)
    → ((before : List A) (x : A) (rest : List ℕ) → fits before x → read before (spelt x ++ rest) ≡ Ok (x, rest))
    → (xs before : List A) (rest : List ℕ) → AllBehind fits before xs → many_at read (length xs) before (flat_map spelt xs ++ rest) ≡ Ok (before ++ xs, rest)
many_again spelt fits read one [] before rest all = ap (λ b. done (b, rest)) (sym (append-nil before))
many_again spelt fits read one (x ∷ xs) before rest all =
    let parts : flat_map spelt (x ∷ xs) ++ rest ≡ spelt x ++ (flat_map spelt xs ++ rest) = ap (λ t. t ++ rest) (flat_map-cons spelt x xs) ∙ append_assoc (spelt x) (flat_map spelt xs) rest in
    let more = λ (r : Result (_ × List ℕ) At). r >>= λ y. many_at read (length xs) (before ++ y.0 ∷ []) y.1 in
    ap (λ t. more (read before t)) parts
    ∙ ap more (one before x (flat_map spelt xs ++ rest) all.0)
    ∙ many_again spelt fits read one xs (before ++ x ∷ []) rest all.1
    ∙ ap (λ b. done (b, rest)) (append_assoc before (x ∷ []) xs)

-- where a fact of the whole list gives what an item asks of those before it
pub all_behind : {A : Type 0} (fits : List A → A → Type 0) (whole : List A → Type 0) → ((before : List A) (x : A) (xs : List A) → whole (before ++ x ∷ xs) → fits before x)
    → (xs before : List A) → whole (before ++ xs) → AllBehind fits before xs
all_behind fits whole one [] before h = tt
all_behind fits whole one (x ∷ xs) before h = (one before x xs h, all_behind fits whole one xs (before ++ x ∷ []) (subst whole (sym (append_assoc before (x ∷ []) xs)) h))

-- a fact that does not look at what stands before
pub all_alone : {A : Type 0} (fits : A → Type 0) (xs before : List A) → AllByRecursion fits xs → AllBehind (λ before x. fits x) before xs
all_alone fits [] before all = tt
all_alone fits (x ∷ xs) before all = (all.0, all_alone fits xs (before ++ x ∷ []) all.1)

pub all_at : {A : Type 0} (fits : A → Type 0) (before : List A) (x : A) (xs : List A) → AllByRecursion fits (before ++ x ∷ xs) → fits x
all_at fits [] x xs all = all.0
all_at fits (y ∷ ys) x xs all = all_at fits ys x xs all.1
