-- Registers that are numbered by their first appearance, and their names as a text declares them.
use Rattle.std.proofs.Common.{◌≡◌, ◌++◌, ◌<◌, ◌≤◌, ◌==◌, ℕ, ◌+◌, suc, Bool, true, false, List, [], ◌∷◌, refl, sym, ap, ◌∙◌, arith, length, map, fold, take, drop, get_or, if◌then◌else◌, nat_lt, subst, add-one}
use Rattle.std.proofs.lemmas.Bool.{and_parts, eqb-true, eqb-false, eq-eqb, ne_eqb, ltb-true, ltb-false}
use Rattle.std.proofs.lemmas.List.{take-append-drop, length-append, length-take, get_or-take}
use Rattle.std.proofs.lemmas.List.FromFn.{length-range_with_len, get_or-range_with_len}
use Rattle.std.proofs.lemmas.Option.{unwrap_or-slice_get}
use Rattle.std.proofs.Math.Seq.{take-suc, drop-cons, get_or-append_seam}
use Rattle.std.proofs.Math.ListN.{get_or-append}
use Rattle.std.specs.List.{list_any, range_with_len}
use Rattle.std.specs.Str.{bytes_eq}
use Rattle.micro_isa.specs.Formed.{firsts_after, all_below, is_distinct}
use Rattle.micro_isa.proofs.Appearing.{range_holds, range_lacks, range_more}
use Rattle.asm_lines.specs.Cutting.{Words}
use Rattle.asm_lines.specs.Tables.{knows, place_of, declare}
use Rattle.asm_print.specs.Canonical.{name_at}
use Rattle.asm_print.proofs.Tables.{fresh, declare_new, declare_known, distinct_take, place_is, known_at}

-- how many numbers are known after one more, and after several
abbrev pub next : ℕ → ℕ → ℕ
next k r = if r == k then k + 1 else k

abbrev pub grown : ℕ → List ℕ → ℕ
grown k [] = k
grown k (r ∷ rs) = grown (next k r) rs

-- each number is known, or the next one
abbrev pub InTurn : ℕ → List ℕ → Type 0
InTurn k [] = Unit {0}
InTurn k (r ∷ rs) = (r ≤ k) × InTurn (next k r) rs

pub grown-append : (k : ℕ) (xs ys : List ℕ) → grown k (xs ++ ys) ≡ grown (grown k xs) ys
grown-append k [] ys = refl
grown-append k (x ∷ xs) ys = grown-append (next k x) xs ys

pub turn_parts : (k : ℕ) (xs ys : List ℕ) → InTurn k (xs ++ ys) → InTurn k xs × InTurn (grown k xs) ys
turn_parts k [] ys t = (tt, t)
turn_parts k (x ∷ xs) ys t = let a = turn_parts (next k x) xs ys t.1 in ((t.0, a.0), a.1)

next_at : (k r : ℕ) (b : Bool) → (r == k) ≡ b → next k r ≡ (if b then k + 1 else k)
next_at k r b e = ap (λ (b : Bool). if b then k + 1 else k) e

next_above : (k r : ℕ) → k ≤ next k r
next_above k r = go (r == k) refl
  where
    go : (b : Bool) → (r == k) ≡ b → k ≤ next k r
    go true e = omega (arith, next_at k r true e)
    go false e = omega (arith, next_at k r false e)

next_past : (k r : ℕ) → r ≤ k → r < next k r
next_past k r h = go (r == k) refl
  where
    go : (b : Bool) → (r == k) ≡ b → r < next k r
    go true e = omega (arith, next_at k r true e)
    go false e = let d = eqb-false r k e in omega (arith, next_at k r false e, lemma d)
      where
        lemma : (r ≡ k → ⊥) → r < k
        lemma d = omega (arith, d)

next_within : (k r n : ℕ) → k ≤ n → r < n → next k r ≤ n
next_within k r n h l = go (r == k) refl
  where
    go : (b : Bool) → (r == k) ≡ b → next k r ≤ n
    go true e = omega (arith, next_at k r true e, eqb-true r k e)
    go false e = omega (arith, next_at k r false e)

pub grown_above : (k : ℕ) (rs : List ℕ) → k ≤ grown k rs
grown_above k [] = omega arith
grown_above k (r ∷ rs) = omega (arith, next_above k r, grown_above (next k r) rs)

pub grown_within : (k : ℕ) (rs : List ℕ) (n : ℕ) → k ≤ n → all_below n rs ≡ true → grown k rs ≤ n
grown_within k [] n h a = h
grown_within k (r ∷ rs) n h a =
    let b = and_parts (nat_lt r n) (all_below n rs) a in
    grown_within (next k r) rs n (next_within k r n h (ltb-true r n b.0)) b.1

-- all numbers are known in the end
abbrev pub AllKnown : ℕ → List ℕ → Type 0
AllKnown k [] = Unit {0}
AllKnown k (r ∷ rs) = (r < k) × AllKnown k rs

known_more : (k m : ℕ) (rs : List ℕ) → k ≤ m → AllKnown k rs → AllKnown m rs
known_more k m [] h a = tt
known_more k m (r ∷ rs) h a = (omega (arith, a.0), known_more k m rs h a.1)

pub known_all : (k : ℕ) (rs : List ℕ) → InTurn k rs → AllKnown (grown k rs) rs
known_all k [] t = tt
known_all k (r ∷ rs) t = (omega (arith, next_past k r t.0, grown_above (next k r) rs), known_all (next k r) rs t.1)

-- ---- numbers that are the first appearances in order

firsts_on : (seen : List ℕ) (x : ℕ) (xs : List ℕ) (b : Bool) → list_any (λ s. s == x) seen ≡ b → firsts_after seen (x ∷ xs) ≡ firsts_after (if b then seen else seen ++ x ∷ []) xs
firsts_on seen x xs b e = ap (λ (b : Bool). firsts_after (if b then seen else seen ++ x ∷ []) xs) e

record Begins (seen all : List ℕ) : Type 0 where
  long : length seen ≤ length all
  same : (i : ℕ) → i < length seen → get_or all i 0 ≡ get_or seen i 0

begins : (seen xs : List ℕ) → Begins seen (firsts_after seen xs)
begins seen [] = record { long = omega arith; same = λ i h. refl }
begins seen (x ∷ xs) = go (begins seen xs) (begins (seen ++ x ∷ []) xs) (list_any (λ s. s == x) seen) refl
  where
    go : Begins seen (firsts_after seen xs) → Begins (seen ++ x ∷ []) (firsts_after (seen ++ x ∷ []) xs) → (b : Bool) → list_any (λ s. s == x) seen ≡ b → Begins seen (firsts_after seen (x ∷ xs))
    go old a true e = subst (Begins seen) (sym (firsts_on seen x xs true e)) old
    go old a false e =
        let l = length-append seen (x ∷ []) in
        subst (Begins seen) (sym (firsts_on seen x xs false e))
        (record { long = omega (arith, a.long, l); same = λ i h. a.same i (omega (arith, l)) ∙ get_or-append seen (x ∷ []) 0 i h })

pub record Turns (k : ℕ) (rs : List ℕ) (n : ℕ) : Type 0 where
  pub turn : InTurn k rs
  pub grows : grown k rs ≡ n

turns_on : (k r : ℕ) (rs : List ℕ) (n m : ℕ) → r ≤ k → next k r ≡ m → Turns m rs n → Turns k (r ∷ rs) n
turns_on k r rs n m h e t = record { turn = (h, subst (λ j. InTurn j rs) (sym e) t.turn); grows = ap (λ j. grown j rs) e ∙ t.grows }

pub in_turn : (k : ℕ) (rs : List ℕ) (n : ℕ) → firsts_after (range_with_len 0 k) rs ≡ range_with_len 0 n → Turns k rs n
in_turn k [] n e = record { turn = tt; grows = sym (length-range_with_len 0 k) ∙ ap length e ∙ length-range_with_len 0 n }
in_turn k (r ∷ rs) n e = go (λ m f. in_turn m rs n f) (nat_lt r k) refl
  where
    long : length (range_with_len 0 k) ≡ k
    long = length-range_with_len 0 k

    new : list_any (λ s. s == r) (range_with_len 0 k) ≡ false → r ≡ k
    new lacks =
        let f : firsts_after (range_with_len 0 k ++ r ∷ []) rs ≡ range_with_len 0 n = sym (firsts_on (range_with_len 0 k) r rs false lacks) ∙ e in
        let b = begins (range_with_len 0 k ++ r ∷ []) rs in
        let l = length-append (range_with_len 0 k) (r ∷ []) in
        let within : k < n = omega (arith, long, b.long, l, ap length f, length-range_with_len 0 n) in
        let at : get_or (range_with_len 0 k ++ r ∷ []) k 0 ≡ r = ap (λ i. get_or (range_with_len 0 k ++ r ∷ []) i 0) (sym long) ∙ get_or-append_seam (range_with_len 0 k) r [] 0 in
        let at_k : get_or (range_with_len 0 n) k 0 ≡ k = omega (arith, get_or-range_with_len 0 n k 0 within) in
        sym at ∙ sym (b.same k (omega (arith, long, l))) ∙ ap (λ t. get_or t k 0) f ∙ at_k

    go : ((m : ℕ) → firsts_after (range_with_len 0 m) rs ≡ range_with_len 0 n → Turns m rs n) → (b : Bool) → nat_lt r k ≡ b → Turns k (r ∷ rs) n
    go ih true h =
        let l = ltb-true r k h in
        turns_on k r rs n k (omega arith) (next_at k r false (ne_eqb r k (λ (x : r ≡ k). omega arith)))
        (ih k (sym (firsts_on (range_with_len 0 k) r rs true (range_holds 0 k r (omega arith) (omega arith))) ∙ e))
    go ih false h =
        let lacks = range_lacks 0 k r (omega (arith, ltb-false r k h)) in
        let same = new lacks in
        turns_on k r rs n (k + 1) (omega arith) (next_at k r true (eq-eqb r k same))
        (ih (k + 1) (ap (λ t. firsts_after t rs) (sym (ap (λ x. range_with_len 0 k ++ x ∷ []) same ∙ range_more 0 k k (omega arith) ∙ ap (range_with_len 0) (sym (add-one k)))) ∙ sym (firsts_on (range_with_len 0 k) r rs false lacks) ∙ e))

-- ---- names of numbers in turn

pub name_is : (names : Words) (r : ℕ) → name_at names r ≡ get_or names r []
name_is names r = unwrap_or-slice_get names r []

length_front : (names : Words) (k : ℕ) → k ≤ length names → length (take k names) ≡ k
length_front names k h = omega (arith, length-take k names)

in_front : (names : Words) (k r : ℕ) → r < k → k ≤ length names → get_or (take k names) r [] ≡ name_at names r
in_front names k r h l = get_or-take k names r [] h ∙ sym (name_is names r)

pub known_place : (names : Words) (k r : ℕ) → is_distinct bytes_eq names ≡ true → r < k → k ≤ length names → place_of (take k names) (name_at names r) ≡ r
known_place names k r d h l =
    ap (place_of (take k names)) (sym (in_front names k r h l)) ∙ place_is (take k names) r [] (distinct_take k names d) (omega (arith, length_front names k l))

known_name : (names : Words) (k r : ℕ) → r < k → k ≤ length names → knows (take k names) (name_at names r) ≡ true
known_name names k r h l =
    ap (knows (take k names)) (sym (in_front names k r h l)) ∙ known_at (take k names) r [] (omega (arith, length_front names k l))

one_more : (names : Words) (k : ℕ) → k < length names → take k names ++ name_at names k ∷ [] ≡ take (k + 1) names
one_more names k h = ap (λ n. take k names ++ n ∷ []) (name_is names k) ∙ sym (take-suc names k [] h) ∙ ap (λ j. take j names) (sym (add-one k))

new_name : (names : Words) (k : ℕ) → is_distinct bytes_eq names ≡ true → k < length names → knows (take k names) (name_at names k) ≡ false
new_name names k d h =
    fresh (take k names) (name_at names k) (drop (suc k) names)
    (ap (λ n. is_distinct bytes_eq (take k names ++ n ∷ drop (suc k) names)) (name_is names k)
    ∙ ap (λ t. is_distinct bytes_eq (take k names ++ t)) (sym (drop-cons names k [] h))
    ∙ ap (is_distinct bytes_eq) (take-append-drop k names) ∙ d)

declare_one : (names : Words) (k r : ℕ) → is_distinct bytes_eq names ≡ true → r ≤ k → k ≤ length names → r < length names → declare (take k names) (name_at names r) ≡ take (next k r) names
declare_one names k r d h l w = go (r == k) refl
  where
    go : (b : Bool) → (r == k) ≡ b → declare (take k names) (name_at names r) ≡ take (next k r) names
    go true e =
        let s = eqb-true r k e in
        ap (λ j. declare (take k names) (name_at names j)) s
        ∙ declare_new (take k names) (name_at names k) (new_name names k d (omega arith))
        ∙ one_more names k (omega arith)
        ∙ ap (λ j. take j names) (sym (next_at k r true e))
    go false e =
        declare_known (take k names) (name_at names r) (known_name names k r (omega (arith, eqb-false r k e)) l)
        ∙ ap (λ j. take j names) (sym (next_at k r false e))

pub declare_all : (names : Words) (k : ℕ) (rs : List ℕ) → is_distinct bytes_eq names ≡ true → k ≤ length names → all_below (length names) rs ≡ true → InTurn k rs → fold declare (take k names) (map (name_at names) rs) ≡ take (grown k rs) names
declare_all names k [] d l w t = refl
declare_all names k (r ∷ rs) d l w t =
    let a = and_parts (nat_lt r (length names)) (all_below (length names) rs) w in
    let b = ltb-true r (length names) a.0 in
    ap (λ (ns : Words). fold declare ns (map (name_at names) rs)) (declare_one names k r d t.0 l b)
    ∙ declare_all names (next k r) rs d (next_within k r (length names) l b) a.1 t.1
