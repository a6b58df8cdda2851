-- A text parted at its first separator.
use Rattle.std.proofs.Common.{◌≡◌, ◌<◌, ◌≤◌, ℕ, zero, suc, ◌+◌, ◌==◌, ◌++◌, ◌&&◌, Bool, true, false, not, nat_lt, List, [], ◌∷◌, length, take, drop, get_or, refl, sym, ap, ◌∙◌, arith, cond, Option, Some, None, option_map, subst, add-one}
use Rattle.std.specs.Prelude.{position}
use Rattle.std.specs.List.{list_all, prefix_len, position_or_len, before_first}
use Rattle.std.proofs.Math.Seq.{drop-cons, take-length, take-append_seam}
use Rattle.std.proofs.lemmas.Bool.{and_parts, eqb-true, lt-ltb}
use Rattle.std.proofs.lemmas.Bool.Decides.{nat_tests}
use Rattle.std.proofs.lemmas.List.{take-append-drop, length-append}
use Rattle.std.proofs.lemmas.Option.{same_Some}
use Rattle.journal_text.specs.Parting.{cut}
use Rattle.journal_text.proofs.Chains.{mapped_is}
use Rattle.std.proofs.lemmas.List.Quantifiers.{position-Some}

none_mapped : {A B : Type 0} (f : A → B) (o : Option A) → option_map f o ≡ None → o ≡ None
none_mapped f None h = refl
none_mapped f (Some x) h = absurd (cc)

-- a text without a separator
abbrev pub lacks : ℕ → List ℕ → Bool
lacks s text = list_all (λ c. not (c == s)) text

-- a text is what stands before its first separator, and behind it
pub record IsParted (s : ℕ) (text before behind : List ℕ) : Type 0 where
  pub same : text ≡ before ++ (s ∷ behind)
  pub none : lacks s before ≡ true

both : (a b : Bool) → a ≡ true → b ≡ true → (a && b) ≡ true
both true b e f = f
both false b e f = e

not_so : (b : Bool) → b ≡ false → not b ≡ true
not_so false e = refl
not_so true e = sym e

so_not : (b : Bool) → not b ≡ true → b ≡ false
so_not false e = refl
so_not true e = sym e

pub lacks_first : (s c : ℕ) (cs : List ℕ) → lacks s (c ∷ cs) ≡ true → (c == s) ≡ false
lacks_first s c cs h = so_not (c == s) (and_parts (not (c == s)) (lacks s cs) h).0

pub lacks_rest : (s c : ℕ) (cs : List ℕ) → lacks s (c ∷ cs) ≡ true → lacks s cs ≡ true
lacks_rest s c cs h = (and_parts (not (c == s)) (lacks s cs) h).1

lacks_below : (s i : ℕ) (text : List ℕ) → ((k : ℕ) → k < i → (get_or text k 0 == s) ≡ false) → lacks s (take i text) ≡ true
lacks_below s zero text h = refl
lacks_below s (suc i) [] h = refl
lacks_below s (suc i) (c ∷ cs) h =
    both (not (c == s)) (lacks s (take i cs)) (not_so (c == s) (h 0 (omega arith))) (lacks_below s i cs (λ k lt. h (suc k) (omega arith)))

parted : (s i : ℕ) (text : List ℕ) → position (λ c. c == s) text ≡ Some i → IsParted s text (take i text) (drop (i + 1) text)
parted s i text h =
    let f = position-Some (λ c. c == s) text i 0 h in
    let e : get_or text i 0 ≡ s = eqb-true (get_or text i 0) s f.1 in
    let k : suc i ≡ i + 1 = omega arith in
    let d : drop i text ≡ s ∷ drop (i + 1) text = drop-cons text i 0 f.0 ∙ ap (λ c. c ∷ drop (suc i) text) e ∙ ap (λ k. s ∷ drop k text) k in
    record { same = sym (take-append-drop i text) ∙ ap (λ t. take i text ++ t) d; none = lacks_below s i text f.2 }

passed_by : (n m : ℕ) (b rest : Bool) → suc n ≤ cond b (1 + m) 0 → (n ≤ m → rest ≡ true) → (b && rest) ≡ true
passed_by n m true rest h go = go (omega arith)
passed_by n m false rest h go = absurd (omega arith)

all_passed : (p : ℕ → Bool) (text : List ℕ) → length text ≤ prefix_len p text → list_all p text ≡ true
all_passed p [] h = refl
all_passed p (c ∷ cs) h = passed_by (length cs) (prefix_len p cs) (p c) (list_all p cs) h (λ le. all_passed p cs le)

unparted_by : (s : ℕ) (text : List ℕ) (b : Bool) → nat_lt (position_or_len (λ c. c == s) text) (length text) ≡ b → cond b (Some (position_or_len (λ c. c == s) text)) None ≡ None → lacks s text ≡ true
unparted_by s text true e h = absurd (cc)
unparted_by s text false e h = all_passed (λ c. not (c == s)) text (grind (arith, nat_tests))

unparted : (s : ℕ) (text : List ℕ) → position (λ c. c == s) text ≡ None → lacks s text ≡ true
unparted s text h = unparted_by s text (nat_lt (position_or_len (λ c. c == s) text) (length text)) refl h

step_on : (s n : ℕ) (b : Bool) → b ≡ false → cond (not b) (1 + n) 0 ≡ suc n
step_on s n false e = omega arith
step_on s n true e = absurd (cc)

stop_at : (s n : ℕ) (b : Bool) → (s == s) ≡ b → cond (not b) (1 + n) 0 ≡ 0
stop_at s n true e = refl
stop_at s n false e = absurd (grind (arith, nat_tests))

place_of : (s : ℕ) (before behind : List ℕ) → lacks s before ≡ true → position_or_len (λ c. c == s) (before ++ (s ∷ behind)) ≡ length before
place_of s [] behind h = stop_at s (position_or_len (λ c. c == s) behind) (s == s) refl
place_of s (c ∷ cs) behind h =
    step_on s (position_or_len (λ c. c == s) (cs ++ (s ∷ behind))) (c == s) (lacks_first s c cs h)
    ∙ ap suc (place_of s cs behind (lacks_rest s c cs h))

no_place : (s : ℕ) (text : List ℕ) → lacks s text ≡ true → position_or_len (λ c. c == s) text ≡ length text
no_place s [] h = refl
no_place s (c ∷ cs) h =
    step_on s (position_or_len (λ c. c == s) cs) (c == s) (lacks_first s c cs h) ∙ ap suc (no_place s cs (lacks_rest s c cs h))

found_at : (p n : ℕ) → p < n → cond (nat_lt p n) (Some p) None ≡ Some p
found_at p n h = ap (λ b. cond b (Some p) None) (lt-ltb p n h)

-- the first separator is found behind what lacks it
position_of : (s : ℕ) (before behind : List ℕ) → lacks s before ≡ true → position (λ c. c == s) (before ++ (s ∷ behind)) ≡ Some (length before)
position_of s before behind h =
    let p = place_of s before behind h in
    let l = length-append before (s ∷ behind) in
    found_at (position_or_len (λ c. c == s) (before ++ (s ∷ behind))) (length (before ++ (s ∷ behind))) (omega arith)
    ∙ ap Some p

pub before_of : (s : ℕ) (before behind : List ℕ) → lacks s before ≡ true → before_first (λ c. c == s) (before ++ (s ∷ behind)) ≡ before
before_of s before behind h = ap (λ n. take n (before ++ (s ∷ behind))) (place_of s before behind h) ∙ take-append_seam before (s ∷ behind)

pub before_none : (s : ℕ) (text : List ℕ) → lacks s text ≡ true → before_first (λ c. c == s) text ≡ text
before_none s text h = ap (λ n. take n text) (no_place s text h) ∙ take-length text

-- what is cut at a separator
pub cut_is : (s : ℕ) (text a b : List ℕ) → cut s text ≡ Some (a, b) → IsParted s text a b
cut_is s text a b h =
    let m = mapped_is (λ i. (take i text, drop (i + 1) text)) (position (λ c. c == s) text) (a, b) h in
    subst (λ q. IsParted s text q.0 q.1) (same_Some _ _ m.gave) (parted s m.value text m.was)

pub uncut : (s : ℕ) (text : List ℕ) → cut s text ≡ None → lacks s text ≡ true
uncut s text h = unparted s text (none_mapped (λ i. (take i text, drop (i + 1) text)) (position (λ c. c == s) text) h)

behind : (s : ℕ) (a b : List ℕ) → drop (suc (length a)) (a ++ (s ∷ b)) ≡ b
behind s [] b = refl
behind s (c ∷ cs) b = behind s cs b

pub cut_again : (s : ℕ) (a b : List ℕ) → lacks s a ≡ true → cut s (a ++ (s ∷ b)) ≡ Some (a, b)
cut_again s a b h =
    ap (option_map (λ i. (take i (a ++ (s ∷ b)), drop (i + 1) (a ++ (s ∷ b))))) (position_of s a b h)
    ∙ ap (λ x. Some (x, drop (length a + 1) (a ++ (s ∷ b)))) (take-append_seam a (s ∷ b))
    ∙ ap (λ x. Some (a, x)) (rw (add-one (length a)) (behind s a b))
