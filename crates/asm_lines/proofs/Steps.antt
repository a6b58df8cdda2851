-- One byte further in a text that is cut.
use Rattle.std.proofs.Common.{◌≡◌, ◌++◌, ◌≤◌, ◌<◌, ℕ, suc, ◌+◌, ◌-◌, ◌==◌, Bool, true, false, List, [], ◌∷◌, length, take, drop, get_or, refl, sym, ap, ◌∙◌, arith, add-one, if◌then◌else◌}
use Rattle.std.proofs.Math.Seq.{take-suc, drop-cons}
use Rattle.std.proofs.lemmas.List.{length-drop, get_or-drop}
use Rattle.asm_lines.specs.Cutting.{words_from, lines_from, told, is_gap, piece}

more : (xs : List ℕ) (s i : ℕ) → s ≤ i → i < length xs → take (i + 1 - s) (drop s xs) ≡ take (i - s) (drop s xs) ++ get_or xs i 0 ∷ []
more xs s i le lt =
    let a : i + 1 - s ≡ suc (i - s) = omega arith in
    let b : s + (i - s) ≡ i = omega arith in
    ap (λ n. take n (drop s xs)) a
    ∙ take-suc (drop s xs) (i - s) 0 (omega (arith, length-drop s xs))
    ∙ ap (λ x. take (i - s) (drop s xs) ++ x ∷ []) (get_or-drop s xs (i - s) 0 ∙ ap (λ k. get_or xs k 0) b)

next : (xs : List ℕ) (i : ℕ) → i < length xs → drop i xs ≡ get_or xs i 0 ∷ drop (i + 1) xs
next xs i lt = rw (add-one i) (drop-cons xs i 0 lt)

words_cons : (sofar : List ℕ) (c : ℕ) (cs : List ℕ) (b : Bool) → is_gap c ≡ b → words_from sofar (c ∷ cs) ≡ (if b then piece sofar ++ words_from [] cs else words_from (sofar ++ c ∷ []) cs)
words_cons sofar c cs b e = ap (λ b. if b then piece sofar ++ words_from [] cs else words_from (sofar ++ c ∷ []) cs) e

lines_cons : (sofar : List ℕ) (c : ℕ) (cs : List ℕ) (b : Bool) → (c == 10) ≡ b → lines_from sofar (c ∷ cs) ≡ (if b then sofar ∷ lines_from [] cs else lines_from (sofar ++ c ∷ []) cs)
lines_cons sofar c cs b e = ap (λ b. if b then sofar ∷ lines_from [] cs else lines_from (sofar ++ c ∷ []) cs) e

told_on : (xs : List ℕ) (i : ℕ) (b : Bool) → i < length xs → (get_or xs i 0 == 35) ≡ b → told (drop i xs) ≡ (if b then [] else get_or xs i 0 ∷ told (drop (i + 1) xs))
told_on xs i b lt e = ap told (next xs i lt) ∙ ap (λ b. if b then [] else get_or xs i 0 ∷ told (drop (i + 1) xs)) e

pub words_on : (xs : List ℕ) (s i : ℕ) → s ≤ i → i < length xs → (get_or xs i 0 == 35) ≡ false → is_gap (get_or xs i 0) ≡ false → words_from (take (i - s) (drop s xs)) (told (drop i xs)) ≡ words_from (take (i + 1 - s) (drop s xs)) (told (drop (i + 1) xs))
words_on xs s i le lt plain e =
    ap (words_from (take (i - s) (drop s xs))) (told_on xs i false lt plain)
    ∙ words_cons (take (i - s) (drop s xs)) (get_or xs i 0) (told (drop (i + 1) xs)) false e
    ∙ ap (λ t. words_from t (told (drop (i + 1) xs))) (sym (more xs s i le lt))

so_far : (xs : List ℕ) (i : ℕ) → i < length xs → take (i + 1) xs ≡ take i xs ++ get_or xs i 0 ∷ []
so_far xs i lt = rw (add-one i) (take-suc xs i 0 lt)

pub lines_on : (xs : List ℕ) (i : ℕ) → i < length xs → (get_or xs i 0 == 10) ≡ false → lines_from (take i xs) (drop i xs) ≡ lines_from (take (i + 1) xs) (drop (i + 1) xs)
lines_on xs i lt e =
    ap (lines_from (take i xs)) (next xs i lt)
    ∙ lines_cons (take i xs) (get_or xs i 0) (drop (i + 1) xs) false e
    ∙ ap (λ t. lines_from t (drop (i + 1) xs)) (sym (so_far xs i lt))

pub lines_cut : (xs : List ℕ) (i : ℕ) → i < length xs → (get_or xs i 0 == 10) ≡ true → lines_from (take i xs) (drop i xs) ≡ take i xs ∷ lines_from [] (drop (i + 1) xs)
lines_cut xs i lt e =
    ap (lines_from (take i xs)) (next xs i lt)
    ∙ lines_cons (take i xs) (get_or xs i 0) (drop (i + 1) xs) true e

-- a text without a newline is one line
pub lines_last : (xs : List ℕ) → 0 < length xs → piece xs ≡ xs ∷ []
lines_last [] some = absurd (omega arith)
lines_last (x ∷ xs) some = refl
