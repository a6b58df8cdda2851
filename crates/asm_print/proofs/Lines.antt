-- Rows one after another, as lines of a text.
use Rattle.std.proofs.Common.{◌≡◌, ◌++◌, ℕ, ◌+◌, List, [], ◌∷◌, ap, ◌∙◌, arith, length, true}
use Rattle.asm_print.specs.Rows.{Row}
use Rattle.asm_print.proofs.Plain.{row_words, lines_with}

pub lines-append : (n : ℕ) (xs ys : List Row) → lines_with n (xs ++ ys) ≡ lines_with n xs ++ lines_with (n + length xs) ys
lines-append n [] ys = ap (λ k. lines_with k ys) (omega arith)
lines-append n (x ∷ xs) ys =
    ap (λ ls. record { number = n; fair = true; words = row_words x } ∷ ls)
    (lines-append (n + 1) xs ys ∙ ap (λ k. lines_with (n + 1) xs ++ lines_with k ys) (omega arith))
