-- A text has no more lines than bytes, and a section no more lines than the text.
use Rattle.std.proofs.Common.{◌≡◌, ◌++◌, ◌≤◌, ◌+◌, ◌==◌, ℕ, true, false, List, [], ◌∷◌, length, arith, if◌then◌else◌}
use Rattle.std.proofs.lemmas.List.{length-append}
use Rattle.asm_lines.specs.Cutting.{Words, TextLine, lines_from, numbered, text_lines}
use Rattle.asm_lines.specs.Sections.{starts, ahead, after}

as_many : (n : ℕ) (ls : Words) → length (numbered n ls) ≡ length ls
as_many n [] = omega arith
as_many n (l ∷ ls) = omega (arith, as_many (n + 1) ls)

few_from : (sofar text : List ℕ) → length (lines_from sofar text) ≤ length sofar + length text
few_from [] [] = omega arith
few_from (x ∷ xs) [] = omega arith
few_from sofar (c ∷ cs) =
    elim (c == 10) as (λ b. length (if b then sofar ∷ lines_from [] cs else lines_from (sofar ++ c ∷ []) cs) ≤ length sofar + length (c ∷ cs)) [
      | true ↦ omega (arith, few_from [] cs)
      | false ↦ omega (arith, few_from (sofar ++ c ∷ []) cs, length-append sofar (c ∷ []))
    ]

pub few_lines : (text : List ℕ) → length (text_lines text) ≤ length text
few_lines text = omega (arith, as_many 1 (lines_from [] text), few_from [] text)

pub few_ahead : (lines : List TextLine) → length (ahead lines) ≤ length lines
few_ahead [] = omega arith
few_ahead (line ∷ lines) =
    elim (starts line.words) as (λ b. length (if b then [] else line ∷ ahead lines) ≤ length (line ∷ lines)) [
      | true ↦ omega arith
      | false ↦ omega (arith, few_ahead lines)
    ]

pub few_after : (lines : List TextLine) → length (after lines) ≤ length lines
few_after [] = omega arith
few_after (line ∷ lines) =
    elim (starts line.words) as (λ b. length (if b then line ∷ lines else after lines) ≤ length (line ∷ lines)) [
      | true ↦ omega arith
      | false ↦ omega (arith, few_after lines)
    ]
