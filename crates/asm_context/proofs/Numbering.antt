-- Registers are numbered by their first appearance.
use Rattle.std.proofs.Common.{◌≡◌, ◌||◌, ◌++◌, ℕ, suc, ◌+◌, ◌==◌, Bool, true, false, not, List, [], ◌∷◌, length, map, refl, sym, ap, ◌∙◌, arith, cond, fold, if◌then◌else◌}
use Rattle.std.proofs.lemmas.Bool.{true≢false, lt-ltb, or_parts}
use Rattle.std.proofs.lemmas.List.{length-append}
use Rattle.std.specs.List.{list_any, position_or_len, range_with_len}
use Rattle.std.specs.Str.{bytes_eq}
use Rattle.micro_isa.specs.Formed.{firsts_after}
use Rattle.micro_isa.proofs.Appearing.{range_holds, range_lacks, range_more}
use Rattle.asm_lines.specs.Cutting.{Words}
use Rattle.asm_lines.specs.Tables.{knows, place_of, declare}
use Rattle.asm_lines.proofs.Known.{place_below, same_word, knows_more, knows_it}

-- the numbers of as many names
abbrev pub numbers : Words → List ℕ
numbers names = range_with_len 0 (length names)

pub firsts-append : (seen xs ys : List ℕ) → firsts_after seen (xs ++ ys) ≡ firsts_after (firsts_after seen xs) ys
firsts-append seen [] ys = refl
firsts-append seen (x ∷ xs) ys = firsts-append (if list_any (λ s. s == x) seen then seen else seen ++ x ∷ []) xs ys

-- places among names that are followed by more

place_step : (b : Bool) (m n : ℕ) → (b ≡ false → m ≡ n) → cond (not b) (1 + m) 0 ≡ cond (not b) (1 + n) 0
place_step true m n h = refl
place_step false m n h = ap (λ k. 1 + k) (h refl)

place_known : (p : List ℕ → Bool) (xs ys : Words) → list_any p xs ≡ true → position_or_len p (xs ++ ys) ≡ position_or_len p xs
place_known p [] ys e = absurd (true≢false (sym e))
place_known p (x ∷ xs) ys e = place_step (p x) (position_or_len p (xs ++ ys)) (position_or_len p xs) (λ no. place_known p xs ys (sym (ap (λ b. b || list_any p xs) no) ∙ e))

place_new : (p : List ℕ → Bool) (xs : Words) (y : List ℕ) → list_any p xs ≡ false → p y ≡ true → position_or_len p (xs ++ y ∷ []) ≡ length xs
place_new p [] y e is = ap (λ b. cond (not b) 1 0) is
place_new p (x ∷ xs) y e is =
    let parts = or_parts (p x) (list_any p xs) e in
    let ih = place_new p xs y parts.1 is in
    ap (λ b. cond (not b) (1 + position_or_len p (xs ++ y ∷ [])) 0) parts.0 ∙ omega (arith, ih)

place_if : (t : Bool) (p : List ℕ → Bool) (xs ys : Words) → list_any p xs ≡ true → position_or_len p (if t then xs else xs ++ ys) ≡ position_or_len p xs
place_if true p xs ys e = refl
place_if false p xs ys e = place_known p xs ys e

-- the number of each known name is its place among those that are known
abbrev Places : Words → Words → Type 0
Places known names = (w : List ℕ) → knows known w ≡ true → place_of names w ≡ position_or_len (λ n. bytes_eq w n) known

pub places_all : (names : Words) → Places names names
places_all names w e = rw (lt-ltb _ _ (place_below (λ n. bytes_eq w n) names e)) refl

places_name : (known names : Words) (w : List ℕ) → Places (declare known w) names → Places known names
places_name known names w held v e = held v (knows_more known v w e) ∙ place_if (knows known w) (λ n. bytes_eq v n) known (w ∷ []) e

pub places_names : (ws known names : Words) → Places (fold declare known ws) names → Places known names
places_names [] known names held = held
places_names (w ∷ ws) known names held = places_name known names w (places_names ws (declare known w) names held)

-- a name that is known adds no number, and a new one adds the next

first_name : (known names : Words) (w : List ℕ) → Places (declare known w) names → firsts_after (numbers known) (place_of names w ∷ []) ≡ numbers (declare known w)
first_name known names w held =
    let k = place_of names w in
    let is_word = λ (n : List ℕ). bytes_eq w n in
    let Goal : Bool → Type 0 = λ t. k ≡ position_or_len is_word (if t then known else known ++ w ∷ []) → firsts_after (numbers known) (k ∷ []) ≡ numbers (if t then known else known ++ w ∷ []) in
    let go : (t : Bool) → knows known w ≡ t → Goal t = λ t. elim t as (λ t. knows known w ≡ t → Goal t) [
      | true ↦ λ e at.
          let below = place_below is_word known e in
          ap (λ b. if b then numbers known else numbers known ++ k ∷ []) (range_holds 0 (length known) k (omega arith) (omega (arith, at, below)))
      | false ↦ λ e at.
          let longer : suc (length known) ≡ length (known ++ w ∷ []) = omega (arith, length-append known (w ∷ [])) in
          let next : k ≡ length known = at ∙ place_new is_word known w e (same_word w) in
          ap (λ b. if b then numbers known else numbers known ++ k ∷ []) (range_lacks 0 (length known) k (omega (arith, next)))
          ∙ range_more 0 (length known) k (omega (arith, next))
          ∙ ap (λ n. range_with_len 0 n) longer
    ]
    in go (knows known w) refl (held w (knows_it known w))

pub first_names : (ws known names : Words) → Places (fold declare known ws) names → firsts_after (numbers known) (map (λ w. place_of names w) ws) ≡ numbers (fold declare known ws)
first_names [] known names held = refl
first_names (w ∷ ws) known names held =
    ap (λ seen. firsts_after seen (map (λ w. place_of names w) ws)) (first_name known names w (places_names ws (declare known w) names held))
    ∙ first_names ws (declare known w) names held
