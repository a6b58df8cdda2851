-- Labels with their targets, one after another.
use Rattle.std.proofs.Common.{◌≡◌, ◌||◌, ◌≤◌, ◌<◌, ℕ, zero, suc, ◌+◌, ◌==◌, Bool, true, false, List, [], ◌∷◌, length, map, drop, refl, sym, ap, ◌∙◌, arith, add-one, nat_lt}
use Rattle.std.specs.Prelude.{slice_index}
use Rattle.std.specs.List.{list_any}
use Rattle.std.proofs.Math.Seq.{drop-cons}
use Rattle.std.proofs.lemmas.Bool.{and_parts, eq-eqb}
use Rattle.micro_isa.specs.Formed.{all_below}
use Rattle.asm_lines.specs.Cutting.{Words}
use Rattle.asm_context.specs.Programs.{labels_from}

pub names_from : (place : ℕ) (names : Words) (targets : List ℕ) → map (λ l. l.name) (labels_from place names targets) ≡ names
names_from place [] targets = refl
names_from place (n ∷ ns) targets = ap (λ l. n ∷ l) (names_from (place + 1) ns targets)

pub targets_from : (place : ℕ) (names : Words) (targets : List ℕ) → length targets ≡ place + length names → map (λ l. l.target) (labels_from place names targets) ≡ drop place targets
targets_from place [] targets e = none_left place targets (omega arith)
  where
    none_left : (n : ℕ) (xs : List ℕ) → length xs ≤ n → [] ≡ drop n xs
    none_left zero [] le = refl
    none_left (suc n) [] le = refl
    none_left zero (x ∷ xs) le = absurd (omega arith)
    none_left (suc n) (x ∷ xs) le = none_left n xs (omega arith)
targets_from place (n ∷ ns) targets e =
    let lt : place < length targets = omega arith in
    ap (λ l. slice_index targets place ∷ l) (targets_from (place + 1) ns targets (omega arith) ∙ ap (λ k. drop k targets) (add-one place))
    ∙ sym (drop-cons targets place 0 lt)

or_right : (a b : Bool) → b ≡ true → (a || b) ≡ true
or_right true b e = refl
or_right false b e = e

or_left : (a b : Bool) → a ≡ true → (a || b) ≡ true
or_left true b e = refl
or_left false b e = absurd (cc)

-- a place's target is the target of a label
pub labelled_at : (place : ℕ) (names : Words) (targets : List ℕ) (i at : ℕ) → i < length names → at ≡ place + i → list_any (λ l. l.target == slice_index targets at) (labels_from place names targets) ≡ true
labelled_at place [] targets i at lt e = absurd (omega arith)
labelled_at place (n ∷ ns) targets zero at lt e =
    let same : place ≡ at = omega arith in
    or_left (slice_index targets place == slice_index targets at) (list_any (λ l. l.target == slice_index targets at) (labels_from (place + 1) ns targets)) (eq-eqb (slice_index targets place) (slice_index targets at) (ap (slice_index targets) same))
labelled_at place (n ∷ ns) targets (suc i) at lt e =
    or_right (slice_index targets place == slice_index targets at) (list_any (λ l. l.target == slice_index targets at) (labels_from (place + 1) ns targets)) (labelled_at (place + 1) ns targets i at (omega arith) (omega arith))

pub target_below : (n : ℕ) (targets : List ℕ) (i : ℕ) → all_below n targets ≡ true → i < length targets → nat_lt (slice_index targets i) n ≡ true
target_below n [] i e lt = absurd (omega arith)
target_below n (t ∷ ts) zero e lt = (and_parts (nat_lt t n) (all_below n ts) e).0
target_below n (t ∷ ts) (suc i) e lt = target_below n ts i (and_parts (nat_lt t n) (all_below n ts) e).1 (omega arith)
