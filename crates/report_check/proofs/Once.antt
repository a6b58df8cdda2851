-- A bundle has one text: two facts of one program are the same.
use Rattle.std.proofs.Common.{◌≡◌, ℕ, zero, suc, ◌<◌, ◌≤◌, ◌↔◌, Bool, true, false, List, [], ◌∷◌, length, refl, sym, ap, ◌∙◌, subst, inl, inr, arith}
use Rattle.std.specs.Prelude.{◌||◌, slice_get, slice_index, slice_index_or}
use Rattle.std.specs.List.{list_any}
use Rattle.std.proofs.Math.Dec.{eqb}
use Rattle.std.proofs.lemmas.Bool.{cases_eq, eq-eqb}
use Rattle.std.proofs.lemmas.Map.Steps.{le-length_from_below}
use Rattle.micro_isa.specs.declared.program.Line.{Line}
use Rattle.micro_isa.specs.declared.program.Program.{Program}
use Rattle.micro_isa.specs.declared.program.Bundle.{Bundle}
use Rattle.pressure.specs.Regions.{IsNumbered}
use Rattle.pressure.proofs.Unique.{pressure_once}
use Rattle.report_check.specs.declared.facts.Facts.{Facts}
use Rattle.micro_kit.specs.Text.{in_order}
use Rattle.report_check.specs.Facts.{HasRegions, AreReached, lost_line, lost_lines, AreUnreachable, AreFactsOf, AreAllFacts}
use Rattle.report_check.specs.Checks.{check_text, HasOneCheck}

both_ways : (a b : ℕ) → a ≤ b → b ≤ a → a ≡ b
both_ways a b le ge = omega arith

-- regions

or_left : (a b : Bool) → a ≡ true → (a || b) ≡ true
or_left true b h = refl
or_left false b h = absurd (cc)

or_right : (a b : Bool) → b ≡ true → (a || b) ≡ true
or_right true b h = refl
or_right false b h = h

module _ (code : List Line) (ns ms : List ℕ) (n m : ℕ) (as_n : IsNumbered code ns n) (as_m : IsNumbered code ms m) where
  -- a list of j numbers has the first number of each instruction whose second number is below j
  abbrev Covers : ℕ → Type 0
  Covers j = (list : List ℕ) × (length list ≡ j) × ((i : ℕ) → i < length code → slice_index ms i < j → list_any (eqb (slice_index ns i)) list ≡ true)

  covers : (j : ℕ) → j ≤ m → Covers j
  covers zero h = ([], refl, λ i inside less. absurd (omega arith))
  covers (suc j) h =
      let before = covers j (omega arith) in
      let pick = as_m.each j (omega arith) in
      let first = slice_index ns pick.0 in (
        first ∷ before.0,
        ap suc before.1,
        λ i inside less. elim (cases_eq (slice_index ms i) j) [
          | inl same ↦
              let one : slice_index ms i ≡ slice_index ms pick.0 = same ∙ sym pick.2 in
              let also = (as_n.same i pick.0 inside pick.1).1 ((as_m.same i pick.0 inside pick.1).0 one) in
              or_left (eqb (slice_index ns i) first) (list_any (eqb (slice_index ns i)) before.0) (eq-eqb (slice_index ns i) first also)
          | inr other ↦
              or_right (eqb (slice_index ns i) first) (list_any (eqb (slice_index ns i)) before.0) (before.2 i inside (omega arith))
        ],
      )

  count_le : n ≤ m
  count_le =
      let all = covers m (omega arith) in
      subst (λ k. n ≤ k) all.1 (le-length_from_below all.0 n (λ q less.
      let at = as_n.each q less in
      subst (λ k. list_any (eqb k) all.0 ≡ true) at.2 (all.2 at.0 at.1 (as_m.below at.0 at.1))))

same_count : (code : List Line) (n m : ℕ) → HasRegions code n → HasRegions code m → n ≡ m
same_count code n m one other =
    both_ways n m (count_le code one.0 other.0 n m one.1 other.1) (count_le code other.0 one.0 m n other.1 one.1)

-- unreachable lines

same_mark : (P : Type 0) (a b : Bool) → ((a ≡ true) ↔ P) → ((b ≡ true) ↔ P) → a ≡ b
same_mark P true true h k = refl
same_mark P true false h k = sym (k.1 (h.0 refl))
same_mark P false true h k = h.1 (k.0 refl)
same_mark P false false h k = refl

same_order : (n : ℕ) (f g : ℕ → List ℕ) → ((i : ℕ) → i < n → f i ≡ g i) → in_order n f ≡ in_order n g
same_order zero f g each = refl
same_order (suc n) f g each =
    let before = same_order n f g (λ i less. each i (omega arith)) in
    let last = each n (omega arith) in
    rw (before, last) refl

same_lost : (code : List Line) (a b : List Bool) → AreReached code a → AreReached code b → lost_lines code a ≡ lost_lines code b
same_lost code a b one other =
    same_order (length code) (λ i. lost_line (slice_index_or a i false) (slice_get code i)) (λ i. lost_line (slice_index_or b i false) (slice_get code i))
    (λ i less. ap (λ mark. lost_line mark (slice_get code i)) (same_mark _ (slice_index_or a i false) (slice_index_or b i false) (one.exact i less) (other.exact i less)))

same_unreachable : (code : List Line) (xs ys : List ℕ) → AreUnreachable code xs → AreUnreachable code ys → xs ≡ ys
same_unreachable code xs ys one other = one.2 ∙ same_lost code one.0 other.0 one.1 other.1 ∙ sym other.2

-- all of it

same_facts : (program : Program) (a b : Facts) → AreFactsOf program a → AreFactsOf program b → a ≡ b
same_facts program a b one other =
    let code = program.code in
    let pressures = pressure_once code a.pressure b.pressure one.pressure other.pressure in
    let regions = same_count code a.regions b.regions one.regions other.regions in
    let lost = same_unreachable code a.unreachable b.unreachable one.unreachable other.unreachable in
    λ i. record { pressure = pressures i; regions = regions i; unreachable = lost i }

same_all : (programs : List Program) (xs ys : List Facts) → AreAllFacts programs xs → AreAllFacts programs ys → xs ≡ ys
same_all [] [] [] one other = refl
same_all [] [] (y ∷ ys) one other = absurd other
same_all [] (x ∷ xs) ys one other = absurd one
same_all (p ∷ ps) [] ys one other = absurd one
same_all (p ∷ ps) (x ∷ xs) [] one other = absurd other
same_all (p ∷ ps) (x ∷ xs) (y ∷ ys) one other =
    let head = same_facts p x y one.0 other.0 in
    let tail = same_all ps xs ys one.1 other.1 in
    λ i. head i ∷ tail i

pub one_check : (b : Bundle) → HasOneCheck b
one_check b s t one other =
    one.2 ∙ ap (λ all. check_text all b.file) (same_all b.programs one.0 other.0 one.1 other.1) ∙ sym other.2
