-- The list of the switching instructions, one instruction on.
use Rattle.std.proofs.Common.{◌≡◌, ℕ, ◌+◌, ◌<◌, ◌↔◌, true, false, List, [], ◌∷◌, ◌++◌, Some, length, get_or, slice_get, subst, inl, inr, Contains, arith}
use Rattle.std.proofs.lemmas.Bool.{cases_eq}
use Rattle.std.proofs.lemmas.List.{get_or_append_left, length-append}
use Rattle.std.proofs.lemmas.List.Elements.{Contains-append_left, Contains-push, Contains-push_cases, Contains-get_or}
use Rattle.std.proofs.lemmas.Option.{slice_get_within, slice_get-get_or, get_or_from_slice_get}
use Rattle.std.proofs.Math.Seq.{get_or-append_seam}
use Rattle.micro_isa.specs.declared.program.Line.{Line}
use Rattle.micro_isa.specs.Columns.{switches_at}
use Rattle.liveness.specs.Surviving.{SwitchesAt}
use Rattle.pressure.specs.Boundaries.{AreBoundaries}

pub record AreBoundariesBelow (code : List Line) (n : ℕ) (list : List ℕ) : Type 0 where
  pub each : (k : ℕ) → Contains list k ↔ ((k < n) × SwitchesAt code k)
  pub rising : (a b : ℕ) → a < b → b < length list → get_or list a 0 < get_or list b 0

pub none_below : (code : List Line) (list : List ℕ) → list ≡ [] → AreBoundariesBelow code 0 list
none_below code list e = rw e (record {
  each = λ k. (λ has. absurd (let none = has.1 in omega arith), λ at. absurd (let none = at.0 in omega arith));
  rising = λ a b less inside. absurd (omega arith);
})

pub switching : (code : List Line) (i : ℕ) (d : Line) (list new : List ℕ) → new ≡ list ++ i ∷ [] → i < length code
    → switches_at (get_or code i d).instr ≡ true → AreBoundariesBelow code i list → AreBoundariesBelow code (i + 1) new
switching code i d list new e here switches before = rw e (record {
  each = λ k. (
    λ has. elim (Contains-push_cases list i k has) [
      | inl in_list ↦ let at = (before.each k).0 in_list in let less = at.0 in (omega arith, at.1)
      | inr same ↦
          let at : SwitchesAt code i = (get_or code i d, slice_get-get_or code i d here, switches) in
          (omega arith, subst (λ n. SwitchesAt code n) same at)
    ],
    λ at. elim (cases_eq k i) [
      | inl same ↦ rw same (Contains-push list i)
      | inr other ↦ let less = at.0 in Contains-append_left list (i ∷ []) k ((before.each k).1 (omega arith, at.1))
    ],
  );
  rising = λ a b less inside.
      let long = length-append list (i ∷ []) in
      let a_in : a < length list = omega arith in
      let first = get_or_append_left list (i ∷ []) 0 a a_in in
      elim (cases_eq b (length list)) [
        | inl last ↦
            let seam = get_or-append_seam list i [] 0 in
            let below = ((before.each (get_or list a 0)).0 (Contains-get_or list a 0 a_in)).0 in
            rw (last, seam, first) below
        | inr other ↦
            let b_in : b < length list = omega arith in
            let second = get_or_append_left list (i ∷ []) 0 b b_in in
            rw (first, second) (before.rising a b less b_in)
      ];
})

pub quiet : (code : List Line) (i : ℕ) (d : Line) (list : List ℕ) → switches_at (get_or code i d).instr ≡ false
    → AreBoundariesBelow code i list → AreBoundariesBelow code (i + 1) list
quiet code i d list not_switching before = record {
  each = λ k. (
    λ has. let at = (before.each k).0 has in let less = at.0 in (omega arith, at.1),
    λ at. elim (cases_eq k i) [
      | inl same ↦ absurd (
          let line = at.1 in
          let here = subst (λ n. slice_get code n ≡ Some line.0) same line.1 in
          let is = get_or_from_slice_get code i line.0 d here in
          let one = line.2 in
          let two : switches_at line.0.instr ≡ false = rw (← is) not_switching in
          cc)
      | inr other ↦ let less = at.0 in (before.each k).1 (omega arith, at.1)
    ],
  );
  rising = before.rising;
}

pub all_below : (code : List Line) (list : List ℕ) → AreBoundariesBelow code (length code) list → AreBoundaries code list
all_below code list below = record {
  each = λ k. (λ has. ((below.each k).0 has).1, λ at. (below.each k).1 (slice_get_within code k at.0 at.1, at));
  rising = below.rising;
}
