-- What a flood's visits keep.
use Rattle.std.proofs.Common.{◌≡◌, ℕ, ◌+◌, ◌<◌, ◌⊎◌, cond, List, [], ◌∷◌, ◌++◌, Option, Some, None, length, get_or, set, sym, subst, refl, ap, ◌∙◌, inl, inr, Contains, arith}
use Rattle.std.specs.Prelude.{is_some}
use Rattle.std.proofs.lemmas.Bool.{cases_eq}
use Rattle.std.proofs.lemmas.List.{get_or-set_same, get_or-set_other, length-set, length-append}
use Rattle.std.proofs.lemmas.List.Sums.{sum_by-set}
use Rattle.std.proofs.lemmas.List.Elements.{Contains-append_left, Contains-push, Contains-push_cases}
use Rattle.std.proofs.lemmas.Option.{same_Some}
use Rattle.flow_graph.specs.Paths.{Below}
use Rattle.pressure.specs.declared.ring.Rings.{Rings}
use Rattle.pressure.specs.Rings.{Leads, Link, LinkOf}
use Rattle.pressure.specs.Floods.{HasNumber, weight, given, queued, Gives, Floods, IsUnused, AreLow, CanVisit}
use Rattle.pressure.proofs.Ways.{trans, one}
use Rattle.pressure.proofs.Ringing.{some_below}

nothing : (number : ℕ) (numbers : List (Option ℕ)) (waiting : List ℕ) (P : ℕ → Type 0) → ((i : ℕ) → P i → (a : ℕ) × HasNumber numbers i a)
    → Gives P number numbers numbers waiting waiting
nothing number numbers waiting P has = record {
  one_each = refl;
  kept = λ i a e. e;
  only = λ i a e. inl e;
  has = has;
  held = λ i c. c;
  fresh = λ i c. inl c;
  noted = λ i e. inl e;
  light = omega arith;
}

-- an instruction without a number gets it
gives_new : (number : ℕ) (numbers : List (Option ℕ)) (waiting : List ℕ) (j : ℕ) → j < length numbers → get_or numbers j None ≡ None
    → Gives (λ i. Some j ≡ Some i) number numbers (set numbers j (Some number)) waiting (waiting ++ j ∷ [])
gives_new number numbers waiting j inside none =
    let now : get_or (set numbers j (Some number)) j None ≡ Some number = get_or-set_same numbers j (Some number) None inside in record {
      one_each = length-set numbers j (Some number);
      kept = λ i a e. elim (cases_eq i j) [
        | inl same ↦ absurd (let off = subst (λ n. get_or numbers n None ≡ Some a) same e in cc)
        | inr other ↦ get_or-set_other numbers j i (Some number) None other ∙ e
      ];
      only = λ i a e. elim (cases_eq i j) [
        | inl same ↦ inr (same_Some a number (sym (subst (λ n. get_or (set numbers j (Some number)) n None ≡ Some a) same e) ∙ now), ap (λ n. Some n) (sym same))
        | inr other ↦ inl (sym (get_or-set_other numbers j i (Some number) None other) ∙ e)
      ];
      has = λ i is. (number, subst (λ n. get_or (set numbers j (Some number)) n None ≡ Some number) (same_Some j i is) now);
      held = λ i has. Contains-append_left waiting (j ∷ []) i has;
      fresh = λ i has. elim (Contains-push_cases waiting j i has) [
        | inl was ↦ inl was
        | inr same ↦ inr (subst (λ n. get_or (set numbers j (Some number)) n None ≡ Some number) same now)
      ];
      noted = λ i e. elim (cases_eq i j) [
        | inl same ↦ inr (rw same (Contains-push waiting j))
        | inr other ↦ inl (sym (get_or-set_other numbers j i (Some number) None other) ∙ e)
      ];
      light =
          let total = sum_by-set (λ (o : Option ℕ). cond (is_some o) 0 1) numbers j (Some number) None inside in
          let was : cond {A = ℕ} (is_some (get_or numbers j None)) 0 1 ≡ 1 = ap (λ (o : Option ℕ). cond (is_some o) 0 1) none in
          simp length-append (omega arith);
    }

pub gives : (number : ℕ) (numbers : List (Option ℕ)) (waiting : List ℕ) (o : Option ℕ) → Below o (length numbers)
    → Gives (λ i. o ≡ Some i) number numbers (given numbers o number) waiting (queued numbers o waiting)
gives number numbers waiting None _ = nothing number numbers waiting _ (λ i is. absurd (cc))
gives number numbers waiting (Some j) inside = go (get_or numbers j None) refl
  where
    go : (was : Option ℕ) → get_or numbers j None ≡ was
        → Gives (λ i. Some j ≡ Some i) number numbers (cond (is_some (get_or numbers j None)) numbers (set numbers j (Some number))) waiting (cond (is_some (get_or numbers j None)) waiting (waiting ++ j ∷ []))
    go None e = rw e (gives_new number numbers waiting j inside e)
    go (Some a) e = rw e (nothing number numbers waiting _ (λ i is. (a, subst (λ n. get_or numbers n None ≡ Some a) (same_Some j i is) e)))

pub composed : (P Q : ℕ → Type 0) (number : ℕ) (old mid new : List (Option ℕ)) (waiting more all : List ℕ)
    → Gives P number old mid waiting more → Gives Q number mid new more all → Gives (λ i. P i ⊎ Q i) number old new waiting all
composed P Q number old mid new waiting more all a b = record {
  one_each = b.one_each ∙ a.one_each;
  kept = λ i n e. b.kept i n (a.kept i n e);
  only = λ i n e. elim (b.only i n e) [
    | inl was ↦ elim (a.only i n was) [ inl first ↦ inl first | inr new_one ↦ inr (new_one.0, inl new_one.1) ]
    | inr new_one ↦ inr (new_one.0, inr new_one.1)
  ];
  has = λ i either. elim either [
    | inl p ↦ let h = a.has i p in (h.0, b.kept i h.0 h.1)
    | inr q ↦ b.has i q
  ];
  held = λ i c. b.held i (a.held i c);
  fresh = λ i c. elim (b.fresh i c) [
    | inl was ↦ elim (a.fresh i was) [ inl first ↦ inl first | inr numbered ↦ inr (b.kept i number numbered) ]
    | inr numbered ↦ inr numbered
  ];
  noted = λ i e. elim (b.noted i e) [
    | inl was ↦ elim (a.noted i was) [ inl first ↦ inl first | inr c ↦ inr (b.held i c) ]
    | inr c ↦ inr c
  ];
  light = let x = a.light in let y = b.light in omega arith;
}

-- the start has its number
pub started : (link : ℕ → ℕ → Type 0) (start number : ℕ) (old new : List (Option ℕ)) (waiting : List ℕ) → IsUnused old number → get_or old start None ≡ None
    → Gives (λ i. Some start ≡ Some i) number old new [] waiting → Floods link start number old new waiting
started link start number old new waiting unused none gives = record {
  one_each = gives.one_each;
  kept = gives.kept;
  only = λ i a e. elim (gives.only i a e) [
    | inl was ↦ inl was
    | inr now ↦ inr (now.0, ([], same_Some start i now.1))
  ];
  begun =
      let h = gives.has start refl in
      elim (gives.only start h.0 h.1) [
        | inl was ↦ absurd (let off = none in cc)
        | inr now ↦ subst (λ n. HasNumber new start n) now.0 h.1
      ];
  held = λ i has. elim (gives.fresh i has) [
    | inl was ↦ absurd (let no_place = was.1 in omega arith)
    | inr now ↦ now
  ];
  done = λ i e. elim (gives.noted i e) [
    | inl was ↦ absurd (unused.none i was)
    | inr has ↦ inl has
  ];
}

-- one visit
pub visited : (link : ℕ → ℕ → Type 0) (start number : ℕ) (old numbers new : List (Option ℕ)) (waiting rest wider : List ℕ) (i : ℕ) → IsUnused old number
    → waiting ≡ rest ++ i ∷ [] → Floods link start number old numbers waiting → Gives (link i) number numbers new rest wider
    → Floods link start number old new wider
visited link start number old numbers new waiting rest wider i unused split before gives =
    let has_i : Contains waiting i = subst (λ w. Contains w i) (sym split) (Contains-push rest i) in
    let here : Leads link start i =
    elim (before.only i number (before.held i has_i)) [
      | inl was ↦ absurd (unused.none i was)
      | inr reached ↦ reached.1
    ] in record {
      one_each = gives.one_each ∙ before.one_each;
      kept = λ j a e. gives.kept j a (before.kept j a e);
      only = λ j a e. elim (gives.only j a e) [
        | inl was ↦ before.only j a was
        | inr now ↦ inr (now.0, trans link start i j here (one link i j now.1))
      ];
      begun = gives.kept start number before.begun;
      held = λ j has. elim (gives.fresh j has) [
        | inl was ↦ gives.kept j number (before.held j (subst (λ w. Contains w j) (sym split) (Contains-append_left rest (i ∷ []) j was)))
        | inr now ↦ now
      ];
      done = λ j e. elim (gives.noted j e) [
        | inr has ↦ inl has
        | inl was ↦ elim (before.done j was) [
          | inr on ↦ inr (λ k step. let h = on k step in (h.0, gives.kept k h.0 h.1))
          | inl has ↦ elim (Contains-push_cases rest i j (subst (λ w. Contains w j) split has)) [
            | inl in_rest ↦ inl (gives.held j in_rest)
            | inr same ↦ inr (λ k step. gives.has k (subst (λ n. link n k) (sym same) step))
          ]
        ]
      ];
    }

pub top_below : (link : ℕ → ℕ → Type 0) (start number : ℕ) (old numbers : List (Option ℕ)) (waiting rest : List ℕ) (i : ℕ) → waiting ≡ rest ++ i ∷ []
    → Floods link start number old numbers waiting → i < length old
top_below link start number old numbers waiting rest i split before =
    let has_i : Contains waiting i = subst (λ w. Contains w i) (sym split) (Contains-push rest i) in
    let below = some_below numbers i number (before.held i has_i) in
    let e = before.one_each in
    omega arith

pub lighter : (P : ℕ → Type 0) (number : ℕ) (numbers new : List (Option ℕ)) (waiting rest wider : List ℕ) (i : ℕ) → waiting ≡ rest ++ i ∷ []
    → Gives P number numbers new rest wider → weight new wider < weight numbers waiting
lighter P number numbers new waiting rest wider i split gives =
    let light = gives.light in
    let long : length waiting ≡ length rest + 1 = rw split (length-append rest (i ∷ [])) in
    omega arith

-- the lemmas as the code asks for them
pub ring_given : (own target numbers mid new : List (Option ℕ)) (waiting more all : List ℕ) (i number : ℕ) (o p : Option ℕ) → o ≡ get_or own i None → p ≡ get_or target i None
    → Below o (length numbers) → Below p (length mid) → mid ≡ given numbers o number → more ≡ queued numbers o waiting
    → new ≡ given mid p number → all ≡ queued mid p more → Gives (Link own target i) number numbers new waiting all
ring_given own target numbers mid new waiting more all i number o p o_is p_is o_in p_in mid_is more_is new_is all_is =
    let first : Gives (λ j. get_or own i None ≡ Some j) number numbers mid waiting more =
    subst (λ x. Gives (λ j. x ≡ Some j) number numbers mid waiting more) o_is (rw (mid_is, more_is) (gives number numbers waiting o o_in)) in
    let second : Gives (λ j. get_or target i None ≡ Some j) number mid new more all =
    subst (λ x. Gives (λ j. x ≡ Some j) number mid new more all) p_is (rw (new_is, all_is) (gives number mid more p p_in)) in
    composed (λ j. get_or own i None ≡ Some j) (λ j. get_or target i None ≡ Some j) number numbers mid new waiting more all first second

pub starts : (link : ℕ → ℕ → Type 0) (start number : ℕ) (old new : List (Option ℕ)) (none waiting : List ℕ) → none ≡ [] → new ≡ given old (Some start) number
    → waiting ≡ queued old (Some start) none → start < length old → get_or old start None ≡ None → IsUnused old number → Floods link start number old new waiting
starts link start number old new none waiting none_is new_is waiting_is inside unnumbered unused =
    let first : Gives (λ j. Some start ≡ Some j) number old new [] waiting = rw (new_is, waiting_is, none_is) (gives number old [] (Some start) inside) in
    started link start number old new waiting unused unnumbered first

pub both_rings : (falls jumps : Rings) (start number : ℕ) (old numbers mid new : List (Option ℕ)) (waiting rest more wider : List ℕ) (i : ℕ) → IsUnused old number
    → waiting ≡ rest ++ i ∷ [] → Floods (LinkOf falls jumps) start number old numbers waiting
    → Gives (Link falls.own falls.target i) number numbers mid rest more → Gives (Link jumps.own jumps.target i) number mid new more wider
    → Floods (LinkOf falls jumps) start number old new wider × (weight new wider < weight numbers waiting)
both_rings falls jumps start number old numbers mid new waiting rest more wider i unused split before first second =
    let all : Gives (LinkOf falls jumps i) number numbers new rest wider =
    composed (Link falls.own falls.target i) (Link jumps.own jumps.target i) number numbers mid new rest more wider first second in (
      visited (LinkOf falls jumps) start number old numbers new waiting rest wider i unused split before all,
      lighter (LinkOf falls jumps i) number numbers new waiting rest wider i split all,
    )

pub ended : (link : ℕ → ℕ → Type 0) (start number : ℕ) (old new : List (Option ℕ)) (waiting : List ℕ) → length waiting ≡ 0
    → Floods link start number old new waiting → Floods link start number old new []
ended link start number old new [] none at_end = at_end
ended link start number old new (i ∷ waiting) none at_end = absurd (omega arith)

pub falls_low : (falls jumps : Rings) (n m : ℕ) → AreLow (LinkOf falls jumps) n → m ≡ n → AreLow (Link falls.own falls.target) m
falls_low falls jumps n m low same = record { low = λ a b link. let less = low.low a b (inl link) in omega arith }

pub jumps_low : (falls jumps : Rings) (n m : ℕ) → AreLow (LinkOf falls jumps) n → m ≡ n → AreLow (Link jumps.own jumps.target) m
jumps_low falls jumps n m low same = record { low = λ a b link. let less = low.low a b (inr link) in omega arith }

pub can_visit : (rings : Rings) (i n m : ℕ) → i < n → length rings.own ≡ n → length rings.target ≡ n → AreLow (Link rings.own rings.target) m → CanVisit rings i m
can_visit rings i n m below own target low = record { own = omega arith; target = omega arith; low = low }
