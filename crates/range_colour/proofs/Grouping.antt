-- Groups of instructions by their regions, and the fits over them.
use Rattle.std.proofs.Common.{◌≡◌, ℕ, ◌+◌, ◌<◌, ◌≤◌, ◌⊎◌, ◌↔◌, true, false, List, [], ◌∷◌, ◌++◌, Some, None, length, get_or, set, slice_get, sym, ap, subst, refl, ◌∙◌, inl, inr, arith, length-append}
use Rattle.std.specs.Prelude.{slice_index}
use Rattle.std.specs.List.{All}
use Rattle.std.proofs.lemmas.Bool.{cases_eq}
use Rattle.std.proofs.lemmas.Grind.{get_or_default_zero}
use Rattle.std.proofs.lemmas.List.{get_or_append_left, get_or-set_same, get_or-set_other}
use Rattle.std.proofs.lemmas.Option.{slice_get-get_or, slice_get_within}
use Rattle.std.proofs.Math.ListN.{length-set}
use Rattle.std.proofs.Math.Seq.{get_or-append_seam}
use Rattle.micro_isa.specs.declared.program.Line.{Line}
use Rattle.flow_graph.specs.Paths.{Edge}
use Rattle.pressure.specs.declared.region.Regions.{Regions}
use Rattle.pressure.specs.Regions.{AreRegionsOf, Connected, Joined, numbers_in}
use Rattle.plan.specs.declared.row.Plan.{Plan}
use Rattle.plan.specs.ValidPlans.{IsValidPlan}
use Rattle.range_colour.specs.declared.fit.Fit.{Fit}
use Rattle.range_colour.specs.Groups.{Among, InUse}
use Rattle.range_colour.specs.PlacedPlans.{AreRegionFits, Fits, IsPlacedBy, IsRegionFit, MovesNothing}
use Rattle.range_colour.specs.Fits.{IsFit, least_all, least_private, places_in}
use Rattle.range_colour.specs.Regional.{AreFirstFits, AreFits, AreFitsOver, DoFit, IsGroupedTo, OfRegion, places_at, places_for, places_told}
use Rattle.range_colour.proofs.Planning.{fits_by_test, out_by_test, small_place}
use Rattle.range_colour.proofs.Sizing.{fit_by_same}
use Rattle.range_colour.proofs.Valid.{nothing_moves, plan_valid}

among_push : (xs : List ℕ) (y i : ℕ) → Among (xs ++ y ∷ []) i ↔ (Among xs i ⊎ (y ≡ i))
among_push xs y i =
    let long = length-append xs (y ∷ []) in (
      λ some. elim (cases_eq some.0 (length xs)) [
        | inl last ↦ inr (sym (get_or-append_seam xs y [] 0) ∙ subst (λ k. get_or (xs ++ y ∷ []) k 0 ≡ i) last some.2)
        | inr other ↦
            let less = some.1 in
            let inside : some.0 < length xs = omega arith in
            inl (some.0, inside, sym (get_or_append_left xs (y ∷ []) 0 some.0 inside) ∙ some.2)
      ],
      λ either. elim either [
        | inl before ↦ (before.0, let less = before.1 in omega arith, get_or_append_left xs (y ∷ []) 0 before.0 before.1 ∙ before.2)
        | inr same ↦ (length xs, omega arith, get_or-append_seam xs y [] 0 ∙ same)
      ],
    )

-- what a read past the end would give makes no difference before it
pub read_default : (xs : List (List ℕ)) (k : ℕ) (a b : List ℕ) → k < length xs → get_or xs k a ≡ get_or xs k b
read_default xs k a b inside =
    let one = slice_get-get_or xs k a inside in
    let two = slice_get-get_or xs k b inside in
    cc

-- the next instruction was appended to its group
pub grouped_more : (numbers : List ℕ) (count n g : ℕ) (groups : List (List ℕ)) → IsGroupedTo numbers count n groups → g ≡ slice_index numbers n → g < count
    → IsGroupedTo numbers count (n + 1) (set groups g (get_or groups g [] ++ n ∷ []))
grouped_more numbers count n g groups so_far is less =
    let inside : g < length groups = let e = so_far.one_each in omega arith in record {
      one_each = length-set groups g _ ∙ so_far.one_each;
      each = λ h i low. elim (cases_eq h g) [
        | inl same ↦
            let read : get_or (set groups g (get_or groups g [] ++ n ∷ [])) h [] ≡ get_or groups g [] ++ n ∷ [] = rw same (get_or-set_same groups g _ [] inside) in
            let before = so_far.each g i less in
            let push = among_push (get_or groups g []) n i in
            rw read (
              λ some. elim (push.0 some) [
                | inl yet ↦ let p = before.0 yet in (let under = p.0 in omega arith, p.1 ∙ sym same)
                | inr last ↦ (omega arith, subst (λ k. slice_index numbers k ≡ h) last (sym is ∙ sym same))
              ],
              λ some. push.1 (elim (cases_eq i n) [
                | inl last ↦ inr (sym last)
                | inr other ↦ inl (before.1 (let under = some.0 in omega arith, some.1 ∙ same))
              ]),
            )
        | inr other ↦
            let read : get_or (set groups g (get_or groups g [] ++ n ∷ [])) h [] ≡ get_or groups h [] = get_or-set_other groups g h _ [] other in
            let before = so_far.each h i low in
            rw read (
              λ some. let p = before.0 some in (let under = p.0 in omega arith, p.1),
              λ some. elim (cases_eq i n) [
                | inl last ↦ absurd (other (sym some.1 ∙ subst (λ k. slice_index numbers k ≡ g) (sym last) (sym is)))
                | inr earlier ↦ before.1 (let under = some.0 in omega arith, some.1)
              ],
            )
      ];
    }

-- the next instruction is of none of these groups
pub grouped_past : (numbers : List ℕ) (count n : ℕ) (groups : List (List ℕ)) → IsGroupedTo numbers count n groups → count ≤ slice_index numbers n → IsGroupedTo numbers count (n + 1) groups
grouped_past numbers count n groups so_far past = record {
  one_each = so_far.one_each;
  each = λ h i low.
      let before = so_far.each h i low in (
        λ some. let p = before.0 some in (let under = p.0 in omega arith, p.1),
        λ some. elim (cases_eq i n) [
          | inl last ↦ absurd (let at = subst (λ k. slice_index numbers k ≡ h) last some.1 in omega arith)
          | inr earlier ↦ before.1 (let under = some.0 in omega arith, some.1)
        ],
      );
}

module _ (code : List Line) (regions : Regions) (are : AreRegionsOf code regions) where
  -- each member is an instruction
  pub members_inside : (most : ℕ) (groups : List (List ℕ)) → IsGroupedTo (numbers_in regions) most (length code) groups → All (λ list. All (λ i. i < length code) list) groups
  members_inside most groups grouped g d less at e inside =
      let low : g < most = let whole = grouped.one_each in omega arith in
      let list_is : get_or groups g d ≡ get_or groups g [] = read_default groups g d [] less in
      let read : get_or (get_or groups g d) at e ≡ get_or (get_or groups g []) at 0 = get_or_default_zero (get_or groups g d) at e inside ∙ ap (λ (xs : List ℕ). get_or xs at 0) list_is in
      let within : at < length (get_or groups g []) = let long = ap (λ (xs : List ℕ). length xs) list_is in omega arith in
      let under = ((grouped.each g (get_or (get_or groups g []) at 0) low).0 (at, within, refl)).0 in
      omega arith

  pub fits_of : (most : ℕ) (groups : List (List ℕ)) (fits : List Fit) → IsGroupedTo (numbers_in regions) most (length code) groups → AreFitsOver code groups fits → AreFirstFits code regions most fits
  fits_of most groups fits grouped over = record {
    one_each = over.one_each ∙ grouped.one_each;
    each = λ g fit is.
        let inside = slice_get_within fits g fit is in
        let low : g < most = let a = over.one_each in let b = grouped.one_each in omega arith in
        fit_by_same code (Among (get_or groups g [])) (OfRegion regions g)
        (λ i less. let both = grouped.each g i low in (λ some. (both.0 some).1, λ of. both.1 (less, of)))
        (places_in fit) (least_private fit) (least_all fit) (over.each g fit is);
  }

  module _ (fits : List Fit) (are_fits : AreFits code regions fits) where
    abbrev number : ℕ → ℕ
    number i = slice_index (numbers_in regions) i

    nothing : Fit
    nothing = record { places = []; least = record { p = 0; r = 0 } }

    fit_at : (i : ℕ) → Fit
    fit_at i = get_or fits (number i) nothing

    there : (i : ℕ) → i < length code → slice_get fits (number i) ≡ Some (fit_at i)
    unfolding fit_at
    there i less =
        let low = are.below i less in
        let whole = are_fits.one_each in
        slice_get-get_or fits (number i) nothing (omega arith)

    places_are : (i : ℕ) → i < length code → places_for regions fits i ≡ places_in (fit_at i)
    places_are i less = ap places_told (there i less)

    -- the fit of an instruction's region is one over what it is connected with
    of_connected : (i : ℕ) → i < length code → IsFit code (Connected code i) (fit_at i)
    of_connected i less =
        fit_by_same code (OfRegion regions (number i)) (Connected code i)
        (λ j low. let both = are.same i j less low in (λ of. both.0 (sym of), λ linked. sym (both.1 linked)))
        (places_in (fit_at i)) (least_private (fit_at i)) (least_all (fit_at i)) (are_fits.each (number i) (fit_at i) (there i less))

    abbrev pub region_places : ℕ → ℕ → ℕ
    region_places i = slice_index (places_for regions fits i)

    pub inside_places : (i k : ℕ) → i < length code → InUse code i k k → k < length (places_for regions fits i)
    inside_places i k less used = rw (places_are i less) ((of_connected i less).inside k (i, less, ([], refl), used))

    first_fits : AreRegionFits code region_places
    first_fits i less = rw (places_are i less) (of_connected i less).first

    pub region_none : (p r : ℕ) → DoFit fits p r false → IsRegionFit code p r None
    region_none p r test =
        let found = test.some refl in
        let g = found.0 in
        let within = slice_get_within fits g found.1 found.2 in
        let some = are.each g (let whole = are_fits.one_each in omega arith) in
        let i = some.0 in
        let same : Some (fit_at i) ≡ Some found.1 = sym (there i some.1) ∙ ap (slice_get fits) some.2 ∙ found.2 in
        let fit_is : fit_at i ≡ found.1 = cc in
        let out = out_by_test code (Connected code i) (fit_at i) p r (of_connected i some.1) (rw fit_is found.3) in
        (region_places, first_fits, (i, some.1, rw (places_are i some.1) out))

    module _ (p r : ℕ) (order : p ≤ r) (few : r ≤ 128) (test : DoFit fits p r true) where
      all_fit : (i : ℕ) → i < length code → Fits code (Connected code i) (region_places i) p r
      all_fit i less = rw (places_are i less) (fits_by_test code (Connected code i) (fit_at i) p r (of_connected i less) (test.all refl (number i) (fit_at i) (there i less)))

      pub region_small : (i k : ℕ) → i < length code → InUse code i k k → slice_index (places_for regions fits i) k < 256
      region_small i k less used = small_place code (Connected code i) (region_places i) p r i k order few (all_fit i less) less ([], refl) used

      pub region_some : (plan : Plan) → IsPlacedBy code p r region_places plan → IsRegionFit code p r (Some plan)
      region_some plan placed = (region_places, first_fits, all_fit, placed)

      pub region_valid : (plan : Plan) → IsPlacedBy code p r region_places plan → IsValidPlan code plan
      region_valid plan placed = plan_valid code p r region_places plan (Connected code) order few (λ i less. ([], refl)) first_fits all_fit placed

      pub region_still : (plan : Plan) → ((i j : ℕ) → Edge code i j → j < length code) → IsPlacedBy code p r region_places plan
          → (i j : ℕ) → Joined code i j → MovesNothing code plan i j
      region_still plan closed placed i j joined =
          let edge : Edge code i j = (joined.0, joined.1, joined.3) in
          let here = slice_get_within code i joined.0 joined.1 in
          let same = (are.same i j here (closed i j edge)).1 (j ∷ [], (inl joined, refl)) in
          nothing_moves code p r region_places plan i j placed edge (λ k live. ap (λ (g : ℕ). slice_index (places_at fits g) k) same)
