-- There is one first fit on the registers of a group, and one plan by it.
use Rattle.std.proofs.Common.{◌≡◌, ℕ, zero, suc, ◌<◌, ◌↔◌, true, List, [], ◌∷◌, Option, Some, None, length, get_or, slice_get, is_some, map, sym, ap, refl, ◌∙◌, inl, inr, arith}
use Rattle.std.specs.List.{Contains}
use Rattle.std.proofs.lemmas.Bool.{cases_eq, cases_lt}
use Rattle.std.proofs.lemmas.Grind.{get_or_default_zero}
use Rattle.std.proofs.lemmas.Option.{slice_get_within}
use Rattle.micro_isa.specs.declared.program.Line.{Line}
use Rattle.liveness.specs.Surviving.{WritesAt}
use Rattle.plan.specs.declared.row.Place.{Place}
use Rattle.plan.specs.declared.row.PlanRow.{PlanRow}
use Rattle.plan.specs.declared.row.Plan.{Plan}
use Rattle.plan.specs.ValidPlans.{registers_of}
use Rattle.pressure.specs.Regions.{Connected}
use Rattle.range_colour.specs.FirstFits.{IsEarlier, IsFirstFit}
use Rattle.range_colour.specs.Groups.{CrossesIn, Every, InUse, MeetsIn}
use Rattle.range_colour.specs.PlacedPlans.{DoesNotFit, Fits, IsFitOf, IsPlacedBy, IsPlacedRow, IsRegionFit, IsWholeFit}
use Rattle.range_colour.proofs.Fitting.{meets_itself}
use Rattle.range_colour.proofs.Valid.{first_or_behind, is_behind, is_first}

module _ (code : List Line) (Group : ℕ → Type 0) (f g : ℕ → ℕ) (first : IsFitOf code Group f) (second : IsFitOf code Group g) where
  abbrev M : ℕ → ℕ → Type 0
  M = MeetsIn code Group

  abbrev C : ℕ → Type 0
  C = CrossesIn code Group

  -- where all earlier registers agree, neither place is less
  not_less : (a b : ℕ → ℕ) → IsFirstFit M C a → IsFirstFit M C b → (k : ℕ) → M k k → ((j : ℕ) → M j j → IsEarlier C j k → a j ≡ b j) → a k < b k → ⊥
  not_less a b one two k there agree less =
      let found = two.least k (a k) there less in
      let mine = (meets_itself code Group found.0 k found.1).0 in
      one.apart found.0 k found.1 found.2 (agree found.0 mine found.2 ∙ found.3)

  agree_at : (k : ℕ) → M k k → ((j : ℕ) → M j j → IsEarlier C j k → f j ≡ g j) → f k ≡ g k
  agree_at k there agree = elim (cases_eq (f k) (g k)) [
    | inl same ↦ same
    | inr other ↦ elim (cases_lt (f k) (g k)) [
      | inl less ↦ absurd (not_less f g first second k there agree less)
      | inr more ↦ absurd (not_less g f second first k there (λ j mine earlier. sym (agree j mine earlier)) (omega arith))
    ]
  ]

  crossing_below : (n k : ℕ) → k < n → M k k → C k → f k ≡ g k
  crossing_below zero k less there cross = absurd (omega arith)
  crossing_below (suc n) k less there cross = agree_at k there (λ j mine earlier. elim earlier [
    | inl kinds ↦ absurd (kinds.1 cross)
    | inr alike ↦ elim alike.0 [
      | inl both ↦ crossing_below n j (let low = alike.1 in omega arith) mine both.0
      | inr neither ↦ absurd (neither.1 cross)
    ]
  ])

  others_below : (n k : ℕ) → k < n → M k k → (C k → ⊥) → f k ≡ g k
  others_below zero k less there none = absurd (omega arith)
  others_below (suc n) k less there none = agree_at k there (λ j mine earlier. elim earlier [
    | inl kinds ↦ crossing_below (suc j) j (omega arith) mine kinds.0
    | inr alike ↦ elim alike.0 [
      | inl both ↦ absurd (none both.1)
      | inr neither ↦ others_below n j (let low = alike.1 in omega arith) mine neither.0
    ]
  ])

  -- whether a register crosses need not be known
  pub fit_once : (k : ℕ) → M k k → f k ≡ g k
  fit_once k there = elim (cases_eq (f k) (g k)) [
    | inl same ↦ same
    | inr other ↦ absurd (other (others_below (suc k) k (omega arith) there (λ cross. other (crossing_below (suc k) k (omega arith) there cross))))
  ]

  pub fits_not_out : (p r : ℕ) → Fits code Group f p r → DoesNotFit code Group g p r → ⊥
  fits_not_out p r fits out =
      let same = fit_once out.0 out.1 in
      elim out.2 [
        | inl cross ↦ let low = (fits out.0 out.1).0 cross.0 in let high = cross.1 in omega arith
        | inr other ↦ let low = (fits out.0 out.1).1 other.0 in let high = other.1 in omega arith
      ]

-- rising lists with the same members are one
abbrev Rises : List ℕ → Type 0
Rises xs = (a b : ℕ) → a < b → b < length xs → get_or xs a 0 < get_or xs b 0

rises_tail : (x : ℕ) (xs : List ℕ) → Rises (x ∷ xs) → Rises xs
rises_tail x xs rises a b less inside = rises (suc a) (suc b) (omega arith) (omega arith)

above_head : (x : ℕ) (xs : List ℕ) → Rises (x ∷ xs) → (y : ℕ) → Contains xs y → x < y
above_head x xs rises y has =
    let inside = has.1 in
    let up = rises 0 (suc has.0) (omega arith) (omega arith) in
    let zero_is = get_or_default_zero xs has.0 y has.1 in
    let is = has.2 in
    omega arith

same_lists : (xs ys : List ℕ) → Rises xs → Rises ys → ((k : ℕ) → Contains xs k ↔ Contains ys k) → xs ≡ ys
same_lists [] [] rises_x rises_y same = refl
same_lists [] (y ∷ ys) rises_x rises_y same = absurd (let has = (same y).1 (is_first y ys) in let less = has.1 in omega arith)
same_lists (x ∷ xs) [] rises_x rises_y same = absurd (let has = (same x).0 (is_first x xs) in let less = has.1 in omega arith)
same_lists (x ∷ xs) (y ∷ ys) rises_x rises_y same =
    let head : x ≡ y = elim (first_or_behind y ys x ((same x).0 (is_first x xs))) [
      | inl e ↦ sym e
      | inr behind ↦ elim (first_or_behind x xs y ((same y).1 (is_first y ys))) [
        | inl e ↦ e
        | inr other ↦ absurd (let a = above_head y ys rises_y x behind in let b = above_head x xs rises_x y other in omega arith)
      ]
    ] in
    let tail = same_lists xs ys (rises_tail x xs rises_x) (rises_tail y ys rises_y) (λ k. (
      λ has. elim (first_or_behind y ys k ((same k).0 (is_behind x xs k has))) [
        | inl e ↦ absurd (let low = above_head x xs rises_x k has in omega arith)
        | inr there ↦ there
      ],
      λ has. elim (first_or_behind x xs k ((same k).1 (is_behind y ys k has))) [
        | inl e ↦ absurd (let low = above_head y ys rises_y k has in omega arith)
        | inr there ↦ there
      ],
    )) in
    cc

placed_at : (ℕ → ℕ) → ℕ → Place
placed_at f k = record { register = record { 0 = k }; place = f k }

places_made : (places : List Place) (f : ℕ → ℕ) → ((q : Place) → Contains places q → q.place ≡ f q.register.0) → places ≡ map (placed_at f) (registers_of places)
unfolding placed_at
places_made [] f each = refl
places_made (q ∷ places) f each =
    let rest = places_made places f (λ x has. each x (is_behind q places x has)) in
    let one : q ≡ placed_at f q.register.0 = ap (λ (n : ℕ). record { register = q.register; place = n }) (each q (is_first q places)) in
    ap (λ (x : Place). x ∷ places) one ∙ ap (λ (xs : List Place). placed_at f q.register.0 ∷ xs) rest

made_same : (ks : List ℕ) (f g : ℕ → ℕ) → ((k : ℕ) → Contains ks k → f k ≡ g k) → map (placed_at f) ks ≡ map (placed_at g) ks
unfolding placed_at
made_same [] f g same = refl
made_same (k ∷ ks) f g same =
    let rest = made_same ks f g (λ j has. same j (is_behind k ks j has)) in
    ap (λ (n : ℕ). (let q : Place = record { register = record { 0 = k }; place = n } in q) ∷ map (placed_at f) ks) (same k (is_first k ks))
    ∙ ap (λ (xs : List Place). placed_at g k ∷ xs) rest

same_write : (x y : Option ℕ) (W : Type 0) → (is_some x ≡ true) ↔ W → (is_some y ≡ true) ↔ W → ((m n : ℕ) → W → x ≡ Some m → y ≡ Some n → m ≡ n) → x ≡ y
same_write None None W one two same = refl
same_write None (Some n) W one two same = absurd (let some = one.1 (two.0 refl) in cc)
same_write (Some m) None W one two same = absurd (let some = two.1 (one.0 refl) in cc)
same_write (Some m) (Some n) W one two same = ap Some (same m n (one.0 refl) refl refl)

-- rows with equal places on what is in use are equal
row_once : (code : List Line) (i : ℕ) (f g : ℕ → ℕ) (x y : PlanRow) → IsPlacedRow code i f x → IsPlacedRow code i g y → ((k : ℕ) → InUse code i k k → f k ≡ g k) → x ≡ y
row_once code i f g x y one two same =
    let registers = same_lists (registers_of x.places) (registers_of y.places) one.lists.rising two.lists.rising
    (λ k. (λ has. (two.lists.exact k).1 ((one.lists.exact k).0 has), λ has. (one.lists.exact k).1 ((two.lists.exact k).0 has))) in
    let agree = made_same (registers_of x.places) f g (λ k has. let live = (one.lists.exact k).0 has in same k (inl (live, live))) in
    let places : x.places ≡ y.places =
    places_made x.places f one.places ∙ agree ∙ ap (map (placed_at g)) registers ∙ sym (places_made y.places g two.places) in
    let write : x.write ≡ y.write = same_write x.write y.write ((k : ℕ) × WritesAt code i k) one.writes two.writes
    (λ m n written mine other. one.written written.0 m written.1 mine ∙ same written.0 (inr (inr written.1, inr written.1)) ∙ sym (two.written written.0 n written.1 other)) in
    ap (λ (q : List Place). let row : PlanRow = record { places = q; write = x.write } in row) places ∙ ap (λ (w : Option ℕ). let row : PlanRow = record { places = y.places; write = w } in row) write

-- lists of one length with equal items are equal
same_items : (xs ys : List PlanRow) → length xs ≡ length ys → ((k : ℕ) (x y : PlanRow) → slice_get xs k ≡ Some x → slice_get ys k ≡ Some y → x ≡ y) → xs ≡ ys
same_items [] [] long same = refl
same_items [] (y ∷ ys) long same = absurd (omega arith)
same_items (x ∷ xs) [] long same = absurd (omega arith)
same_items (x ∷ xs) (y ∷ ys) long same =
    let head = same 0 x y refl refl in
    let tail = same_items xs ys (omega arith) (λ k a b at_a at_b. same (suc k) a b at_a at_b) in
    ap (λ (a : PlanRow). a ∷ xs) head ∙ ap (λ (zs : List PlanRow). y ∷ zs) tail

plan_once : (code : List Line) (p r : ℕ) (at to : ℕ → ℕ → ℕ) (x y : Plan) → IsPlacedBy code p r at x → IsPlacedBy code p r to y
    → ((i k : ℕ) → i < length code → InUse code i k k → at i k ≡ to i k) → x ≡ y
plan_once code p r at to x y one two same =
    let rows : x.rows ≡ y.rows = same_items x.rows y.rows (one.rows.one_each ∙ sym two.rows.one_each) (λ k a b at_a at_b.
    let inside = slice_get_within x.rows k a at_a in
    let less : k < length code = let e = one.rows.one_each in omega arith in
    row_once code k (at k) (to k) a b (one.rows.each k a at_a) (two.rows.each k b at_b) (λ j used. same k j less used)) in
    ap (λ (n : ℕ). let plan : Plan = record { p = n; r = x.r; rows = x.rows } in plan) (one.private ∙ sym two.private)
    ∙ ap (λ (n : ℕ). let plan : Plan = record { p = y.p; r = n; rows = x.rows } in plan) (one.all ∙ sym two.all)
    ∙ ap (λ (rows : List PlanRow). let plan : Plan = record { p = y.p; r = y.r; rows = rows } in plan) rows

pub whole_once : (code : List Line) (p r : ℕ) (x y : Option Plan) → IsWholeFit code p r x → IsWholeFit code p r y → x ≡ y
whole_once code p r None None one two = refl
whole_once code p r None (Some plan) one two = absurd (fits_not_out code Every two.0 one.0 two.1 one.1 p r two.2 one.2)
whole_once code p r (Some plan) None one two = absurd (fits_not_out code Every one.0 two.0 one.1 two.1 p r one.2 two.2)
whole_once code p r (Some x) (Some y) one two =
    ap Some (plan_once code p r (λ i. one.0) (λ i. two.0) x y one.3 two.3
    (λ i k less used. fit_once code Every one.0 two.0 one.1 two.1 k (i, less, tt, used)))

pub region_once : (code : List Line) (p r : ℕ) (x y : Option Plan) → IsRegionFit code p r x → IsRegionFit code p r y → x ≡ y
region_once code p r None None one two = refl
region_once code p r None (Some plan) one two =
    let out = one.2 in absurd (fits_not_out code (Connected code out.0) (two.0 out.0) (one.0 out.0) (two.1 out.0 out.1) (one.1 out.0 out.1) p r (two.2 out.0 out.1) out.2)
region_once code p r (Some plan) None one two =
    let out = two.2 in absurd (fits_not_out code (Connected code out.0) (one.0 out.0) (two.0 out.0) (one.1 out.0 out.1) (two.1 out.0 out.1) p r (one.2 out.0 out.1) out.2)
region_once code p r (Some x) (Some y) one two =
    ap Some (plan_once code p r one.0 two.0 x y one.3 two.3
    (λ i k less used. fit_once code (Connected code i) (one.0 i) (two.0 i) (one.1 i less) (two.1 i less) k (i, less, ([], refl), used)))
