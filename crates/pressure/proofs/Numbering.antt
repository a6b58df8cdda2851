-- A flood numbers the region of its start.
use Rattle.std.proofs.Common.{◌≡◌, ℕ, ◌+◌, ◌<◌, ◌≤◌, ◌⊎◌, Bool, true, false, List, [], ◌∷◌, ◌++◌, Option, Some, None, length, get_or, sym, subst, refl, ap, ◌∙◌, inl, inr, arith}
use Rattle.std.specs.Prelude.{is_some}
use Rattle.std.proofs.lemmas.Bool.{cases_eq, cases_lt}
use Rattle.std.proofs.lemmas.List.{length-append, get_or_append_left, get_or_default}
use Rattle.std.proofs.Math.Seq.{get_or-append_seam}
use Rattle.std.proofs.lemmas.Option.{slice_get_within}
use Rattle.micro_isa.specs.declared.program.Line.{Line}
use Rattle.flow_graph.specs.Paths.{IsClosedCode}
use Rattle.pressure.specs.declared.ring.Rings.{Rings}
use Rattle.pressure.specs.Regions.{Joined, Adjacent, Connected, IsLeastOf, IsNumbered}
use Rattle.pressure.specs.Rings.{Link, LinkOf, Leads, AreRinged, IsNobody}
use Rattle.pressure.specs.Floods.{HasNumber, Floods, IsUnused, AreLow, AreNumbered, ArePlain, ArePlainBelow}
use Rattle.pressure.proofs.Ways.{trans, one, reroute, back, carry}
use Rattle.pressure.proofs.Ringing.{either, some_below}

connected_below : (code : List Line) → IsClosedCode code → (a b : ℕ) → a < length code → Connected code a b → b < length code
connected_below code closed = carry (λ n. n < length code) (Adjacent code) (λ a b inside step. elim step [
  | inl out ↦ closed.closed a b (out.0, out.1, out.3)
  | inr into ↦ slice_get_within code b into.0 into.1
])

module _ (code : List Line) (falls jumps : Rings) (rings : AreRinged code falls jumps) where
  -- links stay in a region
  pub linked : (a b : ℕ) → LinkOf falls jumps a b → Connected code a b
  linked a b (inl fall) = rings.by_fall.linked a b fall
  linked a b (inr jump) = rings.by_jump.linked a b jump

  -- and lead all over it
  joined : (i j : ℕ) → Joined code i j → Leads (LinkOf falls jumps) i j × Leads (LinkOf falls jumps) j i
  joined i j by =
      let inside : i < length code = slice_get_within code i by.0 by.1 in
      let L : ℕ → ℕ → Type 0 = LinkOf falls jumps in
      let by_falls : (a b : ℕ) → Leads (Link falls.own falls.target) a b → Leads L a b = reroute _ L (λ a b link. one L a b (inl link)) in
      let by_jumps : (a b : ℕ) → Leads (Link jumps.own jumps.target) a b → Leads L a b = reroute _ L (λ a b link. one L a b (inr link)) in
      elim by.3 [
        | inl fall ↦ let both = rings.by_fall.joined i j inside (by.0, by.1, by.2, fall) in (by_falls i j both.0, by_falls j i both.1)
        | inr jump ↦ let both = rings.by_jump.joined i j inside (by.0, by.1, by.2, jump) in (by_jumps i j both.0, by_jumps j i both.1)
      ]

  pub led : (i j : ℕ) → Connected code i j → Leads (LinkOf falls jumps) i j
  led = reroute (Adjacent code) (LinkOf falls jumps) (λ a b step. elim step [
    | inl out ↦ (joined a b out).0
    | inr into ↦ (joined b a into).1
  ])

  pub low : AreLow (LinkOf falls jumps) (length code)
  low = record {
    low = λ a b link.
        let inside : a < length code = elim link [
          | inl fall ↦ elim fall [
            | inl e ↦ let l = some_below falls.own a b e in let n = rings.by_fall.own_each in omega arith
            | inr e ↦ let l = some_below falls.target a b e in let n = rings.by_fall.target_each in omega arith
          ]
          | inr jump ↦ elim jump [
            | inl e ↦ let l = some_below jumps.own a b e in let n = rings.by_jump.own_each in omega arith
            | inr e ↦ let l = some_below jumps.target a b e in let n = rings.by_jump.target_each in omega arith
          ]
        ] in
        connected_below code rings.closed a b inside (linked a b link);
  }

  module _ (start count : ℕ) (old new : List (Option ℕ)) (inside : start < length code) (none : get_or old start None ≡ None)
      (before : AreNumbered code start count old) (flood : Floods (LinkOf falls jumps) start count old new []) where
    -- a number in the start's region is new
    is_new : (i a : ℕ) → Connected code start i → HasNumber new i a → a ≡ count
    is_new i a way has = elim (flood.only i a has) [
      | inl was ↦ absurd (let here = before.whole i start a was (back (Adjacent code) (either code) start i way) in let off = none in cc)
      | inr now ↦ now.0
    ]

    -- the flood reaches the whole region
    reached : (i : ℕ) → Connected code start i → HasNumber new i count
    reached i way =
        let P : ℕ → Type 0 = λ n. HasNumber new n count × Connected code start n in
        let step : (a b : ℕ) → P a → LinkOf falls jumps a b → P b =
        λ a b here link. elim (flood.done a here.0) [
          | inl waits ↦ absurd (let no_place = waits.1 in omega arith)
          | inr on ↦
              let h = on b link in
              let there : Connected code start b = trans (Adjacent code) start a b here.1 (linked a b link) in
              (subst (λ n. HasNumber new b n) (is_new b h.0 there h.1) h.1, there)
        ] in
        (carry P (LinkOf falls jumps) step start i (flood.begun, ([], refl)) (led start i way)).0

    in_region : (i a : ℕ) → HasNumber new i a → HasNumber old i a ⊎ ((a ≡ count) × Connected code start i)
    in_region i a has = elim (flood.only i a has) [
      | inl was ↦ inl was
      | inr now ↦ inr (now.0, reroute (LinkOf falls jumps) (Adjacent code) linked start i now.1)
    ]

    -- what was numbered before is of an earlier region
    apart : (i a : ℕ) → HasNumber old i a → Connected code start i → ⊥
    apart i a was way = absurd (let here = before.whole i start a was (back (Adjacent code) (either code) start i way) in let off = none in cc)

    -- the start is the least of its region
    least : (i : ℕ) → Connected code start i → start ≤ i
    least i way = elim (cases_lt i start) [
      | inl less ↦ absurd (let h = before.all i less in apart i h.0 h.1 way)
      | inr le ↦ le
    ]

    least_is : (i a : ℕ) → Connected code start i → IsLeastOf code i a → a ≡ start
    least_is i a way is =
        let le = is.least start (back (Adjacent code) (either code) start i way) in
        let ge = least a (trans (Adjacent code) start i a way is.in_it) in
        omega arith

    earlier : (i a x : ℕ) → HasNumber old i x → IsLeastOf code i a → a < start
    earlier i a x was is =
        let e = before.early i x was in
        let le = is.least e.0 e.2 in
        let less = e.1 in
        omega arith

    pub one_more : AreNumbered code (start + 1) (count + 1) new
    one_more = record {
      one_each = flood.one_each ∙ before.one_each;
      all = λ i less. elim (cases_eq i start) [
        | inl same ↦ (count, rw same flood.begun)
        | inr other ↦ let h = before.all i (omega arith) in (h.0, flood.kept i h.0 h.1)
      ];
      whole = λ i j a has way. elim (in_region i a has) [
        | inl was ↦ flood.kept j a (before.whole i j a was way)
        | inr now ↦ subst (λ n. HasNumber new j n) (sym now.0) (reached j (trans (Adjacent code) start i j now.1 way))
      ];
      same = λ i j a has_i has_j. elim (in_region i a has_i) [
        | inl was_i ↦ elim (in_region j a has_j) [
          | inl was_j ↦ before.same i j a was_i was_j
          | inr now_j ↦ absurd (let less = before.below i a was_i in let e = now_j.0 in omega arith)
        ]
        | inr now_i ↦ elim (in_region j a has_j) [
          | inl was_j ↦ absurd (let less = before.below j a was_j in let e = now_i.0 in omega arith)
          | inr now_j ↦ trans (Adjacent code) i start j (back (Adjacent code) (either code) start i now_i.1) now_j.1
        ]
      ];
      early = λ i a has. elim (in_region i a has) [
        | inl was ↦ let e = before.early i a was in let less = e.1 in (e.0, omega arith, e.2)
        | inr now ↦ (start, omega arith, back (Adjacent code) (either code) start i now.1)
      ];
      below = λ i a has. elim (in_region i a has) [
        | inl was ↦ let less = before.below i a was in omega arith
        | inr now ↦ let e = now.0 in omega arith
      ];
      each = λ a less. elim (cases_eq a count) [
        | inl same ↦ (start, rw same flood.begun)
        | inr other ↦ let e = before.each a (omega arith) in (e.0, flood.kept e.0 a e.1)
      ];
      in_order = λ i j a b x y has_i has_j least_i least_j less. elim (in_region i x has_i) [
        | inl was_i ↦ elim (in_region j y has_j) [
          | inl was_j ↦ before.in_order i j a b x y was_i was_j least_i least_j less
          | inr now_j ↦ let l = before.below i x was_i in let e = now_j.0 in omega arith
        ]
        | inr now_i ↦ elim (in_region j y has_j) [
          | inl was_j ↦ absurd (let e = least_is i a now_i.1 least_i in let l = earlier j b y was_j least_j in omega arith)
          | inr now_j ↦ absurd (let e = least_is i a now_i.1 least_i in let f = least_is j b now_j.1 least_j in omega arith)
        ]
      ];
    }

-- an instruction that has a number starts no region
pub no_more : (code : List Line) (i count a : ℕ) (numbers : List (Option ℕ)) → HasNumber numbers i a → AreNumbered code i count numbers
    → AreNumbered code (i + 1) count numbers
no_more code i count a numbers has before = record {
  one_each = before.one_each;
  all = λ j less. elim (cases_eq j i) [
    | inl same ↦ (a, rw same has)
    | inr other ↦ before.all j (omega arith)
  ];
  whole = before.whole;
  same = before.same;
  early = λ j x e. let k = before.early j x e in let less = k.1 in (k.0, omega arith, k.2);
  below = before.below;
  each = before.each;
  in_order = before.in_order;
}

pub numbered_already : (code : List Line) (i count : ℕ) (numbers : List (Option ℕ)) (d : Option ℕ) (told : Bool) → i < length code → told ≡ is_some (get_or numbers i d)
    → told ≡ true → AreNumbered code i count numbers → AreNumbered code (i + 1) count numbers
numbered_already code i count numbers d told inside is is_true before = go (get_or numbers i None) refl
  where
    go : (o : Option ℕ) → get_or numbers i None ≡ o → AreNumbered code (i + 1) count numbers
    go (Some a) e = no_more code i count a numbers e before
    go None e = absurd (
        let here : i < length numbers = let one = before.one_each in omega arith in
        let off : is_some (get_or numbers i d) ≡ false = ap (λ (o : Option ℕ). is_some o) (get_or_default numbers i d None here ∙ e) in
        cc)

pub unnumbered : (numbers : List (Option ℕ)) (i : ℕ) (d : Option ℕ) (told : Bool) → i < length numbers → told ≡ is_some (get_or numbers i d) → told ≡ false
    → get_or numbers i None ≡ None
unnumbered numbers i d told inside is not_told = go (get_or numbers i None) refl
  where
    go : (o : Option ℕ) → get_or numbers i None ≡ o → o ≡ None
    go None e = refl
    go (Some a) e = absurd (
        let on : is_some (get_or numbers i d) ≡ true = ap (λ (o : Option ℕ). is_some o) (get_or_default numbers i d None inside ∙ e) in
        cc)

pub low_links : (code : List Line) (falls jumps : Rings) (n : ℕ) → AreRinged code falls jumps → n ≡ length code → AreLow (LinkOf falls jumps) n
low_links code falls jumps n rings same = subst (λ m. AreLow (LinkOf falls jumps) m) (sym same) (low code falls jumps rings)

pub none_numbered : (code : List Line) (numbers : List (Option ℕ)) → IsNobody (length code) numbers → AreNumbered code 0 0 numbers
none_numbered code numbers nobody = let none = nobody.none in record {
  one_each = nobody.one_each;
  all = λ i less. absurd (omega arith);
  whole = λ i j a has. absurd (let off = none i in cc);
  same = λ i j a has. absurd (let off = none i in cc);
  early = λ i a has. absurd (let off = none i in cc);
  below = λ i a has. absurd (let off = none i in cc);
  each = λ a less. absurd (omega arith);
  in_order = λ i j a b x y has. absurd (let off = none i in cc);
}

pub unused : (code : List Line) (m count : ℕ) (numbers : List (Option ℕ)) → AreNumbered code m count numbers → IsUnused numbers count
unused code m count numbers are = record { none = λ i has. absurd (let less = are.below i count has in omega arith) }

pub numbered : (code : List Line) (m count : ℕ) (numbers : List (Option ℕ)) (plain : List ℕ) → m ≡ length code → AreNumbered code m count numbers
    → ArePlain numbers plain → IsNumbered code plain count
numbered code m count numbers plain whole are plains =
    let has : (i : ℕ) → i < length code → HasNumber numbers i (get_or plain i 0) =
    λ i inside.
    let h = are.all i (omega arith) in
    subst (λ a. HasNumber numbers i a) (sym (plains.each i h.0 h.1)) h.1 in record {
      one_each = plains.one_each ∙ are.one_each;
      same = λ i j here there. (
        λ e. are.same i j (get_or plain i 0) (has i here) (subst (λ a. HasNumber numbers j a) (sym e) (has j there)),
        λ way. sym (plains.each j (get_or plain i 0) (are.whole i j (get_or plain i 0) (has i here) way)),
      );
      in_order = λ i j a b here there p q less. are.in_order i j a b (get_or plain i 0) (get_or plain j 0) (has i here) (has j there) p q less;
      below = λ i here. are.below i (get_or plain i 0) (has i here);
      each = λ a less.
          let e = are.each a less in
          let inside = some_below numbers e.0 a e.1 in
          let one = are.one_each in
          (e.0, omega arith, plains.each e.0 a e.1);
    }

-- the numbers without their options, one more
pub plain_more : (numbers : List (Option ℕ)) (plain longer : List ℕ) (n v : ℕ) (o : Option ℕ) → n < length numbers → o ≡ get_or numbers n None
    → ((a : ℕ) → o ≡ Some a → v ≡ a) → longer ≡ plain ++ v ∷ [] → ArePlainBelow numbers n plain → ArePlainBelow numbers (n + 1) longer
plain_more numbers plain longer n v o inside o_is v_is e before = rw e (record {
  one_each = let long = length-append plain (v ∷ []) in let as_many = before.one_each in omega arith;
  each = λ i a less has. elim (cases_eq i n) [
    | inl same ↦
        let last : get_or (plain ++ v ∷ []) n 0 ≡ v = subst (λ k. get_or (plain ++ v ∷ []) k 0 ≡ v) before.one_each (get_or-append_seam plain v [] 0) in
        rw same (last ∙ v_is a (o_is ∙ subst (λ k. get_or numbers k None ≡ Some a) same has))
    | inr other ↦ let as_many = before.one_each in get_or_append_left plain (v ∷ []) 0 i (omega arith) ∙ before.each i a (omega arith) has
  ];
})

pub plain_all : (numbers : List (Option ℕ)) (plain : List ℕ) (n : ℕ) → n ≡ length numbers → ArePlainBelow numbers n plain → ArePlain numbers plain
plain_all numbers plain n whole below = record {
  one_each = below.one_each ∙ whole;
  each = λ i a has. below.each i a (let less = some_below numbers i a has in omega arith) has;
}
