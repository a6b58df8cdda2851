-- Instructions put on rings, one at a time.
use Rattle.std.proofs.Common.{◌≡◌, ℕ, zero, suc, ◌+◌, ◌<◌, ◌⊎◌, Bool, true, false, cond, List, [], ◌∷◌, Option, Some, None, length, get_or, set, slice_get, ◌++◌, ap, sym, subst, refl, ◌∙◌, inl, inr, arith}
use Rattle.std.proofs.lemmas.Bool.{cases_eq, cases_lt}
use Rattle.std.proofs.lemmas.List.{get_or-set_same, get_or-set_other, length-set, get_or_past, length-append, get_or_append_left}
use Rattle.std.proofs.Math.Seq.{get_or-append_seam}
use Rattle.std.proofs.lemmas.Option.{same_Some, slice_get-get_or, get_or_from_slice_get}
use Rattle.micro_isa.specs.declared.instr.Next.{Next}
use Rattle.micro_isa.specs.declared.program.Line.{Line}
use Rattle.micro_isa.specs.Columns.{switches_at, next_of}
use Rattle.flow_graph.specs.declared.flow.Flow.{Flow}
use Rattle.flow_graph.specs.Paths.{Below, IsClosedCode}
use Rattle.flow_graph.specs.Flows.{successors_in, IsFlowOf}
use Rattle.pressure.specs.Regions.{Joined, Adjacent, Connected}
use Rattle.pressure.specs.Rings.{way_of, JoinedBy, IsTarget, Link, Leads, AreRings, IsAlone, IsNobody, own_after, target_after}
use Rattle.pressure.specs.Floods.{AreLow}
use Rattle.pressure.proofs.Ways.{trans, one, reroute}

pub either : (code : List Line) (a b : ℕ) → Adjacent code a b → Adjacent code b a
either code a b (inl out) = inr out
either code a b (inr into) = inl into

goes : (jumps : Bool) (next : Next) (j : ℕ) → way_of jumps next ≡ Some j → (next.fall ≡ Some j) ⊎ (next.jump ≡ Some j)
goes true next j e = inr e
goes false next j e = inl e

pub joined_of : (code : List Line) (jumps : Bool) (i j : ℕ) → JoinedBy code jumps i j → Joined code i j
joined_of code jumps i j by = (by.0, by.1, by.2, goes jumps (next_of by.0.instr i) j by.3)

pub target_below : (code : List Line) (jumps : Bool) (i : ℕ) (to : Option ℕ) → IsClosedCode code → IsTarget code jumps i to → Below to (length code)
target_below code jumps i None closed is = tt
target_below code jumps i (Some j) closed is =
    let joined = joined_of code jumps i j ((is.exact j).0 refl) in
    closed.closed i j (joined.0, joined.1, joined.3)

-- one instruction put on a ring

module _ (own target : List (Option ℕ)) (i to old : ℕ) (i_in : i < length target) (to_in : to < length own)
    (is_old : get_or own to None ≡ Some old) (free : get_or target i None ≡ None) where
  pub own_now : get_or (set own to (Some i)) to None ≡ Some i
  own_now = get_or-set_same own to (Some i) None to_in

  pub first : Link (set own to (Some i)) (set target i (get_or own to None)) to i
  first = inl own_now

  pub second : Link (set own to (Some i)) (set target i (get_or own to None)) i old
  second = inr (get_or-set_same target i (get_or own to None) None i_in ∙ is_old)

  pub still : (a b : ℕ) → Link own target a b → Leads (Link (set own to (Some i)) (set target i (get_or own to None))) a b
  still a b (inl e) =
      let M = Link (set own to (Some i)) (set target i (get_or own to None)) in
      elim (cases_eq a to) [
        | inl same ↦
            let is_b : old ≡ b = same_Some old b (sym is_old ∙ subst (λ n. get_or own n None ≡ Some b) same e) in
            subst (λ n. Leads M n b) (sym same) (subst (λ n. Leads M to n) is_b (trans M to i old (one M to i first) (one M i old second)))
        | inr other ↦ one M a b (inl (get_or-set_other own to a (Some i) None other ∙ e))
      ]
  still a b (inr e) =
      let M = Link (set own to (Some i)) (set target i (get_or own to None)) in
      elim (cases_eq a i) [
        | inl same ↦ absurd (let none = subst (λ n. get_or target n None ≡ Some b) same e in cc)
        | inr other ↦ one M a b (inr (get_or-set_other target i a (get_or own to None) None other ∙ e))
      ]

  pub only : (a b : ℕ) → Link (set own to (Some i)) (set target i (get_or own to None)) a b
      → Link own target a b ⊎ (((a ≡ to) × (b ≡ i)) ⊎ ((a ≡ i) × (b ≡ old)))
  only a b (inl e) =
      elim (cases_eq a to) [
        | inl same ↦ inr (inl (same, same_Some b i (sym (subst (λ n. get_or (set own to (Some i)) n None ≡ Some b) same e) ∙ own_now)))
        | inr other ↦ inl (inl (sym (get_or-set_other own to a (Some i) None other) ∙ e))
      ]
  only a b (inr e) =
      elim (cases_eq a i) [
        | inl same ↦
            let now = subst (λ n. get_or (set target i (get_or own to None)) n None ≡ Some b) same e in
            inr (inr (same, same_Some b old (sym now ∙ get_or-set_same target i (get_or own to None) None i_in ∙ is_old)))
        | inr other ↦ inl (inr (sym (get_or-set_other target i a (get_or own to None) None other) ∙ e))
      ]

ringed_to : (code : List Line) (jumps : Bool) (i to : ℕ) (own target : List (Option ℕ)) → IsClosedCode code → i < length code
    → IsTarget code jumps i (Some to) → AreRings code jumps i own target
    → AreRings code jumps (i + 1) (set own to (Some i)) (set target i (get_or own to None))
ringed_to code jumps i to own target closed here is before =
    let by : JoinedBy code jumps i to = (is.exact to).0 refl in
    let joins : Joined code i to = joined_of code jumps i to by in
    let to_code : to < length code = closed.closed i to (joins.0, joins.1, joins.3) in
    let to_in : to < length own = let e = before.own_each in omega arith in
    let i_in : i < length target = let e = before.target_each in omega arith in
    let hub = before.back to to_code in
    let old : ℕ = hub.0 in
    let is_old : get_or own to None ≡ Some old = hub.1 in
    let free : get_or target i None ≡ None = before.free i (omega arith) in
    let L : ℕ → ℕ → Type 0 = Link own target in
    let M : ℕ → ℕ → Type 0 = Link (set own to (Some i)) (set target i (get_or own to None)) in
    let keeps : (a b : ℕ) → Leads L a b → Leads M a b = reroute L M (still own target i to old i_in to_in is_old free) in
    let round : Leads M i to = trans M i old to (one M i old (second own target i to old i_in to_in is_old free)) (keeps old to hub.2) in
    let out : Leads M to i = one M to i (first own target i to old i_in to_in is_old free) in
    let linked_to : Connected code to i = one (Adjacent code) to i (inr joins) in
    let linked_back : Connected code i to = one (Adjacent code) i to (inl joins) in
    record {
      own_each = length-set own to (Some i) ∙ before.own_each;
      target_each = length-set target i (get_or own to None) ∙ before.target_each;
      back = λ j inside. elim (cases_eq j to) [
        | inl same ↦
            let now : get_or (set own to (Some i)) to None ≡ Some i = get_or-set_same own to (Some i) None to_in in
            (i, rw same now, rw same round)
        | inr other ↦
            let was = before.back j inside in
            (was.0, get_or-set_other own to j (Some i) None other ∙ was.1, keeps was.0 j was.2)
      ];
      linked = λ a b link. elim (only own target i to old i_in to_in is_old free a b link) [
        | inl was ↦ before.linked a b was
        | inr new ↦ elim new [
          | inl hubs ↦ rw (hubs.0, hubs.1) linked_to
          | inr spokes ↦ rw (spokes.0, spokes.1) (trans (Adjacent code) i to old linked_back (before.linked to old (inl is_old)))
        ]
      ];
      joined = λ a j less joins_j. elim (cases_eq a i) [
        | inl same ↦
            let there : JoinedBy code jumps i j = subst (λ n. JoinedBy code jumps n j) same joins_j in
            let is_to : to ≡ j = same_Some to j ((is.exact j).1 there) in
            subst (λ n. Leads M n j × Leads M j n) (sym same) (subst (λ n. Leads M i n × Leads M n i) is_to (round, out))
        | inr other ↦ let was = before.joined a j (omega arith) joins_j in (keeps a j was.0, keeps j a was.1)
      ];
      free = λ a le. get_or-set_other target i a (get_or own to None) None (omega arith) ∙ before.free a (omega arith);
    }

pub ringed : (code : List Line) (jumps : Bool) (i : ℕ) (to : Option ℕ) (own target : List (Option ℕ)) → IsClosedCode code → i < length code
    → IsTarget code jumps i to → AreRings code jumps i own target → AreRings code jumps (i + 1) (own_after own i to) (target_after own target i to)
ringed code jumps i (Some to) own target closed here is before = ringed_to code jumps i to own target closed here is before
ringed code jumps i None own target closed here is before = record {
  own_each = before.own_each;
  target_each = before.target_each;
  back = before.back;
  linked = before.linked;
  joined = λ a j less joins_j. elim (cases_eq a i) [
    | inl same ↦ absurd (let no_target = (is.exact j).1 (subst (λ n. JoinedBy code jumps n j) same joins_j) in cc)
    | inr other ↦ before.joined a j (omega arith) joins_j
  ];
  free = λ a le. before.free a (omega arith);
}

pub some_below : (xs : List (Option ℕ)) (i a : ℕ) → get_or xs i None ≡ Some a → i < length xs
some_below xs i a e = elim (cases_lt i (length xs)) [
  | inl less ↦ less
  | inr past ↦ absurd (let none = get_or_past xs i None past in cc)
]

pub begun : (code : List Line) (jumps : Bool) (own target : List (Option ℕ)) → IsAlone (length code) own → IsNobody (length code) target
    → AreRings code jumps 0 own target
begun code jumps own target alone nobody = record {
  own_each = alone.one_each;
  target_each = nobody.one_each;
  back = λ j inside. (j, alone.itself j inside, ([], refl));
  linked = λ a b link. elim link [
    | inl e ↦
        let inside : a < length code = let one = alone.one_each in let below = some_below own a b e in omega arith in
        ([], same_Some a b (sym (alone.itself a inside) ∙ e))
    | inr e ↦ absurd (let off = nobody.none a in cc)
  ];
  joined = λ i j less. absurd (omega arith);
  free = λ i le. nobody.none i;
}

none_more : (xs : List (Option ℕ)) → ((i : ℕ) → get_or xs i None ≡ None) → (i : ℕ) → get_or (xs ++ None ∷ []) i None ≡ None
none_more [] none zero = refl
none_more [] none (suc i) = refl
none_more (x ∷ xs) none zero = none 0
none_more (x ∷ xs) none (suc i) = none_more xs (λ k. none (suc k)) i

pub nobody_more : (n : ℕ) (xs ys : List (Option ℕ)) → ys ≡ xs ++ None ∷ [] → IsNobody n xs → IsNobody (n + 1) ys
nobody_more n xs ys e before = rw e (record {
  one_each = let long = length-append xs (None ∷ []) in let as_many = before.one_each in omega arith;
  none = none_more xs before.none;
})

pub alone_more : (n : ℕ) (xs ys : List (Option ℕ)) → ys ≡ xs ++ Some n ∷ [] → IsAlone n xs → IsAlone (n + 1) ys
alone_more n xs ys e before = rw e (record {
  one_each = let long = length-append xs (Some n ∷ []) in let as_many = before.one_each in omega arith;
  itself = λ i less. elim (cases_eq i n) [
    | inl same ↦ rw same (subst (λ k. get_or (xs ++ Some n ∷ []) k None ≡ Some n) before.one_each (get_or-append_seam xs (Some n) [] None))
    | inr other ↦ let as_many = before.one_each in get_or_append_left xs (Some n ∷ []) None i (omega arith) ∙ before.itself i (omega arith)
  ];
})

-- what an instruction is joined with

pub no_target : (code : List Line) (i : ℕ) (d : Line) (jumps : Bool) → switches_at (get_or code i d).instr ≡ true → IsTarget code jumps i None
no_target code i d jumps switching = record {
  exact = λ j. (
    λ e. absurd (cc),
    λ by. absurd (
        let is = get_or_from_slice_get code i by.0 d by.1 in
        let quiet = by.2 in
        let two : switches_at by.0.instr ≡ true = subst (λ (line : Line). switches_at line.instr ≡ true) is switching in
        cc),
  );
}

pub is_target : (code : List Line) (flow : Flow) (i : ℕ) (d : Line) (jumps : Bool) (next : Next) (to : Option ℕ) → i < length code → IsFlowOf code flow
    → slice_get (successors_in flow) i ≡ Some next → switches_at (get_or code i d).instr ≡ false → to ≡ way_of jumps next → IsTarget code jumps i to
is_target code flow i d jumps next to here is_flow told quiet to_is =
    let is = slice_get-get_or code i d here in
    let same : next ≡ next_of (get_or code i d).instr i = let e = is_flow.successors.each i (get_or code i d) is in same_Some next _ (sym told ∙ e) in record {
      exact = λ j. (
        λ e. (get_or code i d, is, quiet, subst (λ x. way_of jumps x ≡ Some j) same (sym to_is ∙ e)),
        λ by.
            let line_is = get_or_from_slice_get code i by.0 d by.1 in
            let next_is : next ≡ next_of by.0.instr i = same ∙ ap (λ (line : Line). next_of line.instr i) line_is in
            to_is ∙ subst (λ x. way_of jumps x ≡ Some j) (sym next_is) by.3,
      );
    }

pub target_in : (code : List Line) (jumps : Bool) (i m : ℕ) (to : Option ℕ) → m ≡ length code → IsClosedCode code → IsTarget code jumps i to → Below to m
target_in code jumps i m to same closed is = subst (λ n. Below to n) (sym same) (target_below code jumps i to closed is)

pub below_at : (own target : List (Option ℕ)) (i n : ℕ) (o : Option ℕ) → o ≡ get_or own i None → AreLow (Link own target) n → Below o n
below_at own target i n None e low = tt
below_at own target i n (Some b) e low = low.low i b (inl (sym e))

pub below_on : (own target : List (Option ℕ)) (i n m : ℕ) (o : Option ℕ) → o ≡ get_or target i None → m ≡ n → AreLow (Link own target) n → Below o m
below_on own target i n m None e same low = tt
below_on own target i n m (Some b) e same low = let less = low.low i b (inr (sym e)) in omega arith
