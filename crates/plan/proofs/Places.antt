-- The first faults of a row's places.
use Rattle.std.proofs.Common.{◌≡◌, ℕ, ◌<◌, ◌≤◌, Bool, true, false, List, [], ◌∷◌, Option, Some, None, get_or, Contains, All, refl, sym, subst, ◌∙◌, ap, inl, inr, arith}
use Rattle.std.specs.Prelude.{nat_le, nat_lt, if◌then◌else◌}
use Rattle.std.specs.Int.{bit_at}
use Rattle.std.specs.List.{find}
use Rattle.std.proofs.lemmas.Bool.{cases_eq}
use Rattle.std.proofs.lemmas.Bool.Decides.{leb_tells, nat_tests}
use Rattle.std.proofs.lemmas.List.Elements.{Contains-get_or}
use Rattle.std.proofs.lemmas.Option.{same_Some}
use Rattle.micro_isa.specs.declared.limits.TheConstants.{MOST_FILE}
use Rattle.micro_isa.specs.declared.program.Line.{Line}
use Rattle.micro_isa.specs.declared.program.VReg.{VReg}
use Rattle.micro_isa.specs.Columns.{written_by}
use Rattle.flow_graph.specs.Paths.{IsClosedCode}
use Rattle.liveness.specs.Liveness.{LiveIn}
use Rattle.liveness.specs.Sets.{IsSetOf}
use Rattle.liveness.specs.Surviving.{WritesAt, Stays, Crosses}
use Rattle.liveness.proofs.Visits.{live_small}
use Rattle.plan.specs.declared.row.Place.{Place}
use Rattle.plan.specs.Faults.{Nowhere, HasPlace, IsExtra, IsListing, IsWrittenTo, IsInRange, HaveOwnPlaces, IsOverwritten, IsWriteApart, IsExposed, IsPlacing, IsOutChecked, IsWriteOut, IsWrittenPlace, IsOverwriteChecked, IsExposedChecked}
use Rattle.plan.specs.Finding.{is_beyond, is_at, lesser_place, Rises}
use Rattle.plan.proofs.Entries.{no_member, member_cases, IsFirstWith, find_least}

pub placing_is : (code : List Line) (p r i : ℕ) (places : List Place) (write : Option ℕ) → IsInRange code r i places write → HaveOwnPlaces places
    → IsWriteApart code i places write → ((k x : ℕ) → IsExposed code p i places k x → ⊥) → IsPlacing code p r i places write
placing_is code p r i places write in_range own apart private = record { in_range = in_range; own = own; apart = apart; private = private }

-- what a list without extra entries tells

both_not : (S : Type 0) → ((S → ⊥) → ⊥) → (T : Type 0) → ((T → ⊥) → ⊥) → ((S × T → ⊥) → ⊥)
both_not S s T t never = s (λ a. t (λ b. never (a, b)))

less_by : (a b : ℕ) → ((a < b → ⊥) → ⊥) → a < b
less_by a b never = elim (leb_tells b a) [ inl le ↦ absurd (never (λ less. let over = le.1 in absurd (omega arith))) | inr less ↦ less.1 ]

above_all : (S : ℕ → Type 0) (before : VReg) (qs : List Place) → Nowhere (IsExtra S (Some before) qs)
    → ((s : Place) → Contains qs s → before.0 < s.register.0) × Rises qs
above_all S before [] none = ((λ s has. absurd (no_member s has)), tt)
above_all S before (q ∷ qs) none =
    let on = above_all S q.register qs (λ k extra. none k (inr extra)) in
    let first : before.0 < q.register.0 = less_by before.0 q.register.0 (λ low. none q.register.0 (inl (refl, inr low))) in (
      (λ s has. elim (member_cases q s qs has) [
        | inl same ↦ subst (λ (u : Place). before.0 < u.register.0) same first
        | inr rest ↦ let more = on.0 s rest in omega arith
      ]),
      on,
    )

pub rises : (S : ℕ → Type 0) (qs : List Place) → Nowhere (IsExtra S None qs) → Rises qs
rises S [] none = tt
rises S (q ∷ qs) none = above_all S q.register qs (λ k extra. none k (inr extra))

pub each_holds : (S : ℕ → Type 0) (before : Option VReg) (qs : List Place) → Nowhere (IsExtra S before qs)
    → (s : Place) → Contains qs s → (S s.register.0 → ⊥) → ⊥
each_holds S before [] none s has = λ never. no_member s has
each_holds S before (q ∷ qs) none s has = elim (member_cases q s qs has) [
  | inl same ↦ subst (λ (u : Place). (S u.register.0 → ⊥) → ⊥) same (λ never. none q.register.0 (inl (refl, inl never)))
  | inr rest ↦ each_holds S (Some q.register) qs (λ k extra. none k (inr extra)) s rest
]

module _ (code : List Line) (i : ℕ) (places : List Place) (write : Option ℕ) (listing : IsListing code i places write) where
  pub list_rises : Rises places
  list_rises = rises (LiveIn code i) places listing.only

  module _ (before : ℕ) (is : IsSetOf (LiveIn code i) before) where
    -- an entry's register is live in
    pub entry_live : (s : Place) → Contains places s → LiveIn code i s.register.0
    entry_live s has = elim (cases_eq (bit_at before s.register.0) 1) [
      | inl one ↦ (is.exact s.register.0).0 one
      | inr other ↦ absurd (each_holds (LiveIn code i) None places listing.only s has (λ live. other ((is.exact s.register.0).1 live)))
    ]

-- entries found

beyond_tells : (set bound : ℕ) (q : Place) → is_beyond set bound q ≡ true → (bit_at set q.register.0 ≡ 1) × (bound ≤ q.place)
beyond_tells set bound q e = grind (arith, nat_tests)

tells_beyond : (set bound : ℕ) (q : Place) → bit_at set q.register.0 ≡ 1 → bound ≤ q.place → is_beyond set bound q ≡ true
tells_beyond set bound q one le = grind (arith, nat_tests)

at_tells : (set place : ℕ) (q : Place) → is_at set place q ≡ true → (bit_at set q.register.0 ≡ 1) × (q.place ≡ place)
at_tells set place q e = grind (arith, nat_tests)

tells_at : (set place : ℕ) (q : Place) → bit_at set q.register.0 ≡ 1 → q.place ≡ place → is_at set place q ≡ true
tells_at set place q one e = grind (arith, nat_tests)

-- the first exposed one
pub exposed_is : (code : List Line) (p i set : ℕ) (places : List Place) (o : Option Place) → Rises places → IsSetOf (Crosses code i) set
    → o ≡ find (is_beyond set p) places → IsExposedChecked code p i places o
unfolding IsFirstWith
exposed_is code p i set places o rises is e = by o (subst (λ u. IsFirstWith (is_beyond set p) places u) (sym e) (find_least (is_beyond set p) places rises))
  where
    by : (u : Option Place) → IsFirstWith (is_beyond set p) places u → IsExposedChecked code p i places u
    by None first = λ k x exposed. first _ exposed.1 (tells_beyond set p (record { register = record { 0 = k }; place = x }) ((is.exact k).1 exposed.0) exposed.2)
    by (Some q) first =
        let tells = beyond_tells set p q first.1 in (
          ((is.exact q.register.0).0 tells.0, first.0, tells.1),
          λ j y exposed. first.2 _ exposed.1 (tells_beyond set p (record { register = record { 0 = j }; place = y }) ((is.exact j).1 exposed.0) exposed.2),
        )

-- the first one at the place of the write
pub overwritten_is : (code : List Line) (i set w : ℕ) (d : VReg) (places : List Place) (write : Option ℕ) (o : Option Place) → Rises places → IsSetOf (Stays code i) set
    → write ≡ Some w → WritesAt code i d.0 → o ≡ find (is_at set w) places
    → (o ≡ None → IsWriteApart code i places write) × ((q : Place) → o ≡ Some q → IsOverwriteChecked code i places write (Some (q, d)))
unfolding IsFirstWith
overwritten_is code i set w d places write o rises is wrote writes e =
    by o (subst (λ u. IsFirstWith (is_at set w) places u) (sym e) (find_least (is_at set w) places rises))
  where
    passes : (x k : ℕ) → IsOverwritten code i places write x k → is_at set w (record { register = record { 0 = k }; place = x }) ≡ true
    passes x k over = tells_at set w (record { register = record { 0 = k }; place = x }) ((is.exact k).1 over.0) (same_Some x w (sym over.2 ∙ wrote))

    by : (u : Option Place) → IsFirstWith (is_at set w) places u
        → (u ≡ None → IsWriteApart code i places write) × ((q : Place) → u ≡ Some q → IsOverwriteChecked code i places write (Some (q, d)))
    by None first = ((λ is_none. λ x k over. first _ over.1 (passes x k over)), λ q is_some. absurd (cc))
    by (Some t) first =
        let tells = at_tells set w t first.1 in (
          (λ is_none. absurd (cc)),
          λ q is_some. subst (λ (v : Place). IsOverwriteChecked code i places write (Some (v, d))) (same_Some t q is_some) (
            (
              ((is.exact t.register.0).0 tells.0, first.0, wrote ∙ ap Some (sym tells.1)),
              λ j less over. let le = first.2 _ over.1 (passes t.place j over) in omega arith,
            ),
            writes,
          ),
        )

-- an instruction writes one register
pub one_written : (code : List Line) (i j k : ℕ) → WritesAt code i j → WritesAt code i k → j ≡ k
one_written code i j k one two =
    let line = same_Some one.0 two.0 (sym one.1 ∙ two.1) in
    let first = subst (λ (l : Line). written_by l.instr ≡ Some (record { 0 = j })) line one.2 in
    let same = same_Some (record { 0 = j }) (record { 0 = k }) (sym first ∙ two.2) in
    ap (λ (v : VReg). v.0) same

not_less : (a b : ℕ) → (a < b → ⊥) → b ≤ a
not_less a b over = omega arith

-- the first one out of range
pub out_is : (code : List Line) (r i set : ℕ) (places : List Place) (write : Option ℕ) (listed written : Option Place) → Rises places
    → ((s : Place) → Contains places s → bit_at set s.register.0 ≡ 1) → listed ≡ find (is_beyond set r) places → IsWriteOut code r i write written
    → IsOutChecked code r i places write (lesser_place listed written)
unfolding IsFirstWith
out_is code r i set places write listed written rises each e out =
    by listed written (subst (λ u. IsFirstWith (is_beyond set r) places u) (sym e) (find_least (is_beyond set r) places rises)) out
  where
    passes : (k x : ℕ) → HasPlace places k x → r ≤ x → is_beyond set r (record { register = record { 0 = k }; place = x }) ≡ true
    passes k x has le = tells_beyond set r (record { register = record { 0 = k }; place = x }) (each _ has) le

    lesser : (q d : Place) → IsFirstWith (is_beyond set r) places (Some q) → IsWriteOut code r i write (Some d) → (b : Bool) → nat_lt d.register.0 q.register.0 ≡ b
        → IsOutChecked code r i places write (if b then Some d else Some q)
    lesser q d first wrote true less = record {
      out = (inr wrote.0, wrote.1);
      least = λ j y out_too. elim out_too.0 [
        | inl has ↦ let le = first.2 _ has (passes j y has out_too.1) in let under : d.register.0 < q.register.0 = grind (arith, nat_tests) in omega arith
        | inr also ↦ (let same = one_written code i d.register.0 j wrote.0.0 also.0 in omega arith)
      ];
      listed = inr (λ y has. less_by y r (λ over.
          let le = first.2 _ has (passes d.register.0 y has (not_less y r over)) in
          let under : d.register.0 < q.register.0 = grind (arith, nat_tests) in
          absurd (omega arith)));
    }
    lesser q d first wrote false less =
        let under : q.register.0 ≤ d.register.0 = grind (arith, nat_tests) in record {
          out = (inl first.0, (beyond_tells set r q first.1).1);
          least = λ j y out_too. elim out_too.0 [
            | inl has ↦ first.2 _ has (passes j y has out_too.1)
            | inr also ↦ let same = one_written code i d.register.0 j wrote.0.0 also.0 in omega arith
          ];
          listed = inl first.0;
        }

    by : (o w : Option Place) → IsFirstWith (is_beyond set r) places o → IsWriteOut code r i write w → IsOutChecked code r i places write (lesser_place o w)
    by None None first wrote = λ k x out_too. elim out_too.0 [
      | inl has ↦ first _ has (passes k x has out_too.1)
      | inr also ↦ let less = wrote k x also in let le = out_too.1 in absurd (omega arith)
    ]
    by None (Some d) first wrote = record {
      out = (inr wrote.0, wrote.1);
      least = λ j y out_too. elim out_too.0 [
        | inl has ↦ absurd (first _ has (passes j y has out_too.1))
        | inr also ↦ (let same = one_written code i d.register.0 j wrote.0.0 also.0 in omega arith)
      ];
      listed = inr (λ y has. less_by y r (λ over. first _ has (passes d.register.0 y has (not_less y r over))));
    }
    by (Some q) None first wrote = record {
      out = (inl first.0, (beyond_tells set r q first.1).1);
      least = λ j y out_too. elim out_too.0 [
        | inl has ↦ first.2 _ has (passes j y has out_too.1)
        | inr also ↦ let less = wrote j y also in let le = out_too.1 in absurd (omega arith)
      ];
      listed = inl first.0;
    }
    by (Some q) (Some d) first wrote = lesser q d first wrote (nat_lt d.register.0 q.register.0) refl

-- places in range are low
pub places_low : (code : List Line) (r i : ℕ) (places : List Place) (write : Option ℕ) → r ≤ MOST_FILE → IsInRange code r i places write → All (λ q. q.place < MOST_FILE) places
places_low code r i places write few in_range k d inside =
    let has = Contains-get_or places k d inside in
    elim (leb_tells r (get_or places k d).place) [
      | inl over ↦ absurd (in_range (get_or places k d).register.0 (get_or places k d).place (inl has, over.1))
      | inr less ↦ let low = less.1 in omega arith
    ]

-- the entries of a listing are low
pub registers_low : (code : List Line) (i : ℕ) (places : List Place) (write : Option ℕ) → IsClosedCode code → IsListing code i places write
    → All (λ q. q.register.0 < 128) places
registers_low code i places write closed listing k d inside =
    less_by (get_or places k d).register.0 128 (λ over.
    each_holds (LiveIn code i) None places listing.only (get_or places k d) (Contains-get_or places k d inside)
    (λ live. over (live_small code closed live.0 i (get_or places k d).register.0 live.1)))

-- the place of the write, where it is not below r
pub written_beyond : (code : List Line) (r i : ℕ) (write : Option ℕ) (q : Place) → IsWrittenTo code i write q.register.0 q.place
    → IsWriteOut code r i write (if nat_le r q.place then Some q else None)
written_beyond code r i write q wrote = by (nat_le r q.place) refl
  where
    by : (b : Bool) → nat_le r q.place ≡ b → IsWriteOut code r i write (if b then Some q else None)
    by true e = (wrote, grind (arith, nat_tests))
    by false e = λ k x other.
        let same = same_Some q.place x (sym wrote.1 ∙ other.1) in
        let less : q.place < r = grind (arith, nat_tests) in
        omega arith

pub no_write : (code : List Line) (i : ℕ) (places : List Place) (write : Option ℕ) → IsWrittenPlace code i write None → IsListing code i places write
    → IsWriteApart code i places write
no_write code i places write none listing = λ x k over.
    listing.no_more ((λ is_none. absurd (let o : Some x ≡ None = sym over.2 ∙ is_none in cc)), (λ j at. none j x (at, over.2)))
