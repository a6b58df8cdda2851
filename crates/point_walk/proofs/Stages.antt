-- What a stage keeps, gives and leaves open.
use Rattle.std.proofs.Common.{◌≡◌, ℕ, ◌<◌, ◌≤◌, Bool, true, false, List, [], ◌∷◌, Option, Some, None, length, get_or, set, Contains, refl, sym, subst, ◌∙◌, ap, ◌⊎◌, inl, inr, arith}
use Rattle.std.specs.Prelude.{nat_eq}
use Rattle.std.specs.List.{IsDistinct}
use Rattle.std.proofs.lemmas.Bool.{cases_eq, eqb-true}
use Rattle.std.proofs.lemmas.List.{length-set, get_or_default}
use Rattle.std.proofs.lemmas.Map.Keys.{IsDistinct-from_apart}
use Rattle.std.proofs.lemmas.Option.{same_Some}
use Rattle.micro_isa.specs.declared.program.Line.{Line}
use Rattle.liveness.specs.Liveness.{LiveIn}
use Rattle.liveness.specs.Sets.{HasSize, Lists}
use Rattle.liveness.specs.Surviving.{Crosses}
use Rattle.liveness.specs.Pressures.{HasRoom}
use Rattle.liveness.proofs.Steps.{crosses_live}
use Rattle.plan.proofs.Entries.{here, there, no_member, member_cases}
use Rattle.point_walk.specs.Walks.{Table, nothing, place_at, IsLeastFree, WishBelow, WishFree, LeastFree, StepsFrom, Steps, Stage, AreGiven}
use Rattle.point_walk.specs.Keeping.{AreWishes}
use Rattle.point_walk.proofs.Slots.{set_here, set_there, room, nothing_has, nothing_is_table}

-- a rising list has as many elements as what it lists
pub rising_distinct : (S : ℕ → Type 0) (xs : List ℕ) → Lists S xs → IsDistinct nat_eq xs
rising_distinct S xs lists = IsDistinct-from_apart nat_eq xs (λ i j d less inside. off i j d less inside (nat_eq (get_or xs i d) (get_or xs j d)) refl)
  where
    off : (i j d : ℕ) → i < j → j < length xs → (b : Bool) → nat_eq (get_or xs i d) (get_or xs j d) ≡ b → b ≡ false
    off i j d less inside false e = refl
    off i j d less inside true e =
        let rises = lists.rising i j less inside in
        let one = get_or_default xs i d 0 (omega arith) in
        let two = get_or_default xs j d 0 inside in
        let same = eqb-true (get_or xs i d) (get_or xs j d) e in
        absurd (omega arith)

pub lists_size : (S : ℕ → Type 0) (xs : List ℕ) → Lists S xs → HasSize S (length xs)
lists_size S xs lists = (xs, rising_distinct S xs lists, lists.exact, refl)

-- one step, by what it does
pub record IsSet (choice : Table → ℕ → Option ℕ → Type 0) (k : ℕ) (table next : Table) : Type 0 where
  pub o : Option ℕ
  pub unset : place_at table k ≡ None
  pub chosen : choice table k o
  pub is : next ≡ set table k o

pub step_cases : (choice : Table → ℕ → Option ℕ → Type 0) (k : ℕ) (table next : Table) → Steps choice k table next
    → (((x : ℕ) × (place_at table k ≡ Some x)) × (next ≡ table)) ⊎ IsSet choice k table next
step_cases choice k table next steps = by (place_at table k) refl steps
  where
    by : (o : Option ℕ) → place_at table k ≡ o → StepsFrom choice k table next o
        → (((x : ℕ) × (place_at table k ≡ Some x)) × (next ≡ table)) ⊎ IsSet choice k table next
    by None e step = inr (record { o = step.0; unset = e; chosen = step.1; is = step.2 })
    by (Some x) e step = inl ((x, e), step)

-- what each step keeps a stage keeps
pub stage_keeps : (choice : Table → ℕ → Option ℕ → Type 0) (P : Table → Type 0) (S : ℕ → Type 0)
    → ((k : ℕ) (table next : Table) → S k → P table → Steps choice k table next → P next)
    → (ks : List ℕ) (table last : Table) → ((k : ℕ) → Contains ks k → S k) → P table → Stage choice ks table last → P last
stage_keeps choice P S keeps [] table last all holds stage = subst P stage holds
stage_keeps choice P S keeps (k ∷ ks) table last all holds stage =
    stage_keeps choice P S keeps ks stage.0 last (λ j has. all j (there k j ks has)) (keeps k table stage.0 (all k (here k ks)) holds stage.1) stage.2

-- a place once given is kept
step_kept : (choice : Table → ℕ → Option ℕ → Type 0) (k j x : ℕ) (table next : Table) → place_at table j ≡ Some x → Steps choice k table next → place_at next j ≡ Some x
step_kept choice k j x table next at steps = elim (step_cases choice k table next steps) [
  | inl placed ↦ subst (λ (t : Table). place_at t j ≡ Some x) (sym placed.1) at
  | inr is ↦ elim (cases_eq j k) [
    | inl same ↦ absurd (let off : None ≡ Some x = sym is.unset ∙ subst (λ n. place_at table n ≡ Some x) same at in cc)
    | inr other ↦ subst (λ (t : Table). place_at t j ≡ Some x) (sym is.is) (set_there table k j is.o other ∙ at)
  ]
]

pub kept : (choice : Table → ℕ → Option ℕ → Type 0) (ks : List ℕ) (j x : ℕ) (table last : Table) → place_at table j ≡ Some x → Stage choice ks table last
    → place_at last j ≡ Some x
kept choice ks j x table last at stage =
    stage_keeps choice (λ (t : Table). place_at t j ≡ Some x) (λ k. Unit {0}) (λ k t n s holds step. step_kept choice k j x t n holds step) ks table last (λ k has. tt) at stage

-- a stage of least places leaves no register of its list without one
pub filled : (ks : List ℕ) (table last : Table) → length table ≡ 128 → ((k : ℕ) → Contains ks k → k < 128) → Stage LeastFree ks table last
    → (k : ℕ) → Contains ks k → (x : ℕ) × (place_at last k ≡ Some x)
filled [] table last size low stage k has = absurd (no_member k has)
filled (j ∷ ks) table last size low stage k has =
    elim (member_cases j k ks has) [
      | inl same ↦
          let at = placed (step_cases LeastFree j table stage.0 stage.1) in
          (at.0, subst (λ n. place_at last n ≡ Some at.0) same (kept LeastFree ks j at.0 stage.0 last at.1 stage.2))
      | inr later ↦ filled ks stage.0 last size_next (λ n in_ks. low n (there j n ks in_ks)) stage.2 k later
    ]
  where
    size_next : length stage.0 ≡ 128
    size_next = elim (step_cases LeastFree j table stage.0 stage.1) [
      | inl same ↦ ap (λ (t : Table). length t) same.1 ∙ size
      | inr is ↦ ap (λ (t : Table). length t) is.is ∙ length-set table j is.o ∙ size
    ]

    chosen_some : (o : Option ℕ) → LeastFree table j o → (x : ℕ) × (o ≡ Some x)
    chosen_some None chosen = absurd chosen
    chosen_some (Some x) chosen = (x, refl)

    placed : (((x : ℕ) × (place_at table j ≡ Some x)) × (stage.0 ≡ table)) ⊎ IsSet LeastFree j table stage.0 → (x : ℕ) × (place_at stage.0 j ≡ Some x)
    placed (inl same) = (same.0.0, subst (λ (t : Table). place_at t j ≡ Some same.0.0) (sym same.1) same.0.1)
    placed (inr is) =
        let some = chosen_some is.o is.chosen in
        (some.0, subst (λ (t : Table). place_at t j ≡ Some some.0) (sym is.is) (set_here table j is.o (let l = low j (here j ks) in omega arith) ∙ some.1))

-- places that have been given in a row

pub record IsPartial (code : List Line) (p r i : ℕ) (table : Table) : Type 0 where
  pub size : length table ≡ 128
  pub apart : (k l x : ℕ) → place_at table k ≡ Some x → place_at table l ≡ Some x → k ≡ l
  pub live : (k x : ℕ) → place_at table k ≡ Some x → LiveIn code i k
  pub low : (k x : ℕ) → place_at table k ≡ Some x → x < r
  pub private : (k x : ℕ) → Crosses code i k → place_at table k ≡ Some x → x < p

set_cases : (table : Table) (k j x : ℕ) (o : Option ℕ) → k < length table → place_at (set table k o) j ≡ Some x → ((j ≡ k) × (o ≡ Some x)) ⊎ (place_at table j ≡ Some x)
set_cases table k j x o inside at = elim (cases_eq j k) [
  | inl same ↦ inl (same, sym (set_here table k o inside) ∙ subst (λ n. place_at (set table k o) n ≡ Some x) same at)
  | inr other ↦ inr (sym (set_there table k j o other) ∙ at)
]

pub partial_more : (code : List Line) (p r i k : ℕ) (table : Table) (o : Option ℕ) → k < 128 → LiveIn code i k → IsPartial code p r i table
    → ((x : ℕ) → o ≡ Some x → (x < r) × (Crosses code i k → x < p) × ((j : ℕ) → place_at table j ≡ Some x → ⊥)) → IsPartial code p r i (set table k o)
partial_more code p r i k table o inside live partial fits = record {
  size = length-set table k o ∙ partial.size;
  apart = λ a b x at_a at_b. elim (cases a x at_a) [
    | inl new_a ↦ elim (cases b x at_b) [
      | inl new_b ↦ new_a.0 ∙ sym new_b.0
      | inr old_b ↦ absurd ((fits x new_a.1).2 b old_b)
    ]
    | inr old_a ↦ elim (cases b x at_b) [
      | inl new_b ↦ absurd ((fits x new_b.1).2 a old_a)
      | inr old_b ↦ partial.apart a b x old_a old_b
    ]
  ];
  live = λ j x at. elim (cases j x at) [ inl new ↦ subst (λ n. LiveIn code i n) (sym new.0) live | inr old ↦ partial.live j x old ];
  low = λ j x at. elim (cases j x at) [ inl new ↦ (fits x new.1).0 | inr old ↦ partial.low j x old ];
  private = λ j x crosses at. elim (cases j x at) [
    | inl new ↦ (fits x new.1).1 (subst (λ n. Crosses code i n) new.0 crosses)
    | inr old ↦ partial.private j x crosses old
  ];
}
  where
    cases : (j x : ℕ) → place_at (set table k o) j ≡ Some x → ((j ≡ k) × (o ≡ Some x)) ⊎ (place_at table j ≡ Some x)
    cases j x at = set_cases table k j x o (let e = partial.size in omega arith) at

-- crossing registers at their wishes
record IsWished (code : List Line) (p r i : ℕ) (wishes table : Table) : Type 0 where
  partial : IsPartial code p r i table
  crosses : (k x : ℕ) → place_at table k ≡ Some x → Crosses code i k
  wished : (k x : ℕ) → place_at table k ≡ Some x → place_at wishes k ≡ Some x

-- crossing registers alone
record AreCrossing (code : List Line) (p r i : ℕ) (table : Table) : Type 0 where
  partial : IsPartial code p r i table
  crosses : (k x : ℕ) → place_at table k ≡ Some x → Crosses code i k

-- all crossing registers, and others
record HaveCrossed (code : List Line) (p r i : ℕ) (table : Table) : Type 0 where
  partial : IsPartial code p r i table
  all : (k : ℕ) → Crosses code i k → (x : ℕ) × (place_at table k ≡ Some x)

not_both : {X : Type 0} (x : ℕ) (o : Option ℕ) → o ≡ None → o ≡ Some x → X
not_both x o none some = absurd (let off : None ≡ Some x = sym none ∙ some in cc)

module _ (code : List Line) (p r i : ℕ) (wishes : Table) (before cross : List ℕ) (order : p ≤ r) (here_i : i < length code) (has_room : HasRoom code p r)
    (low : (k : ℕ) → LiveIn code i k → k < 128) (wish : AreWishes code r i wishes) (is_before : Lists (LiveIn code i) before) (is_cross : Lists (Crosses code i) cross) where
  begun : IsWished code p r i wishes nothing
  begun = record {
    partial = record {
      size = nothing_is_table.size;
      apart = λ k l x at. absurd (nothing_has k x at);
      live = λ k x at. absurd (nothing_has k x at);
      low = λ k x at. absurd (nothing_has k x at);
      private = λ k x crosses at. absurd (nothing_has k x at);
    };
    crosses = λ k x at. absurd (nothing_has k x at);
    wished = λ k x at. absurd (nothing_has k x at);
  }

  chosen_below : (table : Table) (k : ℕ) (o : Option ℕ) → WishBelow p wishes table k o → (x : ℕ) → o ≡ Some x → (place_at wishes k ≡ Some x) × (x < p)
  chosen_below table k None chosen x e = absurd (cc)
  chosen_below table k (Some y) chosen x e =
      let same = same_Some y x e in
      subst (λ n. (place_at wishes k ≡ Some n) × (n < p)) same chosen

  first_step : (k : ℕ) (table next : Table) → Crosses code i k → IsWished code p r i wishes table → Steps (WishBelow p wishes) k table next → IsWished code p r i wishes next
  first_step k table next crosses holds step = elim (step_cases (WishBelow p wishes) k table next step) [
    | inl placed ↦ subst (λ (t : Table). IsWished code p r i wishes t) (sym placed.1) holds
    | inr is ↦
        let inside = low k (crosses_live code i k crosses) in
        let tells = chosen_below table k is.o is.chosen in
        let split = λ (j x : ℕ) (at : place_at (set table k is.o) j ≡ Some x). set_cases table k j x is.o (let e = holds.partial.size in omega arith) at in
        subst (λ (t : Table). IsWished code p r i wishes t) (sym is.is) (record {
          partial = partial_more code p r i k table is.o inside (crosses_live code i k crosses) holds.partial (λ x e.
              let below = (tells x e).1 in (
                omega arith,
                (λ c. below),
                λ j at.
                    let same = wish.apart j k x (holds.partial.live j x at) (crosses_live code i k crosses) (holds.wished j x at) (tells x e).0 in
                    not_both x (place_at table k) is.unset (subst (λ n. place_at table n ≡ Some x) same at),
              ));
          crosses = λ j x at. elim (split j x at) [ inl new ↦ subst (λ n. Crosses code i n) (sym new.0) crosses | inr old ↦ holds.crosses j x old ];
          wished = λ j x at. elim (split j x at) [
            | inl new ↦ subst (λ n. place_at wishes n ≡ Some x) (sym new.0) (tells x new.1).0
            | inr old ↦ holds.wished j x old
          ];
        })
  ]

  chosen_free : (table : Table) (k : ℕ) (o : Option ℕ) → LeastFree table k o → (x : ℕ) → o ≡ Some x → IsLeastFree table x
  chosen_free table k None chosen x e = absurd (cc)
  chosen_free table k (Some y) chosen x e = subst (IsLeastFree table) (same_Some y x e) chosen

  second_step : (k : ℕ) (table next : Table) → Crosses code i k → AreCrossing code p r i table → Steps LeastFree k table next → AreCrossing code p r i next
  second_step k table next crosses holds step = elim (step_cases LeastFree k table next step) [
    | inl placed ↦ subst (λ (t : Table). AreCrossing code p r i t) (sym placed.1) holds
    | inr is ↦
        let inside = low k (crosses_live code i k crosses) in
        let tells = chosen_free table k is.o is.chosen in
        subst (λ (t : Table). AreCrossing code p r i t) (sym is.is) (record {
          partial = partial_more code p r i k table is.o inside (crosses_live code i k crosses) holds.partial (λ x e.
              let few = room table (Crosses code i) x k cross (λ j c. (is_cross.exact j).1 c) crosses is.unset
              (λ y less. let at = (tells x e).least y less in (at.0, holds.crosses at.0 y at.1, at.1)) in
              let enough = has_room.cross i (length cross) here_i (lists_size (Crosses code i) cross is_cross) in
              let below : x < p = omega arith in
              (omega arith, (λ c. below), (tells x e).free));
          crosses = λ j x at. elim (set_cases table k j x is.o (let e = holds.partial.size in omega arith) at) [
            | inl new ↦ subst (λ n. Crosses code i n) (sym new.0) crosses
            | inr old ↦ holds.crosses j x old
          ];
        })
  ]

  -- a register that is given a place after all that cross have theirs
  later_step : (choice : Table → ℕ → Option ℕ → Type 0) (k : ℕ) (table next : Table) (is : IsSet choice k table next) → LiveIn code i k → HaveCrossed code p r i table
      → ((x : ℕ) → is.o ≡ Some x → (x < r) × ((j : ℕ) → place_at table j ≡ Some x → ⊥)) → HaveCrossed code p r i next
  later_step choice k table next is live holds fits =
      let inside = low k live in
      subst (λ (t : Table). HaveCrossed code p r i t) (sym is.is) (record {
        partial = partial_more code p r i k table is.o inside live holds.partial (λ x e. (
          (fits x e).0,
          (λ crosses. let at = holds.all k crosses in not_both at.0 (place_at table k) is.unset at.1),
          (fits x e).1,
        ));
        all = λ j crosses.
            let at = holds.all j crosses in
            (at.0, set_there table k j is.o (λ same. not_both at.0 (place_at table k) is.unset (subst (λ n. place_at table n ≡ Some at.0) same at.1)) ∙ at.1);
      })

  chosen_untaken : (table : Table) (k : ℕ) (o : Option ℕ) → WishFree wishes table k o → (x : ℕ) → o ≡ Some x
      → (place_at wishes k ≡ Some x) × ((j : ℕ) → place_at table j ≡ Some x → ⊥)
  chosen_untaken table k None chosen x e = absurd (cc)
  chosen_untaken table k (Some y) chosen x e =
      subst (λ n. (place_at wishes k ≡ Some n) × ((j : ℕ) → place_at table j ≡ Some n → ⊥)) (same_Some y x e) chosen

  third_step : (k : ℕ) (table next : Table) → LiveIn code i k → HaveCrossed code p r i table → Steps (WishFree wishes) k table next → HaveCrossed code p r i next
  third_step k table next live holds step = elim (step_cases (WishFree wishes) k table next step) [
    | inl placed ↦ subst (λ (t : Table). HaveCrossed code p r i t) (sym placed.1) holds
    | inr is ↦ later_step (WishFree wishes) k table next is live holds (λ x e.
        let tells = chosen_untaken table k is.o is.chosen x e in (wish.low k x tells.0, tells.1))
  ]

  fourth_step : (k : ℕ) (table next : Table) → LiveIn code i k → HaveCrossed code p r i table → Steps LeastFree k table next → HaveCrossed code p r i next
  fourth_step k table next live holds step = elim (step_cases LeastFree k table next step) [
    | inl placed ↦ subst (λ (t : Table). HaveCrossed code p r i t) (sym placed.1) holds
    | inr is ↦ later_step LeastFree k table next is live holds (λ x e.
        let tells = chosen_free table k is.o is.chosen x e in
        let few = room table (LiveIn code i) x k before (λ j l. (is_before.exact j).1 l) live is.unset
        (λ y less. let at = tells.least y less in (at.0, holds.partial.live at.0 y at.1, at.1)) in
        let enough = has_room.before i (length before) here_i (lists_size (LiveIn code i) before is_before) in
        (omega arith, tells.free))
  ]

  -- all that is live in has a place of its own, below r, and private where it crosses
  pub given_all : (table : Table) → AreGiven p wishes before cross table
      → IsPartial code p r i table × ((k : ℕ) → LiveIn code i k → (x : ℕ) × (place_at table k ≡ Some x))
  given_all table given =
      let one = stage_keeps (WishBelow p wishes) (IsWished code p r i wishes) (Crosses code i) first_step cross nothing given.wished
      (λ k has. (is_cross.exact k).0 has) begun given.first in
      let two = stage_keeps LeastFree (AreCrossing code p r i) (Crosses code i) second_step cross given.wished given.crossed
      (λ k has. (is_cross.exact k).0 has) (record { partial = one.partial; crosses = one.crosses }) given.second in
      let three = stage_keeps (WishFree wishes) (HaveCrossed code p r i) (LiveIn code i) third_step before given.crossed given.kept
      (λ k has. (is_before.exact k).0 has) (record {
        partial = two.partial;
        all = λ k crosses. filled cross given.wished given.crossed one.partial.size
            (λ j has. low j (crosses_live code i j ((is_cross.exact j).0 has))) given.second k ((is_cross.exact k).1 crosses);
      }) given.third in
      let four = stage_keeps LeastFree (HaveCrossed code p r i) (LiveIn code i) fourth_step before given.kept table
      (λ k has. (is_before.exact k).0 has) three given.fourth in (
        four.partial,
        λ k live. filled before given.kept table three.partial.size (λ j has. low j ((is_before.exact j).0 has)) given.fourth k ((is_before.exact k).1 live),
      )
