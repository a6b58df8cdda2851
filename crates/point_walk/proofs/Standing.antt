-- Where each register can keep its place, the row before's table without the others is what the four rules give.
use Rattle.std.proofs.Common.{◌≡◌, ℕ, ◌<◌, List, [], ◌∷◌, Option, Some, None, length, set, Contains, refl, sym, subst, ◌∙◌, ◌⊎◌, inl, inr, arith}
use Rattle.std.proofs.lemmas.Bool.{cases_eq}
use Rattle.std.proofs.lemmas.List.{length-set, ext_get_or}
use Rattle.plan.proofs.Entries.{here, there, no_member, member_cases}
use Rattle.point_walk.specs.Walks.{Table, nothing, place_at, WishBelow, WishFree, LeastFree, StepsFrom, Stage, AreGiven}
use Rattle.point_walk.specs.Tables.{IsTable}
use Rattle.point_walk.specs.Keeping.{AreApart, AreBelow, AreFull, cleared}
use Rattle.point_walk.proofs.Slots.{set_here, set_there, nothing_has}

below_has : (p : ℕ) (table : Table) (ks : List ℕ) (k : ℕ) → AreBelow p table ks → Contains ks k → (x : ℕ) × (place_at table k ≡ Some x) × (x < p)
below_has p table [] k below has = absurd (no_member k has)
below_has p table (j ∷ ks) k below has = elim (member_cases j k ks has) [
  | inl same ↦ (below.0, subst (λ n. place_at table n ≡ Some below.0) same below.1, below.2)
  | inr later ↦ below_has p table ks k below.3 later
]

-- the wishes of a list's registers, given one after another
abbrev wished_to : Table → ℕ → Table → Option ℕ → Table
wished_to wishes k table (Some x) = table
wished_to wishes k table None = set table k (place_at wishes k)

abbrev wished_by : Table → List ℕ → Table → Table
wished_by wishes [] table = table
wished_by wishes (k ∷ ks) table = wished_by wishes ks (wished_to wishes k table (place_at table k))

-- of the registers with a property, some have their wishes, and no other one has a place
record HaveWishes (wishes : Table) (ks : List ℕ) (table : Table) : Type 0 where
  size : length table ≡ 128
  have : (j y : ℕ) → place_at table j ≡ Some y → Contains ks j × (place_at wishes j ≡ Some y)

-- a rule that may give each register its wish gives them in turn
stage_wished : (choice : Table → ℕ → Option ℕ → Type 0) (wishes : Table) (Inv : Table → Type 0) (S : ℕ → Type 0)
    → ((k : ℕ) (table : Table) → S k → Inv table → place_at table k ≡ None → choice table k (place_at wishes k) × Inv (set table k (place_at wishes k)))
    → (ks : List ℕ) (table : Table) → ((k : ℕ) → Contains ks k → S k) → Inv table → Stage choice ks table (wished_by wishes ks table) × Inv (wished_by wishes ks table)
stage_wished choice wishes Inv S gives [] table all holds = (refl, holds)
stage_wished choice wishes Inv S gives (k ∷ ks) table all holds =
    let one = by (place_at table k) refl in
    let rest = stage_wished choice wishes Inv S gives ks (wished_to wishes k table (place_at table k)) (λ j has. all j (there k j ks has)) one.1 in
    ((wished_to wishes k table (place_at table k), one.0, rest.0), rest.1)
  where
    by : (o : Option ℕ) → place_at table k ≡ o → StepsFrom choice k table (wished_to wishes k table o) o × Inv (wished_to wishes k table o)
    by (Some x) is = (refl, holds)
    by None is = let g = gives k table (all k (here k ks)) holds is in ((place_at wishes k, g.0, refl), g.1)

-- where each has a place already, a rule gives none
stage_idle : (choice : Table → ℕ → Option ℕ → Type 0) (ks : List ℕ) (table : Table) → ((k : ℕ) → Contains ks k → (x : ℕ) × (place_at table k ≡ Some x)) → Stage choice ks table table
stage_idle choice [] table all = refl
stage_idle choice (k ∷ ks) table all =
    let at = all k (here k ks) in
    (table, subst (λ o. StepsFrom choice k table table o) (sym at.1) refl, stage_idle choice ks table (λ j has. all j (there k j ks has)))

wishes_kept : (wishes : Table) (ks : List ℕ) (table : Table) (j x : ℕ) → place_at table j ≡ Some x → place_at (wished_by wishes ks table) j ≡ Some x
wishes_kept wishes [] table j x at = at
wishes_kept wishes (k ∷ ks) table j x at = wishes_kept wishes ks (wished_to wishes k table (place_at table k)) j x (by (place_at table k) refl)
  where
    by : (o : Option ℕ) → place_at table k ≡ o → place_at (wished_to wishes k table o) j ≡ Some x
    by (Some y) is = at
    by None is = set_there table k j (place_at wishes k) (λ same. absurd (let off : None ≡ Some x = sym is ∙ subst (λ n. place_at table n ≡ Some x) same at in cc)) ∙ at

wishes_have : (wishes : Table) (ks : List ℕ) (table : Table) → length table ≡ 128 → ((k : ℕ) → Contains ks k → k < 128) → ((k : ℕ) → Contains ks k → (x : ℕ) × (place_at wishes k ≡ Some x))
    → (k : ℕ) → Contains ks k → (x : ℕ) × (place_at (wished_by wishes ks table) k ≡ Some x)
wishes_have wishes [] table size low all k has = absurd (no_member k has)
wishes_have wishes (j ∷ ks) table size low all k has =
    let now = placed (place_at table j) refl in
    elim (member_cases j k ks has) [
      | inl same ↦ (now.1.0, subst (λ n. place_at (wished_by wishes ks (wished_to wishes j table (place_at table j))) n ≡ Some now.1.0) same (wishes_kept wishes ks (wished_to wishes j table (place_at table j)) j now.1.0 now.1.1))
      | inr later ↦ wishes_have wishes ks (wished_to wishes j table (place_at table j)) now.0 (λ n h. low n (there j n ks h)) (λ n h. all n (there j n ks h)) k later
    ]
  where
    placed : (o : Option ℕ) → place_at table j ≡ o → (length (wished_to wishes j table o) ≡ 128) × ((x : ℕ) × (place_at (wished_to wishes j table o) j ≡ Some x))
    placed (Some x) is = (size, (x, is))
    placed None is =
        let at = all j (here j ks) in
        (length-set table j (place_at wishes j) ∙ size, (at.0, set_here table j (place_at wishes j) (let l = low j (here j ks) in omega arith) ∙ at.1))

-- a table without some places

pub cleared_size : (ks : List ℕ) (table : Table) → length (cleared table ks) ≡ length table
cleared_size [] table = refl
cleared_size (k ∷ ks) table = cleared_size ks (set table k None) ∙ length-set table k None

none_stays : (table : Table) (k j : ℕ) → place_at table j ≡ None → k < length table → place_at (set table k None) j ≡ None
none_stays table k j is inside = elim (cases_eq j k) [
  | inl same ↦ subst (λ n. place_at (set table k None) n ≡ None) (sym same) (set_here table k None inside)
  | inr other ↦ set_there table k j None other ∙ is
]

pub cleared_none : (ks : List ℕ) (table : Table) (j : ℕ) → length table ≡ 128 → ((k : ℕ) → Contains ks k → k < 128) → place_at table j ≡ None → place_at (cleared table ks) j ≡ None
cleared_none [] table j size low is = is
cleared_none (k ∷ ks) table j size low is =
    cleared_none ks (set table k None) j (length-set table k None ∙ size) (λ n h. low n (there k n ks h)) (none_stays table k j is (let l = low k (here k ks) in omega arith))

pub cleared_gone : (ks : List ℕ) (table : Table) (j : ℕ) → length table ≡ 128 → ((k : ℕ) → Contains ks k → k < 128) → Contains ks j → place_at (cleared table ks) j ≡ None
cleared_gone [] table j size low has = absurd (no_member j has)
cleared_gone (k ∷ ks) table j size low has = elim (member_cases k j ks has) [
  | inl same ↦ cleared_none ks (set table k None) j (length-set table k None ∙ size) (λ n h. low n (there k n ks h)) (subst (λ n. place_at (set table k None) n ≡ None) same (set_here table k None (let l = low k (here k ks) in omega arith)))
  | inr later ↦ cleared_gone ks (set table k None) j (length-set table k None ∙ size) (λ n h. low n (there k n ks h)) later
]

pub cleared_others : (ks : List ℕ) (table : Table) (j : ℕ) → (Contains ks j → ⊥) → place_at (cleared table ks) j ≡ place_at table j
cleared_others [] table j off = refl
cleared_others (k ∷ ks) table j off =
    cleared_others ks (set table k None) j (λ has. off (there k j ks has)) ∙ set_there table k j None (λ same. absurd (off (subst (λ n. Contains (k ∷ ks) n) (sym same) (here k ks))))

-- the row's table

module _ (p : ℕ) (wishes : Table) (before cross : List ℕ) (is : IsTable wishes) (low : (k : ℕ) → Contains before k → k < 128)
    (within : (k : ℕ) → Contains cross k → Contains before k) (full : AreFull wishes before) (apart : AreApart wishes before) (below : AreBelow p wishes cross) where
  more : (k : ℕ) (table : Table) → Contains before k → HaveWishes wishes before table → HaveWishes wishes before (set table k (place_at wishes k))
  more k table has h = record {
    size = length-set table k (place_at wishes k) ∙ h.size;
    have = λ j y at. elim (cases_eq j k) [
      | inl same ↦ (subst (Contains before) (sym same) has, subst (λ n. place_at wishes n ≡ Some y) (sym same) (sym (set_here table k (place_at wishes k) (let l = low k has in let s = h.size in omega arith)) ∙ subst (λ n. place_at (set table k (place_at wishes k)) n ≡ Some y) same at))
      | inr other ↦ h.have j y (sym (set_there table k j (place_at wishes k) other) ∙ at)
    ];
  }

  none_have : HaveWishes wishes before nothing
  none_have = record { size = refl; have = λ j y at. absurd (nothing_has j y at) }

  abbrev crossed : Table
  crossed = wished_by wishes cross nothing

  abbrev kept : Table
  kept = wished_by wishes before crossed

  first : Stage (WishBelow p wishes) cross nothing crossed × HaveWishes wishes before crossed
  first = stage_wished (WishBelow p wishes) wishes (HaveWishes wishes before) (Contains cross) (λ k table has h none. (
    (let at = below_has p wishes cross k below has in subst (λ o. WishBelow p wishes table k o) (sym at.1) (at.1, at.2)),
    more k table (within k has) h,
  )) cross nothing (λ k has. has) none_have

  third : Stage (WishFree wishes) before crossed kept × HaveWishes wishes before kept
  third = stage_wished (WishFree wishes) wishes (HaveWishes wishes before) (Contains before) (λ k table has h none. (
    (let at = full.full k has in subst (λ o. WishFree wishes table k o) (sym at.1) (
      at.1,
      λ j held.
          let of_j = h.have j at.0 held in
          let same = apart.apart j k at.0 of_j.0 has of_j.1 at.1 in
          let off : None ≡ Some at.0 = sym none ∙ subst (λ n. place_at table n ≡ Some at.0) same held in
          absurd (cc),
    )),
    more k table has h,
  )) before crossed (λ k has. has) first.1

  all_crossed : (k : ℕ) → Contains cross k → (x : ℕ) × (place_at crossed k ≡ Some x)
  all_crossed = wishes_have wishes cross nothing refl (λ k has. low k (within k has)) (λ k has. let at = below_has p wishes cross k below has in (at.0, at.1))

  all_kept : (k : ℕ) → Contains before k → (x : ℕ) × (place_at kept k ≡ Some x)
  all_kept = wishes_have wishes before crossed first.1.size low full.full

  given : AreGiven p wishes before cross kept
  given = record {
    wished = crossed;
    crossed = crossed;
    kept = kept;
    first = first.0;
    second = stage_idle LeastFree cross crossed all_crossed;
    third = third.0;
    fourth = stage_idle LeastFree before kept all_kept;
  }

  -- it has the wishes of what is live in, and no other place
  pub stands_given : (table : Table) → length table ≡ 128 → ((j : ℕ) → Contains before j → place_at table j ≡ place_at wishes j)
      → ((j : ℕ) → (Contains before j → ⊥) → place_at table j ≡ None) → ((j : ℕ) → Contains before j ⊎ (Contains before j → ⊥)) → AreGiven p wishes before cross table
  stands_given table size here_at gone either = subst (AreGiven p wishes before cross) (ext_get_or None kept table (third.1.size ∙ sym size) (λ j inside. elim (either j) [
    | inl has ↦ let at = all_kept j has in at.1 ∙ sym (third.1.have j at.0 at.1).1 ∙ sym (here_at j has)
    | inr off ↦ none_of (place_at kept j) (λ y at. off (third.1.have j y at).0) ∙ sym (gone j off)
  ])) given
    where
      none_of : (o : Option ℕ) → ((y : ℕ) → o ≡ Some y → ⊥) → o ≡ None
      none_of None h = refl
      none_of (Some y) h = absurd (h y refl)
