-- There is one walk.
use Rattle.std.proofs.Common.{◌≡◌, ℕ, zero, suc, List, [], ◌∷◌, ◌++◌, Option, Some, None, length, refl, sym, subst, ◌∙◌, ap, inl, inr, arith}
use Rattle.std.specs.Prelude.{slice_get, slice_set, if◌then◌else◌}
use Rattle.std.proofs.lemmas.Bool.{cases_eq}
use Rattle.std.proofs.lemmas.Bool.Decides.{leb_tells}
use Rattle.micro_isa.specs.declared.program.Line.{Line}
use Rattle.micro_isa.specs.declared.program.VReg.{VReg}
use Rattle.plan.specs.declared.row.PlanRow.{PlanRow}
use Rattle.plan.specs.declared.row.Plan.{Plan}
use Rattle.point_walk.proofs.Rising.{lists_once}
use Rattle.point_walk.specs.Walks.{Table, nothing, place_at, IsLeastFree, WishBelow, WishFree, LeastFree, StepsFrom, Stage, IsLeastApart, IsPlaceFor, IsWritePlace, AreGiven, Follows, Walked, IsWalk, written_in, falls_in, put, entries}

abbrev ChoosesOne : (Table → ℕ → Option ℕ → Type 0) → Type 0
ChoosesOne choice = (table : Table) (k : ℕ) (a b : Option ℕ) → choice table k a → choice table k b → a ≡ b

step_once : (choice : Table → ℕ → Option ℕ → Type 0) → ChoosesOne choice → (k : ℕ) (table : Table) (o : Option ℕ) (a b : Table) → StepsFrom choice k table a o
    → StepsFrom choice k table b o → a ≡ b
step_once choice one k table (Some x) a b first second = first ∙ sym second
step_once choice one k table None a b first second =
    first.2 ∙ ap (λ o. slice_set table k o) (one table k first.0 second.0 first.1 second.1) ∙ sym second.2

stage_once : (choice : Table → ℕ → Option ℕ → Type 0) → ChoosesOne choice → (ks : List ℕ) (table a b : Table) → Stage choice ks table a → Stage choice ks table b → a ≡ b
stage_once choice one [] table a b first second = sym first ∙ second
stage_once choice one (k ∷ ks) table a b first second =
    let same = step_once choice one k table (place_at table k) first.0 second.0 first.1 second.1 in
    stage_once choice one ks second.0 a b (subst (λ (t : Table). Stage choice ks t a) same first.2) second.2

below_once : (p : ℕ) (wishes : Table) → ChoosesOne (WishBelow p wishes)
below_once p wishes table k None None first second = refl
below_once p wishes table k None (Some y) first second = absurd (first y second.0 second.1)
below_once p wishes table k (Some x) None first second = absurd (second x first.0 first.1)
below_once p wishes table k (Some x) (Some y) first second = sym first.0 ∙ second.0

untaken_once : (wishes : Table) → ChoosesOne (WishFree wishes)
untaken_once wishes table k None None first second = refl
untaken_once wishes table k None (Some y) first second = absurd (let at = first y second.0 in second.1 at.0 at.1)
untaken_once wishes table k (Some x) None first second = absurd (let at = second x first.0 in first.1 at.0 at.1)
untaken_once wishes table k (Some x) (Some y) first second = sym first.0 ∙ second.0

least_once : (table : Table) (x y : ℕ) → IsLeastFree table x → IsLeastFree table y → x ≡ y
least_once table x y first second = elim (cases_eq x y) [
  | inl same ↦ same
  | inr other ↦ elim (leb_tells y x) [
    | inl le ↦ absurd (let at = first.least y (let l = le.1 in omega arith) in second.free at.0 at.1)
    | inr less ↦ absurd (let at = second.least x less.1 in first.free at.0 at.1)
  ]
]

free_once : ChoosesOne LeastFree
free_once table k None b first second = absurd first
free_once table k (Some x) None first second = absurd second
free_once table k (Some x) (Some y) first second = ap Some (least_once table x y first second)

given_once : (p : ℕ) (wishes : Table) (before cross : List ℕ) (a b : Table) → AreGiven p wishes before cross a → AreGiven p wishes before cross b → a ≡ b
given_once p wishes before cross a b one two =
    let first = stage_once (WishBelow p wishes) (below_once p wishes) cross nothing one.wished two.wished one.first two.first in
    let second = stage_once LeastFree free_once cross two.wished one.crossed two.crossed (subst (λ (t : Table). Stage LeastFree cross t one.crossed) first one.second) two.second in
    let third = stage_once (WishFree wishes) (untaken_once wishes) before two.crossed one.kept two.kept (subst (λ (t : Table). Stage (WishFree wishes) before t one.kept) second one.third) two.third in
    stage_once LeastFree free_once before two.kept a b (subst (λ (t : Table). Stage LeastFree before t a) third one.fourth) two.fourth

apart_once : (stay : List ℕ) (table : Table) (x y : ℕ) → IsLeastApart stay table x → IsLeastApart stay table y → x ≡ y
apart_once stay table x y first second = elim (cases_eq x y) [
  | inl same ↦ same
  | inr other ↦ elim (leb_tells y x) [
    | inl le ↦ absurd (let at = first.least y (let l = le.1 in omega arith) in second.free at.0 at.1 at.2)
    | inr less ↦ absurd (let at = second.least x less.1 in first.free at.0 at.1 at.2)
  ]
]

place_once : (stay : List ℕ) (table : Table) (o a b : Option ℕ) → IsPlaceFor stay table o a → IsPlaceFor stay table o b → a ≡ b
place_once stay table (Some x) a b first second = first ∙ sym second
place_once stay table None a b first second = first.1 ∙ ap Some (apart_once stay table first.0 second.0 first.2 second.2) ∙ sym second.1

write_once : (stay : List ℕ) (table : Table) (written : Option VReg) (a b : Option ℕ) → IsWritePlace stay table written a → IsWritePlace stay table written b → a ≡ b
write_once stay table None a b first second = first ∙ sym second
write_once stay table (Some d) a b first second = place_once stay table (place_at table d.0) a b first second

follows_once : (code : List Line) (p i : ℕ) (wishes : Table) (a b : PlanRow) (u v : Table) → Follows code p i wishes a u → Follows code p i wishes b v → (a ≡ b) × (u ≡ v)
follows_once code p i wishes a b u v one two =
    let before = lists_once _ one.before two.before one.is_before two.is_before in
    let cross = lists_once _ one.cross two.cross one.is_cross two.is_cross in
    let stay = lists_once _ one.stay two.stay one.is_stay two.is_stay in
    let given = subst (λ (ks : List ℕ). AreGiven p wishes ks two.cross one.table) before (subst (λ (ks : List ℕ). AreGiven p wishes one.before ks one.table) cross one.given) in
    let table = given_once p wishes two.before two.cross one.table two.table given two.given in
    let places : a.places ≡ b.places = one.places ∙ (λ j. entries (table j) (before j)) ∙ sym two.places in
    let write_a = subst (λ (t : Table). IsWritePlace two.stay t (written_in (slice_get code i)) a.write) table
    (subst (λ (ks : List ℕ). IsWritePlace ks one.table (written_in (slice_get code i)) a.write) stay one.write) in
    let write = write_once two.stay two.table (written_in (slice_get code i)) a.write b.write write_a two.write in (
      (λ j. record { places = places j; write = write j }),
      one.leaves ∙ (λ j. if falls_in i (slice_get code i) then put (written_in (slice_get code i)) (write j) (table j) else nothing) ∙ sym two.leaves,
    )

walked_once : (code : List Line) (p n : ℕ) (rows others : List PlanRow) (u v : Table) → Walked code p n rows u → Walked code p n others v → (rows ≡ others) × (u ≡ v)
walked_once code p zero rows others u v one two = (one.0 ∙ sym two.0, one.1 ∙ sym two.1)
walked_once code p (suc n) rows others u v one two =
    let earlier = walked_once code p n one.0 two.0 one.1 two.1 one.3 two.3 in
    let follows = subst (λ (w : Table). Follows code p n w one.2 u) earlier.1 one.4 in
    let same = follows_once code p n two.1 one.2 two.2 u v follows two.4 in
    (one.5 ∙ (λ j. earlier.0 j ++ same.0 j ∷ []) ∙ sym two.5, same.1)

-- two plans that are walks with these sizes are one
pub walk_once : (code : List Line) (p r : ℕ) (x y : Plan) → IsWalk code p r x → IsWalk code p r y → x ≡ y
walk_once code p r x y one two =
    let private = one.private ∙ sym two.private in
    let all = one.all ∙ sym two.all in
    let rows = (walked_once code p (length code) x.rows y.rows one.rows.0 two.rows.0 one.rows.1 two.rows.1).0 in
    λ j. record { p = private j; r = all j; rows = rows j }
