-- A walk with more private places: a row at which no register that crosses wishes for a place at or above p is the same with more private places.
use Rattle.std.proofs.Common.{◌≡◌, ℕ, ◌+◌, ◌<◌, ◌≤◌, ◌^◌, List, [], ◌∷◌, ◌++◌, Option, Some, None, add-one, sym, subst, arith}
use Rattle.micro_isa.specs.declared.program.Line.{Line}
use Rattle.liveness.specs.Sets.{IsSetOf, members}
use Rattle.liveness.specs.Surviving.{Crosses}
use Rattle.liveness.proofs.Members.{listed}
use Rattle.plan.specs.declared.row.PlanRow.{PlanRow}
use Rattle.point_walk.specs.Keeping.{AreLow}
use Rattle.point_walk.specs.Walks.{Table, place_at, nothing, WishBelow, StepsFrom, Stage, AreGiven, Follows, Walked}
use Rattle.point_walk.proofs.Rising.{lists_once}

module _ (p q : ℕ) (order : p ≤ q) (wishes : Table) where
  below_too : (table : Table) (k : ℕ) (o : Option ℕ) → ((x : ℕ) → place_at wishes k ≡ Some x → x < p) → WishBelow p wishes table k o → WishBelow q wishes table k o
  below_too table k None low none = λ x at less. none x at (low x at)
  below_too table k (Some x) low some = (some.0, let less = some.1 in omega arith)

  step_too : (k : ℕ) (table next : Table) (o : Option ℕ) → ((x : ℕ) → place_at wishes k ≡ Some x → x < p) → StepsFrom (WishBelow p wishes) k table next o → StepsFrom (WishBelow q wishes) k table next o
  step_too k table next (Some x) low step = step
  step_too k table next None low step = (step.0, below_too table k step.0 low step.1, step.2)

  stage_too : (ks : List ℕ) (table last : Table) → AreLow p wishes ks → Stage (WishBelow p wishes) ks table last → Stage (WishBelow q wishes) ks table last
  stage_too [] table last low stage = stage
  stage_too (k ∷ ks) table last low stage = (stage.0, step_too k table stage.0 (place_at table k) low.0 stage.1, stage_too ks stage.0 last low.1 stage.2)

  given_too : (before cross : List ℕ) (table : Table) → AreLow p wishes cross → AreGiven p wishes before cross table → AreGiven q wishes before cross table
  given_too before cross table low given = record {
    wished = given.wished;
    crossed = given.crossed;
    kept = given.kept;
    first = stage_too cross nothing given.wished low given.first;
    second = given.second;
    third = given.third;
    fourth = given.fourth;
  }

  follows_too : (code : List Line) (i : ℕ) (row : PlanRow) (left : Table) (follows : Follows code p i wishes row left) → AreLow p wishes follows.cross → Follows code q i wishes row left
  follows_too code i row left follows low = record {
    before = follows.before;
    cross = follows.cross;
    stay = follows.stay;
    table = follows.table;
    is_before = follows.is_before;
    is_cross = follows.is_cross;
    is_stay = follows.is_stay;
    given = given_too follows.before follows.cross follows.table low follows.given;
    places = follows.places;
    write = follows.write;
    leaves = follows.leaves;
  }

pub follows_low : (code : List Line) (p q i cross : ℕ) (row : PlanRow) (wishes left : Table) → cross < 2 ^ 128 → IsSetOf (Crosses code i) cross → p ≤ q → AreLow p wishes (members 128 cross)
    → Follows code p i wishes row left → Follows code q i wishes row left
follows_low code p q i cross row wishes left small is order low follows =
    let same = lists_once (Crosses code i) (members 128 cross) follows.cross (listed (Crosses code i) cross small is) follows.is_cross in
    follows_too p q order wishes code i row left follows (subst (AreLow p wishes) same low)

-- one row more
pub walked_more : (code : List Line) (p i : ℕ) (rows more : List PlanRow) (wishes left : Table) (row : PlanRow) → Walked code p i rows wishes → Follows code p i wishes row left → more ≡ rows ++ row ∷ []
    → Walked code p (i + 1) more left
walked_more code p i rows more wishes left row walked follows is = subst (λ n. Walked code p n more left) (sym (add-one i)) (rows, wishes, row, walked, follows, is)
