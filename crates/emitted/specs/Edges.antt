-- The edges of a plan: where each register comes from and goes to, the free place, and the steps that move it.
use Rattle.std.specs.Prelude.{ℕ, zero, suc, ◌+◌, ◌-◌, ◌*◌, ◌==◌, ◌||◌, List, [], map, Option, Some, None, slice_get, if◌then◌else◌}
use Rattle.micro_isa.specs.declared.limits.TheConstants.{MOST_FILE}
use Rattle.micro_isa.specs.declared.instr.Next.{Next}
use Rattle.micro_isa.specs.declared.program.VReg.{VReg}
use Rattle.micro_isa.specs.declared.program.Line.{Line}
use Rattle.micro_isa.specs.declared.image.PReg.{PReg}
use Rattle.micro_isa.specs.Columns.{written_by, next_of}
use Rattle.edge_moves.specs.declared.step.Step.{Step}
use Rattle.edge_moves.specs.MoveSteps.{Pair, is_source, move_steps}
use Rattle.edge_moves.specs.ParallelMove.{is_target}
use Rattle.plan.specs.declared.row.Place.{Place}
use Rattle.plan.specs.declared.row.PlanRow.{PlanRow}
use Rattle.plan.specs.declared.row.Plan.{Plan}
use Rattle.plan.specs.ValidPlans.{place_in}

-- the row of an instruction; one without places where there is none
abbrev pub row_in : Option PlanRow → PlanRow
row_in None = record { places = []; write = None }
row_in (Some row) = row

abbrev pub row_at : Plan → ℕ → PlanRow
row_at plan i = row_in (slice_get plan.rows i)

-- the write's place; 0 where nothing is written
abbrev pub place_or_zero : Option ℕ → ℕ
place_or_zero None = 0
place_or_zero (Some w) = w

-- the register that an instruction writes
abbrev pub written_in : Option Line → Option VReg
written_in None = None
written_in (Some line) = written_by line.instr

-- the successors of instruction i
abbrev pub next_at : Option Line → ℕ → Next
next_at None i = record { fall = None; jump = None }
next_at (Some line) i = next_of line.instr i

-- the place of register k after an instruction with this row that writes w
abbrev pub place_after : PlanRow → Option VReg → ℕ → ℕ
place_after row None k = place_in row.places k
place_after row (Some d) k = if k == d.0 then place_or_zero row.write else place_in row.places k

-- a place as what steps move between
abbrev pub place : ℕ → PReg
place q = record { 0 = q }

-- from where each listed register is to its place in the list
abbrev pub pair_from : (ℕ → ℕ) → Place → Pair
pair_from f q = (place (f q.register.0), place q.place)

abbrev pub pairs_from : (ℕ → ℕ) → List Place → List Pair
pairs_from f = map (pair_from f)

-- the least place from q on, of n, that is no source and no target
abbrev pub free_from : List Pair → ℕ → ℕ → Option PReg
free_from pairs zero q = None
free_from pairs (suc n) q = if is_source pairs q || is_target pairs q then free_from pairs n (q + 1) else Some (place q)

-- the pairs of the edge from i, which writes w, to j
abbrev pub edge_pairs : Plan → Option VReg → ℕ → ℕ → List Pair
edge_pairs plan w i j = pairs_from (place_after (row_at plan i) w) (row_at plan j).places

-- the steps of that edge: those of the moves at once, with the least free place of the plan
abbrev pub steps_for : Plan → Option VReg → ℕ → ℕ → List Step
steps_for plan w i j = move_steps (edge_pairs plan w i j) (free_from (edge_pairs plan w i j) plan.r 0)

-- the same, with what i writes taken from the code
abbrev pub edge_steps : List Line → Plan → ℕ → ℕ → List Step
edge_steps code plan i j = steps_for plan (written_in (slice_get code i)) i j

-- the steps to a successor; none where there is no such one
abbrev pub steps_to : List Line → Plan → ℕ → Option ℕ → List Step
steps_to code plan i None = []
steps_to code plan i (Some j) = edge_steps code plan i j

-- the steps where i falls through, and where it jumps
abbrev pub fall_steps : List Line → Plan → ℕ → List Step
fall_steps code plan i = steps_to code plan i (next_at (slice_get code i) i).fall

abbrev pub jump_steps : List Line → Plan → ℕ → List Step
jump_steps code plan i = steps_to code plan i (next_at (slice_get code i) i).jump

-- the most steps of an edge: an exchange, which is three steps, for each register of the file but one
abbrev pub most_edge_steps : ℕ
most_edge_steps = 3 * (MOST_FILE - 1)
