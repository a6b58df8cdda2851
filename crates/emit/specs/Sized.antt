-- The steps of edges, and the glue of a plan, by how many places there are in all.
use Rattle.std.specs.Prelude.{ℕ, ◌≡◌, ◌+◌, ◌≤◌, List, length, Option, Some, None, nat_lt, Bool, ◌==◌, ◌&&◌, if◌then◌else◌}
use Rattle.micro_isa.specs.declared.program.Line.{Line}
use Rattle.micro_isa.specs.declared.image.PReg.{PReg}
use Rattle.edge_moves.specs.MoveSteps.{Pair, move_steps}
use Rattle.plan.specs.declared.row.Plan.{Plan}
use Rattle.emitted.specs.Edges.{free_from, most_edge_steps, steps_to}
use Rattle.emit.specs.Addressed.{size_of_block}
use Rattle.emit.specs.declared.edge_costs.EdgeCosts.{EdgeCosts}

-- the place that was found, or else the end
abbrev pub place_or_end : ℕ → Option PReg → ℕ
place_or_end end None = end
place_or_end end (Some found) = found.0

-- the plan with so many places in all
abbrev pub with_places : Plan → ℕ → Plan
with_places plan r = record { p = plan.p; r = r; rows = plan.rows }

-- how many steps an edge with these costs takes, where so many places are there
abbrev pub steps_with : EdgeCosts → ℕ → ℕ
steps_with costs r = if nat_lt costs.unnamed r then costs.with_free else costs.without

-- how many glue words an instruction with these edges has
abbrev pub glue_with : EdgeCosts → EdgeCosts → ℕ → ℕ
glue_with fall jump r = steps_with fall r + size_of_block (steps_with jump r)

-- there are no steps, with a free place and without
abbrev pub takes_nothing : EdgeCosts → Bool
takes_nothing costs = costs.with_free == 0 && costs.without == 0

-- neither number of steps is large
pub record AreFew (costs : EdgeCosts) : Type 0 where
  pub with_free : costs.with_free ≤ most_edge_steps
  pub without : costs.without ≤ most_edge_steps

-- the costs are those of these pairs
pub record AreCostsOf (pairs : List Pair) (costs : EdgeCosts) : Type 0 where
  pub steps : (r : ℕ) → r ≤ 255 → steps_with costs r ≡ length (move_steps pairs (free_from pairs r 0))
  pub few : AreFew costs

-- the costs are those of the edge from i to a successor, if there is one
pub record AreCostsTo (code : List Line) (plan : Plan) (i : ℕ) (next : Option ℕ) (costs : EdgeCosts) : Type 0 where
  pub steps : (r : ℕ) → r ≤ 255 → steps_with costs r ≡ length (steps_to code (with_places plan r) i next)
  pub few : AreFew costs
