-- The most glue words.
use Rattle.std.specs.Prelude.{ℕ, ◌+◌, ◌*◌}
use Rattle.micro_isa.specs.declared.limits.TheConstants.{MOST_INSTRUCTIONS}
use Rattle.emitted.specs.Edges.{most_edge_steps}

-- of an instruction: the steps of both its edges, and a jump
abbrev pub most_line_glue : ℕ
most_line_glue = 2 * most_edge_steps + 1

-- of a plan
abbrev pub most_glue : ℕ
most_glue = most_line_glue * MOST_INSTRUCTIONS
