-- The glue of all contexts.
use Rattle.std.specs.Prelude.{ℕ, List, length}
use Rattle.micro_isa.specs.declared.program.Bundle.{Bundle}
use Rattle.micro_isa.specs.Pieces.{total}
use Rattle.semantics.specs.Source.{code_of}
use Rattle.plan.specs.declared.row.Plan.{Plan}
use Rattle.emitted.specs.Words.{glue_of}
use Rattle.emitted.specs.Emitted.{plan_at}

-- the glue words of the plans of all contexts
abbrev pub glue_of_plans : Bundle → List Plan → ℕ
glue_of_plans b plans = total (λ c. glue_of (code_of b c) (plan_at plans c)) (length b.programs)
