use Rattle.std.proofs.Common.{ap}
use Rattle.std.specs.Prelude.{◌||◌}
use Rattle.edge_moves.specs.MoveSteps.{is_source}
use Rattle.edge_moves.proofs.Sources.{none_marked}
use Rattle.edge_moves.proofs.remaining.sources_of.Goals as goal

pub loop-source-init : goal.loop-source-init
loop-source-init c = λ q. ap (λ b. b || is_source c.args.left.now q) (none_marked 256 q)
