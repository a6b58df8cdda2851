use Rattle.std.proofs.Common.{ap}
use Rattle.std.specs.Prelude.{◌||◌}
use Rattle.edge_moves.specs.MoveSteps.{is_source}
use Rattle.edge_moves.specs.ParallelMove.{is_target}
use Rattle.edge_moves.proofs.Sources.{none_marked}
use Rattle.emit.proofs.edges.named_places.Goals as goal

pub loop-source-init : goal.loop-source-init
loop-source-init c = λ q. ap (λ b. b || (is_source c.args.pairs.now q || is_target c.args.pairs.now q)) (none_marked 256 q)
