use Rattle.std.proofs.Common.{arith}
use mathlib.Core.Option.{none}
use Rattle.atomic_table.specs.Table.{step}
use Rattle.baton.proofs.Steps.{looks_allowed}
use Rattle.baton.proofs.baton.Baton.length.Goals as goal

pub load-requires : goal.load-requires
load-requires g c = (c.requires.of.0, rw c.args.self.now.shape.0 (omega arith), looks_allowed g.T.Storied.history g.T.Storied.origin _ _ _ (step 0 0 0 0 none) _ _)
