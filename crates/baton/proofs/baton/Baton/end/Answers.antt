use Rattle.std.proofs.Common.{arith, ◌∙◌}
use mathlib.Core.Option.{none}
use Rattle.atomic_table.specs.Table.{step}
use Rattle.baton.proofs.Steps.{ends_at}
use Rattle.baton.proofs.baton.Baton.end.Goals as goal

pub swap-requires : goal.swap-requires
swap-requires g c =
    (c.requires.of.0, rw c.args.self.shape.0 (omega arith), ends_at g.T.Storied.history g.T.Storied.origin _ _ _ (step 0 0 0 0 none) _ _ _ c.args.self.shape.1 c.requires.taken.0 c.requires.taken.1 (c.from-number.ensures ∙ c.args.pass.numbered.0))
