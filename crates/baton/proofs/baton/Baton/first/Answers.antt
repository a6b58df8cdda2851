use Rattle.baton.proofs.Steps.{opens}
use Rattle.baton.proofs.baton.Baton.first.Goals as goal

pub new-requires : goal.new-requires
new-requires g c = rw (c.length-length.ensures, c.in_default.ensures.items, c.new-slots.ensures.items, c.of.ensures) (opens g.T.Storied.history g.T.Storied.origin c.args.callers c.args.value c.requires.some)
