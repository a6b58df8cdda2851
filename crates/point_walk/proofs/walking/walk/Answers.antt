use Rattle.point_walk.proofs.Once.{walk_once}
use Rattle.point_walk.proofs.walking.walk.Goals as goal

pub returns-clause-once : goal.returns-clause-once
returns-clause-once c = walk_once c.args.program.now.code c.args.p c.args.r

pub returns-in_err-route-clause-once : goal.returns-in_err-route-clause-once
returns-in_err-route-clause-once c = walk_once c.args.program.now.code c.args.p c.args.r
