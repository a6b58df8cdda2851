use Rattle.liveness.specs.Lives.{IsLiveOf}
use Rattle.pressure.specs.Pressures.{IsPressureOf}
use Rattle.allocate.proofs.Zipping.{item_closed, item_is, item_zip, long}
use Rattle.allocate.proofs.analysis.pressure_at.Goals as goal

pub bounds-lives-c : goal.bounds-lives-c
bounds-lives-c c = long IsLiveOf c.args.programs.now c.args.lives.now c.args.c c.requires.lives c.requires.within

pub pressures-requires-clause-closed : goal.pressures-requires-clause-closed
pressures-requires-clause-closed c = item_closed c.args.programs.now c.args.c c.index-programs-c.result c.requires.closed c.requires.within c.index-programs-c.is

pub pressures-requires-clause-live : goal.pressures-requires-clause-live
pressures-requires-clause-live c = item_zip IsLiveOf c.args.programs.now c.args.lives.now c.args.c c.index-programs-c.result c.index-lives-c.result c.requires.lives c.requires.within c.index-programs-c.is c.index-lives-c.is

pub returns-clause-exact : goal.returns-clause-exact
returns-clause-exact c = item_is IsPressureOf c.args.programs.now c.args.c c.index-programs-c.result c.pressures.result c.requires.within c.index-programs-c.is c.pressures.ensures.exact
