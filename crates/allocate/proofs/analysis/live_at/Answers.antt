use Rattle.std.proofs.lemmas.Result.{IfOk-weaker}
use Rattle.liveness.specs.Lives.{IsLiveOf}
use Rattle.allocate.specs.Items.{IsItem}
use Rattle.allocate.proofs.Zipping.{item_closed, item_is}
use Rattle.allocate.proofs.analysis.live_at.Goals as goal

pub live_of-requires : goal.live_of-requires
live_of-requires c = item_closed c.args.programs.now c.args.c c.index-programs-c.result c.requires.closed c.requires.within c.index-programs-c.is

pub returns : goal.returns
returns c = IfOk-weaker c.live_of.result (IsLiveOf c.index-programs-c.result.code) (IsItem IsLiveOf c.args.programs.now c.args.c)
    (λ live is. item_is IsLiveOf c.args.programs.now c.args.c c.index-programs-c.result live c.requires.within c.index-programs-c.is is) c.live_of.ensures
