use Rattle.std.proofs.Common.{◌∙◌, subst}
use Rattle.round_order.specs.Journals.{UnpluggedAt}
use Rattle.round_order.proofs.Unplugging.{opened_more}
use Rattle.round_order.proofs.opening.unplug_all.Goals as goal

pub channels-preserved : goal.channels-preserved
channels-preserved g c =
    let i = c.channels.invariant in
    let k = c.channels.channel in
    let did = subst (λ s. UnpluggedAt s (g.I.Interpreter.config c.channels.run) (g.I.Interpreter.config c.unplug_at.new.run) k c.channels.entries.items c.unplug_at.new.entries.items) i.0 c.in_ok-unplug_at.ensures.unplugged in
    (c.unplug_at.ensures.rules ∙ i.0, opened_more (g.I.Interpreter.rules c.args.run.now) (g.I.Interpreter.config c.args.run.now) (g.I.Interpreter.config c.channels.run) (g.I.Interpreter.config c.unplug_at.new.run) k c.channels.entries.items c.unplug_at.new.entries.items i.1 did)
