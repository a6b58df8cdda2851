use Rattle.std.proofs.Common.{subst}
use Rattle.round_order.specs.Journals.{IsJournalOn}
use Rattle.round_order.proofs.Unplugging.{all_closed, whole_run}
use Rattle.round_order.proofs.order.run_rounds.Goals as goal

pub take_turns-requires : goal.take_turns-requires
take_turns-requires g c =
    all_closed (g.I.Interpreter.config c.args.run.now).core.world (g.I.Interpreter.config c.unplug_all.new.run).core c.in_ok-entries.ensures.opened.unplugged

pub returns-in-Ok-clause-run : goal.returns-in-Ok-clause-run
returns-in-Ok-clause-run g c =
    let j = c.in-Ok in
    let before = g.I.Interpreter.config c.args.run.now in
    let middle = g.I.Interpreter.config c.unplug_all.new.run in
    let after = g.I.Interpreter.config c.take_turns.new.run in
    let on = subst (λ s. IsJournalOn s middle after c.in_ok-entries.entries.items j.journal.entries.items j.journal.end) c.unplug_all.ensures.rules j.ensures.run in
    whole_run (g.I.Interpreter.rules c.args.run.now) before middle after c.in_ok-entries.entries.items j.journal.entries.items j.journal.end c.requires c.in_ok-entries.ensures.opened on
