use Rattle.std.proofs.Common.{All, subst, sym, ◌∙◌}
use denote.Param.Send.{sendable}
use Rattle.std.proofs.Crossing.{crosses}
use mathlib.Core.List.{IsPrefix}
use Rattle.baton.specs.Passes.{IsOfBaton, IsIdle}
use Rattle.run_journal.proofs.run.Run.TheSendSync as run
use Rattle.ports.proofs.slots.Slots.TheSendSync as slots
use Rattle.context_runner.specs.Sharing.{beginning}
use Rattle.context_runner.proofs.Ends.{all_begin, taken_whole}
use Rattle.context_runner.proofs.threads.run_threads.Goals as goal

pub work_all-requires-send-T : goal.work_all-requires-send-T
work_all-requires-send-T g c κs within = search (run.the_send, slots.the_send, sendable, crosses) depth 40 fits 20000

pub close-run-requires-clause-of : goal.close-run-requires-clause-of
close-run-requires-clause-of g c =
    let whole = c.of.ensures ∙ taken_whole _ c.work_all.new.passes _ (c.work_all.ensures.count ∙ c.as_mut_slice.ensures.len) in
    subst (λ l. All (λ p. IsOfBaton beginning c.args.shared.baton.table.shared p.seat × IsIdle p.seat) l) (sym whole) c.work_all.ensures.of

pub returns-clause-seen : goal.returns-clause-seen
returns-clause-seen g c =
    let whole = c.of.ensures ∙ taken_whole _ c.work_all.new.passes _ (c.work_all.ensures.count ∙ c.as_mut_slice.ensures.len) in
    let before = c.as_mut_slice.ensures.value ∙ c.into_vec-passes.ensures in
    let end = c.run_round.result.run.entries in
    subst (λ l. All (λ p. IsPrefix p.seat.me.0.seen end) l) before
    (all_begin (λ p. p.seat.me.0.seen) c.as_mut_slice.result.now c.work_all.new.passes c.close-run.result.run.entries end c.work_all.ensures.count c.work_all.ensures.later
    (subst (λ l. All (λ p. IsPrefix p.seat.me.0.seen c.close-run.result.run.entries) l) whole c.close-run.ensures.seen)
    c.run_round.ensures.brought.begins)
