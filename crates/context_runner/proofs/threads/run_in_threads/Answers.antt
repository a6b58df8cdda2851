use Rattle.std.proofs.Common.{ap, subst}
use Rattle.context_runner.specs.Sharing.{beginning, Ended}
use Rattle.context_runner.proofs.Ends.{brought_by_threads, opened_begins}
use Rattle.context_runner.proofs.threads.run_in_threads.Goals as goal

pub returns-in-Ok-clause-brought : goal.returns-in-Ok-clause-brought
returns-in-Ok-clause-brought g c =
    let opened = c.in-Ok.ensures in
    let r = c.run_threads.result in
    let ended = subst (λ b. Ended (beginning b) r.run r.slots) opened.bench c.run_threads.ensures.ended in
    brought_by_threads (record { run = c.args.run; slots = c.args.slots; start = c.args.slots.told }) r.run r.slots ended
    (opened_begins (λ p. p.seat.me.0.seen) c.args.run.entries r.run.entries c.in-Ok.passes opened.some (λ i d lt. ap (λ m. m.0.seen) (opened.passes i d lt)) c.run_threads.ensures.seen)
