use Rattle.std.proofs.Common.{sym, ◌∙◌}
use Rattle.std.proofs.lemmas.Bool.{eqb-true}
use Rattle.range_colour.proofs.Settled.{settled_more}
use Rattle.range_colour.proofs.colour.settle_member.Goals as goal

pub returns-clause-settled : goal.returns-clause-settled
returns-clause-settled c done first fresh so_far =
    let member = eqb-true _ _ (sym c.has.ensures ∙ c.if-not-has.false) in
    let e = c.in_ok-place.ensures in
    let more = settled_more _ done c.args.set c.args.k first c.args.places.now c.args.taken.now.items c.args.above so_far
    member (λ one. fresh one member) c.requires.here (c.requires.places member) c.in_ok-place.place e.free in
    rw (e.places, e.taken, c.max.ensures) more
