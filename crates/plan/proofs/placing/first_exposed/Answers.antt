use Rattle.plan.proofs.Places.{exposed_is, list_rises, registers_low}
use Rattle.plan.proofs.placing.first_exposed.Goals as goal

pub first_beyond-requires : goal.first_beyond-requires
first_beyond-requires c = registers_low c.args.code.now c.args.i c.args.places.now c.args.write c.requires.closed c.requires.listing

pub returns : goal.returns
returns c =
    exposed_is c.args.code.now c.args.p c.args.i c.crossing.result c.args.places.now c.first_beyond.result
    (list_rises c.args.code.now c.args.i c.args.places.now c.args.write c.requires.listing) c.crossing.ensures c.first_beyond.ensures
