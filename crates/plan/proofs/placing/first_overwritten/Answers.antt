use Rattle.std.proofs.Common.{refl, Some, None}
use Rattle.plan.proofs.Places.{registers_low, list_rises, no_write, overwritten_is}
use Rattle.plan.proofs.placing.first_overwritten.Goals as goal

pub returns-in_default : goal.returns-in_default
returns-in_default c = no_write c.args.code.now c.args.i c.args.places.now c.args.write c.in_default.ensures c.requires.listing

pub first_at-requires : goal.first_at-requires
first_at-requires c = registers_low c.args.code.now c.args.i c.args.places.now c.args.write c.requires.closed c.requires.listing

pub returns-in-Some-first_at : goal.returns-in-Some-first_at
returns-in-Some-first_at c =
    (overwritten_is c.args.code.now c.args.i c.survivors.result c.in-Some.written.place c.in-Some.written.register c.args.places.now c.args.write
    (Some c.in-Some-first_at.first) (list_rises c.args.code.now c.args.i c.args.places.now c.args.write c.requires.listing) c.survivors.ensures
    c.in-Some.ensures.1 c.in-Some.ensures.0 c.in-Some-first_at.ensures).1 c.in-Some-first_at.first refl

pub returns-in-None : goal.returns-in-None
returns-in-None c =
    (overwritten_is c.args.code.now c.args.i c.survivors.result c.in-Some.written.place c.in-Some.written.register c.args.places.now c.args.write
    None (list_rises c.args.code.now c.args.i c.args.places.now c.args.write c.requires.listing) c.survivors.ensures
    c.in-Some.ensures.1 c.in-Some.ensures.0 c.in-None.ensures).0 refl
