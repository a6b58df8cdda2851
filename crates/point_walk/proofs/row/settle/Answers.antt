use Rattle.std.proofs.Common.{arith}
use Rattle.point_walk.proofs.Rows.{row_stands}
use Rattle.point_walk.proofs.row.settle.Goals as goal

pub returns-then-stands-clause-given : goal.returns-then-stands-clause-given
returns-then-stands-clause-given c =
    (row_stands c.args.p c.args.before c.args.cross c.places_within-places.result c.args.seats c.args.table.now c.clear.new.table (omega arith) (omega arith) c.requires.wishes c.requires.seats c.requires.crossing
    (c.stands.ensures.below c.if-stands.true) (c.stands.ensures.own c.if-stands.true) c.places_within-places.ensures c.clear.ensures).given

pub returns-then-stands-clause-table : goal.returns-then-stands-clause-table
returns-then-stands-clause-table c =
    (row_stands c.args.p c.args.before c.args.cross c.places_within-places.result c.args.seats c.args.table.now c.clear.new.table (omega arith) (omega arith) c.requires.wishes c.requires.seats c.requires.crossing
    (c.stands.ensures.below c.if-stands.true) (c.stands.ensures.own c.if-stands.true) c.places_within-places.ensures c.clear.ensures).is

pub returns-then-stands-clause-among : goal.returns-then-stands-clause-among
returns-then-stands-clause-among c =
    (row_stands c.args.p c.args.before c.args.cross c.places_within-places.result c.args.seats c.args.table.now c.clear.new.table (omega arith) (omega arith) c.requires.wishes c.requires.seats c.requires.crossing
    (c.stands.ensures.below c.if-stands.true) (c.stands.ensures.own c.if-stands.true) c.places_within-places.ensures c.clear.ensures).among

pub returns-then-stands-clause-places : goal.returns-then-stands-clause-places
returns-then-stands-clause-places c =
    (row_stands c.args.p c.args.before c.args.cross c.places_within-places.result c.args.seats c.args.table.now c.clear.new.table (omega arith) (omega arith) c.requires.wishes c.requires.seats c.requires.crossing
    (c.stands.ensures.below c.if-stands.true) (c.stands.ensures.own c.if-stands.true) c.places_within-places.ensures c.clear.ensures).places

pub returns-then-stands-clause-stood : goal.returns-then-stands-clause-stood
returns-then-stands-clause-stood c = λ on.
    (row_stands c.args.p c.args.before c.args.cross c.places_within-places.result c.args.seats c.args.table.now c.clear.new.table (omega arith) (omega arith) c.requires.wishes c.requires.seats c.requires.crossing
    (c.stands.ensures.below c.if-stands.true) (c.stands.ensures.own c.if-stands.true) c.places_within-places.ensures c.clear.ensures).stood
