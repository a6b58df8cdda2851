use Rattle.std.proofs.Common.{slice_get, take, refl, subst, sym, arith}
use Rattle.liveness.specs.Liveness.{LiveIn}
use Rattle.liveness.specs.Sets.{IsSetOf, members}
use Rattle.liveness.specs.Surviving.{Stays, Crosses}
use Rattle.liveness.proofs.Members.{listed}
use Rattle.liveness.proofs.Steps.{crosses_live}
use Rattle.liveness.proofs.Staying.{written_small}
use Rattle.plan.specs.declared.row.PlanRow.{PlanRow}
use Rattle.point_walk.specs.Walks.{IsWritePlace, written_in}
use Rattle.point_walk.proofs.Seated.{row_of}
use Rattle.point_walk.proofs.Settled.{had_places}
use Rattle.point_walk.proofs.Valid.{wishes_left}
use Rattle.point_walk.proofs.Slots.{written_is, left_is_table, left_as}
use Rattle.point_walk.proofs.row.next_row.Goals as goal

pub settle-settled-requires-clause-crossing : goal.settle-settled-requires-clause-crossing
settle-settled-requires-clause-crossing c = λ k has.
    let before = subst (λ set. IsSetOf (LiveIn c.args.code.now c.args.i) set) (sym c.live_in-before.ensures) (c.requires.live.live_in _ c.requires.here) in
    let is_before = listed (LiveIn c.args.code.now c.args.i) c.live_in-before.result (omega arith) before in
    let is_cross = listed (Crosses c.args.code.now c.args.i) c.args.cross (omega arith) c.requires.crossing in
    (is_before.exact k).1 (crosses_live c.args.code.now c.args.i k ((is_cross.exact k).0 has))

pub write_place-write-requires-clause-small : goal.write_place-write-requires-clause-small
write_place-write-requires-clause-small c = written_small _ _ _ c.writes-written.result c.writes-written.ensures c.requires.here c.requires.closed

pub leave-requires-clause-small : goal.leave-requires-clause-small
leave-requires-clause-small c = written_small _ _ _ c.writes-written.result c.writes-written.ensures c.requires.here c.requires.closed

pub returns-clause-follows : goal.returns-clause-follows
returns-clause-follows c =
    let before = subst (λ set. IsSetOf (LiveIn c.args.code.now c.args.i) set) (sym c.live_in-before.ensures) (c.requires.live.live_in _ c.requires.here) in
    let written = written_is _ _ _ c.writes-written.result c.requires.here c.writes-written.ensures in record {
      before = members 128 c.live_in-before.result;
      cross = members 128 c.args.cross;
      stay = members 128 c.survivors-stay.result;
      table = c.settle-settled.new.table;
      is_before = listed (LiveIn c.args.code.now c.args.i) c.live_in-before.result (omega arith) before;
      is_cross = listed (Crosses c.args.code.now c.args.i) c.args.cross (omega arith) c.requires.crossing;
      is_stay = listed (Stays c.args.code.now c.args.i) c.survivors-stay.result (omega arith) c.survivors-stay.ensures;
      given = c.settle-settled.ensures.given;
      places = c.write_entries-count.ensures.entries;
      write = subst (λ w. IsWritePlace (members 128 c.survivors-stay.result) c.settle-settled.new.table w c.write_place-write.result) written c.write_place-write.ensures.place;
      leaves = left_as c.falls.result _ c.writes-written.result _ c.write_place-write.result c.settle-settled.new.table c.leave.new.table c.falls.ensures written c.leave.ensures.left;
    }

pub returns-clause-wishes : goal.returns-clause-wishes
returns-clause-wishes c =
    left_is_table c.falls.result c.writes-written.result c.write_place-write.result c.settle-settled.new.table c.leave.new.table
    (written_small _ _ _ c.writes-written.result c.writes-written.ensures c.requires.here c.requires.closed)
    c.write_place-write.ensures.low c.settle-settled.ensures.table c.leave.ensures.left

pub returns-clause-apart : goal.returns-clause-apart
returns-clause-apart c =
    let wish = c.requires.apart in
    let row : PlanRow = record { places = take c.write_entries-count.result c.write_entries-count.new.line; write = c.write_place-write.result } in record {
      r = wish.r;
      order = wish.order;
      room = wish.room;
      are = wishes_left c.args.code.now c.args.p wish.r c.args.i row c.args.table.now c.leave.new.table wish.order c.requires.here wish.room c.requires.closed wish.are (returns-clause-follows c);
    }

pub places_within-requires-clause-apart : goal.places_within-requires-clause-apart
places_within-requires-clause-apart c =
    let before = subst (λ set. IsSetOf (LiveIn c.args.code.now c.args.i) set) (sym c.live_in-before.ensures) (c.requires.live.live_in _ c.requires.here) in
    (row_of c.args.code.now c.args.p c.args.i c.live_in-before.result c.args.cross c.survivors-stay.result (written_in (slice_get c.args.code.now c.args.i)) c.args.table.now c.settle-settled.new.table c.requires.closed c.requires.here
    (omega arith) (omega arith) (omega arith) before c.requires.crossing c.survivors-stay.ensures refl c.requires.apart c.settle-settled.ensures.given).apart

pub places_within-requires-clause-within : goal.places_within-requires-clause-within
places_within-requires-clause-within c =
    let before = subst (λ set. IsSetOf (LiveIn c.args.code.now c.args.i) set) (sym c.live_in-before.ensures) (c.requires.live.live_in _ c.requires.here) in
    (row_of c.args.code.now c.args.p c.args.i c.live_in-before.result c.args.cross c.survivors-stay.result (written_in (slice_get c.args.code.now c.args.i)) c.args.table.now c.settle-settled.new.table c.requires.closed c.requires.here
    (omega arith) (omega arith) (omega arith) before c.requires.crossing c.survivors-stay.ensures refl c.requires.apart c.settle-settled.ensures.given).within

pub leave-requires-clause-seats : goal.leave-requires-clause-seats
leave-requires-clause-seats c =
    let before = subst (λ set. IsSetOf (LiveIn c.args.code.now c.args.i) set) (sym c.live_in-before.ensures) (c.requires.live.live_in _ c.requires.here) in
    let row = row_of c.args.code.now c.args.p c.args.i c.live_in-before.result c.args.cross c.survivors-stay.result c.writes-written.result c.args.table.now c.settle-settled.new.table c.requires.closed c.requires.here
    (omega arith) (omega arith) (omega arith) before c.requires.crossing c.survivors-stay.ensures (written_is _ _ _ c.writes-written.result c.requires.here c.writes-written.ensures) c.requires.apart c.settle-settled.ensures.given in record {
      among = c.settle-settled.ensures.among;
      full = record { full = λ k has. row.full.full k (row.within k has) };
      apart = record { apart = λ k l x has_k has_l. row.apart.apart k l x (row.within k has_k) (row.within l has_l) };
      places = c.places_within.ensures;
    }

pub leave-requires-clause-alone : goal.leave-requires-clause-alone
leave-requires-clause-alone c =
    let before = subst (λ set. IsSetOf (LiveIn c.args.code.now c.args.i) set) (sym c.live_in-before.ensures) (c.requires.live.live_in _ c.requires.here) in
    (row_of c.args.code.now c.args.p c.args.i c.live_in-before.result c.args.cross c.survivors-stay.result c.writes-written.result c.args.table.now c.settle-settled.new.table c.requires.closed c.requires.here
    (omega arith) (omega arith) (omega arith) before c.requires.crossing c.survivors-stay.ensures (written_is _ _ _ c.writes-written.result c.requires.here c.writes-written.ensures) c.requires.apart c.settle-settled.ensures.given).alone

pub returns-clause-stood : goal.returns-clause-stood
returns-clause-stood c = λ stood.
    had_places c.args.table.now c.settle-settled.new.table (members 128 c.live_in-before.result) (take c.write_entries-count.result c.write_entries-count.new.line) c.write_entries-count.ensures.entries (c.settle-settled.ensures.stood stood)
