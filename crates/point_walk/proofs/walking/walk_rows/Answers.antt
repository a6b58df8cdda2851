use Rattle.std.proofs.Common.{List, slice_get, take, refl, sym, ap, ◌∙◌, arith}
use Rattle.plan.specs.declared.row.Plan.{Plan}
use Rattle.plan.specs.declared.row.PlanRow.{PlanRow}
use Rattle.point_walk.proofs.Beyond.{follows_low, walked_more}
use Rattle.point_walk.proofs.Seated.{no_seats}
use Rattle.point_walk.proofs.Settled.{settled_more}
use Rattle.point_walk.proofs.Slots.{nothing_is_table, nothing_has}
use Rattle.point_walk.proofs.walking.walk_rows.Goals as goal
use Rattle.point_walk.proofs.walking.walk_rows.Goals.{then-lasting, else-lasting}

pub rows-init : goal.rows-init
rows-init c =
    let made = c.reserve.ensures ∙ c.emptied-plan.ensures in
    let none = ap (λ (plan : Plan). plan.rows) made in record {
      table = nothing_is_table;
      seats = no_seats _ refl;
      apart = record {
        r = c.args.r;
        order = c.requires.order;
        room = c.requires.room;
        are = record { low = λ k x at. absurd (nothing_has k x at); apart = λ k l x live_k live_l at. absurd (nothing_has k x at) };
      };
      private = ap (λ (plan : Plan). plan.p) made;
      all = ap (λ (plan : Plan). plan.r) made;
      walked = (none, refl);
      lasting = λ lasts q order. (none, refl);
      settled = λ on i falls row next is_row is_next. absurd (let gone = ap (λ (s : List PlanRow). slice_get s i) none in cc);
    }

pub rows-preserved : goal.rows-preserved
rows-preserved c =
    let pushed = c.in_ok-push_row.ensures in
    let more = ap (λ (plan : Plan). plan.rows) pushed in
    let row : PlanRow = record { places = take c.next_row-step.result.count c.next_row-step.new.line; write = c.next_row-step.result.write } in record {
      table = c.next_row-step.ensures.wishes;
      seats = c.next_row-step.ensures.seats;
      apart = c.next_row-step.ensures.apart;
      private = ap (λ (plan : Plan). plan.p) pushed ∙ c.rows.invariant.private;
      all = ap (λ (plan : Plan). plan.r) pushed ∙ c.rows.invariant.all;
      walked = walked_more c.args.code.now c.args.p c.rows.i c.rows.plan.rows c.push_row.new.self.rows c.rows.wishes c.next_row-step.new.table row c.rows.invariant.walked c.next_row-step.ensures.follows more;
      lasting = elim c.if-lasting.branch [
        | then-lasting w ↦ λ all q order.
            walked_more c.args.code.now q c.rows.i c.rows.plan.rows c.push_row.new.self.rows c.rows.wishes c.next_row-step.new.table row (c.rows.invariant.lasting w.if-lasting.true q order)
            (follows_low c.args.code.now c.args.p q c.rows.i c.crossing-cross.result row c.rows.wishes c.next_row-step.new.table (omega arith) c.crossing-cross.ensures order (c.are_low-lasts.ensures (sym w.lasting-is ∙ all)) c.next_row-step.ensures.follows) more
        | else-lasting w ↦ λ all. absurd (let off = w.lasting-is in cc)
      ];
      settled = λ on.
          settled_more c.args.code.now c.args.p c.rows.i c.rows.plan.rows c.push_row.new.self.rows row c.rows.wishes c.next_row-step.new.table c.next_row-step.result.stood c.requires.closed c.rows.invariant.table
          c.rows.invariant.walked c.next_row-step.ensures.follows more c.next_row-step.ensures.stood (c.stays_settled-settled.ensures.here on) (c.rows.invariant.settled (c.stays_settled-settled.ensures.before on));
    }
