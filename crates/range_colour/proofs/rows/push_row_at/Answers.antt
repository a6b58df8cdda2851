use Rattle.std.proofs.Common.{◌≡◌, sym, subst, take}
use Rattle.std.specs.Prelude.{slice_index}
use Rattle.std.proofs.lemmas.Option.{slice_get-get_or}
use Rattle.liveness.specs.Liveness.{LiveIn}
use Rattle.liveness.specs.Sets.{IsSetOf}
use Rattle.plan.specs.declared.row.PlanRow.{PlanRow}
use Rattle.plan.specs.Rows.{with_row}
use Rattle.range_colour.specs.PlacedPlans.{IsPlacedRow}
use Rattle.range_colour.proofs.Placing.{live_used, row_placed, written_used}
use Rattle.range_colour.proofs.Planning.{on_ok_weaker}
use Rattle.range_colour.proofs.rows.push_row_at.Goals as goal

pub write_place-write-requires-clause-inside : goal.write_place-write-requires-clause-inside
write_place-write-requires-clause-inside c k is =
    c.requires.inside k (written_used _ _ k _ _ (slice_get-get_or _ _ _ c.requires.here) c.writes.ensures is)

pub write_place-write-requires-clause-small : goal.write_place-write-requires-clause-small
write_place-write-requires-clause-small c k is =
    c.requires.small k (written_used _ _ k _ _ (slice_get-get_or _ _ _ c.requires.here) c.writes.ensures is)

pub write_entries-count-requires-clause-inside : goal.write_entries-count-requires-clause-inside
write_entries-count-requires-clause-inside c k member =
    let live = subst (IsSetOf (LiveIn c.args.code.now c.args.i)) (sym c.live_in.ensures) (c.requires.live.live_in c.args.i c.requires.here) in
    c.requires.inside k (live_used _ _ _ k live member)

pub write_entries-count-requires-clause-small : goal.write_entries-count-requires-clause-small
write_entries-count-requires-clause-small c k member =
    let live = subst (IsSetOf (LiveIn c.args.code.now c.args.i)) (sym c.live_in.ensures) (c.requires.live.live_in c.args.i c.requires.here) in
    c.requires.small k (live_used _ _ _ k live member)

pub returns : goal.returns
returns c =
    let live = subst (IsSetOf (LiveIn c.args.code.now c.args.i)) (sym c.live_in.ensures) (c.requires.live.live_in c.args.i c.requires.here) in
    let row : PlanRow = record { places = take c.write_entries-count.result c.write_entries-count.new.line; write = c.write_place-write.result } in
    let placed = row_placed _ _ _ (slice_get-get_or _ _ _ c.requires.here) _ _ row c.live_in.type_inv live
    c.write_entries-count.ensures.registers c.write_entries-count.ensures.places _ c.writes.ensures c.write_place-write.ensures in
    let Pushed : PlanRow → Type 0 = λ row. c.push_row.new.self ≡ with_row c.args.plan.now row in
    on_ok_weaker _ ((row : PlanRow) × IsPlacedRow c.args.code.now c.args.i (slice_index c.args.places.now) row × Pushed row) (λ same. (row, placed, same)) _ c.push_row.ensures
