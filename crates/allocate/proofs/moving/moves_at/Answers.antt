use Rattle.std.proofs.Common.{sym, ◌∙◌, subst, arith}
use Rattle.liveness.specs.Liveness.{LiveIn}
use Rattle.liveness.specs.Sets.{IsSetOf, members}
use Rattle.liveness.proofs.Sizes.{member_set}
use Rattle.emit.proofs.Edging.{fall_edge}
use Rattle.emitted.specs.Edges.{fall_steps}
use Rattle.std.specs.Prelude.{length}
use Rattle.allocate.proofs.Falls.{fall_moves, one_most}
use Rattle.allocate.proofs.moving.moves_at.Goals as goal

pub live_in-requires : goal.live_in-requires
live_in-requires c =
    let low = c.requires.closed.closed c.args.i c.in-Some.j (fall_edge c.args.code.now c.args.i c.in-Some.j (sym c.fall_at.ensures ∙ c.in-Some.is)) in
    let long = c.requires.live.ins in
    omega arith

pub moves_between-requires-clause-second : goal.moves_between-requires-clause-second
moves_between-requires-clause-second c =
    let low = c.requires.closed.closed c.args.i c.in-Some.j (fall_edge c.args.code.now c.args.i c.in-Some.j (sym c.fall_at.ensures ∙ c.in-Some.is)) in
    let long = c.requires.regions.one_each in
    omega arith

pub returns-in-Some-clause-moves : goal.returns-in-Some-clause-moves
returns-in-Some-clause-moves c p r plan fit =
    let code = c.args.code.now in
    let j = c.in-Some.j in
    let falls = sym c.fall_at.ensures ∙ c.in-Some.is in
    let low = c.requires.closed.closed c.args.i j (fall_edge code c.args.i j falls) in
    let live = subst (IsSetOf (LiveIn code j)) (sym c.live_in.ensures) (c.requires.live.live_in j low) in
    one_most c.moves_between.result (length (fall_steps code plan c.args.i)) c.moves_between.ensures.one (λ some.
    fall_moves code c.requires.closed c.args.regions.now c.requires.regions c.args.fits.now c.requires.fits c.args.i j (members 128 c.live_in.result) falls
    (λ k has. (live.exact k).0 (member_set 128 c.live_in.result k has).1) (c.moves_between.ensures.moves some) p r plan fit)
