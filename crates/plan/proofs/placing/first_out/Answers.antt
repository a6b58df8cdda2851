use Rattle.std.proofs.Common.{subst, sym}
use Rattle.liveness.specs.Liveness.{LiveIn}
use Rattle.liveness.specs.Sets.{IsSetOf}
use Rattle.plan.proofs.Places.{registers_low, list_rises, entry_live, out_is}
use Rattle.plan.proofs.placing.first_out.Goals as goal

pub first_beyond-listed-requires : goal.first_beyond-listed-requires
first_beyond-listed-requires c = registers_low c.args.code.now c.args.i c.args.places.now c.args.write c.requires.closed c.requires.listing

pub returns : goal.returns
returns c =
    let before = subst (λ set. IsSetOf (LiveIn c.args.code.now c.args.i) set) (sym c.live_in.ensures) (c.requires.live.live_in _ c.requires.here) in
    rw c.lesser.ensures (out_is c.args.code.now c.args.r c.args.i c.live_in.result c.args.places.now c.args.write c.first_beyond-listed.result c.write_beyond-written.result
    (list_rises c.args.code.now c.args.i c.args.places.now c.args.write c.requires.listing)
    (λ s has. (before.exact s.register.0).1 (entry_live c.args.code.now c.args.i c.args.places.now c.args.write c.requires.listing c.live_in.result before s has))
    c.first_beyond-listed.ensures c.write_beyond-written.ensures)
