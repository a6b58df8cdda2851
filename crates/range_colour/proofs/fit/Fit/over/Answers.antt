use Rattle.std.proofs.Common.{◌≡◌, ℕ, List, length, ap, ◌∙◌, arith}
use Rattle.std.proofs.Math.Seq.{take-append_seam}
use Rattle.range_colour.specs.Groups.{Among}
use Rattle.range_colour.proofs.Fitting.{coloured_fits, crosses_meets}
use Rattle.range_colour.proofs.fit.Fit.over.Goals as goal

pub settle_group-requires-clause-crossing : goal.settle_group-requires-clause-crossing
settle_group-requires-clause-crossing c k one =
    let gathered = c.gather-registers.ensures in
    (gathered.there k).1 (crosses_meets c.args.code.now (Among c.args.members.now) k ((gathered.cross k).0 one))

pub returns : goal.returns
returns c =
    let new = c.settle_group.new.places in
    let auto = c.settle_group.auto.places in
    let value = ap (λ (xs : List ℕ). length xs) c.deref_mut.ensures.value in
    let made = c.in-Ok.ensures.len in
    let long : length new ≡ c.width.result = omega (arith, made, value, auto, c.in-Ok.places.ok.0) in
    let whole : c.in-Ok.places.len ≡ length new = omega (arith, made, value, auto, c.in-Ok.places.ok.0) in
    let is : c.of.result ≡ new = c.of.ensures ∙ rw whole (take-append_seam new _) in
    rw is (coloured_fits _ _ _ _ _ new _ _ c.gather-registers.ensures c.in_ok-least.ensures.settled
    (λ k member. let low = c.width.ensures.above k member in omega arith))
