use Rattle.std.proofs.Common.{◌≡◌, subst, inl, inr, arith}
use Rattle.std.proofs.lemmas.Bool.{cases_lt}
use Rattle.pressure.specs.Regions.{numbers_in}
use Rattle.range_colour.specs.Regional.{IsGroupedTo}
use Rattle.range_colour.proofs.Grouping.{grouped_more, grouped_past}
use Rattle.range_colour.proofs.region.members_of.Goals as goal

pub places-preserved : goal.places-preserved
places-preserved c =
    let numbers = numbers_in c.args.regions.now in
    let most = c.args.most in
    let i = c.places.i in
    let is = c.region_of.ensures in
    elim (cases_lt c.region_of.result most) [
      | inl low ↦ rw (c.in_ok-append_below.ensures.below low) (grouped_more numbers most i c.region_of.result c.places.groups.items c.places.invariant is low)
      | inr high ↦ rw (c.in_ok-append_below.ensures.above high) (grouped_past numbers most i c.places.groups.items c.places.invariant (omega arith))
    ]

pub returns : goal.returns
returns c =
    let whole : c.places.i ≡ c.args.n = omega arith in
    subst (λ n. IsGroupedTo (numbers_in c.args.regions.now) c.args.most n c.places.groups.items) whole c.places.invariant
