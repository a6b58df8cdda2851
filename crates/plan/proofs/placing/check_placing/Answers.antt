use Rattle.std.proofs.Common.{refl, inl, inr}
use Rattle.plan.proofs.Places.{places_low, list_rises, placing_is}
use Rattle.plan.proofs.placing.check_placing.Goals as goal

pub first_pair-requires-clause-low : goal.first_pair-requires-clause-low
first_pair-requires-clause-low c = places_low c.args.code.now c.args.r c.args.i c.args.places.now c.args.write c.requires.few c.in_default.ensures

pub first_pair-requires-clause-rises : goal.first_pair-requires-clause-rises
first_pair-requires-clause-rises c = list_rises c.args.code.now c.args.i c.args.places.now c.args.write c.requires.listing

pub returns-in-Some-first_pair : goal.returns-in-Some-first_pair
returns-in-Some-first_pair c = (refl, c.requires.listing, c.in_default.ensures, inl c.in-Some-first_pair.ensures)

pub returns-in-Some-first_overwritten : goal.returns-in-Some-first_overwritten
returns-in-Some-first_overwritten c =
    (refl, c.requires.listing, c.in_default.ensures, inr (c.in_default-first_pair.ensures, c.in-Some-first_overwritten.ensures.0, c.in-Some-first_overwritten.ensures.1))

pub returns-in-Some-first_exposed : goal.returns-in-Some-first_exposed
returns-in-Some-first_exposed c = (
  refl,
  c.requires.listing,
  c.in_default.ensures,
  c.in_default-first_pair.ensures,
  c.in_default-first_overwritten.ensures,
  c.in-Some-first_exposed.ensures.0,
  c.in-Some-first_exposed.ensures.1,
)

pub returns : goal.returns
returns c =
    placing_is _ _ _ _ _ _ c.in_default.ensures c.in_default-first_pair.ensures c.in_default-first_overwritten.ensures c.in_default-first_exposed.ensures
