use Rattle.std.proofs.Common.{ℕ, List, subst}
use Rattle.std.specs.Prelude.{IfOk}
use Rattle.range_colour.specs.Groups.{Among, Every}
use Rattle.range_colour.specs.Fits.{IsFit, least_all, least_private, places_in}
use Rattle.range_colour.proofs.Planning.{ok_weaker}
use Rattle.range_colour.proofs.Sizing.{among_all, fit_by_same}
use Rattle.range_colour.proofs.whole.whole_fit.Goals as goal

pub returns : goal.returns
returns c =
    let code = c.args.code.now in
    let list = c.in_ok-members.members in
    ok_weaker (IsFit code (Among list)) (IsFit code Every)
    (λ fit is. fit_by_same code (Among list) Every (among_all code list c.in_ok-members.ensures.whole c.in_ok-members.ensures.each) (places_in fit) (least_private fit) (least_all fit) is)
    _ (subst (λ (xs : List ℕ). IfOk c.over.result (IsFit code (Among xs))) c.as_slice.ensures c.over.ensures)
