use Rattle.std.proofs.Common.{ℕ, List, [], ◌∷◌, ◌++◌, sym, ap, ◌∙◌, subst}
use Rattle.emitted.specs.Emitted.{ArePlans, PlansFit}
use Rattle.plan_cases.proofs.Emitting.{one_plan, one_room}
use Rattle.plan_cases.proofs.emission.image_of.Goals as goal

pub emit-requires-clause-plans : goal.emit-requires-clause-plans
emit-requires-clause-plans c =
    let b = c.args.bundle.now in
    let plan = c.args.plan in
    let is = c.as_slice.ensures ∙ c.in_ok-push.ensures.ok ∙ ap (λ l. l ++ plan ∷ []) c.new-plans.ensures in
    subst (ArePlans b) (sym is) (one_plan b plan (sym c.len.ensures ∙ c.if-len-ne1.false) c.requires.valid)

pub emit-requires-clause-room : goal.emit-requires-clause-room
emit-requires-clause-room c =
    let b = c.args.bundle.now in
    let plan = c.args.plan in
    let is = c.as_slice.ensures ∙ c.in_ok-push.ensures.ok ∙ ap (λ l. l ++ plan ∷ []) c.new-plans.ensures in
    let own = c.in_ok-push-2.ensures.ok ∙ ap (λ (l : List ℕ). l ++ 1 ∷ []) c.new-private.ensures in
    let room = one_room b plan 3 (sym c.len.ensures ∙ c.if-len-ne1.false) c.if-bundle-lt2.false c.if-plan-gt1.false c.if-plan-gt2.false in
    subst (λ (ns : List ℕ). PlansFit b c.as_slice.result.now (record { private = ns; shared = 1; cost = 3 })) (sym own)
    (subst (λ ps. PlansFit b ps (record { private = 1 ∷ []; shared = 1; cost = 3 })) (sym is) room)
