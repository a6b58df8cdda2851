use Rattle.std.proofs.Common.{◌+◌, ◌-◌, refl, ◌∙◌, arith}
use Rattle.budget.proofs.Rows.{picks_all, picks_more, read_small, read_step}
use Rattle.budget.proofs.choice.best.Goals as goal

pub stepped-best-requires-clause-room : goal.stepped-best-requires-clause-room
stepped-best-requires-clause-room c =
    let r = c.requires in
    omega (arith, (read_small c.args.shared c.args.spare c.args.behind.now c.args.tables.now c.args.spare r.tables r.some r.row r.within).1)

pub stepped-best-requires-clause-small : goal.stepped-best-requires-clause-small
stepped-best-requires-clause-small c =
    let r = c.requires in
    omega (arith, (read_small c.args.shared c.args.spare c.args.behind.now c.args.tables.now c.args.spare r.tables r.some r.row r.within).0)

pub stepped-next-requires-clause-room : goal.stepped-next-requires-clause-room
stepped-next-requires-clause-room c =
    let r = c.requires in
    let at = c.args.spare - (c.steps.d + 1) in
    omega (arith, (read_small c.args.shared c.args.spare c.args.behind.now c.args.tables.now at r.tables r.some r.row (omega arith)).1)

pub stepped-next-requires-clause-small : goal.stepped-next-requires-clause-small
stepped-next-requires-clause-small c =
    let r = c.requires in
    let at = c.args.spare - (c.steps.d + 1) in
    omega (arith, (read_small c.args.shared c.args.spare c.args.behind.now c.args.tables.now at r.tables r.some r.row (omega arith)).0)

pub steps-init : goal.steps-init
steps-init c =
    let r = c.requires in
    c.stepped-best.ensures
    ∙ read_step c.args.shared c.args.spare c.args.behind.now c.args.tables.now _ 0 c.args.spare c.index-tables-0.is r.some r.row r.within (omega arith)

pub steps-preserved : goal.steps-preserved
steps-preserved c =
    let r = c.requires in
    let at = c.args.spare - (c.steps.d + 1) in
    let next = c.stepped-next.ensures ∙ read_step c.args.shared c.args.spare c.args.behind.now c.args.tables.now _ (c.steps.d + 1) at c.index-tables-0-in-steps.is r.some r.row (omega arith) refl in
    c.nearer-best.ensures ∙ picks_more c.args.tables.now c.args.shared c.args.spare c.steps.d _ _ c.steps.invariant next

pub returns : goal.returns
returns c =
    let r = c.requires in
    c.steps.invariant ∙ picks_all c.args.tables.now c.args.shared c.args.spare _ r.some (omega arith)
