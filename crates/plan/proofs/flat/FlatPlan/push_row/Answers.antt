use Rattle.std.proofs.Common.{rules, ◌≡◌, sym, subst, ◌∙◌, ap, arith, length, length-append, ◌++◌, ◌∷◌, []}
use Rattle.std.specs.Prelude.{◌≤◌}
use Rattle.plan.specs.Flat.{AreOrdered}
use Rattle.plan.specs.declared.flat.FlatRow.{FlatRow}
use Rattle.plan.proofs.Flattened.{ordered_push, plan_push}
use Rattle.plan.proofs.flat.FlatPlan.push_row.Goals.{in-Ok-extend_from_slice, in-Err}
use Rattle.plan.proofs.flat.FlatPlan.push_row.Goals as goal

pub invariant_of-self-2 : goal.invariant_of-self-2
invariant_of-self-2 c =
    let row : FlatRow = record { start = c.in-Ok.start; write = c.args.write } in
    let begins : c.in-Ok.start ≡ length c.self.inside.entries.items = search rules in
    let pushed : c.push.new.self.items ≡ c.self.inside.rows.items ++ row ∷ [] = search rules in
    let longer : length c.self.inside.entries.items ≤ length c.extend_from_slice.new.self.items =
    elim c.match-extend_from_slice.branch [
      | in-Ok-extend_from_slice w ↦ let more = ap length w.in-Ok-extend_from_slice.ensures.items ∙ length-append c.self.inside.entries.items c.args.places.now in omega arith
      | in-Err w ↦ let same = ap length w.in-Err.ensures.items in omega arith
    ] in
    subst (λ rows. AreOrdered rows (length c.extend_from_slice.new.self.items)) (sym pushed) (ordered_push c.self.inside.rows.items row (length c.self.inside.entries.items) (length c.extend_from_slice.new.self.items) begins longer c.self.invariant)

pub returns : goal.returns
returns c =
    elim c.match-extend_from_slice.branch [
      | in-Ok-extend_from_slice w ↦
          let row : FlatRow = record { start = c.in-Ok.start; write = c.args.write } in
          let begins : c.in-Ok.start ≡ length c.self.inside.entries.items = search rules in
          let pushed : c.push.new.self.items ≡ c.self.inside.rows.items ++ row ∷ [] = search rules in
          rw w.result-is (plan_push c.args.self.now c.self.inside.p c.self.inside.r c.self.inside.entries.items c.extend_from_slice.new.self.items c.args.places.now c.self.inside.rows.items c.push.new.self.items row
          c.self.view_is begins c.self.invariant w.in-Ok-extend_from_slice.ensures.items pushed)
      | in-Err w ↦ rw w.result-is tt
    ]
