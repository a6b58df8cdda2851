use Rattle.std.proofs.Common.{rules, ◌≡◌, refl, sym, ◌∙◌, ap, arith, length, ◌++◌, ◌∷◌, []}
use Rattle.std.proofs.lemmas.List.{take_all}
use Rattle.std.specs.Prelude.{slice_get}
use Rattle.plan.specs.Rows.{places_in, write_in}
use Rattle.plan.specs.declared.row.Plan.{Plan}
use Rattle.plan.proofs.Flattened.{rows_length, taken_more}
use Rattle.plan.proofs.flat.FlatPlan.to_plan.Goals as goal

pub rows-preserved : goal.rows-preserved
rows-preserved c =
    let size : length c.args.self.now.rows ≡ length c.self.inside.rows.items = ap (λ (plan : Plan). length plan.rows) (sym c.self.view_is) ∙ rows_length _ _ in
    let same : c.in_ok-row.row ≡ record { places = places_in (slice_get c.args.self.now.rows c.rows.i); write = write_in (slice_get c.args.self.now.rows c.rows.i) } =
    rw (c.in_ok-row.ensures, c.places_at.ensures, c.write_at.ensures) refl in
    let pushed : c.push.new.self ≡ c.rows.rows ++ c.in_ok-row.row ∷ [] = search rules in
    taken_more c.args.self.now.rows c.rows.i c.in_ok-row.row c.rows.rows c.push.new.self (omega arith) same c.rows.invariant pushed

pub returns : goal.returns
returns c =
    let size : length c.args.self.now.rows ≡ length c.self.inside.rows.items = ap (λ (plan : Plan). length plan.rows) (sym c.self.view_is) ∙ rows_length _ _ in
    let whole = take_all c.rows.i c.args.self.now.rows (omega arith) in
    ap (λ rows. record { p = c.self.inside.p; r = c.self.inside.r; rows = rows }) (c.rows.invariant ∙ whole ∙ ap (λ (plan : Plan). plan.rows) (sym c.self.view_is)) ∙ c.self.view_is
