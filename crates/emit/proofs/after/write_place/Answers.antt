use Rattle.std.proofs.Common.{◌∙◌}
use Rattle.std.specs.Prelude.{slice_index}
use Rattle.emit.specs.Tables.{place_with}
use Rattle.emit.proofs.Filling.{after_write}
use Rattle.emit.proofs.after.write_place.Goals as goal

pub returns : goal.returns
returns c =
    let register = c.written_at.ensures in
    let place = c.write_at.ensures in
    after_write c.args.code.now c.args.plan.now c.args.i c.args.table.now c.requires.valid c.requires.within c.requires.row _
    (λ k. c.put.ensures k ∙ (λ a. place_with (register a) (place a) (λ n. slice_index c.args.table.now n) k))
