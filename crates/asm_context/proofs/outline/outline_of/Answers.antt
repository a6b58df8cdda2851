use Rattle.std.proofs.Common.{ap, arith}
use Rattle.asm_lines.specs.Sections.{ahead, LinesLeft, TakesInside, IsAtEnd}
use Rattle.asm_context.specs.Views.{seen_outline}
use Rattle.asm_context.proofs.Outlining.{outlined_none, outlined_on, outlined_all, outlined_below}
use Rattle.asm_context.proofs.outline.outline_of.Goals as goal

pub lines-init : goal.lines-init
lines-init c =
    outlined_none (seen_outline c.no_outline-all.result) (ahead c.again-left.result.lines) (ahead c.args.lines.now.lines) c.no_outline-all.ensures (ap (λ (l : LinesLeft). ahead l.lines) c.again-left.ensures)

pub note_line-requires : goal.note_line-requires
note_line-requires c =
    let n : TakesInside c.lines.left c.in-Some.row c.next_inside.new.self = rw c.in-Some.is at c.next_inside.ensures in
    omega (arith, c.requires, outlined_below (seen_outline c.lines.all) c.in-Some.row (ahead c.lines.left.lines) (ahead c.next_inside.new.self.lines) (ahead c.args.lines.now.lines) n.ahead c.lines.invariant)

pub lines-preserved : goal.lines-preserved
lines-preserved c =
    let n : TakesInside c.lines.left c.in-Some.row c.next_inside.new.self = rw c.in-Some.is at c.next_inside.ensures in
    let said = c.in_ok-note_line.ensures in
    outlined_on (seen_outline c.lines.all) (seen_outline c.note_line.new.all) c.in-Some.row (ahead c.lines.left.lines) (ahead c.next_inside.new.self.lines) (ahead c.args.lines.now.lines) n.ahead said c.lines.invariant

pub returns : goal.returns
returns c =
    let n : IsAtEnd c.lines.left c.next_inside.new.self = rw c.in_default.is at c.next_inside.ensures in
    outlined_all (seen_outline c.lines.all) (ahead c.lines.left.lines) (ahead c.args.lines.now.lines) n.none c.lines.invariant
