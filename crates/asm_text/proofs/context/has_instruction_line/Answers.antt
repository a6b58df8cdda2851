use Rattle.std.proofs.Common.{◌≡◌, true, false, sym, ◌∙◌}
use Rattle.asm_lines.specs.Sections.{ahead, TakesInside, IsAtEnd}
use Rattle.asm_context.specs.Forms.{does}
use Rattle.asm_context.specs.Said.{line_body}
use Rattle.asm_text.proofs.Walking.{has_here, has_later, has_none}
use Rattle.asm_text.proofs.context.has_instruction_line.Goals as goal

pub returns-then-has_instruction : goal.returns-then-has_instruction
returns-then-has_instruction c =
    let n : TakesInside c.lines.left c.in-Some.row c.next_inside.new.self = rw c.in-Some.is at c.next_inside.ensures in
    let it : does (line_body c.in-Some.row).form ≡ true = sym c.has_instruction.ensures ∙ c.if-has_instruction.true in
    has_here c.in-Some.row (ahead c.lines.left.lines) (ahead c.next_inside.new.self.lines) (ahead c.args.lines.now.lines) n.ahead it c.lines.invariant

pub lines-preserved : goal.lines-preserved
lines-preserved c =
    let n : TakesInside c.lines.left c.in-Some.row c.next_inside.new.self = rw c.in-Some.is at c.next_inside.ensures in
    let it : does (line_body c.in-Some.row).form ≡ false = sym c.has_instruction.ensures ∙ c.if-has_instruction.false in
    has_later c.in-Some.row (ahead c.lines.left.lines) (ahead c.next_inside.new.self.lines) (ahead c.args.lines.now.lines) n.ahead it c.lines.invariant

pub returns : goal.returns
returns c =
    let n : IsAtEnd c.lines.left c.next_inside.new.self = rw c.in_default.is at c.next_inside.ensures in
    has_none (ahead c.lines.left.lines) (ahead c.args.lines.now.lines) n.none c.lines.invariant
