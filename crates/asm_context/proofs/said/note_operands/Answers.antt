use Rattle.asm_lines.specs.Tables.{words_seen}
use Rattle.asm_context.specs.Views.{seen_operands}
use Rattle.asm_context.proofs.Placing.{all_placed}
use Rattle.asm_context.proofs.said.note_operands.Goals as goal

pub returns-clause-places : goal.returns-clause-places
returns-clause-places c =
    let first = words_seen c.note_name.new.names.keys in
    let second = words_seen c.note_name-2.new.names.keys in
    let third = words_seen c.note_name-3.new.names.keys in
    let to = c.in_ok-to.ensures in
    let a = c.in_ok-a.ensures in
    let b = c.in_ok-b.ensures in
    all_placed (words_seen c.args.names.now.keys) first second third (seen_operands c.args.operands) c.in_ok-to.to c.in_ok-a.a c.in_ok-b.b to.names a.names b.names to.place a.place b.place
