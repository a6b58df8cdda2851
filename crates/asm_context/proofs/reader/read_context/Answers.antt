use Rattle.std.proofs.Common.{sym, subst}
use Rattle.asm_lines.specs.Sections.{ahead}
use Rattle.asm_lines.specs.Tables.{words_seen}
use Rattle.asm_context.specs.Faults.{channels}
use Rattle.asm_context.proofs.Naming.{IsNamed, named}
use Rattle.asm_context.proofs.reader.read_context.Goals as goal

pub program_of-requires-clause-labels : goal.program_of-requires-clause-labels
program_of-requires-clause-labels c =
    (subst IsNamed (sym c.in_ok-code.ensures.said) (named (channels (words_seen c.args.names.now.keys) c.args.kinds.now) (ahead c.args.lines.now.lines) c.in_ok-code.ensures.free)).labels

pub program_of-requires-clause-registers : goal.program_of-requires-clause-registers
program_of-requires-clause-registers c =
    (subst IsNamed (sym c.in_ok-code.ensures.said) (named (channels (words_seen c.args.names.now.keys) c.args.kinds.now) (ahead c.args.lines.now.lines) c.in_ok-code.ensures.free)).registers
