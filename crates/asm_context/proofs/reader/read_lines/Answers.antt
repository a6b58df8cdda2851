use Rattle.std.proofs.Common.{refl, arith}
use Rattle.asm_lines.specs.Faults.{Causes}
use Rattle.asm_lines.proofs.Causing.{passed_up}
use Rattle.asm_lines.specs.Sections.{ahead, TakesInside, IsAtEnd}
use Rattle.asm_lines.specs.Tables.{words_seen}
use Rattle.asm_context.specs.Faults.{channels, lines_fault}
use Rattle.asm_context.specs.Views.{seen_said, seen_outline}
use Rattle.asm_context.proofs.Steps.{unread, along, fault_on, read_all, free_all, coded_all, done_below}
use Rattle.asm_context.proofs.reader.read_lines.Goals as goal

pub lines-init : goal.lines-init
lines-init c = record {
  read = unread (channels (words_seen c.args.names.now.keys) c.args.kinds.now) (seen_said c.args.now.now) c.new-code.result (ahead c.args.lines.now.lines) c.requires.nothing c.new-code.ensures;
  after = refl;
  count = refl;
}

pub read_line-requires-clause-done : goal.read_line-requires-clause-done
read_line-requires-clause-done c =
    let n : TakesInside c.lines.lines c.in-Some.row c.next_inside.new.self = rw c.in-Some.is at c.next_inside.ensures in
    let chs = channels (words_seen c.args.names.now.keys) c.args.kinds.now in
    let below = done_below chs (seen_said c.lines.now) c.lines.code c.in-Some.row (ahead c.lines.lines.lines) (ahead c.next_inside.new.self.lines) (ahead c.args.lines.now.lines) n.ahead c.lines.invariant.read in
    omega (arith, c.requires.few, below)

pub lines-preserved : goal.lines-preserved
lines-preserved c =
    let n : TakesInside c.lines.lines c.in-Some.row c.next_inside.new.self = rw c.in-Some.is at c.next_inside.ensures in
    let r = c.in_ok-read_line.ensures in
    along (channels (words_seen c.args.names.now.keys) c.args.kinds.now) c.in-Some.row (seen_said c.lines.now) (seen_said c.read_line.new.now) (seen_outline c.args.all.now) c.lines.code c.read_line.new.code c.lines.lines c.next_inside.new.self c.args.lines.now n c.requires.outline r.said r.fine r.code c.lines.invariant

pub returns-in_err-read_line-clause-cause : goal.returns-in_err-read_line-clause-cause
returns-in_err-read_line-clause-cause c =
    let n : TakesInside c.lines.lines c.in-Some.row c.next_inside.new.self = rw c.in-Some.is at c.next_inside.ensures in
    let chs = channels (words_seen c.args.names.now.keys) c.args.kinds.now in
    let whole = ahead c.args.lines.now.lines in
    let why = c.in_err-read_line.field-0.0 in
    let k : Causes why (lines_fault chs whole) = fault_on chs c.in-Some.row (seen_said c.lines.now) (seen_outline c.args.all.now) c.lines.code why (ahead c.lines.lines.lines) (ahead c.next_inside.new.self.lines) whole n.ahead c.requires.outline c.in_err-read_line.ensures.cause c.lines.invariant.read in
    passed_up c.from_residual.result why (λ why. Causes why (lines_fault chs whole)) c.from_residual.ensures.1 k

pub returns-clause-free : goal.returns-clause-free
returns-clause-free c =
    let n : IsAtEnd c.lines.lines c.next_inside.new.self = rw c.in_default.is at c.next_inside.ensures in
    free_all (channels (words_seen c.args.names.now.keys) c.args.kinds.now) (seen_said c.lines.now) c.lines.code (ahead c.lines.lines.lines) (ahead c.args.lines.now.lines) n.none c.lines.invariant.read

pub returns-clause-said : goal.returns-clause-said
returns-clause-said c =
    let n : IsAtEnd c.lines.lines c.next_inside.new.self = rw c.in_default.is at c.next_inside.ensures in
    read_all (channels (words_seen c.args.names.now.keys) c.args.kinds.now) (seen_said c.lines.now) c.lines.code (ahead c.lines.lines.lines) (ahead c.args.lines.now.lines) n.none c.lines.invariant.read

pub returns-clause-code : goal.returns-clause-code
returns-clause-code c =
    let n : IsAtEnd c.lines.lines c.next_inside.new.self = rw c.in_default.is at c.next_inside.ensures in
    coded_all (channels (words_seen c.args.names.now.keys) c.args.kinds.now) (seen_said c.lines.now) c.lines.code (ahead c.lines.lines.lines) (ahead c.args.lines.now.lines) n.none c.lines.invariant.read
