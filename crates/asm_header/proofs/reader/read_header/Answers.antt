use Rattle.asm_lines.specs.Faults.{Causes}
use Rattle.asm_lines.proofs.Causing.{passed_up}
use Rattle.asm_lines.specs.Sections.{ahead, TakesInside}
use Rattle.asm_header.specs.Faults.{header_fault}
use Rattle.asm_header.specs.Views.{seen_header}
use Rattle.asm_header.proofs.Reading.{read_on, fault_on}
use Rattle.asm_header.proofs.reader.read_header.Goals as goal

pub returns-in_err-read_line-clause-cause : goal.returns-in_err-read_line-clause-cause
returns-in_err-read_line-clause-cause c =
    let n : TakesInside c.lines.lines c.in-Some.row c.next_inside.new.self = rw c.in-Some.is at c.next_inside.ensures in
    let all = header_fault (ahead c.args.lines.now.lines) in
    let why = c.in_err-read_line.field-0.0 in
    let k : Causes why all = fault_on (seen_header c.lines.header) c.in-Some.row c.lines.lines c.next_inside.new.self c.args.lines.now why n c.in_err-read_line.ensures.cause c.lines.invariant in
    passed_up c.from_residual.result why (λ why. Causes why all) c.from_residual.ensures.1 k

pub lines-preserved : goal.lines-preserved
lines-preserved c =
    let n : TakesInside c.lines.lines c.in-Some.row c.next_inside.new.self = rw c.in-Some.is at c.next_inside.ensures in
    let r = c.in_ok-read_line.ensures in
    read_on (seen_header c.lines.header) (seen_header c.read_line.new.header) c.in-Some.row c.lines.lines c.next_inside.new.self c.args.lines.now n r.header r.fine c.lines.invariant
