use Rattle.std.proofs.Common.{sym, ap, ◌∙◌, arith, length}
use Rattle.std.proofs.lemmas.Bool.{eqb-true, eqb-false}
use Rattle.asm_lines.specs.Faults.{Causes}
use Rattle.asm_lines.specs.Sections.{after}
use Rattle.asm_lines.proofs.Causing.{passed_up}
use Rattle.asm_lines.proofs.Counting.{few_after}
use Rattle.asm_header.specs.Views.{seen_header}
use Rattle.asm_text.specs.Texts.{lines_fault}
use Rattle.asm_text.proofs.Walking.{after_again}
use Rattle.asm_text.proofs.Ending.{caused_header, caused_contexts, caused_missing, no_fault, said_all}
use Rattle.asm_text.proofs.reader.read_lines.Goals as goal

pub returns-in_err-header-clause-cause : goal.returns-in_err-header-clause-cause
returns-in_err-header-clause-cause c =
    let all = lines_fault c.args.lines.now.lines in
    let k : Causes c.in_err-header.field-0.0 all = caused_header c.in_err-header.field-0.0 c.args.lines.now.lines c.in_err-header.ensures.cause in
    passed_up c.from_residual.result c.in_err-header.field-0.0 (λ why. Causes why all) c.from_residual.ensures.1 k

pub read_contexts-requires-clause-there : goal.read_contexts-requires-clause-there
read_contexts-requires-clause-there c =
    let past = c.in_ok-header.ensures.past in
    ap after past.after ∙ after_again c.args.lines.now.lines ∙ sym past.after

pub read_contexts-requires-clause-few : goal.read_contexts-requires-clause-few
read_contexts-requires-clause-few c =
    omega (arith, ap length c.in_ok-header.ensures.past.after, few_after c.args.lines.now.lines, c.requires.few)

pub returns-in_err-programs-clause-cause : goal.returns-in_err-programs-clause-cause
returns-in_err-programs-clause-cause c =
    let s = c.in_ok-header.ensures in
    let lines = c.args.lines.now.lines in
    let why = c.in_err-programs.field-0.0 in
    let all = lines_fault lines in
    let k : Causes why all = caused_contexts why (seen_header c.in_ok-header.header) lines c.read_header.new.lines.lines s.header s.past.after s.free c.in_err-programs.ensures.cause in
    passed_up c.from_residual-in_err-programs.result why (λ why. Causes why all) c.from_residual-in_err-programs.ensures.1 k

pub returns-then-is_empty-clause-cause : goal.returns-then-is_empty-clause-cause
returns-then-is_empty-clause-cause c =
    let s = c.in_ok-header.ensures in
    let t = c.in_ok-programs.ensures in
    let ps = c.in_ok-programs.programs in
    caused_missing (seen_header c.in_ok-header.header) ps c.args.lines.now.lines c.read_header.new.lines.lines c.number.result s.header s.past.after s.free t.free t.programs (eqb-true (length ps) 0 (sym c.is_empty.ensures ∙ c.if-is_empty.true)) (omega (arith, c.number.ensures, t.count, s.past.count, c.requires.first))

pub returns-clause-free : goal.returns-clause-free
returns-clause-free c =
    let s = c.in_ok-header.ensures in
    let t = c.in_ok-programs.ensures in
    let some = eqb-false (length c.in_ok-programs.programs) 0 (sym c.is_empty.ensures ∙ c.if-is_empty.false) in
    no_fault (seen_header c.in_ok-header.header) c.in_ok-programs.programs c.args.lines.now.lines c.read_header.new.lines.lines s.header s.past.after s.free t.free t.programs (omega (arith, some))

pub returns-clause-said : goal.returns-clause-said
returns-clause-said c =
    let s = c.in_ok-header.ensures in
    c.in_ok-bundle.ensures ∙ said_all (seen_header c.in_ok-header.header) c.in_ok-programs.programs c.args.lines.now.lines c.read_header.new.lines.lines s.header s.past.after c.in_ok-programs.ensures.programs
