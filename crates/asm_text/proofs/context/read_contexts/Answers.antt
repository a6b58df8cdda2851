use Rattle.std.proofs.Common.{[], ap, arith, length}
use Rattle.asm_lines.specs.Faults.{Causes}
use Rattle.asm_lines.specs.Sections.{Takes, IsDone}
use Rattle.asm_lines.specs.Tables.{words_seen}
use Rattle.asm_lines.proofs.Causing.{passed_up}
use Rattle.asm_lines.proofs.Counting.{few_ahead}
use Rattle.asm_header.specs.Views.{seen_header}
use Rattle.asm_text.specs.Contexts.{contexts_fault}
use Rattle.asm_text.proofs.Walking.{unread, read_on, fewer, caused_here, all_free, all_programs, all_counted}
use Rattle.asm_text.proofs.context.read_contexts.Goals as goal

pub read_one-requires-clause-few : goal.read_one-requires-clause-few
read_one-requires-clause-few c =
    let n : Takes c.contexts.lines c.in-Some.row c.next.new.self = rw c.in-Some.is at c.next.ensures in
    omega (arith, c.requires.few, few_ahead c.next.new.self.lines, ap length n.lines, c.contexts.invariant.few)

pub returns-in_err-program-clause-cause : goal.returns-in_err-program-clause-cause
returns-in_err-program-clause-cause c =
    let n : Takes c.contexts.lines c.in-Some.row c.next.new.self = rw c.in-Some.is at c.next.ensures in
    let h = seen_header c.args.header.now in
    let all = contexts_fault h [] c.args.lines.now.lines in
    let why = c.in_err-program.field-0.0 in
    let k : Causes why all = caused_here why h (words_seen c.contexts.names.keys) c.contexts.all c.in-Some.row c.contexts.lines c.next.new.self c.args.lines.now n c.in_err-program.ensures.cause c.contexts.invariant in
    passed_up c.from_residual.result why (λ why. Causes why all) c.from_residual.ensures.1 k

pub contexts-init : goal.contexts-init
contexts-init c =
    unread (seen_header c.args.header.now) (words_seen c.new-names.result.keys) c.new-all.result c.args.lines.now (ap words_seen c.new-names.ensures.empty) c.new-all.ensures c.requires.there

pub returns-clause-free : goal.returns-clause-free
returns-clause-free c =
    let n : IsDone c.contexts.lines c.next.new.self = rw c.in_default.is at c.next.ensures in
    all_free (seen_header c.args.header.now) (words_seen c.contexts.names.keys) c.contexts.all c.contexts.lines c.args.lines.now n.none c.contexts.invariant

pub returns-clause-programs : goal.returns-clause-programs
returns-clause-programs c =
    let n : IsDone c.contexts.lines c.next.new.self = rw c.in_default.is at c.next.ensures in
    all_programs (seen_header c.args.header.now) (words_seen c.contexts.names.keys) c.contexts.all c.contexts.lines c.args.lines.now n.none c.contexts.invariant

pub returns-clause-count : goal.returns-clause-count
returns-clause-count c =
    let n : IsDone c.contexts.lines c.next.new.self = rw c.in_default.is at c.next.ensures in
    all_counted (seen_header c.args.header.now) (words_seen c.contexts.names.keys) c.contexts.all c.contexts.lines c.next.new.self c.args.lines.now n.none n.same c.contexts.invariant

pub contexts-preserved : goal.contexts-preserved
contexts-preserved c =
    let n : Takes c.contexts.lines c.in-Some.row c.next.new.self = rw c.in-Some.is at c.next.ensures in
    let r = c.in_ok-program.ensures in
    read_on (seen_header c.args.header.now) (words_seen c.contexts.names.keys) (words_seen c.read_one.new.names.keys) c.contexts.all c.push.new.self c.in-Some.row c.in_ok-program.program c.contexts.lines c.next.new.self c.read_one.new.lines c.args.lines.now n r.past r.names r.free r.program c.in-Ok.ensures.ok c.contexts.invariant

pub contexts-smaller : goal.contexts-smaller
contexts-smaller c =
    let n : Takes c.contexts.lines c.in-Some.row c.next.new.self = rw c.in-Some.is at c.next.ensures in
    fewer c.in-Some.row c.contexts.lines c.next.new.self c.read_one.new.lines n c.in_ok-program.ensures.past
