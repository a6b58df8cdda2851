use Rattle.std.proofs.Common.{subst, sym}
use Rattle.std.specs.List.{All}
use Rattle.flow_graph.specs.Paths.{IsClosedCode}
use Rattle.report_check.proofs.Gathering.{all_closed}
use Rattle.report_check.proofs.Once.{one_check}
use Rattle.report_check.proofs.text.print_check.Goals as goal

pub all_facts-requires : goal.all_facts-requires
all_facts-requires c = subst (λ programs. All (λ program. IsClosedCode program.code) programs) (sym c.as_slice.ensures) (all_closed c.args.bundle.now c.requires.formed)

pub returns-clause-once : goal.returns-clause-once
returns-clause-once c = one_check c.args.bundle.now

pub returns-in_err-all-clause-once : goal.returns-in_err-all-clause-once
returns-in_err-all-clause-once c = one_check c.args.bundle.now
