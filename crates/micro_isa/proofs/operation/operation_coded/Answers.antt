use Rattle.std.proofs.Common.{ℕ, ◌≤◌, ◌∙◌, sym, ap, arith}
use Rattle.std.specs.Prelude.{slice_get}
use Rattle.micro_isa.specs.Table.{operations}
use Rattle.micro_isa.proofs.Laws.{coded_at}
use Rattle.micro_isa.proofs.operation.operation_coded.Goals as goal

pub returns-in_default : goal.returns-in_default
returns-in_default c =
    let some : 1 ≤ c.args.opcode = omega arith in
    c.operation_at.ensures ∙ ap (λ (place : ℕ). slice_get operations place) c.from.ensures ∙ sym (coded_at c.args.opcode some)
