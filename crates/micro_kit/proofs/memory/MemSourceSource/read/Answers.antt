use Rattle.std.proofs.Common.{Some, ap, sym, ◌∙◌, arith}
use Rattle.std.proofs.lemmas.List.{take_rest}
use Rattle.micro_kit.proofs.Pieces.{read_on}
use Rattle.micro_kit.proofs.memory.MemSourceSource.read.Goals as goal

pub returns-clause-read : goal.returns-clause-read
returns-clause-read c =
    (omega arith, omega arith, ap (λ s. Some s.left) (sym c.self.view_is) ∙ ap Some (read_on c.self.inside.bytes.items _ c.self.inside.at c.min-n.result (rw (take_rest, c.deref-2.ensures.value) at c.copy_front.ensures)))
