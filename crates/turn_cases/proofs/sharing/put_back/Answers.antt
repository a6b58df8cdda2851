use Rattle.std.proofs.Common.{All, sym, subst}
use Rattle.std.proofs.lemmas.List.Elements.{All-push}
use Rattle.baton.specs.Passes.{IsOfBaton, IsIdle}
use Rattle.context_runner.specs.Sharing.{beginning}
use Rattle.turn_cases.proofs.sharing.put_back.Goals as goal

pub returns-clause-of : goal.returns-clause-of
returns-clause-of c =
    subst (All (λ p. IsOfBaton beginning c.args.shared.now.baton.table.shared p.seat × IsIdle p.seat)) (sym c.push_reserved.ensures.items)
    (All-push (λ p. IsOfBaton beginning c.args.shared.now.baton.table.shared p.seat × IsIdle p.seat) c.args.passes.items c.args.pass c.requires.of c.requires.pass)
