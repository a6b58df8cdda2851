use Rattle.std.proofs.Common.{All, Some, sym, subst}
use Rattle.std.proofs.lemmas.List.Elements.{All-pop}
use Rattle.baton.specs.Passes.{IsOfBaton, IsIdle}
use Rattle.context_runner.specs.Sharing.{beginning}
use Rattle.turn_cases.proofs.shared_tests.two_contexts_take_turns.Goals as goal

pub put_back-passes-requires-clause-of : goal.put_back-passes-requires-clause-of
put_back-passes-requires-clause-of g c =
    (All-pop (λ p. IsOfBaton beginning c.in-Some.shared.baton.table.shared p.seat × IsIdle p.seat) c.pop.new.self.items c.pop-2.new.self.items (Some c.in-Some-pop-2.one) c.in-Some-pop-2.ensures.items
    (All-pop (λ p. IsOfBaton beginning c.in-Some.shared.baton.table.shared p.seat × IsIdle p.seat) c.into_vec-passes.result.items c.pop.new.self.items (Some c.in-Some-pop.two) c.in-Some-pop.ensures.items
    (subst (All (λ p. IsOfBaton beginning c.in-Some.shared.baton.table.shared p.seat × IsIdle p.seat)) (sym c.into_vec-passes.ensures) c.in-Some.ensures.of)).0).0
