use Rattle.std.proofs.Common.{◌++◌, ◌∷◌, [], ◌∙◌, Some, sym, length}
use Rattle.std.proofs.lemmas.List.Elements.{All-pop}
use Rattle.baton.specs.Passes.{IsOfBaton, IsIdle}
use Rattle.baton.proofs.Gathering.{popped_length, rest_taken, gathered_more}
use Rattle.baton.proofs.baton.Baton.join_all.Goals as goal

pub joins-preserved : goal.joins-preserved
joins-preserved g c =
    let i = c.joins.invariant in
    let j = c.join_pass.ensures in
    let items = c.joins.others.items in
    let rest = c.pop.new.self.items in
    let other = c.in-Some.other in
    let whole = c.args.others.items ++ c.args.last ∷ [] in
    let popped = c.in-Some.ensures.items in
    let n = popped_length items rest other popped in (
      j.pass,
      (All-pop (λ p. IsOfBaton g.T.Storied.origin c.args.self.now.table.shared p.seat × IsIdle p.seat) items rest (Some other) popped i.1).0,
      rest_taken rest other whole (length items) n (sym popped ∙ i.2),
      gathered_more (λ p. p.seat.me.0) whole items rest other c.joins.last.seat.me.0 c.join_pass.new.pass.seat.me.0 popped i.2 i.3 j.before j.theirs j.apart,
    )
