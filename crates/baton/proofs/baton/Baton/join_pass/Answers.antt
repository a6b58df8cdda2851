use Rattle.baton.proofs.Gathering.{gathers_by_front, gathers_by_back}
use Rattle.baton.proofs.baton.Baton.join_pass.Goals as goal

pub returns-clause-before : goal.returns-clause-before
returns-clause-before g c = gathers_by_front _ _ _ c.join.ensures.before c.join.ensures.mine

pub returns-clause-theirs : goal.returns-clause-theirs
returns-clause-theirs g c = gathers_by_back _ _ _ c.join.ensures.theirs c.join.ensures.mine
