use Rattle.std.proofs.Common.{sym, ◌∙◌}
use Rattle.edge_moves.proofs.Passes.{taken_begins, taken_next, taken_ends}
use Rattle.edge_moves.proofs.taking.take_back.Goals as goal

pub back-init : goal.back-init
back-init c = λ pairs d h free. taken_begins pairs c.args.sources.now c.args.last.0 h free

pub back-preserved : goal.back-preserved
back-preserved c = λ pairs d h free.
    taken_next pairs c.args.sources.now c.back.sources c.take.new.sources c.args.last.0 c.back.target.0 c.in-Some.source d (c.back.invariant pairs d h free) (sym c.take.ensures.found ∙ c.in-Some.is) (c.take.ensures.left pairs) c.take.ensures.others

pub returns : goal.returns
returns c = λ pairs d h free.
    taken_ends pairs c.args.sources.now c.back.sources c.take.new.sources c.args.last.0 c.back.target.0 d (c.back.invariant pairs d h free) (sym c.take.ensures.found ∙ c.in_default.is) (c.take.ensures.left pairs) c.take.ensures.others
