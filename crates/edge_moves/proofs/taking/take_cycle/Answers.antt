use Rattle.std.proofs.Common.{sym, ◌∙◌}
use Rattle.edge_moves.specs.Tally.{left_of}
use Rattle.edge_moves.proofs.Tables.{holds-taken}
use Rattle.edge_moves.proofs.Passes.{cycle_taken, no_source_taken}
use Rattle.edge_moves.proofs.taking.take_cycle.Goals as goal

pub returns-in-Some : goal.returns-in-Some
returns-in-Some c = λ pairs rest d h stuck here.
    let before = c.args.sources.now in
    let table = c.take.new.sources in
    let found = sym c.take.ensures.found ∙ c.in-Some.is in
    let left = c.take.ensures.left pairs in
    let holds = holds-taken before table (left_of before pairs) (left_of table pairs) (c.args.pair.1).0 h left c.take.ensures.others in
    let free = no_source_taken pairs rest c.args.pair before table c.in-Some.field-0 d here found left in
    let t = c.take_back.ensures pairs d holds free in
    cycle_taken pairs rest c.args.pair before table c.take_back.new.sources c.in-Some.field-0 t.0 d stuck here found left c.take.ensures.others t.1 t.2
