use Rattle.std.proofs.Common.{arith}
use Rattle.allocate.specs.Tables.{IsKept, IsTabled, IsWalkKept}
use Rattle.allocate.proofs.Zipping.{cover_all, cover_push, one_longer}
use Rattle.allocate.proofs.table.tables_of.Goals as goal

pub loop-c-preserved : goal.loop-c-preserved
loop-c-preserved c =
    let ps = c.args.programs.now in
    let inside = c.loop-c-test.true in
    let is = c.in_ok-table.ensures in
    let before = c.loop-c.invariant in record {
      all_tables = one_longer c.loop-c.tables c.push_table.new.tables c.loop-c.c c.in_ok-table.field-0.table c.in_ok-push_table.ensures before.all_tables;
      all_keeps = one_longer c.loop-c.keeps c.push_kept.new.keeps c.loop-c.c c.in_ok-table.field-0.kept c.in_ok-push_kept.ensures before.all_keeps;
      all_walks = one_longer c.loop-c.walks.items c.push_walk.new.walks.items c.loop-c.c c.in_ok-table.field-0.walk c.in_ok-push_walk.ensures before.all_walks;
      tables = cover_push (IsTabled c.args.spare) ps c.loop-c.tables c.push_table.new.tables c.loop-c.c c.in_ok-table.field-0.table c.in_ok-push_table.ensures inside before.all_tables before.tables is.table;
      keeps = cover_push IsKept ps c.loop-c.keeps c.push_kept.new.keeps c.loop-c.c c.in_ok-table.field-0.kept c.in_ok-push_kept.ensures inside before.all_keeps before.keeps is.kept;
      walks = cover_push IsWalkKept ps c.loop-c.walks.items c.push_walk.new.walks.items c.loop-c.c c.in_ok-table.field-0.walk c.in_ok-push_walk.ensures inside before.all_walks before.walks is.walk;
    }

pub returns-clause-tables : goal.returns-clause-tables
returns-clause-tables c = cover_all (IsTabled c.args.spare) c.args.programs.now c.loop-c.tables (let long = c.loop-c.invariant.all_tables in let end = c.loop-c-test.false in omega arith) c.loop-c.invariant.tables

pub returns-clause-keeps : goal.returns-clause-keeps
returns-clause-keeps c = cover_all IsKept c.args.programs.now c.loop-c.keeps (let long = c.loop-c.invariant.all_keeps in let end = c.loop-c-test.false in omega arith) c.loop-c.invariant.keeps

pub returns-clause-walks : goal.returns-clause-walks
returns-clause-walks c = cover_all IsWalkKept c.args.programs.now c.loop-c.walks.items (let long = c.loop-c.invariant.all_walks in let end = c.loop-c-test.false in omega arith) c.loop-c.invariant.walks
