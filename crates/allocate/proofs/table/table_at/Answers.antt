use Rattle.std.proofs.Common.{get_or, arith}
use Rattle.std.proofs.lemmas.Option.{slice_get-get_or}
use Rattle.std.proofs.lemmas.Result.{IfOk-weaker}
use Rattle.liveness.specs.Lives.{IsLiveOf}
use Rattle.pressure.specs.declared.pressure_of.Pressure.{Pressure}
use Rattle.pressure.specs.Pressures.{IsPressureOf}
use Rattle.allocate.specs.Items.{IsItem}
use Rattle.allocate.specs.Tables.{IsKept, IsTabled, IsWalkKept}
use Rattle.allocate.proofs.Zipping.{item_closed, item_is, item_zip, zip_at, got, long}
use Rattle.allocate.proofs.Rooming.{most_part}
use Rattle.allocate.proofs.table.table_at.Goals as goal

pub bounds-lives-c : goal.bounds-lives-c
bounds-lives-c c = long IsLiveOf c.args.programs.now c.args.lives.now c.args.c c.requires.lives c.requires.within

pub bounds-parts-c : goal.bounds-parts-c
bounds-parts-c c = long IsPressureOf c.args.programs.now c.args.parts.now c.args.c c.requires.parts c.requires.within

pub table_of-requires-clause-closed : goal.table_of-requires-clause-closed
table_of-requires-clause-closed c = item_closed c.args.programs.now c.args.c c.index-programs-c.result c.requires.closed c.requires.within c.index-programs-c.is

pub table_of-requires-clause-live : goal.table_of-requires-clause-live
table_of-requires-clause-live c = item_zip IsLiveOf c.args.programs.now c.args.lives.now c.args.c c.index-programs-c.result c.index-lives-c.result c.requires.lives c.requires.within c.index-programs-c.is c.index-lives-c.is

pub table_of-requires-clause-part : goal.table_of-requires-clause-part
table_of-requires-clause-part c =
    let none : Pressure = record { private = 0; all = 0 } in
    zip_at IsPressureOf c.args.programs.now c.args.parts.now c.args.c c.index-programs-c.result (get_or c.args.parts.now c.args.c none) c.requires.parts
    (got c.args.programs.now c.args.c c.index-programs-c.result c.requires.within c.index-programs-c.is)
    (slice_get-get_or c.args.parts.now c.args.c none (long IsPressureOf c.args.programs.now c.args.parts.now c.args.c c.requires.parts c.requires.within))

pub table_of-requires-clause-all : goal.table_of-requires-clause-all
table_of-requires-clause-all c =
    let none : Pressure = record { private = 0; all = 0 } in
    let lt = long IsPressureOf c.args.programs.now c.args.parts.now c.args.c c.requires.parts c.requires.within in
    let most = most_part c.args.parts.now c.args.c none lt c.requires.ordered in
    let small = c.requires.small in
    omega arith

pub returns-clause-table : goal.returns-clause-table
returns-clause-table c = IfOk-weaker c.table_of.result (λ made. IsTabled c.args.spare c.index-programs-c.result.code made.table) (λ made. IsItem (IsTabled c.args.spare) c.args.programs.now c.args.c made.table)
    (λ made is. item_is (IsTabled c.args.spare) c.args.programs.now c.args.c c.index-programs-c.result made.table c.requires.within c.index-programs-c.is is) c.table_of.ensures.table

pub returns-clause-kept : goal.returns-clause-kept
returns-clause-kept c = IfOk-weaker c.table_of.result (λ made. IsKept c.index-programs-c.result.code made.kept) (λ made. IsItem IsKept c.args.programs.now c.args.c made.kept)
    (λ made is. item_is IsKept c.args.programs.now c.args.c c.index-programs-c.result made.kept c.requires.within c.index-programs-c.is is) c.table_of.ensures.kept

pub returns-clause-walk : goal.returns-clause-walk
returns-clause-walk c = IfOk-weaker c.table_of.result (λ made. IsWalkKept c.index-programs-c.result.code made.walk) (λ made. IsItem IsWalkKept c.args.programs.now c.args.c made.walk)
    (λ made is. item_is IsWalkKept c.args.programs.now c.args.c c.index-programs-c.result made.walk c.requires.within c.index-programs-c.is is) c.table_of.ensures.walk
