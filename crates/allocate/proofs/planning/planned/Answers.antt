use Rattle.std.proofs.Common.{ℕ, get_or, sym, subst, arith}
use Rattle.std.specs.Prelude.{IfOk, Result, Ok, Err, slice_index}
use Rattle.std.proofs.lemmas.Option.{slice_get-get_or}
use Rattle.micro_isa.specs.declared.limits.TheConstants.{MOST_FILE}
use Rattle.liveness.specs.Lives.{IsLiveOf}
use Rattle.pressure.specs.declared.pressure_of.Pressure.{Pressure}
use Rattle.pressure.specs.Pressures.{IsPressureOf}
use Rattle.plan.specs.declared.row.Plan.{Plan}
use Rattle.plan.specs.ValidPlans.{IsValidPlan}
use Rattle.allocate.specs.Cells.{IsCellOf}
use Rattle.allocate.specs.Tables.{IsChosenAt, IsKept, IsWalkKept}
use Rattle.allocate.proofs.Zipping.{item_closed, item_zip, zip_at, zip_set, got, long}
use Rattle.allocate.proofs.Rooming.{chosen_at, is_given, long_sizes}
use Rattle.allocate.proofs.planning.planned.Goals as goal

pub bounds-lives-c : goal.bounds-lives-c
bounds-lives-c c = long IsLiveOf c.args.programs.now c.args.lives.now c.args.c c.requires.lives c.requires.within

pub bounds-parts-c : goal.bounds-parts-c
bounds-parts-c c = long IsPressureOf c.args.programs.now c.args.parts.now c.args.c c.requires.parts c.requires.within

pub plan_of-requires-clause-closed : goal.plan_of-requires-clause-closed
plan_of-requires-clause-closed c = item_closed c.args.programs.now c.args.c c.index-programs-c.result c.requires.closed c.requires.within c.index-programs-c.is

pub plan_of-requires-clause-live : goal.plan_of-requires-clause-live
plan_of-requires-clause-live c = item_zip IsLiveOf c.args.programs.now c.args.lives.now c.args.c c.index-programs-c.result c.index-lives-c.result c.requires.lives c.requires.within c.index-programs-c.is c.index-lives-c.is

pub plan_of-requires-clause-part : goal.plan_of-requires-clause-part
plan_of-requires-clause-part c =
    let none : Pressure = record { private = 0; all = 0 } in
    zip_at IsPressureOf c.args.programs.now c.args.parts.now c.args.c c.index-programs-c.result (get_or c.args.parts.now c.args.c none) c.requires.parts
    (got c.args.programs.now c.args.c c.index-programs-c.result c.requires.within c.index-programs-c.is)
    (slice_get-get_or c.args.parts.now c.args.c none (long IsPressureOf c.args.programs.now c.args.parts.now c.args.c c.requires.parts c.requires.within))

pub bounds-sizes-c : goal.bounds-sizes-c
bounds-sizes-c c =
    let same = long_sizes c.args.parts.now MOST_FILE c.args.sizes.now c.args.shared c.requires.fits in
    let lt = long IsPressureOf c.args.programs.now c.args.parts.now c.args.c c.requires.parts c.requires.within in
    omega arith

pub plan_of-requires-clause-own : goal.plan_of-requires-clause-own
plan_of-requires-clause-own c =
    let none : Pressure = record { private = 0; all = 0 } in
    (is_given c.args.parts.now MOST_FILE c.args.sizes.now c.args.shared c.args.c none c.requires.fits (long IsPressureOf c.args.programs.now c.args.parts.now c.args.c c.requires.parts c.requires.within)).own

pub plan_of-requires-clause-whole : goal.plan_of-requires-clause-whole
plan_of-requires-clause-whole c =
    let none : Pressure = record { private = 0; all = 0 } in
    (is_given c.args.parts.now MOST_FILE c.args.sizes.now c.args.shared c.args.c none c.requires.fits (long IsPressureOf c.args.programs.now c.args.parts.now c.args.c c.requires.parts c.requires.within)).whole

both_ok : {E : Type 0} (P Q R : Plan → Type 0) → ((plan : Plan) → P plan → Q plan → R plan) → (r : Result Plan E) → IfOk r P → IfOk r Q → IfOk r R
both_ok P Q R on (Ok plan) p q = on plan p q
both_ok P Q R on (Err e) p q = tt

pub bounds-walks-c : goal.bounds-walks-c
bounds-walks-c c = long IsWalkKept c.args.programs.now c.args.walks.now c.args.c c.requires.walks c.requires.within

pub bounds-keeps-c : goal.bounds-keeps-c
bounds-keeps-c c = long IsKept c.args.programs.now c.args.keeps.now c.args.c c.requires.keeps c.requires.within

pub plan_of-requires-clause-kept : goal.plan_of-requires-clause-kept
plan_of-requires-clause-kept c = item_zip IsKept c.args.programs.now c.args.keeps.now c.args.c c.index-programs-c.result c.index-keeps-c.result c.requires.keeps c.requires.within c.index-programs-c.is c.index-keeps-c.is

pub plan_of-requires-clause-walk : goal.plan_of-requires-clause-walk
plan_of-requires-clause-walk c =
    subst (IsWalkKept c.index-programs-c.result.code) (sym c.take-walk.ensures.value)
    (subst (IsWalkKept c.index-programs-c.result.code) c.index-walks-c.is
    (item_zip IsWalkKept c.args.programs.now c.args.walks.now c.args.c c.index-programs-c.result c.index-walks-c.result c.requires.walks c.requires.within c.index-programs-c.is c.index-walks-c.is))

pub returns-clause-chosen : goal.returns-clause-chosen
returns-clause-chosen c =
    let program = c.index-programs-c.result in
    both_ok (λ plan. (cost : ℕ) × IsCellOf program.code (slice_index c.args.sizes.now c.args.c) c.args.shared cost plan) (IsValidPlan program.code) (IsChosenAt c.args.programs.now c.args.sizes.now c.args.shared c.args.c)
    (λ plan cell valid. chosen_at c.args.programs.now c.args.sizes.now c.args.shared c.args.c program plan c.requires.within c.index-programs-c.is cell valid)
    c.plan_of.result c.plan_of.ensures.chosen c.plan_of.ensures.valid

pub returns-clause-walks : goal.returns-clause-walks
returns-clause-walks c =
    let none : Pressure = record { private = 0; all = 0 } in
    let ps = c.args.programs.now in
    let parts = c.args.parts.now in
    let inside = long IsPressureOf ps parts c.args.c c.requires.parts c.requires.within in
    zip_set IsWalkKept ps c.args.walks.now c.args.c c.take-walk.new.self c.requires.walks
    (λ p is. subst (IsWalkKept p.code) (sym c.take-walk.ensures.after) (record {
      pressure = get_or parts c.args.c none;
      exact = zip_at IsPressureOf ps parts c.args.c p (get_or parts c.args.c none) c.requires.parts is (slice_get-get_or parts c.args.c none inside);
      is = tt;
    }))
