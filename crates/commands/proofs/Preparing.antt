-- What a task comes to before a port is asked tells what is to be told in the end.
use Rattle.std.proofs.Common.{◌≡◌, ℕ, List, Bool, Option, Some, None, sym, subst, inl}
use Rattle.micro_isa.specs.declared.program.Bundle.{Bundle}
use Rattle.micro_isa.specs.declared.image.Image.{Image}
use Rattle.ports.specs.declared.told.Told.{Told}
use Rattle.allocate.specs.declared.allocation.Allocation.{Allocation}
use Rattle.asm_print.specs.Canonical.{canonical_text}
use Rattle.report_check.specs.Checks.{IsCheckOf}
use Rattle.run_journal.specs.Histories.{bound_of}
use Rattle.commands.specs.declared.status.Status.{Status}
use Rattle.commands.specs.declared.status.Status.TheVariants as status
use Rattle.commands.specs.declared.task.Reply.{Reply}
use Rattle.commands.specs.declared.task.Order.{Order}
use Rattle.commands.specs.declared.task.BundleTask.{BundleTask}
use Rattle.commands.specs.declared.task.BundleTask.TheVariants as bundle
use Rattle.commands.specs.declared.task.ImageTask.{ImageTask}
use Rattle.commands.specs.declared.task.ImageTask.TheVariants as image
use Rattle.commands.specs.declared.prepared.Opening.{Opening}
use Rattle.commands.specs.declared.prepared.Prepared.{Prepared}
use Rattle.commands.specs.declared.prepared.Prepared.TheVariants as prepared
use Rattle.commands.specs.Reports.{IsReport, IsSourceReport}
use Rattle.commands.specs.Allocating.{IsItsOwn}
use Rattle.commands.specs.Tells.{DoesNotFit, BuildTells, IsServed}
use Rattle.commands.specs.Openings.{IsOpening, TellsAtOnce, TellsInTheEnd, ComesTo, ToldOfRun, ToldOfBundle, ToldOfImage}
use Rattle.commands.proofs.Telling.{run_tells, run_tells_by, exec_tells_by, report_served, not_both, served}

-- the report of a run from an opening is one of a run of its image
report_from : (in_rounds : Bool) (steps : ℕ) (m : Image) (need : Option ℕ) (o : Opening) (start now : List Told) (answer : Status) (text : List ℕ) → IsOpening steps m need o → IsReport in_rounds (bound_of o.run.engine) o.run.engine.image o.need start now answer text → IsReport in_rounds steps m need start now answer text
report_from in_rounds steps m need o start now answer text is report =
    subst (λ n. IsReport in_rounds steps m n start now answer text) is.needed
    (subst (λ x. IsReport in_rounds steps x o.need start now answer text) is.image
    (subst (λ n. IsReport in_rounds n o.run.engine.image o.need start now answer text) is.bound report))

-- a bundle's image runs
pub run_is_told : (steps : ℕ) (b : Bundle) (a : Allocation) (o : Opening) → IsItsOwn b a → IsOpening steps a.image (Some a.need) o → TellsInTheEnd (ToldOfRun steps b) o
run_is_told steps b a o own is = record {
  opens = is.opens;
  told = λ in_rounds start now answer text report.
      let known = report_from in_rounds steps a.image (Some a.need) o start now answer text is report in
      record {
        tells = run_tells in_rounds steps answer b start now text a own known;
        served = λ fits. report_served in_rounds steps a.image (Some a.need) start now answer text known;
      };
}

-- a bundle that does not fit its file
pub short_is_told : (steps : ℕ) (b : Bundle) (r : Reply) → DoesNotFit r.status b r.text.items → TellsAtOnce (ToldOfRun steps b) r
short_is_told steps b r short = record {
  told = λ in_rounds start. record { tells = inl short; served = λ fits. absurd (not_both r.status b r.text.items short fits) };
}

-- what a run tells is told in the order that the task asks for
asked_run : (task : BundleTask) (steps : ℕ) (order : Order) (b : Bundle) (in_rounds : Bool) (answer : Status) (start now : List Told) (text : List ℕ) → task ≡ bundle.Run steps order → ToldOfRun steps b in_rounds answer start now text → ToldOfBundle task b in_rounds answer start now text
asked_run task steps order b in_rounds answer start now text is told = record {
  tells = λ by. run_tells_by in_rounds task steps order answer b start now text is by told.tells;
  served = λ by fits. served task answer b start now text fits (run_tells_by in_rounds task steps order answer b start now text is by told.tells);
}

pub run_is_asked : (task : BundleTask) (steps : ℕ) (order : Order) (b : Bundle) (p : Prepared) → task ≡ bundle.Run steps order → ComesTo (ToldOfRun steps b) p → ComesTo (ToldOfBundle task b) p
run_is_asked task steps order b (prepared.Reply r) is comes = record {
  told = λ in_rounds start. asked_run task steps order b in_rounds r.status start start r.text.items is (comes.told in_rounds start);
}
run_is_asked task steps order b (prepared.Run o) is comes = record {
  opens = comes.opens;
  told = λ in_rounds start now answer text report. asked_run task steps order b in_rounds answer start now text is (comes.told in_rounds start now answer text report);
}

pub source_is_told : (task : BundleTask) (steps : ℕ) (b : Bundle) (r : Reply) → task ≡ bundle.Source steps → IsSourceReport steps b r.status r.text.items → TellsAtOnce (ToldOfBundle task b) r
source_is_told task steps b r is report = subst (λ t. TellsAtOnce (ToldOfBundle t b) r) (sym is) (record {
  told = λ in_rounds start. record { tells = λ by. report; served = λ by fits. served (bundle.Source steps) r.status b start start r.text.items fits report };
})

pub build_is_told : (task : BundleTask) (b : Bundle) (r : Reply) → task ≡ bundle.Build → BuildTells r.status b r.text.items → TellsAtOnce (ToldOfBundle task b) r
build_is_told task b r is tells = subst (λ t. TellsAtOnce (ToldOfBundle t b) r) (sym is) (record {
  told = λ in_rounds start. record { tells = λ by. tells; served = λ by fits. served bundle.Build r.status b start start r.text.items fits tells };
})

pub format_is_told : (task : BundleTask) (b : Bundle) (r : Reply) → task ≡ bundle.Format → r.status ≡ status.Done → r.text.items ≡ canonical_text b → TellsAtOnce (ToldOfBundle task b) r
format_is_told task b r is answered told = subst (λ t. TellsAtOnce (ToldOfBundle t b) r) (sym is) (record {
  told = λ in_rounds start. record { tells = λ by. (answered, told); served = λ by fits. subst IsServed (sym answered) tt };
})

pub check_is_told : (task : BundleTask) (b : Bundle) (r : Reply) → task ≡ bundle.Check → r.status ≡ status.Done → IsCheckOf b r.text.items → TellsAtOnce (ToldOfBundle task b) r
check_is_told task b r is answered told = subst (λ t. TellsAtOnce (ToldOfBundle t b) r) (sym is) (record {
  told = λ in_rounds start. record { tells = λ by. (answered, told); served = λ by fits. subst IsServed (sym answered) tt };
})

-- an image runs
pub exec_is_asked : (task : ImageTask) (steps : ℕ) (order : Order) (m : Image) (o : Opening) → task ≡ image.Exec steps order → IsOpening steps m None o → TellsInTheEnd (ToldOfImage task m) o
exec_is_asked task steps order m o asked is = record {
  opens = is.opens;
  told = λ in_rounds start now answer text report.
      let known = report_from in_rounds steps m None o start now answer text is report in
      record {
        tells = λ by. exec_tells_by in_rounds task steps order answer m start now text asked by known;
        served = report_served in_rounds steps m None start now answer text known;
      };
}
