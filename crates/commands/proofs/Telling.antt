-- What tasks tell, from what their parts leave; and that what fits is served.
use Rattle.std.proofs.Common.{◌≡◌, ℕ, ◌<◌, List, Bool, true, false, Option, Some, None, Result, Ok, Err, sym, subst, arith, inl, inr}
use Rattle.std.specs.Prelude.{if◌then◌else◌, IfOk}
use Rattle.std.specs.List.{list_any}
use Rattle.micro_isa.specs.declared.program.Bundle.{Bundle}
use Rattle.micro_isa.specs.declared.image.Image.{Image}
use Rattle.world.specs.declared.event.Phase.{Phase}
use Rattle.world.specs.declared.event.End.{End}
use Rattle.world.specs.declared.event.End.TheVariants as ending
use Rattle.ports.specs.declared.told.Told.{Told}
use Rattle.micro_isa.specs.declared.list.NoMemory.{NoMemory}
use Rattle.allocate.specs.declared.allocation.Allocation.{Allocation}
use Rattle.allocate.specs.declared.allocation.AllocFault.TheVariants.{NoFit}
use Rattle.allocate.specs.Allocations.{TellsFault}
use Rattle.commands.specs.declared.status.Status.{Status}
use Rattle.commands.specs.declared.status.Status.TheVariants as status
use Rattle.commands.specs.declared.task.Order.{Order}
use Rattle.commands.specs.declared.task.BundleTask.{BundleTask}
use Rattle.commands.specs.declared.task.BundleTask.TheVariants as bundle
use Rattle.commands.specs.declared.task.ImageTask.{ImageTask}
use Rattle.commands.specs.declared.task.ImageTask.TheVariants as image
use Rattle.commands.specs.declared.task.Reply.{Reply}
use Rattle.commands.specs.Allocating.{IsItsOwn}
use Rattle.commands.specs.Reports.{IsReport, has_trapped, status_of}
use Rattle.commands.specs.Tells.{DoesNotFit, OfItsImage, IsWritten, RunTells, BuildTells, TellsOfBundle, TellsOfImage, RunsBundleBy, RunsImageBy, is_round, FitsFile, Fits, IsServed, IsRefusal, no_fit_line}

pub does_not_fit : (answer : Status) (b : Bundle) (text : List ℕ) (need file : ℕ) → TellsFault b (NoFit need file) → answer ≡ status.NoFit → text ≡ no_fit_line need file → DoesNotFit answer b text
does_not_fit answer b text need file fault answered told =
    let above : b.file < need = subst (λ n. n < need) fault.1 fault.2 in
    record { need = need; needed = fault.0; above = above; answered = answered; told = subst (λ n. text ≡ no_fit_line need n) fault.1 told }

pub of_image : (tells : Allocation → Type 0) (b : Bundle) (a : Allocation) → IsItsOwn b a → tells a → OfItsImage tells b
of_image tells b a own told = record { allocation = a; allocated = own.allocated; only = own.only; same = own.emitted.implements; told = told }

pub run_tells : (in_rounds : Bool) (steps : ℕ) (answer : Status) (b : Bundle) (start now : List Told) (text : List ℕ) (a : Allocation) → IsItsOwn b a → IsReport in_rounds steps a.image (Some a.need) start now answer text → RunTells in_rounds steps answer b start now text
run_tells in_rounds steps answer b start now text a own report = inr (of_image (λ x. IsReport in_rounds steps x.image (Some x.need) start now answer text) b a own report)

-- what is told of a run is told in the order that the task asks for
pub run_tells_by : (in_rounds : Bool) (t : BundleTask) (steps : ℕ) (order : Order) (answer : Status) (b : Bundle) (start now : List Told) (text : List ℕ) → t ≡ bundle.Run steps order → RunsBundleBy in_rounds t → RunTells in_rounds steps answer b start now text → TellsOfBundle t answer b start now text
run_tells_by in_rounds t steps order answer b start now text is by tells =
    let same : is_round order ≡ in_rounds = subst (RunsBundleBy in_rounds) is by in
    subst (λ x. TellsOfBundle x answer b start now text) (sym is) (subst (λ x. RunTells x steps answer b start now text) (sym same) tells)

pub exec_tells_by : (in_rounds : Bool) (t : ImageTask) (steps : ℕ) (order : Order) (answer : Status) (m : Image) (start now : List Told) (text : List ℕ) → t ≡ image.Exec steps order → RunsImageBy in_rounds t → IsReport in_rounds steps m None start now answer text → TellsOfImage t answer m start now text
exec_tells_by in_rounds t steps order answer m start now text is by report =
    let same : is_round order ≡ in_rounds = subst (RunsImageBy in_rounds) is by in
    subst (λ x. TellsOfImage x answer m start now text) (sym is) (subst (λ x. IsReport x steps m None start now answer text) (sym same) report)

-- the bytes of the image, if there was memory for them
pub build_tells : (result : Result Reply NoMemory) (b : Bundle) (a : Allocation) → IsItsOwn b a → IfOk result (λ r. IsWritten r.status r.text.items a.image) → IfOk result (λ r. BuildTells r.status b r.text.items)
build_tells (Ok r) b a own written = inr (of_image (λ x. IsWritten r.status r.text.items x.image) b a own written)
build_tells (Err why) b a own written = tt

finished_served : (b : Bool) → IsServed (if b then status.Trapped else status.Done)
finished_served true = tt
finished_served false = tt

pub ended_served : (end : End) (phases : List Phase) → IsServed (status_of end phases)
ended_served ending.Finished phases = finished_served (list_any has_trapped phases)
ended_served ending.Stuck phases = tt
ended_served ending.Bound phases = tt
ended_served ending.Idle phases = tt

-- a report is told with a status of what is served
pub report_served : (in_rounds : Bool) (steps : ℕ) (m : Image) (need : Option ℕ) (start now : List Told) (answer : Status) (text : List ℕ) → IsReport in_rounds steps m need start now answer text → IsServed answer
report_served in_rounds steps m need start now answer text r = subst IsServed (sym r.answered) (ended_served r.end r.last.core.phases)

-- what is served is not refused
not_refused : (answer : Status) → IsServed answer → IsRefusal answer → ⊥
not_refused status.WriteFault served refused = refused
not_refused status.NoMemory served refused = refused
not_refused answer served refused = refused served

-- a report is not that of a refusal
pub report_goes : (in_rounds : Bool) (steps : ℕ) (m : Image) (need : Option ℕ) (start now : List Told) (answer : Status) (text : List ℕ) → IsReport in_rounds steps m need start now answer text → IsRefusal answer → ⊥
report_goes in_rounds steps m need start now answer text r = not_refused answer (report_served in_rounds steps m need start now answer text r)

pub not_both : (answer : Status) (b : Bundle) (text : List ℕ) → DoesNotFit answer b text → FitsFile b → ⊥
not_both answer b text short fits =
    let same = short.needed.only fits.need fits.needed in
    let above = short.above in
    let within = fits.within in
    omega arith

-- where nothing in the bundle is a cause, the task is served
pub served : (t : BundleTask) (answer : Status) (b : Bundle) (start now : List Told) (text : List ℕ) → Fits t b → TellsOfBundle t answer b start now text → IsServed answer
served (bundle.Run steps order) answer b start now text fits (inl short) = absurd (not_both answer b text short fits)
served (bundle.Run steps order) answer b start now text fits (inr runs) =
    report_served (is_round order) steps runs.allocation.image (Some runs.allocation.need) start now answer text runs.told
served bundle.Build answer b start now text fits (inl short) = absurd (not_both answer b text short fits)
served bundle.Build answer b start now text fits (inr built) = subst IsServed (sym built.told.answered) tt
served (bundle.Source steps) answer b start now text fits r = subst IsServed (sym r.answered) (ended_served r.end r.last.core.phases)
served bundle.Format answer b start now text fits tells = subst IsServed (sym tells.0) tt
served bundle.Check answer b start now text fits tells = subst IsServed (sym tells.0) tt
