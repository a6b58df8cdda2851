-- The run of a generated bundle, and its summary.
use Rattle.std.proofs.Common.{◌≡◌, ℕ, List, [], ◌∷◌, length, Result, Ok, Err, true, refl, sym, ap, ◌∙◌, subst, inl, inr}
use Rattle.std.specs.Prelude.{IfOk}
use Rattle.micro_isa.specs.declared.list.NoMemory.{NoMemory}
use Rattle.micro_isa.specs.declared.limits.TheConstants.{MOST_STEPS}
use Rattle.micro_isa.specs.declared.image.Image.{Image}
use Rattle.allocate.specs.declared.allocation.Allocation.{Allocation}
use Rattle.engine_core.specs.EngineState.{config_of}
use Rattle.ports.specs.declared.told.Told.{Told}
use Rattle.ports.specs.SlotsState.{SlotsState}
use Rattle.run_journal.specs.Histories.{RunState, run_ending, bound_of}
use Rattle.context_runner.specs.Benches.{IsBench}
use Rattle.context_runner.specs.Endings.{Brought}
use Rattle.report_run.specs.Report.{soak_summary}
use Rattle.soak_gen.specs.Bundles.{generated}
use Rattle.commands.specs.declared.status.Status.{Status}
use Rattle.commands.specs.declared.task.Reply.{Reply}
use Rattle.commands.specs.Reports.{IsRunOf, status_so_far}
use Rattle.commands.specs.Soaks.{IsSummary, TellsSoak}
use Rattle.commands.specs.Openings.{IsAttached}
use Rattle.commands.specs.Allocating.{IsItsOwn}
use Rattle.commands.specs.Tells.{FitsFile, IsServed}
use Rattle.commands.proofs.Reporting.{run_is}
use Rattle.commands.proofs.Telling.{of_image, not_both, ended_served}

none_of : (told start : List Told) → length told ≡ length start → start ≡ [] → told ≡ []
none_of [] start few none = refl
none_of (x ∷ xs) [] few none = absurd (cc)
none_of (x ∷ xs) (y ∷ ys) few none = absurd (cc)

-- what a run leaves that no port was attached to is what its summary tells
summarised : (number need : ℕ) (r r' after : RunState) (s s' : SlotsState) (answer : Status) (text : List ℕ) → s.told ≡ [] → IsAttached r r' s → Brought true r' after → IsBench s.told after s' → answer ≡ status_so_far (run_ending after.engine.core after.idle) after.engine.core.phases → text ≡ soak_summary number need after.engine.image (length after.entries) after.engine.core.steps after.engine.core.world.outputs (run_ending after.engine.core after.idle) → IsSummary number need (bound_of r.engine) r.engine.image answer text
summarised number need r r' after s s' answer text none a b bench answered told = record {
  entries = after.entries;
  last = config_of after.engine;
  end = b.how;
  run = subst (λ x. IsRunOf true (bound_of r.engine) r.engine.image [] x after.entries (config_of after.engine) b.how) (none_of s'.told s.told bench.kept.as_many none)
      (subst (λ x. IsRunOf true (bound_of r.engine) r.engine.image x s'.told after.entries (config_of after.engine) b.how) none (run_is true r r' after s s' a b bench));
  answered = answered ∙ ap (λ o. status_so_far o after.engine.core.phases) b.ended;
  told = told
      ∙ ap (λ (i : Image). soak_summary number need i (length after.entries) after.engine.core.steps after.engine.core.world.outputs (run_ending after.engine.core after.idle)) (b.image ∙ a.image)
      ∙ ap (λ o. soak_summary number need r.engine.image (length after.entries) after.engine.core.steps after.engine.core.world.outputs o) b.ended;
}

-- the same, if there was memory for it
pub summary_is : (number need : ℕ) (r r' after : RunState) (s s' : SlotsState) (result : Result Reply NoMemory) → s.told ≡ [] → IsAttached r r' s → Brought true r' after → IsBench s.told after s' → IfOk result (λ x. x.status ≡ status_so_far (run_ending after.engine.core after.idle) after.engine.core.phases) → IfOk result (λ x. x.text.items ≡ soak_summary number need after.engine.image (length after.entries) after.engine.core.steps after.engine.core.world.outputs (run_ending after.engine.core after.idle)) → IfOk result (λ x. IsSummary number need (bound_of r.engine) r.engine.image x.status x.text.items)
summary_is number need r r' after s s' (Ok x) none a b bench answered told = summarised number need r r' after s s' x.status x.text.items none a b bench answered told
summary_is number need r r' after s s' (Err why) none a b bench answered told = tt

-- the summary, if there was memory for it
pub soak_tells : (number : ℕ) (result : Result Reply NoMemory) (a : Allocation) → IsItsOwn (generated number) a → IfOk result (λ r. IsSummary number a.need MOST_STEPS a.image r.status r.text.items) → IfOk result (λ r. TellsSoak number r.status r.text.items)
soak_tells number (Ok r) a own summary = inr (of_image (λ x. IsSummary number x.need MOST_STEPS x.image r.status r.text.items) (generated number) a own summary)
soak_tells number (Err why) a own summary = tt

pub soak_served : (number : ℕ) (answer : Status) (text : List ℕ) → TellsSoak number answer text → FitsFile (generated number) → IsServed answer
soak_served number answer text (inl short) fits = absurd (not_both answer (generated number) text short fits)
soak_served number answer text (inr runs) fits = subst IsServed (sym runs.told.answered) (ended_served runs.told.end runs.told.last.core.phases)
