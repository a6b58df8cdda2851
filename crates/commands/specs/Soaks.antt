-- What the run of a generated bundle tells.
use Rattle.std.specs.Prelude.{◌≡◌, ℕ, List, [], length, Some, true}
use Rattle.micro_isa.specs.declared.limits.TheConstants.{MOST_STEPS}
use Rattle.micro_isa.specs.declared.image.Image.{Image}
use Rattle.world.specs.declared.event.Entry.{Entry}
use Rattle.world.specs.declared.event.End.{End}
use Rattle.semantics.specs.Events.{Config}
use Rattle.semantics.specs.Machine.{Machine}
use Rattle.report_run.specs.Report.{soak_summary}
use Rattle.soak_gen.specs.Bundles.{generated}
use Rattle.commands.specs.declared.status.Status.{Status}
use Rattle.commands.specs.Reports.{IsRunOf, status_of}
use Rattle.commands.specs.Tells.{WhereItFits}

-- the text is the summary of a run of this image in round order, with no port; the image was made for a bundle of this need
pub record IsSummary (number need steps : ℕ) (m : Image) (answer : Status) (text : List ℕ) : Type 0 where
  pub entries : List Entry
  pub last : Config Machine
  pub end : End
  pub run : IsRunOf true steps m [] [] entries last end
  pub answered : answer ≡ status_of end last.core.phases
  pub told : text ≡ soak_summary number need m (length entries) last.core.steps last.core.world.outputs (Some end)

-- what is told of the bundle that a number generates
abbrev pub TellsSoak : ℕ → Status → List ℕ → Type 0
TellsSoak number answer text =
    WhereItFits (λ a. IsSummary number a.need MOST_STEPS a.image answer text) answer (generated number) text
