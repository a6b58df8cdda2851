-- What each task tells of its input, and with which status.
use Rattle.std.specs.Prelude.{◌≡◌, ℕ, ◌<◌, ◌≤◌, ◌⊎◌, List, ◌++◌, Bool, true, false, Some, None, decimal, codes}
use Rattle.micro_isa.specs.declared.program.Bundle.{Bundle}
use Rattle.micro_isa.specs.declared.image.Image.{Image}
use Rattle.micro_isa.specs.declared.limits.TheConstants.{MOST_STEPS}
use Rattle.micro_kit.specs.Text.{newline}
use Rattle.semantics.specs.Agreement.{Implements}
use Rattle.allocate.specs.declared.allocation.Allocation.{Allocation}
use Rattle.allocate.specs.Needs.{HasNeed, IsNeed}
use Rattle.allocate.specs.Allocations.{IsAllocation, HasOneAllocation}
use Rattle.image_load.specs.Spelling.{Spells}
use Rattle.asm_print.specs.Canonical.{canonical_text}
use Rattle.report_check.specs.Checks.{IsCheckOf}
use Rattle.commands.specs.declared.status.Status.{Status}
use Rattle.commands.specs.declared.status.Status.TheVariants as status
use Rattle.commands.specs.declared.task.Order.{Order}
use Rattle.commands.specs.declared.task.Order.TheVariants.{Round, Threads}
use Rattle.commands.specs.declared.task.Task.{Task}
use Rattle.commands.specs.declared.task.Task.TheVariants as task
use Rattle.commands.specs.declared.task.BundleTask.{BundleTask}
use Rattle.commands.specs.declared.task.BundleTask.TheVariants as bundle
use Rattle.commands.specs.declared.task.ImageTask.{ImageTask}
use Rattle.commands.specs.declared.task.ImageTask.TheVariants as image
use Rattle.commands.specs.declared.task.JournalTask.{JournalTask}
use Rattle.commands.specs.declared.task.JournalTask.TheVariants as journal
use Rattle.ports.specs.declared.told.Told.{Told}
use Rattle.commands.specs.Reports.{IsReport, IsSourceReport}

-- whether the contexts run in round order
abbrev pub is_round : Order → Bool
is_round Round = true
is_round Threads = false

-- `nofit need N file F`
abbrev pub no_fit_line : ℕ → ℕ → List ℕ
no_fit_line need file = codes "nofit need " ++ decimal need ++ codes " file " ++ decimal file ++ newline

-- the registers that a bundle's contexts need together are more than its file has, and the line tells both
pub record DoesNotFit (answer : Status) (b : Bundle) (text : List ℕ) : Type 0 where
  pub need : ℕ
  pub needed : IsNeed b need
  pub above : b.file < need
  pub answered : answer ≡ status.NoFit
  pub told : text ≡ no_fit_line need b.file

-- the bundle has one allocation, its image does what the bundle does, for every bound and every list of events, and this is
-- told of that allocation
pub record OfItsImage (tells : Allocation → Type 0) (b : Bundle) : Type 0 where
  pub allocation : Allocation
  pub allocated : IsAllocation b allocation
  pub only : HasOneAllocation b
  pub same : Implements allocation.image b
  pub told : tells allocation

-- the need is above the file, or this is told of the bundle's allocation
abbrev pub WhereItFits : (Allocation → Type 0) → Status → Bundle → List ℕ → Type 0
WhereItFits tells answer b text = DoesNotFit answer b text ⊎ OfItsImage tells b

-- the text is the bytes of the image
pub record IsWritten (answer : Status) (text : List ℕ) (m : Image) : Type 0 where
  pub answered : answer ≡ status.Done
  pub spelt : Spells text m

abbrev pub RunTells : Bool → ℕ → Status → Bundle → List Told → List Told → List ℕ → Type 0
RunTells in_rounds steps answer b start now text =
    WhereItFits (λ a. IsReport in_rounds steps a.image (Some a.need) start now answer text) answer b text

abbrev pub BuildTells : Status → Bundle → List ℕ → Type 0
BuildTells answer b text = WhereItFits (λ a. IsWritten answer text a.image) answer b text

-- what a task tells of a bundle, with these ports at hand, and what they tell after it
abbrev pub TellsOfBundle : BundleTask → Status → Bundle → List Told → List Told → List ℕ → Type 0
TellsOfBundle (bundle.Run steps order) answer b start now text = RunTells (is_round order) steps answer b start now text
TellsOfBundle (bundle.Source steps) answer b start now text = IsSourceReport steps b answer text
TellsOfBundle bundle.Build answer b start now text = BuildTells answer b text
TellsOfBundle bundle.Format answer b start now text = (answer ≡ status.Done) × (text ≡ canonical_text b)
TellsOfBundle bundle.Check answer b start now text = (answer ≡ status.Done) × IsCheckOf b text

-- what a task tells of an image; its run tells no need, since an image does not say what it was made for
abbrev pub TellsOfImage : ImageTask → Status → Image → List Told → List Told → List ℕ → Type 0
TellsOfImage (image.Exec steps order) answer m start now text = IsReport (is_round order) steps m None start now answer text

-- the order in which an image runs is that of the runner at hand; what runs no image has none
abbrev pub RunsBundleBy : Bool → BundleTask → Type 0
RunsBundleBy in_rounds (bundle.Run steps order) = is_round order ≡ in_rounds
RunsBundleBy in_rounds _ = Unit {0}

abbrev pub RunsImageBy : Bool → ImageTask → Type 0
RunsImageBy in_rounds (image.Exec steps order) = is_round order ≡ in_rounds

abbrev pub RunsBy : Bool → Task → Type 0
RunsBy in_rounds (task.OfBundle t) = RunsBundleBy in_rounds t
RunsBy in_rounds (task.OfImage t) = RunsImageBy in_rounds t
RunsBy in_rounds (task.OfJournal t) = Unit {0}

-- whether a task runs an image: nothing else asks a port or hands a word to it
abbrev pub runs_bundle : BundleTask → Bool
runs_bundle (bundle.Run steps order) = true
runs_bundle _ = false

abbrev pub runs_image : Task → Bool
runs_image (task.OfBundle t) = runs_bundle t
runs_image (task.OfImage t) = true
runs_image (task.OfJournal t) = false

-- a run has this many steps at most
abbrev pub steps_of_bundle : BundleTask → ℕ
steps_of_bundle (bundle.Run steps order) = steps
steps_of_bundle (bundle.Source steps) = steps
steps_of_bundle _ = 0

abbrev pub steps_of_image : ImageTask → ℕ
steps_of_image (image.Exec steps order) = steps

abbrev pub steps_of_journal : JournalTask → ℕ
steps_of_journal (journal.Replay steps) = steps

abbrev pub steps_of : Task → ℕ
steps_of (task.OfBundle t) = steps_of_bundle t
steps_of (task.OfImage t) = steps_of_image t
steps_of (task.OfJournal t) = steps_of_journal t

abbrev pub IsBounded : Task → Type 0
IsBounded t = steps_of t ≤ MOST_STEPS

-- what the bundle's contexts need together is not above its file
pub record FitsFile (b : Bundle) : Type 0 where
  pub need : ℕ
  pub needed : HasNeed b need
  pub within : need ≤ b.file

-- nothing in the bundle is a cause for which the task is refused; nothing in an image ever is
abbrev pub Fits : BundleTask → Bundle → Type 0
Fits (bundle.Run steps order) b = FitsFile b
Fits bundle.Build b = FitsFile b
Fits _ b = Unit {0}

-- the statuses of what is not refused
abbrev pub IsServed : Status → Type 0
IsServed status.Done = Unit {0}
IsServed status.Trapped = Unit {0}
IsServed status.Stuck = Unit {0}
IsServed status.Bound = Unit {0}
IsServed status.Idle = Unit {0}
IsServed _ = ⊥

-- the statuses of what is refused before anything runs: what is not served, but for a failed write and want of memory
abbrev pub IsRefusal : Status → Type 0
IsRefusal status.WriteFault = ⊥
IsRefusal status.NoMemory = ⊥
IsRefusal answer = IsServed answer → ⊥
