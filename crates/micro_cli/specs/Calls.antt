-- What a call leaves outside, by its status.
use Rattle.std.specs.Prelude.{◌≡◌, ℕ, ◌<◌, ◌≤◌, ◌⊎◌, List, length, take, map, false, Option, Some, None}
use Rattle.micro_isa.specs.declared.program.Bundle.{Bundle}
use Rattle.micro_isa.specs.declared.image.Image.{Image}
use Rattle.micro_kit.specs.Streams.{Rose, Grew, GivesAtMost}
use Rattle.asm_text.specs.Texts.{Spells}
use Rattle.image_load.specs.Spelling.{Spells as SpellsImage}
use Rattle.ports.specs.declared.told.Told.{Told}
use Rattle.commands.specs.declared.status.Status.{Status}
use Rattle.commands.specs.declared.status.Status.TheVariants as status
use Rattle.commands.specs.declared.task.Job.{Job}
use Rattle.commands.specs.declared.task.Job.TheVariants.{OfInput, Soak}
use Rattle.commands.specs.declared.task.Task.{Task}
use Rattle.commands.specs.declared.task.Task.TheVariants.{OfBundle, OfImage, OfJournal}
use Rattle.commands.specs.declared.task.BundleTask.{BundleTask}
use Rattle.commands.specs.declared.task.JournalTask.{JournalTask}
use Rattle.commands.specs.Journals.{FitsJournal}
use Rattle.journal_text.specs.Journals.{bundle_part, journal_part}
use Rattle.micro_isa.specs.declared.limits.TheConstants.{LONGEST_BUNDLE}
use Rattle.soak_gen.specs.Bundles.{generated}
use Rattle.commands.specs.Tells.{Fits, FitsFile, IsServed, IsRefusal, runs_image}
use Rattle.commands.specs.GivenBack.{InTheirOrder}
use Rattle.micro_cli.specs.Lines.{limit_of}
use Rattle.micro_cli.specs.Answers.{Asks, TookAtMost, most_read}

-- what a call finds and leaves outside: the bytes that the source has left and the bytes that the sink took, where told,
-- how often each failed, and what the ports tell
pub record Outside : Type 0 where
  pub left : Option (List ℕ)
  pub left' : Option (List ℕ)
  pub read_faults : ℕ
  pub read_faults' : ℕ
  pub wrote : Option (List ℕ)
  pub wrote' : Option (List ℕ)
  pub write_faults : ℕ
  pub write_faults' : ℕ
  pub ports : List Told
  pub ports' : List Told

-- that of a source, a sink and ports, before a call and after it
abbrev pub outside : {I O P : Type 0} → (I → Option (List ℕ)) → (I → ℕ) → (O → Option (List ℕ)) → (O → ℕ) → (P → Told) → I → I → O → O → List P → List P → Outside
outside left read_faults wrote write_faults tells input input' output output' ports ports' = record {
  left = left input;
  left' = left input';
  read_faults = read_faults input;
  read_faults' = read_faults input';
  wrote = wrote output;
  wrote' = wrote output';
  write_faults = write_faults output;
  write_faults' = write_faults output';
  ports = map tells ports;
  ports' = map tells ports';
}

-- the whole text that was asked for was written
pub record WroteAll (answer : Status) (wanted : Option Job) (o : Outside) : Type 0 where
  pub text : List ℕ
  pub asked : Asks answer wanted o.left o.left' o.ports o.ports' text
  pub grew : Grew o.wrote text o.wrote'

-- a write failed, the sink's faults having risen in this call; a part of the text that was asked for was written. Where that is
-- the line of a refusal, the ports are as they were
pub record WasCutShort (answer : Status) (wanted : Option Job) (o : Outside) : Type 0 where
  pub answered : answer ≡ status.WriteFault
  pub rose : Rose o.write_faults o.write_faults'
  pub intended : Status
  pub text : List ℕ
  pub asked : Asks intended wanted o.left o.left' o.ports o.ports' text
  pub refused : IsRefusal intended → o.ports' ≡ o.ports
  pub taken : ℕ
  pub part : taken < length text
  pub grew : Grew o.wrote (take taken text) o.wrote'

-- the words ask for a task; a read failed, the source's faults having risen in this call, before more bytes than the limit
-- were taken; nothing was written
pub record CouldNotRead (answer : Status) (wanted : Option Job) (o : Outside) : Type 0 where
  pub answered : answer ≡ status.ReadFault
  pub task : Task
  pub asked : wanted ≡ Some (OfInput task)
  pub rose : Rose o.read_faults o.read_faults'
  pub taken : GivesAtMost o.left (limit_of task) o.left'
  pub silent : o.wrote' ≡ o.wrote

-- memory was wanting, which is always free; no more was read than the job reads at most, and nothing was written
pub record WantedMemory (answer : Status) (wanted : Option Job) (o : Outside) : Type 0 where
  pub answered : answer ≡ status.NoMemory
  pub taken : TookAtMost (most_read wanted) o.left o.left'
  pub silent : o.wrote' ≡ o.wrote

-- what a call with this status leaves, whose words ask for this job
abbrev pub Finishes : Status → Option Job → Outside → Type 0
Finishes answer wanted o =
    WroteAll answer wanted o ⊎ (WasCutShort answer wanted o ⊎ (CouldNotRead answer wanted o ⊎ WantedMemory answer wanted o))

-- the words ask for no run of an image with ports
abbrev pub IsAside : Option Job → Type 0
IsAside None = Unit {0}
IsAside (Some (OfInput task)) = runs_image task ≡ false
IsAside (Some (Soak number)) = Unit {0}

-- no port is asked or handed anything: the words ask for no run of an image, or the call was refused
abbrev pub LeavesPorts : Option Job → Status → Type 0
LeavesPorts wanted answer = IsAside wanted ⊎ IsRefusal answer

-- the input spells a bundle that the task takes
pub record SpellsFitting (task : BundleTask) (input : List ℕ) : Type 0 where
  pub bundle : Bundle
  pub spelt : Spells input bundle
  pub fits : Fits task bundle

-- the part of the input before the line `journal` is short enough and spells a bundle, and the task takes it and the journal
-- behind that line
pub record SpellsJournal (task : JournalTask) (input : List ℕ) : Type 0 where
  pub short : length (bundle_part input) ≤ LONGEST_BUNDLE
  pub bundle : Bundle
  pub spelt : Spells (bundle_part input) bundle
  pub fits : FitsJournal task bundle (journal_part input)

-- the input spells what the task reads, and nothing in it is a cause for which the task is refused
abbrev pub Serves : Task → List ℕ → Type 0
Serves (OfBundle task) input = SpellsFitting task input
Serves (OfImage task) input = (m : Image) × SpellsImage input m
Serves (OfJournal task) input = SpellsJournal task input

-- nothing outside gives a cause for a refusal: the words ask for a task, no read or write fails, and the input is within
-- the task's limit and one that it serves
pub record InputFits (wanted : Option Job) (o : Outside) : Type 0 where
  pub task : Task
  pub asks : wanted ≡ Some (OfInput task)
  pub reads : Rose o.read_faults o.read_faults' → ⊥
  pub writes : Rose o.write_faults o.write_faults' → ⊥
  pub input : List ℕ
  pub told : o.left ≡ Some input
  pub within : length input ≤ limit_of task
  pub serves : Serves task input

-- the same where the words ask for the run of a generated bundle
pub record NumberFits (wanted : Option Job) (o : Outside) : Type 0 where
  pub number : ℕ
  pub asks : wanted ≡ Some (Soak number)
  pub writes : Rose o.write_faults o.write_faults' → ⊥
  pub fits : FitsFile (generated number)

abbrev pub HasNoCause : Option Job → Outside → Type 0
HasNoCause wanted o = InputFits wanted o ⊎ NumberFits wanted o

-- the task was served and its whole text written; or memory was wanting
abbrev pub IsServedOrFree : Status → Type 0
IsServedOrFree answer = IsServed answer ⊎ (answer ≡ status.NoMemory)

-- what a call with this status promises, whose words ask for this job: by the status what it leaves; where nothing outside is a
-- cause for a refusal, the job is served and its whole text written; the ports come back, as many and in their order, and where no
-- run of an image is asked for, or the call was refused, they are the very ones
pub record IsFinish {P : Type 0} (answer : Status) (wanted : Option Job) (o : Outside) (ports ports' : List P) : Type 0 where
  pub finishes : Finishes answer wanted o
  pub complete : HasNoCause wanted o → IsServedOrFree answer
  pub as_many : length ports' ≡ length ports
  pub in_order : InTheirOrder o.ports o.ports'
  pub untouched : LeavesPorts wanted answer → ports' ≡ ports
