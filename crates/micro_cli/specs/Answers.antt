-- What a call of the program asks to be written.
use Rattle.std.specs.Prelude.{◌≡◌, ℕ, ◌+◌, ◌<◌, ◌≤◌, ◌⊎◌, List, length, Option, Some, None}
use Rattle.micro_isa.specs.declared.program.Bundle.{Bundle}
use Rattle.micro_isa.specs.declared.image.Image.{Image}
use Rattle.micro_kit.specs.Streams.{Gives, IsWhole}
use Rattle.asm_lines.specs.Faults.{At}
use Rattle.asm_text.specs.Texts.{text_fault, Spells}
use Rattle.image_load.specs.declared.fault.ImageKind.{ImageKind}
use Rattle.image_load.specs.declared.fault.ImageFault.TheVariants as bytes_fault
use Rattle.image_load.specs.Faults.{Causes}
use Rattle.image_load.specs.Spelling.{Spells as SpellsImage}
use Rattle.image_load.specs.Loading.{image_fault}
use Rattle.ports.specs.declared.told.Told.{Told}
use Rattle.commands.specs.declared.status.Status.{Status}
use Rattle.commands.specs.declared.status.Status.TheVariants as status
use Rattle.commands.specs.declared.task.Job.{Job}
use Rattle.commands.specs.declared.task.Job.TheVariants.{OfInput, Soak}
use Rattle.commands.specs.declared.task.Task.{Task}
use Rattle.commands.specs.declared.task.Task.TheVariants.{OfBundle, OfImage, OfJournal}
use Rattle.commands.specs.declared.task.BundleTask.{BundleTask}
use Rattle.commands.specs.declared.task.ImageTask.{ImageTask}
use Rattle.commands.specs.declared.task.JournalTask.{JournalTask}
use Rattle.commands.specs.Journals.{TellsOfJournal, FitsJournal}
use Rattle.journal_text.specs.Journals.{bundle_part, journal_part}
use Rattle.micro_isa.specs.declared.limits.TheConstants.{LONGEST_BUNDLE}
use Rattle.soak_gen.specs.Bundles.{generated}
use Rattle.commands.specs.Soaks.{TellsSoak}
use Rattle.commands.specs.Tells.{TellsOfBundle, TellsOfImage, Fits, FitsFile, IsServed}
use Rattle.micro_cli.specs.Lines.{usage_line, limit_of, too_long_line, bad_bundle_line, bad_image_line}

-- the text has a first fault, and the line tells it
pub record TellsTextFault (answer : Status) (input text : List ℕ) : Type 0 where
  pub answered : answer ≡ status.BadBundle
  pub at : At
  pub found : text_fault input ≡ Some at
  pub told : text ≡ bad_bundle_line at

-- the input spells a bundle, and the text is what the task tells of it, with these ports; one that fits is served
pub record TellsBundle (task : BundleTask) (answer : Status) (start now : List Told) (input text : List ℕ) : Type 0 where
  pub bundle : Bundle
  pub spelt : Spells input bundle
  pub tells : TellsOfBundle task answer bundle start now text
  pub served : Fits task bundle → IsServed answer

-- the bytes have a first fault, and the line tells it: they spell no image
pub record TellsBytesFault (answer : Status) (input text : List ℕ) : Type 0 where
  pub answered : answer ≡ status.BadImage
  pub offset : ℕ
  pub kind : ImageKind
  pub found : Causes (bytes_fault.At offset kind) (image_fault input)
  pub told : text ≡ bad_image_line offset kind
  pub unspelled : (m : Image) → SpellsImage input m → ⊥

-- the input spells an image, and the text is what the task tells of it, with these ports
pub record TellsImage (task : ImageTask) (answer : Status) (start now : List Told) (input text : List ℕ) : Type 0 where
  pub image : Image
  pub spelt : SpellsImage input image
  pub tells : TellsOfImage task answer image start now text
  pub served : IsServed answer

-- the part of the input that is a bundle has more bytes than a bundle may have
pub record TellsLongPart (answer : Status) (input text : List ℕ) : Type 0 where
  pub answered : answer ≡ status.TooLong
  pub above : LONGEST_BUNDLE < length (bundle_part input)
  pub told : text ≡ too_long_line LONGEST_BUNDLE

-- a text spells a bundle, and this is what the task tells of it and of a journal; where both fit they are served
pub record TellsJournal (task : JournalTask) (answer : Status) (bundle_text journal text : List ℕ) : Type 0 where
  pub bundle : Bundle
  pub spelt : Spells bundle_text bundle
  pub tells : TellsOfJournal task answer bundle journal text
  pub served : FitsJournal task bundle journal → IsServed answer

-- what a task asks to be written for a bundle's text and a journal
abbrev pub SaysOfParts : JournalTask → Status → List ℕ → List ℕ → List ℕ → Type 0
SaysOfParts task answer bundle_text journal text =
    TellsTextFault answer bundle_text text ⊎ TellsJournal task answer bundle_text journal text

-- the part of the input that is a bundle is short enough, and this is told of both parts
pub record TellsParts (task : JournalTask) (answer : Status) (input text : List ℕ) : Type 0 where
  pub short : length (bundle_part input) ≤ LONGEST_BUNDLE
  pub says : SaysOfParts task answer (bundle_part input) (journal_part input) text

-- what a task asks to be written for an input of a bundle and a journal
abbrev pub SaysOfJournal : JournalTask → Status → List ℕ → List ℕ → Type 0
SaysOfJournal task answer input text = TellsLongPart answer input text ⊎ TellsParts task answer input text

-- what a task asks to be written for an input, and what the ports told before it and tell after it
abbrev pub Says : Task → Status → List Told → List Told → List ℕ → List ℕ → Type 0
Says (OfBundle task) answer start now input text = TellsTextFault answer input text ⊎ TellsBundle task answer start now input text
Says (OfImage task) answer start now input text = TellsBytesFault answer input text ⊎ TellsImage task answer start now input text
Says (OfJournal task) answer start now input text = SaysOfJournal task answer input text

-- this many bytes were read at most
pub record TookAtMost (most : ℕ) (left left' : Option (List ℕ)) : Type 0 where
  pub taken : List ℕ
  pub given : Gives left taken left'
  pub few : length taken ≤ most

-- so many bytes are read at most for a job: one more than a task's input may have; nothing for another job
abbrev pub most_read : Option Job → ℕ
most_read None = 0
most_read (Some (OfInput task)) = limit_of task + 1
most_read (Some (Soak number)) = 0

-- the input was read to its end, and this is asked to be written for it
pub record TellsInput (task : Task) (answer : Status) (left left' : Option (List ℕ)) (start now : List Told) (text : List ℕ) : Type 0 where
  pub input : List ℕ
  pub whole : IsWhole left input left' (limit_of task)
  pub says : Says task answer start now input text

-- more bytes than the limit were taken: exactly one more
pub record TellsTooLong (task : Task) (answer : Status) (left left' : Option (List ℕ)) (text : List ℕ) : Type 0 where
  pub answered : answer ≡ status.TooLong
  pub taken : List ℕ
  pub given : Gives left taken left'
  pub above : length taken ≡ limit_of task + 1
  pub told : text ≡ too_long_line (limit_of task)

abbrev pub AsksOfInput : Task → Status → Option (List ℕ) → Option (List ℕ) → List Told → List Told → List ℕ → Type 0
AsksOfInput task answer left left' start now text =
    TellsTooLong task answer left left' text ⊎ TellsInput task answer left left' start now text

-- the words ask for no job, and nothing was read
pub record TellsUsage (answer : Status) (wanted : Option Job) (left left' : Option (List ℕ)) (text : List ℕ) : Type 0 where
  pub answered : answer ≡ status.Usage
  pub meaningless : wanted ≡ None
  pub untouched : left' ≡ left
  pub told : text ≡ usage_line

-- the words ask for a task, and this is what it asks to be written
pub record TellsTask (answer : Status) (wanted : Option Job) (left left' : Option (List ℕ)) (start now : List Told) (text : List ℕ) : Type 0 where
  pub task : Task
  pub asked : wanted ≡ Some (OfInput task)
  pub tells : AsksOfInput task answer left left' start now text

-- the words ask for the run of the bundle that a number generates, and nothing was read; where that bundle fits it is served
pub record TellsMade (answer : Status) (wanted : Option Job) (left left' : Option (List ℕ)) (text : List ℕ) : Type 0 where
  pub number : ℕ
  pub asked : wanted ≡ Some (Soak number)
  pub untouched : left' ≡ left
  pub tells : TellsSoak number answer text
  pub served : FitsFile (generated number) → IsServed answer

-- what a call asks to be written, from the job that its words ask for, the bytes that its input had left before and has left
-- after, and what the ports told before and tell after
abbrev pub Asks : Status → Option Job → Option (List ℕ) → Option (List ℕ) → List Told → List Told → List ℕ → Type 0
Asks answer wanted left left' start now text =
    TellsUsage answer wanted left left' text ⊎ (TellsMade answer wanted left left' text ⊎ TellsTask answer wanted left left' start now text)
