-- From what is said of an input to what a call asks to be written.
use Rattle.std.proofs.Common.{◌≡◌, ℕ, ◌+◌, ◌<◌, ◌≤◌, subst, List, length, Option, None, Some, Result, Ok, Err, refl, inl, inr}
use Rattle.std.specs.Prelude.{IfOk}
use Rattle.micro_isa.specs.declared.list.NoMemory.{NoMemory}
use Rattle.commands.specs.declared.task.Reply.{Reply}
use Rattle.micro_isa.specs.declared.program.Bundle.{Bundle}
use Rattle.micro_isa.specs.declared.image.Image.{Image}
use Rattle.micro_kit.specs.Streams.{Gives, IsWhole}
use Rattle.asm_lines.specs.Faults.{At}
use Rattle.asm_text.specs.Texts.{text_fault, Spells}
use Rattle.ports.specs.declared.told.Told.{Told}
use Rattle.commands.specs.declared.status.Status.{Status}
use Rattle.commands.specs.declared.status.Status.TheVariants as status
use Rattle.commands.specs.declared.task.Job.{Job}
use Rattle.commands.specs.declared.task.Job.TheVariants.{OfInput, Soak}
use Rattle.commands.specs.declared.task.Task.{Task}
use Rattle.commands.specs.declared.task.Task.TheVariants.{OfBundle, OfImage}
use Rattle.commands.specs.declared.task.BundleTask.{BundleTask}
use Rattle.commands.specs.declared.task.ImageTask.{ImageTask}
use Rattle.soak_gen.specs.Bundles.{generated}
use Rattle.commands.specs.Soaks.{TellsSoak}
use Rattle.commands.specs.Tells.{TellsOfBundle, TellsOfImage, Fits, FitsFile, IsServed}
use Rattle.image_load.specs.declared.fault.ImageKind.{ImageKind}
use Rattle.image_load.specs.declared.fault.ImageFault.TheVariants as bytes_fault
use Rattle.image_load.specs.Faults.{Causes}
use Rattle.image_load.specs.Spelling.{Spells as SpellsImage}
use Rattle.image_load.specs.Loading.{image_fault}
use Rattle.micro_cli.specs.declared.command.Silence.{Silence}
use Rattle.micro_cli.specs.declared.command.Silence.TheVariants as silence
use Rattle.micro_cli.specs.Lines.{usage_line, limit_of, too_long_line, bad_bundle_line, bad_image_line}
use Rattle.commands.specs.declared.task.JournalTask.{JournalTask}
use Rattle.commands.specs.Journals.{TellsOfJournal, FitsJournal}
use Rattle.journal_text.specs.Journals.{bundle_part, journal_part}
use Rattle.micro_isa.specs.declared.limits.TheConstants.{LONGEST_BUNDLE}
use Rattle.micro_cli.specs.Answers.{SaysOfParts, SaysOfJournal, Says, AsksOfInput, Asks}
use Rattle.micro_cli.specs.Silences.{FailsToRead, IsSilent}

-- what a task tells of the bundle that the input spells
pub says_of_bundle : (task : BundleTask) (answer : Status) (start now : List Told) (input text : List ℕ) (b : Bundle) → Spells input b → TellsOfBundle task answer b start now text → (Fits task b → IsServed answer) → Says (OfBundle task) answer start now input text
says_of_bundle task answer start now input text b spelt tells served = inr (record { bundle = b; spelt = spelt; tells = tells; served = served })

-- the first fault of a text
pub says_of_text_fault : (task : BundleTask) (answer : Status) (start now : List Told) (input text : List ℕ) (at : At) → text_fault input ≡ Some at → answer ≡ status.BadBundle → text ≡ bad_bundle_line at → Says (OfBundle task) answer start now input text
says_of_text_fault task answer start now input text at found answered told = inl (record { answered = answered; at = at; found = found; told = told })

-- what a task tells of the image that the input spells
pub says_of_image : (task : ImageTask) (answer : Status) (start now : List Told) (input text : List ℕ) (m : Image) → SpellsImage input m → TellsOfImage task answer m start now text → IsServed answer → Says (OfImage task) answer start now input text
says_of_image task answer start now input text m spelt tells served = inr (record { image = m; spelt = spelt; tells = tells; served = served })

-- the first fault of bytes
pub says_of_bytes_fault : (task : ImageTask) (answer : Status) (start now : List Told) (input text : List ℕ) (offset : ℕ) (kind : ImageKind) → Causes (bytes_fault.At offset kind) (image_fault input) → ((m : Image) → SpellsImage input m → ⊥) → answer ≡ status.BadImage → text ≡ bad_image_line offset kind → Says (OfImage task) answer start now input text
says_of_bytes_fault task answer start now input text offset kind found unspelled answered told = inl (record { answered = answered; offset = offset; kind = kind; found = found; told = told; unspelled = unspelled })

-- what a task tells of a bundle's text and a journal
pub says_of_journal : (task : JournalTask) (result : Result Reply NoMemory) (bundle_text journal : List ℕ) (b : Bundle) → Spells bundle_text b → IfOk result (λ r. TellsOfJournal task r.status b journal r.text.items) → IfOk result (λ r. FitsJournal task b journal → IsServed r.status) → IfOk result (λ r. SaysOfParts task r.status bundle_text journal r.text.items)
says_of_journal task (Ok r) bundle_text journal b spelt tells served = inr (record { bundle = b; spelt = spelt; tells = tells; served = served })
says_of_journal task (Err why) bundle_text journal b spelt tells served = tt

pub says_of_bundle_fault : (task : JournalTask) (result : Result Reply NoMemory) (bundle_text journal : List ℕ) (at : At) → text_fault bundle_text ≡ Some at → IfOk result (λ r. (r.status ≡ status.BadBundle) × (r.text.items ≡ bad_bundle_line at)) → IfOk result (λ r. SaysOfParts task r.status bundle_text journal r.text.items)
says_of_bundle_fault task (Ok r) bundle_text journal at found told = inl (record { answered = told.0; at = at; found = found; told = told.1 })
says_of_bundle_fault task (Err why) bundle_text journal at found told = tt

-- the parts of an input, the first of which may be too long
pub says_of_long_part : (task : JournalTask) (result : Result Reply NoMemory) (input part : List ℕ) → part ≡ bundle_part input → LONGEST_BUNDLE < length part → IfOk result (λ r. (r.status ≡ status.TooLong) × (r.text.items ≡ too_long_line LONGEST_BUNDLE)) → IfOk result (λ r. SaysOfJournal task r.status input r.text.items)
says_of_long_part task (Ok r) input part is above told =
    inl (record { answered = told.0; above = subst (λ l. LONGEST_BUNDLE < length l) is above; told = told.1 })
says_of_long_part task (Err why) input part is above told = tt

pub says_of_parts : (task : JournalTask) (result : Result Reply NoMemory) (input part journal : List ℕ) → part ≡ bundle_part input → journal ≡ journal_part input → length part ≤ LONGEST_BUNDLE → IfOk result (λ r. SaysOfParts task r.status part journal r.text.items) → IfOk result (λ r. SaysOfJournal task r.status input r.text.items)
says_of_parts task (Ok r) input part journal is rest short says = inr (record {
  short = subst (λ l. length l ≤ LONGEST_BUNDLE) is short;
  says = subst (λ l. SaysOfParts task r.status l (journal_part input) r.text.items) is (subst (λ l. SaysOfParts task r.status part l r.text.items) rest says);
})
says_of_parts task (Err why) input part journal is rest short says = tt

-- what is said of an input that was read to its end is asked for
pub asks_of_input : (task : Task) (answer : Status) (left left' : Option (List ℕ)) (start now : List Told) (input text : List ℕ) → IsWhole left input left' (limit_of task) → Says task answer start now input text → AsksOfInput task answer left left' start now text
asks_of_input task answer left left' start now input text whole says = inr (record { input = input; whole = whole; says = says })

-- an input of more bytes than the limit
pub asks_of_length : (task : Task) (answer : Status) (left left' : Option (List ℕ)) (start now : List Told) (text taken : List ℕ) → Gives left taken left' → length taken ≡ limit_of task + 1 → answer ≡ status.TooLong → text ≡ too_long_line (limit_of task) → AsksOfInput task answer left left' start now text
asks_of_length task answer left left' start now text taken given above answered told =
    inl (record { answered = answered; taken = taken; given = given; above = above; told = told })

-- words that ask for no task
pub asks_of_usage : (answer : Status) (wanted : Option Job) (left : Option (List ℕ)) (start now : List Told) (text : List ℕ) → wanted ≡ None → answer ≡ status.Usage → text ≡ usage_line → Asks answer wanted left left start now text
asks_of_usage answer wanted left start now text none answered told =
    inl (record { answered = answered; meaningless = none; untouched = refl; told = told })

-- words that ask for the run of a generated bundle
pub asks_of_number : (answer : Status) (wanted : Option Job) (left : Option (List ℕ)) (start now : List Told) (text : List ℕ) (number : ℕ) → wanted ≡ Some (Soak number) → TellsSoak number answer text → (FitsFile (generated number) → IsServed answer) → Asks answer wanted left left start now text
asks_of_number answer wanted left start now text number asked tells served =
    inr (inl (record { number = number; asked = asked; untouched = refl; tells = tells; served = served }))

-- words that ask for a task
pub asks_of_task : (answer : Status) (wanted : Option Job) (left left' : Option (List ℕ)) (start now : List Told) (text : List ℕ) (task : Task) → wanted ≡ Some (OfInput task) → AsksOfInput task answer left left' start now text → Asks answer wanted left left' start now text
asks_of_task answer wanted left left' start now text task asked tells = inr (inr (record { task = task; asked = asked; tells = tells }))

pub silent_of_words : (why : Silence) (wanted : Option Job) (left left' : Option (List ℕ)) (faults faults' : ℕ) (task : Task) → wanted ≡ Some (OfInput task) → FailsToRead task why left left' faults faults' → IsSilent why wanted left left' faults faults'
silent_of_words silence.ReadFault wanted left left' faults faults' task asked fails = (task, asked, fails)
silent_of_words silence.NoMemory wanted left left' faults faults' task asked fails = tt
