-- From what is said of an input to what a call asks to be written, before and after a run.
use Rattle.std.proofs.Common.{◌≡◌, ℕ, ◌+◌, arith, List, [], length, Bool, Option, Some, None, refl, sym, subst}
use Rattle.std.specs.Prelude.{IfSome}
use Rattle.micro_isa.specs.declared.program.Bundle.{Bundle}
use Rattle.micro_isa.specs.declared.image.Image.{Image}
use Rattle.micro_kit.specs.Streams.{Gives, GivesAtMost, IsWhole}
use Rattle.asm_lines.specs.Faults.{At}
use Rattle.asm_text.specs.Texts.{text_fault, Spells}
use Rattle.image_load.specs.declared.fault.ImageKind.{ImageKind}
use Rattle.image_load.specs.declared.fault.ImageFault.TheVariants as bytes_fault
use Rattle.image_load.specs.Faults.{Causes}
use Rattle.image_load.specs.Spelling.{Spells as SpellsImage}
use Rattle.image_load.specs.Loading.{image_fault}
use Rattle.ports.specs.declared.told.Told.{Told}
use Rattle.soak_gen.specs.Bundles.{generated}
use Rattle.commands.specs.declared.status.Status.{Status}
use Rattle.commands.specs.declared.status.Status.TheVariants as status
use Rattle.commands.specs.declared.task.Job.{Job}
use Rattle.commands.specs.declared.task.Job.TheVariants.{OfInput, Soak}
use Rattle.commands.specs.declared.task.Task.{Task}
use Rattle.commands.specs.declared.task.Task.TheVariants.{OfBundle, OfImage, OfJournal}
use Rattle.commands.specs.declared.task.Reply.{Reply}
use Rattle.commands.specs.declared.task.BundleTask.{BundleTask}
use Rattle.commands.specs.declared.task.ImageTask.{ImageTask}
use Rattle.commands.specs.declared.task.JournalTask.{JournalTask}
use Rattle.commands.specs.declared.prepared.Opening.{Opening}
use Rattle.commands.specs.declared.prepared.Prepared.{Prepared}
use Rattle.commands.specs.declared.prepared.Prepared.TheVariants as prepared
use Rattle.commands.specs.Soaks.{TellsSoak}
use Rattle.commands.specs.Tells.{FitsFile, IsServed}
use Rattle.commands.specs.Openings.{Telling, TellsAtOnce, TellsInTheEnd, ComesTo, ToldOfBundle, ToldOfImage}
use Rattle.micro_cli.specs.Lines.{usage_line, limit_of, too_long_line, bad_bundle_line, bad_image_line}
use Rattle.micro_cli.specs.Answers.{SaysOfJournal, TookAtMost, most_read}
use Rattle.micro_cli.specs.Words.{JobRunsBy}
use Rattle.micro_cli.specs.Preparing.{SaysBy, AsksOfInputBy, AsksBy}
use Rattle.micro_cli.proofs.Replies.{says_of_bundle, says_of_text_fault, says_of_image, says_of_bytes_fault, asks_of_input, asks_of_length, asks_of_usage, asks_of_number, asks_of_task}

-- what tells one thing tells another that follows from it
at_once : (tells says : Telling) (r : Reply) → ((in_rounds : Bool) (answer : Status) (start now : List Told) (text : List ℕ) → tells in_rounds answer start now text → says in_rounds answer start now text) → TellsAtOnce tells r → TellsAtOnce says r
at_once tells says r so comes = record { told = λ in_rounds start. so in_rounds r.status start start r.text.items (comes.told in_rounds start) }

in_the_end : (tells says : Telling) (o : Opening) → ((in_rounds : Bool) (answer : Status) (start now : List Told) (text : List ℕ) → tells in_rounds answer start now text → says in_rounds answer start now text) → TellsInTheEnd tells o → TellsInTheEnd says o
in_the_end tells says o so comes = record {
  opens = comes.opens;
  told = λ in_rounds start now answer text report. so in_rounds answer start now text (comes.told in_rounds start now answer text report);
}

comes_to : (tells says : Telling) (p : Prepared) → ((in_rounds : Bool) (answer : Status) (start now : List Told) (text : List ℕ) → tells in_rounds answer start now text → says in_rounds answer start now text) → ComesTo tells p → ComesTo says p
comes_to tells says (prepared.Reply r) so comes = at_once tells says r so comes
comes_to tells says (prepared.Run o) so comes = in_the_end tells says o so comes

-- what a task tells of the bundle that an input spells
pub bundle_comes : (task : BundleTask) (input : List ℕ) (b : Bundle) (p : Prepared) → Spells input b → ComesTo (ToldOfBundle task b) p → ComesTo (SaysBy (OfBundle task) input) p
bundle_comes task input b p spelt comes = comes_to (ToldOfBundle task b) (SaysBy (OfBundle task) input) p
    (λ in_rounds answer start now text told. record { says = λ by. says_of_bundle task answer start now input text b spelt (told.tells by) (told.served by) }) comes

-- the first fault of a text
pub text_fault_comes : (task : BundleTask) (input : List ℕ) (r : Reply) (at : At) → text_fault input ≡ Some at → r.status ≡ status.BadBundle → r.text.items ≡ bad_bundle_line at → TellsAtOnce (SaysBy (OfBundle task) input) r
text_fault_comes task input r at found answered told = record {
  told = λ in_rounds start. record { says = λ by. says_of_text_fault task r.status start start input r.text.items at found answered told };
}

-- what a task tells of the image that an input spells
pub image_comes : (task : ImageTask) (input : List ℕ) (m : Image) (o : Opening) → SpellsImage input m → TellsInTheEnd (ToldOfImage task m) o → TellsInTheEnd (SaysBy (OfImage task) input) o
image_comes task input m o spelt comes = in_the_end (ToldOfImage task m) (SaysBy (OfImage task) input) o
    (λ in_rounds answer start now text told. record { says = λ by. says_of_image task answer start now input text m spelt (told.tells by) told.served }) comes

-- the first fault of bytes
pub bytes_fault_comes : (task : ImageTask) (input : List ℕ) (r : Reply) (offset : ℕ) (kind : ImageKind) → Causes (bytes_fault.At offset kind) (image_fault input) → ((m : Image) → SpellsImage input m → ⊥) → r.status ≡ status.BadImage → r.text.items ≡ bad_image_line offset kind → TellsAtOnce (SaysBy (OfImage task) input) r
bytes_fault_comes task input r offset kind found unspelled answered told = record {
  told = λ in_rounds start. record { says = λ by. says_of_bytes_fault task r.status start start input r.text.items offset kind found unspelled answered told };
}

-- what a task tells of a bundle's text and a journal
pub journal_comes : (task : Task) (t : JournalTask) (input : List ℕ) (r : Reply) → task ≡ OfJournal t → SaysOfJournal t r.status input r.text.items → TellsAtOnce (SaysBy task input) r
journal_comes task t input r is says = subst (λ x. TellsAtOnce (SaysBy x input) r) (sym is) (record { told = λ in_rounds start. record { says = λ by. says } })

-- an input that was read to its end
pub input_comes : (task : Task) (left left' : Option (List ℕ)) (input : List ℕ) (p : Prepared) → IsWhole left input left' (limit_of task) → ComesTo (SaysBy task input) p → ComesTo (AsksOfInputBy task left left') p
input_comes task left left' input p whole comes = comes_to (SaysBy task input) (AsksOfInputBy task left left') p
    (λ in_rounds answer start now text said. record { asks = λ by. asks_of_input task answer left left' start now input text whole (said.says by) }) comes

-- an input of more bytes than the limit
pub length_comes : (task : Task) (left left' : Option (List ℕ)) (taken : List ℕ) (r : Reply) → Gives left taken left' → length taken ≡ limit_of task + 1 → r.status ≡ status.TooLong → r.text.items ≡ too_long_line (limit_of task) → TellsAtOnce (AsksOfInputBy task left left') r
length_comes task left left' taken r given above answered told = record {
  told = λ in_rounds start. record { asks = λ by. asks_of_length task r.status left left' start start r.text.items taken given above answered told };
}

-- words that ask for nothing
pub usage_comes : (wanted : Option Job) (left : Option (List ℕ)) (r : Reply) → wanted ≡ None → r.status ≡ status.Usage → r.text.items ≡ usage_line → TellsAtOnce (AsksBy wanted left left) r
usage_comes wanted left r none answered told = record {
  told = λ in_rounds start. record { asks = λ by. asks_of_usage r.status wanted left start start r.text.items none answered told };
}

-- words that ask for the run of a generated bundle
pub number_comes : (wanted : Option Job) (left : Option (List ℕ)) (r : Reply) (number : ℕ) → wanted ≡ Some (Soak number) → TellsSoak number r.status r.text.items → (FitsFile (generated number) → IsServed r.status) → TellsAtOnce (AsksBy wanted left left) r
number_comes wanted left r number asked tells served = record {
  told = λ in_rounds start. record { asks = λ by. asks_of_number r.status wanted left start start r.text.items number asked tells served };
}

-- words that ask for a task
runs_by : (wanted : Option Job) (task : Task) (in_rounds : Bool) → wanted ≡ Some (OfInput task) → IfSome wanted (JobRunsBy in_rounds) → JobRunsBy in_rounds (OfInput task)
runs_by wanted task in_rounds is by = subst (λ w. IfSome w (JobRunsBy in_rounds)) is by

pub task_comes : (wanted : Option Job) (left left' : Option (List ℕ)) (task : Task) (p : Prepared) → wanted ≡ Some (OfInput task) → ComesTo (AsksOfInputBy task left left') p → ComesTo (AsksBy wanted left left') p
task_comes wanted left left' task p asked comes = comes_to (AsksOfInputBy task left left') (AsksBy wanted left left') p
    (λ in_rounds answer start now text input. record { asks = λ by. asks_of_task answer wanted left left' start now text task asked (input.asks (runs_by wanted task in_rounds asked by)) }) comes

-- how many bytes were taken

pub took_none : (most : ℕ) (left : Option (List ℕ)) → TookAtMost most left left
took_none most left = record { taken = []; given = by left; few = omega arith }
  where
    by : (o : Option (List ℕ)) → Gives o [] o
    by None = refl
    by (Some rest) = refl

pub took_whole : (limit : ℕ) (left left' : Option (List ℕ)) (input : List ℕ) → IsWhole left input left' limit → TookAtMost (limit + 1) left left'
took_whole limit left left' input whole = let few = whole.2 in record { taken = input; given = whole.0; few = omega (arith, few) }

pub took_some : (limit : ℕ) (left left' : Option (List ℕ)) → GivesAtMost left limit left' → TookAtMost (limit + 1) left left'
took_some limit left left' some = let few = some.2 in record { taken = some.0; given = some.1; few = omega (arith, few) }

pub took_more : (most : ℕ) (left left' : Option (List ℕ)) → GivesAtMost left most left' → TookAtMost most left left'
took_more most left left' some = record { taken = some.0; given = some.1; few = some.2 }

pub took_long : (most : ℕ) (left left' : Option (List ℕ)) (taken : List ℕ) → Gives left taken left' → length taken ≡ most → TookAtMost most left left'
took_long most left left' taken given count = record { taken = taken; given = given; few = omega (arith, count) }

-- what was taken for the task that the words ask for
pub took_of_task : (wanted : Option Job) (task : Task) (left left' : Option (List ℕ)) → wanted ≡ Some (OfInput task) → TookAtMost (limit_of task + 1) left left' → TookAtMost (most_read wanted) left left'
took_of_task wanted task left left' asked taken = subst (λ w. TookAtMost (most_read w) left left') (sym asked) taken
