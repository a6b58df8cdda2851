-- How a reply is written.
use Rattle.std.specs.Prelude.{◌≡◌, ℕ, ◌<◌, ◌⊎◌, List, length, take, Option, Result, Ok, Err}
use Rattle.micro_isa.specs.declared.list.NoMemory.{NoMemory}
use Rattle.micro_kit.specs.Streams.{Rose, Grew}
use Rattle.commands.specs.declared.status.Status.{Status}
use Rattle.commands.specs.declared.status.Status.TheVariants as status
use Rattle.commands.specs.declared.task.Reply.{Reply}
use Rattle.micro_cli.specs.declared.command.Silence.{Silence}
use Rattle.micro_cli.specs.declared.command.Silence.TheVariants as silence

-- the whole text was written, and the status is the one that was meant
pub record IsToldWhole (meant : Status) (text : List ℕ) (wrote wrote' : Option (List ℕ)) (answer : Status) : Type 0 where
  pub answered : answer ≡ meant
  pub grew : Grew wrote text wrote'

-- a write failed, the sink's faults having risen; a part of the text was written
pub record IsToldInPart (text : List ℕ) (wrote wrote' : Option (List ℕ)) (faults faults' : ℕ) (answer : Status) : Type 0 where
  pub answered : answer ≡ status.WriteFault
  pub rose : Rose faults faults'
  pub taken : ℕ
  pub part : taken < length text
  pub grew : Grew wrote (take taken text) wrote'

abbrev pub IsTold : Status → List ℕ → Option (List ℕ) → Option (List ℕ) → ℕ → ℕ → Status → Type 0
IsTold meant text wrote wrote' faults faults' answer =
    IsToldWhole meant text wrote wrote' answer ⊎ IsToldInPart text wrote wrote' faults faults' answer

-- a reply was written; or memory was wanting for it, and nothing was
abbrev pub IsToldOrFree : Result Reply NoMemory → Option (List ℕ) → Option (List ℕ) → ℕ → ℕ → Status → Type 0
IsToldOrFree (Ok r) wrote wrote' faults faults' answer = IsTold r.status r.text.items wrote wrote' faults faults' answer
IsToldOrFree (Err why) wrote wrote' faults faults' answer = (answer ≡ status.NoMemory) × (wrote' ≡ wrote)

-- the status where nothing is to be written
abbrev pub status_of_silence : Silence → Status
status_of_silence silence.ReadFault = status.ReadFault
status_of_silence silence.NoMemory = status.NoMemory
