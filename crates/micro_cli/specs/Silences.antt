-- Why a call has nothing to write.
use Rattle.std.specs.Prelude.{◌≡◌, ℕ, List, Option, Some}
use Rattle.micro_kit.specs.Streams.{Rose, GivesAtMost}
use Rattle.commands.specs.declared.task.Job.{Job}
use Rattle.commands.specs.declared.task.Job.TheVariants.{OfInput}
use Rattle.commands.specs.declared.task.Task.{Task}
use Rattle.micro_cli.specs.declared.command.Silence.{Silence}
use Rattle.micro_cli.specs.declared.command.Silence.TheVariants as silence
use Rattle.micro_cli.specs.Lines.{limit_of}

-- a read failed, before more bytes than the task's limit were taken; or memory was wanting
abbrev pub FailsToRead : Task → Silence → Option (List ℕ) → Option (List ℕ) → ℕ → ℕ → Type 0
FailsToRead task silence.ReadFault left left' faults faults' = Rose faults faults' × GivesAtMost left (limit_of task) left'
FailsToRead task silence.NoMemory left left' faults faults' = Unit {0}

-- the same, the words asking for a task
abbrev pub IsSilent : Silence → Option Job → Option (List ℕ) → Option (List ℕ) → ℕ → ℕ → Type 0
IsSilent silence.ReadFault wanted left left' faults faults' =
    (task : Task) × (wanted ≡ Some (OfInput task)) × FailsToRead task silence.ReadFault left left' faults faults'
IsSilent silence.NoMemory wanted left left' faults faults' = Unit {0}
