-- The exit status of each answer.
use Rattle.std.specs.Prelude.{ℕ}
use Rattle.commands.specs.declared.status.Status.{Status}
use Rattle.commands.specs.declared.status.Status.TheVariants as status

abbrev pub code_of : Status → ℕ
code_of status.Done = 0
code_of status.Usage = 1
code_of status.BadBundle = 2
code_of status.NoFit = 3
code_of status.BadImage = 4
code_of status.Trapped = 5
code_of status.Stuck = 6
code_of status.Bound = 7
code_of status.ReadFault = 8
code_of status.WriteFault = 9
code_of status.NoMemory = 10
code_of status.TooLong = 11
code_of status.BadJournal = 12
code_of status.Idle = 13
