-- What a call comes to before a port is asked or handed anything.
use Rattle.std.specs.Prelude.{ℕ, List, Bool, Option, IfSome}
use Rattle.ports.specs.declared.told.Told.{Told}
use Rattle.commands.specs.declared.status.Status.{Status}
use Rattle.commands.specs.declared.task.Job.{Job}
use Rattle.commands.specs.declared.task.Task.{Task}
use Rattle.commands.specs.Tells.{RunsBy}
use Rattle.micro_cli.specs.Answers.{Says, AsksOfInput, Asks}
use Rattle.micro_cli.specs.Words.{JobRunsBy}

-- what a task asks to be written for an input, in the order that it asks for
pub record SaysBy (task : Task) (input : List ℕ) (in_rounds : Bool) (answer : Status) (start now : List Told) (text : List ℕ) : Type 0 where
  pub says : RunsBy in_rounds task → Says task answer start now input text

-- the same, the input being read from a source
pub record AsksOfInputBy (task : Task) (left left' : Option (List ℕ)) (in_rounds : Bool) (answer : Status) (start now : List Told) (text : List ℕ) : Type 0 where
  pub asks : RunsBy in_rounds task → AsksOfInput task answer left left' start now text

-- the same for the job that the words ask for
pub record AsksBy (wanted : Option Job) (left left' : Option (List ℕ)) (in_rounds : Bool) (answer : Status) (start now : List Told) (text : List ℕ) : Type 0 where
  pub asks : IfSome wanted (JobRunsBy in_rounds) → Asks answer wanted left left' start now text
