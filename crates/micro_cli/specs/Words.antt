-- The task that the words of the command line ask for.
use Rattle.std.specs.Prelude.{List, ℕ, Bool, true, false, Option, Some, None, option_map, option_and_then}
use Rattle.command_words.specs.declared.meaning.Meaning.{Meaning}
use Rattle.command_words.specs.declared.meaning.Verb.{Verb}
use Rattle.command_words.specs.declared.meaning.Verb.TheVariants as verb
use Rattle.command_words.specs.declared.meaning.Turns.{Turns}
use Rattle.command_words.specs.declared.meaning.Turns.TheVariants as turns
use Rattle.command_words.specs.Meaning.{words_meaning}
use Rattle.commands.specs.Tells.{IsBounded, RunsBy}
use Rattle.commands.specs.declared.task.Order.{Order}
use Rattle.commands.specs.declared.task.Order.TheVariants as order
use Rattle.commands.specs.declared.task.Job.{Job}
use Rattle.commands.specs.declared.task.Job.TheVariants.{OfInput, Soak}
use Rattle.commands.specs.declared.task.Task.{Task}
use Rattle.commands.specs.declared.task.Task.TheVariants.{OfBundle, OfImage, OfJournal}
use Rattle.commands.specs.declared.task.BundleTask.TheVariants as bundle
use Rattle.commands.specs.declared.task.ImageTask.TheVariants as image
use Rattle.commands.specs.declared.task.JournalTask.TheVariants as journal

-- the order in which the contexts have their turns; threads only where they are served
abbrev pub order_for : Bool → Turns → Option Order
order_for threads turns.Round = Some order.Round
order_for true turns.Threads = Some order.Threads
order_for false turns.Threads = None

-- the task of a command that has an input
abbrev pub task_for : Bool → Verb → Turns → ℕ → Option Task
task_for threads verb.Run t steps = option_map (λ o. OfBundle (bundle.Run steps o)) (order_for threads t)
task_for threads verb.Exec t steps = option_map (λ o. OfImage (image.Exec steps o)) (order_for threads t)
task_for threads verb.Source turns.Round steps = Some (OfBundle (bundle.Source steps))
task_for threads verb.Build turns.Round steps = Some (OfBundle bundle.Build)
task_for threads verb.Fmt turns.Round steps = Some (OfBundle bundle.Format)
task_for threads verb.Check turns.Round steps = Some (OfBundle bundle.Check)
task_for threads verb.Replay turns.Round steps = Some (OfJournal (journal.Replay steps))
task_for threads _ _ steps = None

abbrev pub task_of : Bool → Meaning → Option Task
task_of threads m = task_for threads m.verb m.turns m.steps

-- the bundle of a number is run by `soak`; another command has an input
abbrev pub job_for : Bool → Meaning → Option ℕ → Option Job
job_for threads m (Some number) = Some (Soak number)
job_for threads m None = option_map (λ task. OfInput task) (task_of threads m)

abbrev pub job_of : Bool → Meaning → Option Job
job_of threads m = job_for threads m m.number

-- the job that the words ask for; none where they mean nothing
abbrev pub job_asked : Bool → List (List ℕ) → Option Job
job_asked threads words = option_and_then (job_of threads) (words_meaning words)

-- the steps of a job with an input are few enough; those of `soak` are what they are
abbrev pub IsBoundedJob : Job → Type 0
IsBoundedJob (OfInput task) = IsBounded task
IsBoundedJob (Soak number) = Unit {0}

-- the order of a job with an input is that of the runner at hand; `soak` has its own
abbrev pub JobRunsBy : Bool → Job → Type 0
JobRunsBy in_rounds (OfInput task) = RunsBy in_rounds task
JobRunsBy in_rounds (Soak number) = Unit {0}
