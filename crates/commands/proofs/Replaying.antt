-- What a replay tells, from what its parts leave; and that what fits is served.
use Rattle.std.proofs.Common.{◌≡◌, ℕ, List, Option, Some, None, Result, Ok, Err, refl, sym, ap, ◌∙◌, subst, inl, inr}
use Rattle.std.specs.Prelude.{IfOk}
use Rattle.std.specs.Option.{option_or}
use Rattle.micro_isa.specs.declared.list.NoMemory.{NoMemory}
use Rattle.micro_isa.specs.declared.program.Bundle.{Bundle}
use Rattle.micro_isa.specs.declared.image.Image.{Image}
use Rattle.world.specs.declared.event.Entry.{Entry}
use Rattle.world.specs.declared.event.End.{End}
use Rattle.semantics.specs.Core.{Core, ending_of, shown_core}
use Rattle.semantics.specs.Events.{Config}
use Rattle.semantics.specs.Entries.{LeadsTo}
use Rattle.semantics.specs.Machine.{Machine, machine_semantics, machine_open}
use Rattle.engine_core.specs.EngineState.{config_of}
use Rattle.allocate.specs.declared.allocation.Allocation.{Allocation}
use Rattle.run_journal.specs.declared.replaying.ReplayFault.{ReplayFault}
use Rattle.run_journal.specs.declared.replaying.ReplayFault.TheVariants as fault
use Rattle.run_journal.specs.Histories.{RunState, run_ending}
use Rattle.run_journal.specs.declared.texts.TextFault.TheVariants.{Strays}
use Rattle.run_journal.specs.Replays.{Replays, IsRefused}
use Rattle.run_journal.specs.TextReplays.{ReplaysText, IsUnreadAt, StrayEntries, StraysInText}
use Rattle.report_run.specs.Report.{report_text}
use Rattle.commands.specs.declared.status.Status.{Status}
use Rattle.commands.specs.declared.status.Status.TheVariants as status
use Rattle.commands.specs.declared.task.Reply.{Reply}
use Rattle.commands.specs.declared.task.JournalTask.{JournalTask}
use Rattle.commands.specs.declared.task.JournalTask.TheVariants as journal
use Rattle.commands.specs.Reports.{status_so_far}
use Rattle.commands.specs.Allocating.{IsItsOwn}
use Rattle.commands.specs.Tells.{DoesNotFit, IsServed, steps_of_journal}
use Rattle.commands.specs.Journals.{unread_line, TellsStray, EntriesReplayed, Replayed, TellsOfJournal, IsLegalJournal, FitsJournal}
use Rattle.commands.proofs.Telling.{of_image, not_both, ended_served}

-- a line that is no entry
pub told_unread : (steps need at : ℕ) (m : Image) (lines : List ℕ) (result : Result Reply NoMemory) → IsUnreadAt lines at → IfOk result (λ r. (r.status ≡ status.BadJournal) × (r.text.items ≡ unread_line at)) → IfOk result (λ r. Replayed steps m need lines r.status r.text.items)
told_unread steps need at m lines (Ok r) is told =
    inl (record { answered = told.0; at = at; stray = is.stray; unread = is.unread; told = told.1 })
told_unread steps need at m lines (Err why) is told = tt

stray_by : (steps need : ℕ) (m : Image) (lines : List ℕ) (why : ReplayFault) (answer : Status) (text : List ℕ) → StrayEntries why m steps lines → answer ≡ status.BadJournal → TellsStray why text → Replayed steps m need lines answer text
stray_by steps need m lines why answer text s answered told =
    inr (record { entries = s.entries; are = s.are; replayed = inl (record { answered = answered; why = why; strays = s.strays; refused = s.refused; told = told }) })

stray_of : (steps need : ℕ) (m : Image) (lines : List ℕ) (why : ReplayFault) (answer : Status) (text : List ℕ) → StraysInText (Strays why) m steps lines → answer ≡ status.BadJournal → TellsStray why text → Replayed steps m need lines answer text
stray_of steps need m lines (fault.Illegal at written) answer text s answered told = stray_by steps need m lines (fault.Illegal at written) answer text s answered told
stray_of steps need m lines (fault.Differs at written found) answer text s answered told = stray_by steps need m lines (fault.Differs at written found) answer text s answered told
stray_of steps need m lines fault.NoMemory answer text s answered told = absurd told

-- lines whose entries stray
pub told_stray : (steps need : ℕ) (m : Image) (lines : List ℕ) (why : ReplayFault) (result : Result Reply NoMemory) → StraysInText (Strays why) m steps lines → IfOk result (λ r. (r.status ≡ status.BadJournal) × TellsStray why r.text.items) → IfOk result (λ r. Replayed steps m need lines r.status r.text.items)
told_stray steps need m lines why (Ok r) s told = stray_of steps need m lines why r.status r.text.items s told.0 told.1
told_stray steps need m lines why (Err none) s told = tt

-- without a pump a run ends as its engine
no_idle : (core : Core) (idle : ℕ) → idle ≡ 0 → run_ending core idle ≡ ending_of core
no_idle core idle none = ap (run_ending core) none ∙ by (ending_of core)
  where
    by : (o : Option End) → option_or o None ≡ o
    by None = refl
    by (Some end) = refl

report_of_entries : (steps need : ℕ) (m : Image) (entries : List Entry) (r : RunState) (answer : Status) (text : List ℕ) → Replays r m steps entries → LeadsTo (machine_semantics m) (machine_open m steps) entries (config_of r.engine) → answer ≡ status_so_far (run_ending r.engine.core r.idle) r.engine.core.phases → text ≡ report_text (Some need) (Some r.engine.image) r.engine.image.setting.channels r.entries (record { view = shown_core r.engine.core; file = Some r.engine.file; ending = run_ending r.engine.core r.idle }) → EntriesReplayed steps m need entries answer text
report_of_entries steps need m entries r answer text replays legal answered told =
    let end = no_idle r.engine.core r.idle replays.no_pump in inr (record {
      last = config_of r.engine;
      legal = legal;
      answered = answered ∙ ap (λ o. status_so_far o r.engine.core.phases) end;
      reported = told
          ∙ ap (λ (i : Image). report_text (Some need) (Some i) i.setting.channels r.entries (record { view = shown_core r.engine.core; file = Some r.engine.file; ending = run_ending r.engine.core r.idle })) replays.same_image
          ∙ ap (λ l. report_text (Some need) (Some m) m.setting.channels l (record { view = shown_core r.engine.core; file = Some r.engine.file; ending = run_ending r.engine.core r.idle })) replays.same_entries
          ∙ ap (λ o. report_text (Some need) (Some m) m.setting.channels entries (record { view = shown_core r.engine.core; file = Some r.engine.file; ending = o })) end;
    })

-- lines whose entries are those of a run
pub told_run : (steps need : ℕ) (m : Image) (lines : List ℕ) (r : RunState) (result : Result Reply NoMemory) → ReplaysText r m steps lines → LeadsTo (machine_semantics m) (machine_open m steps) r.entries (config_of r.engine) → IfOk result (λ reply. reply.status ≡ status_so_far (run_ending r.engine.core r.idle) r.engine.core.phases) → IfOk result (λ reply. reply.text.items ≡ report_text (Some need) (Some r.engine.image) r.engine.image.setting.channels r.entries (record { view = shown_core r.engine.core; file = Some r.engine.file; ending = run_ending r.engine.core r.idle })) → IfOk result (λ reply. Replayed steps m need lines reply.status reply.text.items)
told_run steps need m lines r (Ok reply) replays legal answered told =
    inr (record { entries = r.entries; are = replays.are; replayed = report_of_entries steps need m r.entries r reply.status reply.text.items replays.replays legal answered told })
told_run steps need m lines r (Err why) replays legal answered told = tt

-- a run that may go on is served
so_far_served : (core : Core) (o : Option End) → IsServed (status_so_far o core.phases)
so_far_served core None = tt
so_far_served core (Some end) = ended_served end core.phases

stray_unserved : (why : ReplayFault) (m : Image) (steps : ℕ) (entries : List Entry) (text : List ℕ) (last : Config Machine) → IsRefused why m steps entries → TellsStray why text → LeadsTo (machine_semantics m) (machine_open m steps) entries last → ⊥
stray_unserved (fault.Illegal at written) m steps entries text last refused told legal = refused last legal
stray_unserved (fault.Differs at written found) m steps entries text last refused told legal = refused last legal
stray_unserved fault.NoMemory m steps entries text last refused told legal = told

replayed_served : (steps need : ℕ) (m : Image) (entries : List Entry) (last : Config Machine) (answer : Status) (text : List ℕ) → LeadsTo (machine_semantics m) (machine_open m steps) entries last → EntriesReplayed steps m need entries answer text → IsServed answer
replayed_served steps need m entries last answer text legal (inl s) = absurd (stray_unserved s.why m steps entries text last s.refused s.told legal)
replayed_served steps need m entries last answer text legal (inr r) = subst IsServed (sym r.answered) (so_far_served r.last.core (ending_of r.last.core))

read_served : (steps need : ℕ) (m : Image) (answer : Status) (lines text : List ℕ) → IsLegalJournal steps m lines → Replayed steps m need lines answer text → IsServed answer
read_served steps need m answer lines text legal (inl unread) = absurd (unread.unread legal.entries legal.read)
read_served steps need m answer lines text legal (inr read) =
    let same = read.are.alone legal.entries legal.read in
    replayed_served steps need m read.entries legal.last answer text
    (subst (λ l. LeadsTo (machine_semantics m) (machine_open m steps) l legal.last) same legal.legal)
    read.replayed

-- the image of a bundle that fits follows the journal, if there was memory for it
pub replay_tells : (t : JournalTask) (steps : ℕ) (result : Result Reply NoMemory) (b : Bundle) (lines : List ℕ) (a : Allocation) → steps ≡ steps_of_journal t → IsItsOwn b a → IfOk result (λ r. Replayed steps a.image a.need lines r.status r.text.items) → IfOk result (λ r. TellsOfJournal t r.status b lines r.text.items)
replay_tells (journal.Replay n) steps (Ok r) b lines a is own told =
    inr (of_image (λ x. Replayed n x.image x.need lines r.status r.text.items) b a own (subst (λ k. Replayed k a.image a.need lines r.status r.text.items) is told))
replay_tells t steps (Err why) b lines a is own told = tt

-- where nothing in the bundle and the journal is a cause, the task is served
pub replay_served : (t : JournalTask) (steps : ℕ) (result : Result Reply NoMemory) (b : Bundle) (lines : List ℕ) (a : Allocation) → steps ≡ steps_of_journal t → IsItsOwn b a → IfOk result (λ r. Replayed steps a.image a.need lines r.status r.text.items) → IfOk result (λ r. FitsJournal t b lines → IsServed r.status)
replay_served (journal.Replay n) steps (Ok r) b lines a is own told =
    λ fits. read_served n a.need a.image r.status lines r.text.items (fits.1 a own.allocated) (subst (λ k. Replayed k a.image a.need lines r.status r.text.items) is told)
replay_served t steps (Err why) b lines a is own told = tt

-- a bundle that does not fit its file
pub short_tells : (t : JournalTask) (r : Reply) (b : Bundle) (lines : List ℕ) → DoesNotFit r.status b r.text.items → TellsOfJournal t r.status b lines r.text.items
short_tells (journal.Replay n) r b lines short = inl short

pub short_serves : (t : JournalTask) (r : Reply) (b : Bundle) (lines : List ℕ) → DoesNotFit r.status b r.text.items → FitsJournal t b lines → IsServed r.status
short_serves (journal.Replay n) r b lines short fits = absurd (not_both r.status b r.text.items short fits.0)
