-- What a task tells of a bundle and a journal.
use Rattle.std.specs.Prelude.{◌≡◌, ℕ, ◌⊎◌, List, ◌++◌, Some, decimal, codes}
use Rattle.micro_isa.specs.declared.program.Bundle.{Bundle}
use Rattle.micro_isa.specs.declared.image.Image.{Image}
use Rattle.micro_kit.specs.Text.{newline}
use Rattle.world.specs.declared.event.Entry.{Entry}
use Rattle.semantics.specs.Events.{Config}
use Rattle.semantics.specs.Entries.{LeadsTo}
use Rattle.semantics.specs.Machine.{Machine, machine_semantics, machine_open}
use Rattle.allocate.specs.declared.allocation.Allocation.{Allocation}
use Rattle.allocate.specs.Allocations.{IsAllocation}
use Rattle.journal_text.specs.Entries.{entry_words}
use Rattle.journal_text.specs.Journals.{IsJournal, IsFirstStray, AreEntries}
use Rattle.run_journal.specs.declared.replaying.ReplayFault.{ReplayFault}
use Rattle.run_journal.specs.declared.replaying.ReplayFault.TheVariants as fault
use Rattle.run_journal.specs.Replays.{StraysBy, IsRefused}
use Rattle.commands.specs.declared.status.Status.{Status}
use Rattle.commands.specs.declared.status.Status.TheVariants as status
use Rattle.commands.specs.declared.task.JournalTask.{JournalTask}
use Rattle.commands.specs.declared.task.JournalTask.TheVariants as journal
use Rattle.commands.specs.Reports.{IsReportOfEntries}
use Rattle.commands.specs.Tells.{WhereItFits, FitsFile}

-- `journal E reading`
abbrev pub unread_line : ℕ → List ℕ
unread_line at = codes "journal " ++ decimal at ++ codes " reading" ++ newline

-- `journal E illegal ENTRY`
abbrev pub illegal_line : ℕ → Entry → List ℕ
illegal_line at written = codes "journal " ++ decimal at ++ codes " illegal " ++ entry_words written ++ newline

-- `journal E differs ENTRY found ENTRY`
abbrev pub differs_line : ℕ → Entry → Entry → List ℕ
differs_line at written found =
    codes "journal " ++ decimal at ++ codes " differs " ++ entry_words written ++ codes " found " ++ entry_words found ++ newline

-- a line is no entry, and the first such one is told
pub record IsUnread (lines : List ℕ) (answer : Status) (text : List ℕ) : Type 0 where
  pub answered : answer ≡ status.BadJournal
  pub at : ℕ
  pub stray : IsFirstStray lines at
  pub unread : (entries : List Entry) → IsJournal lines entries → ⊥
  pub told : text ≡ unread_line at

-- the line that tells where entries stray
abbrev pub TellsStray : ReplayFault → List ℕ → Type 0
TellsStray (fault.Illegal at written) text = text ≡ illegal_line at written
TellsStray (fault.Differs at written found) text = text ≡ differs_line at written found
TellsStray fault.NoMemory text = ⊥

-- entries that are not legal, and the first that is illegal or differs is told
pub record IsStray (steps : ℕ) (m : Image) (entries : List Entry) (answer : Status) (text : List ℕ) : Type 0 where
  pub answered : answer ≡ status.BadJournal
  pub why : ReplayFault
  pub strays : StraysBy why m steps entries
  pub refused : IsRefused why m steps entries
  pub told : TellsStray why text

-- entries that are not legal; or they are, and the text is their report
abbrev pub EntriesReplayed : ℕ → Image → ℕ → List Entry → Status → List ℕ → Type 0
EntriesReplayed steps m need entries answer text =
    IsStray steps m entries answer text ⊎ IsReportOfEntries steps m (Some need) entries answer text

-- every line is an entry, and this is told of the entries
pub record IsRead (steps : ℕ) (m : Image) (need : ℕ) (lines : List ℕ) (answer : Status) (text : List ℕ) : Type 0 where
  pub entries : List Entry
  pub are : AreEntries lines entries
  pub replayed : EntriesReplayed steps m need entries answer text

-- what a replay tells of an image, which was made for a bundle of this need, and of the lines of a journal
abbrev pub Replayed : ℕ → Image → ℕ → List ℕ → Status → List ℕ → Type 0
Replayed steps m need lines answer text = IsUnread lines answer text ⊎ IsRead steps m need lines answer text

-- what a task tells of a bundle and a journal
abbrev pub TellsOfJournal : JournalTask → Status → Bundle → List ℕ → List ℕ → Type 0
TellsOfJournal (journal.Replay steps) answer b lines text =
    WhereItFits (λ a. Replayed steps a.image a.need lines answer text) answer b text

-- the lines are entries that are legal for an image
pub record IsLegalJournal (steps : ℕ) (m : Image) (lines : List ℕ) : Type 0 where
  pub entries : List Entry
  pub read : IsJournal lines entries
  pub last : Config Machine
  pub legal : LeadsTo (machine_semantics m) (machine_open m steps) entries last

-- nothing in the bundle and the journal is a cause for which the task is refused
abbrev pub FitsJournal : JournalTask → Bundle → List ℕ → Type 0
FitsJournal (journal.Replay steps) b lines = FitsFile b × ((a : Allocation) → IsAllocation b a → IsLegalJournal steps a.image lines)
