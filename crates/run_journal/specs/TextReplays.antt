-- A journal's text that is followed line by line, and why it is not that of a run.
use Rattle.std.specs.Prelude.{◌≡◌, ℕ, ◌+◌, List}
use Rattle.micro_isa.specs.declared.image.Image.{Image}
use Rattle.world.specs.declared.event.Entry.{Entry}
use Rattle.journal_text.specs.Journals.{IsJournal, IsFirstStray, AreEntries}
use Rattle.journal_text.specs.Firsts.{HasEntries}
use Rattle.run_journal.specs.declared.replaying.ReplayFault.{ReplayFault}
use Rattle.run_journal.specs.declared.replaying.ReplayFault.TheVariants as fault
use Rattle.run_journal.specs.declared.texts.TextFault.{TextFault}
use Rattle.run_journal.specs.declared.texts.TextFault.TheVariants as text_fault
use Rattle.run_journal.specs.Histories.{RunState}
use Rattle.run_journal.specs.Replays.{Replays, StraysBy, IsRefused}

-- the lines of a text are the entries of this run of the image and bound, which made no pump
pub record ReplaysText (r : RunState) (m : Image) (bound : ℕ) (text : List ℕ) : Type 0 where
  pub are : AreEntries text r.entries
  pub replays : Replays r m bound r.entries

-- a line is no entry, and this is the number of the first
pub record IsUnreadAt (text : List ℕ) (at : ℕ) : Type 0 where
  pub stray : IsFirstStray text at
  pub unread : (entries : List Entry) → IsJournal text entries → ⊥

-- each line is an entry, and these entries stray so
pub record StrayEntries (why : ReplayFault) (m : Image) (bound : ℕ) (text : List ℕ) : Type 0 where
  pub entries : List Entry
  pub are : AreEntries text entries
  pub strays : StraysBy why m bound entries
  pub refused : IsRefused why m bound entries

-- why the lines of a text are not the entries of a run; memory may always be wanting
abbrev pub StraysInText : TextFault → Image → ℕ → List ℕ → Type 0
StraysInText (text_fault.Reading at) m bound text = IsUnreadAt text at
StraysInText (text_fault.Strays fault.NoMemory) m bound text = Unit {0}
StraysInText (text_fault.Strays why) m bound text = StrayEntries why m bound text

-- what is told where an entry strays, whose number is `at` and behind which this text stands
abbrev pub CausesBehind : TextFault → ReplayFault → ℕ → List ℕ → Type 0
CausesBehind (text_fault.Reading line) why at behind = (k : ℕ) × (line ≡ at + k) × IsFirstStray behind k
CausesBehind (text_fault.Strays told) why at behind = (told ≡ why) × HasEntries behind
