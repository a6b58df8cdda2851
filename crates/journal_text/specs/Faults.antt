-- Why no journal was read.
use Rattle.std.specs.Prelude.{ℕ, List}
use Rattle.world.specs.declared.event.Entry.{Entry}
use Rattle.journal_text.specs.declared.journal.JournalFault.{JournalFault}
use Rattle.journal_text.specs.declared.journal.JournalFault.TheVariants.{Reading, NoMemory}
use Rattle.journal_text.specs.Journals.{IsJournal, IsFirstStray}

-- a line that is no entry is the first such line; memory may always be wanting
abbrev pub StraysAt : JournalFault → List ℕ → Type 0
StraysAt (Reading at) text = IsFirstStray text at
StraysAt NoMemory text = Unit {0}

-- where a line is no entry, the text is no journal
abbrev pub IsUnread : JournalFault → List ℕ → Type 0
IsUnread (Reading at) text = (entries : List Entry) → IsJournal text entries → ⊥
IsUnread NoMemory text = Unit {0}
