-- The first line of a text, as an entry.
use Rattle.std.specs.Prelude.{◌≡◌, ℕ, ◌<◌, List, ◌∷◌, length}
use Rattle.world.specs.declared.event.Entry.{Entry}
use Rattle.journal_text.specs.Entries.{entry_words, IsFitting, IsNoEntry}
use Rattle.journal_text.specs.Journals.{lines_of, IsJournal}

-- the first line of a text is that of this entry, and this is the text behind it
pub record IsFirstEntry (text : List ℕ) (e : Entry) (behind : List ℕ) : Type 0 where
  pub fitting : IsFitting e
  pub lines : lines_of text ≡ entry_words e ∷ lines_of behind
  pub shorter : length behind < length text

-- the first line of a text is that of no entry
pub record BeginsAstray (text : List ℕ) : Type 0 where
  pub line : List ℕ
  pub rest : List (List ℕ)
  pub lines : lines_of text ≡ line ∷ rest
  pub none : IsNoEntry line

-- each line of a text is that of an entry
pub record HasEntries (text : List ℕ) : Type 0 where
  pub entries : List Entry
  pub read : IsJournal text entries
