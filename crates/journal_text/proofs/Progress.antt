-- How far a text was read, and how far it was searched.
use Rattle.std.specs.Prelude.{◌≡◌, ◌≤◌, ℕ, ◌+◌, List, ◌++◌, length, map, take, drop}
use Rattle.std.specs.List.{AllByRecursion}
use Rattle.world.specs.declared.event.Entry.{Entry}
use Rattle.journal_text.specs.Entries.{entry_words, IsFitting}
use Rattle.journal_text.specs.Journals.{lines_of, bundle_part, journal_part}

-- the lines of these entries were read, and this is the rest of the text
pub record ReadSoFar (text : List ℕ) (entries : List Entry) (rest : List ℕ) : Type 0 where
  pub fitting : AllByRecursion IsFitting entries
  pub lines : lines_of text ≡ map entry_words entries ++ lines_of rest
  pub few : length entries + length rest ≤ length text

-- so many lines were read, each as an entry
pub record Passed (text : List ℕ) (n : ℕ) (rest : List ℕ) : Type 0 where
  pub entries : List Entry
  pub sofar : ReadSoFar text entries rest
  pub many : n ≡ length entries

-- no line before this place is `journal`
pub record SearchedTo (text : List ℕ) (start : ℕ) : Type 0 where
  pub within : start ≤ length text
  pub bundle : bundle_part text ≡ take start text ++ bundle_part (drop start text)
  pub journal : journal_part text ≡ journal_part (drop start text)
