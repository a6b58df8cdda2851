-- A journal's text, and the text that has a bundle before it.
use Rattle.std.specs.Prelude.{◌≡◌, ℕ, ◌+◌, ◌==◌, Bool, List, [], ◌∷◌, ◌++◌, length, map, codes, if◌then◌else◌}
use Rattle.std.specs.List.{AllByRecursion, before_first, concat}
use Rattle.std.specs.Str.{bytes_eq}
use Rattle.asm_lines.specs.Cutting.{piece, lines_from}
use Rattle.world.specs.declared.event.Entry.{Entry}
use Rattle.journal_text.specs.Entries.{entry_words, IsFitting, IsNoEntry}

-- the lines of a text, without their newlines; what follows the last newline is one where it is not empty
abbrev pub lines_of : List ℕ → List (List ℕ)
lines_of text = lines_from [] text

-- each line is that of its entry
pub record IsJournal (text : List ℕ) (entries : List Entry) : Type 0 where
  pub lines : lines_of text ≡ map entry_words entries
  pub fitting : AllByRecursion IsFitting entries

-- the lines are these entries and no others
pub record AreEntries (text : List ℕ) (entries : List Entry) : Type 0 where
  pub read : IsJournal text entries
  pub alone : (other : List Entry) → IsJournal text other → other ≡ entries

-- the line of this number, counted from 1, is the first that is no entry
pub record IsFirstStray (text : List ℕ) (at : ℕ) : Type 0 where
  pub before : List Entry
  pub line : List ℕ
  pub rest : List (List ℕ)
  pub fitting : AllByRecursion IsFitting before
  pub lines : lines_of text ≡ map entry_words before ++ line ∷ rest
  pub place : at ≡ length before + 1
  pub none : IsNoEntry line

-- the lines of a text with their newlines, of which these bytes begin the first
abbrev pub whole_from : List ℕ → List ℕ → List (List ℕ)
whole_from sofar [] = piece sofar
whole_from sofar (c ∷ cs) = if c == 10 then (sofar ++ c ∷ []) ∷ whole_from [] cs else whole_from (sofar ++ c ∷ []) cs

-- a line that is the word `journal`
abbrev pub is_mark : List ℕ → Bool
is_mark line = bytes_eq (before_first (λ c. c == 10) line) (codes "journal")

-- the lines before the first that is `journal`
abbrev pub before_mark : List (List ℕ) → List ℕ
before_mark [] = []
before_mark (line ∷ lines) = if is_mark line then [] else line ++ before_mark lines

-- the lines behind it; none where no line is `journal`
abbrev pub behind_mark : List (List ℕ) → List ℕ
behind_mark [] = []
behind_mark (line ∷ lines) = if is_mark line then concat lines else behind_mark lines

-- the part of a text that is a bundle, and the part that is a journal
abbrev pub bundle_part : List ℕ → List ℕ
bundle_part text = before_mark (whole_from [] text)

abbrev pub journal_part : List ℕ → List ℕ
journal_part text = behind_mark (whole_from [] text)
