-- The first line of a text.
use Rattle.std.specs.Prelude.{◌≡◌, ℕ, ◌<◌, List, [], ◌∷◌, ◌++◌, length}
use Rattle.asm_lines.specs.Cutting.{lines_from}
use Rattle.journal_text.specs.Journals.{whole_from, is_mark}
use Rattle.std.specs.Str.{bytes_eq}
use Rattle.std.specs.Prelude.{codes}

-- a text is its first line, which these bytes are without a newline, and what stands behind
pub record IsFirstLine (text line behind : List ℕ) : Type 0 where
  pub whole : List ℕ
  pub parts : text ≡ whole ++ behind
  pub lines : lines_from [] text ≡ line ∷ lines_from [] behind
  pub wholes : whole_from [] text ≡ whole ∷ whole_from [] behind
  pub mark : is_mark whole ≡ bytes_eq line (codes "journal")
  pub shorter : length behind < length text
