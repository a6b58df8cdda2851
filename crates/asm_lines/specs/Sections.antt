-- The lines that are still to be read, and the sections into which context lines part them.
use Rattle.std.specs.Prelude.{ℕ, ◌≡◌, ◌+◌, Bool, false, List, [], ◌∷◌, if◌then◌else◌, length, codes}
use Rattle.std.specs.Str.{bytes_eq}
use Rattle.asm_lines.specs.Cutting.{Words, TextLine}

-- a line whose first word is `context` begins a context
abbrev pub starts : Words → Bool
starts [] = false
starts (word ∷ words) = bytes_eq word (codes "context")

-- the lines before the next context line
abbrev pub ahead : List TextLine → List TextLine
ahead [] = []
ahead (line ∷ lines) = if starts line.words then [] else line ∷ ahead lines

-- the lines from the next context line on
abbrev pub after : List TextLine → List TextLine
after [] = []
after (line ∷ lines) = if starts line.words then line ∷ lines else after lines

-- the lines that are still to be read, and the number of the next one
pub record LinesLeft : Type 0 where
  pub number : ℕ
  pub lines : List TextLine

-- no line is left
pub record IsDone (old new : LinesLeft) : Type 0 where
  pub none : old.lines ≡ []
  pub same : new ≡ old

-- this line was the next one
pub record Takes (old : LinesLeft) (line : TextLine) (new : LinesLeft) : Type 0 where
  pub lines : old.lines ≡ line ∷ new.lines
  pub number : new.number ≡ old.number + 1

-- no line is left before the next context line
pub record IsAtEnd (old new : LinesLeft) : Type 0 where
  pub none : ahead old.lines ≡ []
  pub there : after old.lines ≡ old.lines
  pub same : new ≡ old

-- this line was the next one, and it begins no context
pub record TakesInside (old : LinesLeft) (line : TextLine) (new : LinesLeft) : Type 0 where
  pub ahead : ahead old.lines ≡ line ∷ ahead new.lines
  pub after : after old.lines ≡ after new.lines
  pub lines : old.lines ≡ line ∷ new.lines
  pub number : new.number ≡ old.number + 1

-- all lines before the next context line were read
pub record IsPast (old new : LinesLeft) : Type 0 where
  pub after : new.lines ≡ after old.lines
  pub count : new.number + length new.lines ≡ old.number + length old.lines
