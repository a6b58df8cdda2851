-- The words that are refused before the others are split.
use Rattle.std.specs.Prelude.{◌==◌, Bool, true, false, [], ◌∷◌, if◌then◌else◌}
use Rattle.command_words.specs.Texts.{Text}

abbrev pub is_double : Text → Bool
is_double [] = false
is_double (b ∷ []) = false
is_double (b ∷ x ∷ xs) = b == 45

-- a word that begins with a hyphen has a second one, and something behind both
abbrev pub is_fit : Text → Bool
is_fit [] = true
is_fit (a ∷ rest) = if a == 45 then is_double rest else true
