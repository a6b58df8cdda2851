-- Command lines that mean the same, and words that leave no meaning.
use Rattle.std.specs.Prelude.{◌≡◌, Bool, true, false, List, ◌∷◌, ◌++◌, map, Some, codes}
use Rattle.std.specs.List.{list_any}
use Rattle.command_words.specs.Texts.{Text, OptionName, steps, order, Word, plain, names, sets, stray, Texts, begins_with_hyphen, word_of, texts_of}

-- `--NAME`
abbrev pub spelt : OptionName → Text
spelt steps = codes "--steps"
spelt order = codes "--order"

-- `--NAME=`
abbrev pub attached : OptionName → Text
attached steps = codes "--steps="
attached order = codes "--order="

abbrev pub is_stray : Word → Bool
is_stray stray = true
is_stray (plain w) = false
is_stray (names n) = false
is_stray (sets n v) = false

-- one of the words is stray, as `--` or `-h`
abbrev pub HasStray : List Text → Type 0
HasStray words = list_any is_stray (map word_of words) ≡ true

-- no word is stray, and each option has its value
abbrev pub AreWhole : List Text → Type 0
AreWhole words = (t : Texts) × (texts_of (map word_of words) ≡ Some t)

-- an option that stands behind whole words in the one command line stands in front of them in the other
pub record MovesToFront (words others : List Text) : Type 0 where
  pub name : OptionName
  pub value : Text
  pub before : List Text
  pub after : List Text
  pub whole : AreWhole before
  pub here : words ≡ before ++ (attached name ++ value) ∷ after
  pub there : others ≡ (attached name ++ value) ∷ before ++ after

-- an option's value is a word of its own in the one command line, and attached in the other
pub record Attaches (words others : List Text) : Type 0 where
  pub name : OptionName
  pub value : Text
  pub before : List Text
  pub after : List Text
  pub whole : AreWhole before
  pub unhyphened : begins_with_hyphen value ≡ false
  pub here : words ≡ before ++ spelt name ∷ value ∷ after
  pub there : others ≡ before ++ (attached name ++ value) ∷ after

-- an option is given twice
pub record GivesTwice (words : List Text) : Type 0 where
  pub name : OptionName
  pub value : Text
  pub again : Text
  pub before : List Text
  pub between : List Text
  pub after : List Text
  pub whole : AreWhole before
  pub whole_between : AreWhole between
  pub here : words ≡ before ++ (attached name ++ value) ∷ (between ++ (attached name ++ again) ∷ after)
