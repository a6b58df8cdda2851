-- How the words of a command line are split.
use Rattle.std.specs.Prelude.{ℕ, ◌==◌, ◌&&◌, Bool, true, false, List, [], ◌∷◌, Option, Some, None, if◌then◌else◌, codes, option_map, slice_get}
use Rattle.std.specs.Str.{bytes_eq}

abbrev pub Text : Type 0
Text = List ℕ

pub data OptionName : Type 0 where
  steps : OptionName
  order : OptionName

-- a word: one that begins with no hyphen; `--steps`, whose value is the next word; `--steps=V`; or another with a hyphen
pub data Word : Type 0 where
  plain : Text → Word
  names : OptionName → Word
  sets : OptionName → Text → Word
  stray : Word

abbrev pub begins_with_hyphen : Text → Bool
begins_with_hyphen [] = false
begins_with_hyphen (c ∷ cs) = c == 45

-- what follows `start`, where the word begins with it
abbrev pub after : Text → Text → Option Text
after [] w = Some w
after (p ∷ ps) [] = None
after (p ∷ ps) (c ∷ cs) = if p == c then after ps cs else None

abbrev pub sets_one_of : Option Text → Option Text → Word
sets_one_of (Some v) _ = sets steps v
sets_one_of None (Some v) = sets order v
sets_one_of None None = stray

abbrev pub hyphened : Text → Word
hyphened w =
    if bytes_eq w (codes "--steps") then names steps
    else (if bytes_eq w (codes "--order") then names order
    else sets_one_of (after (codes "--steps=") w) (after (codes "--order=") w))

abbrev pub word_of : Text → Word
word_of w = if begins_with_hyphen w then hyphened w else plain w

-- the plain words that belong to no option, and the values of each option, in order
pub record Texts : Type 0 where
  pub plains : List Text
  pub steps : List Text
  pub orders : List Text

abbrev pub with_plain : Text → Texts → Texts
with_plain w t = record t { plains = w ∷ t.plains }

abbrev pub with_value : OptionName → Text → Texts → Texts
with_value steps v t = record t { steps = v ∷ t.steps }
with_value order v t = record t { orders = v ∷ t.orders }

-- an option's value is attached to it or is the next word, which then is plain; no stray word is taken
abbrev pub texts_of : List Word → Option Texts
texts_of [] = Some (record { plains = []; steps = []; orders = [] })
texts_of (plain w ∷ rest) = option_map (with_plain w) (texts_of rest)
texts_of (names n ∷ plain v ∷ rest) = option_map (with_value n v) (texts_of rest)
texts_of (sets n v ∷ rest) = option_map (with_value n v) (texts_of rest)
texts_of _ = None

-- the parts of a command line: the command, what follows it, and the value of each option
pub record Parts : Type 0 where
  pub command : Option Text
  pub number : Option Text
  pub steps : Option Text
  pub order : Option Text

abbrev pub is_at_most_one : List Text → Bool
is_at_most_one [] = true
is_at_most_one (x ∷ []) = true
is_at_most_one (x ∷ y ∷ rest) = false

abbrev pub is_at_most_two : List Text → Bool
is_at_most_two [] = true
is_at_most_two (x ∷ rest) = is_at_most_one rest

-- two plain words at most, and each option at most once
abbrev pub parts_of : Texts → Option Parts
parts_of t =
    if is_at_most_two t.plains && (is_at_most_one t.steps && is_at_most_one t.orders)
    then Some (record {
      command = slice_get t.plains 0;
      number = slice_get t.plains 1;
      steps = slice_get t.steps 0;
      order = slice_get t.orders 0;
    }) else None
