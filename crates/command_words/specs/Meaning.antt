-- What the words of a command line mean.
use Rattle.std.specs.Prelude.{ℕ, Bool, true, false, List, map, Option, Some, None, if◌then◌else◌, codes, nat_le, option_map, option_and_then}
use Rattle.std.specs.Str.{bytes_eq}
use Rattle.micro_isa.specs.declared.limits.TheConstants.{MOST_STEPS}
use Rattle.micro_kit.specs.Numbers.{number_of}
use Rattle.command_words.specs.declared.meaning.Meaning.{Meaning}
use Rattle.command_words.specs.declared.meaning.Verb.{Verb}
use Rattle.command_words.specs.declared.meaning.Verb.TheVariants as verb
use Rattle.command_words.specs.declared.meaning.Turns.{Turns}
use Rattle.command_words.specs.declared.meaning.Turns.TheVariants as turns
use Rattle.command_words.specs.declared.reading.TheConstants.{DEFAULT_STEPS}
use Rattle.command_words.specs.Texts.{Text, Parts, word_of, texts_of, parts_of}

-- a command is written in small letters
abbrev pub verb_of : Text → Option Verb
verb_of w =
    if bytes_eq w (codes "check") then Some verb.Check
    else (if bytes_eq w (codes "fmt") then Some verb.Fmt
    else (if bytes_eq w (codes "build") then Some verb.Build
    else (if bytes_eq w (codes "run") then Some verb.Run
    else (if bytes_eq w (codes "exec") then Some verb.Exec
    else (if bytes_eq w (codes "source") then Some verb.Source
    else (if bytes_eq w (codes "replay") then Some verb.Replay
    else (if bytes_eq w (codes "soak") then Some verb.Soak else None)))))))

-- `soak` has one number, and no other command has one
abbrev pub number_for : Verb → Option Text → Option (Option ℕ)
number_for verb.Soak (Some n) = option_map (λ k. Some k) (number_of n)
number_for verb.Soak None = None
number_for _ (Some n) = None
number_for _ None = Some None

-- the commands that run or follow something have a bound of their steps
abbrev pub is_bounded : Verb → Bool
is_bounded verb.Run = true
is_bounded verb.Exec = true
is_bounded verb.Source = true
is_bounded verb.Replay = true
is_bounded _ = false

abbrev pub bound_of : ℕ → Option ℕ
bound_of n = if nat_le n MOST_STEPS then Some n else None

-- within the limit of steps where the command has a bound, and so many where none is given
abbrev pub steps_for : Verb → Option Text → Option ℕ
steps_for v None = Some DEFAULT_STEPS
steps_for v (Some n) = if is_bounded v then option_and_then bound_of (number_of n) else None

-- the commands that run an image have an order of turns
abbrev pub is_ordered : Verb → Bool
is_ordered verb.Run = true
is_ordered verb.Exec = true
is_ordered _ = false

abbrev pub turns_of : Text → Option Turns
turns_of w =
    if bytes_eq w (codes "round") then Some turns.Round
    else (if bytes_eq w (codes "threads") then Some turns.Threads else None)

-- `round` or `threads` where the command has an order, and round where none is given
abbrev pub turns_for : Verb → Option Text → Option Turns
turns_for v None = Some turns.Round
turns_for v (Some w) = if is_ordered v then turns_of w else None

abbrev pub meaning_for : Verb → Parts → Option Meaning
meaning_for v p =
    option_and_then (λ number. option_and_then (λ steps. option_map (λ turns. record {
      verb = v;
      number = number;
      steps = steps;
      turns = turns;
    }) (turns_for v p.order)) (steps_for v p.steps)) (number_for v p.number)

-- the meaning of the parts of a command line, which needs a command
abbrev pub meaning_of : Parts → Option Meaning
meaning_of p = option_and_then (λ v. meaning_for v p) (option_and_then verb_of p.command)

-- the parts of a command line's words
abbrev pub words_parts : List Text → Option Parts
words_parts words = option_and_then parts_of (texts_of (map word_of words))

-- the meaning of a command line's words; none where they are no use of the program
abbrev pub words_meaning : List Text → Option Meaning
words_meaning words = option_and_then meaning_of (words_parts words)
