-- What the ports in memory answer, and how they stand after it.
use Rattle.std.specs.Prelude.{◌≡◌, ℕ, ◌+◌, ◌-◌, ◌^◌, ◌%◌, min, List, [], ◌∷◌, length, drop, Option, Some, None, ◌==◌, if◌then◌else◌}
use Rattle.std.specs.List.{flat_map}
use Rattle.ports.specs.declared.port.Polled.{Polled}
use Rattle.ports.specs.declared.port.Polled.TheVariants as polled
use Rattle.ports.specs.declared.port.Given.{Given}
use Rattle.ports.specs.declared.port.Given.TheVariants as given
use Rattle.ports.specs.declared.told.Told.{Told}
use Rattle.ports.specs.Tales.{words_of, kept_of}

-- what a port tells that was not asked yet
abbrev pub told_first : Option (List ℕ) → Option (List ℕ) → Told
told_first left taken = record { left = left; taken = taken; faults = 0; polls = 0; closings = 0 }

-- the next of these words, or that none is left
abbrev pub next_word : Option (List ℕ) → Polled
next_word (Some (word ∷ words)) = polled.Word word
next_word _ = polled.Closed

-- a tally: how many words it took, their sum modulo 2^32, how often it was asked, and how often it answered that it is closed
pub record TallyState : Type 0 where
  pub count : ℕ
  pub sum : ℕ
  pub polls : ℕ
  pub closings : ℕ

-- a tally has no word to give, never fails, and does not tell what it took
abbrev pub tallied : TallyState → Told
tallied t = record { left = Some []; taken = None; faults = 0; polls = t.polls; closings = t.closings }

-- a tally that took one word more
abbrev pub with_word : TallyState → ℕ → TallyState
with_word t word = record t { count = min (t.count + 1) (2 ^ 64 - 1); sum = (t.sum + word) % 2 ^ 32 }

-- a script: what it tells, its answers to the next polls and puts, and how many words it still takes
pub record ScriptState : Type 0 where
  pub told : Told
  pub polls : List Polled
  pub gives : List Given
  pub room : ℕ

-- the words that these answers give
abbrev pub words_in : List Polled → List ℕ
words_in polls = flat_map words_of polls

abbrev pub closes_at : Polled → List Polled → Type 0
closes_at polled.Closed later = words_in later ≡ []
closes_at _ later = Unit {0}

-- no word stands behind an answer that the port is closed
abbrev pub closes_for_good : List Polled → Type 0
closes_for_good [] = Unit {0}
closes_for_good (answer ∷ later) = closes_at answer later × closes_for_good later

-- a script at its beginning
abbrev pub script_of : List Polled → List Given → ℕ → ScriptState
script_of polls gives room = record { told = told_first (Some (words_in polls)) (Some []); polls = polls; gives = gives; room = room }

-- the first of the answers, and behind the last that the port is closed
abbrev pub next_poll : List Polled → Polled
next_poll [] = polled.Closed
next_poll (answer ∷ later) = answer

-- the first of the answers, and behind the last that the word was taken
abbrev pub next_put : List Given → Given
next_put [] = given.Took
next_put (answer ∷ later) = answer

-- a put fails where there is no room
abbrev pub put_answer : ScriptState → Given
put_answer s = if s.room == 0 then given.Failed else next_put s.gives

-- a script after a poll, which tells this
abbrev pub after_poll : ScriptState → Told → ScriptState
after_poll s told = record s { told = told; polls = drop 1 s.polls }

-- a script after a put of a word, which answered this and tells this
abbrev pub after_put : ScriptState → ℕ → Given → Told → ScriptState
after_put s word answer told = record s { told = told; gives = drop 1 s.gives; room = s.room - length (kept_of word answer) }
