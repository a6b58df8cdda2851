-- What a port tells and counts, and what a call may change of it.
use Rattle.std.specs.Prelude.{ℕ, ◌≡◌, ◌≤◌, List, [], ◌∷◌, Some, slice_get, slice_set, Bool, true, false}
use Rattle.micro_kit.specs.Streams.{Rose, Gives, Grew, IsSpent}
use Rattle.ports.specs.declared.port.Polled.{Polled}
use Rattle.ports.specs.declared.port.Polled.TheVariants as polled
use Rattle.ports.specs.declared.port.Given.{Given}
use Rattle.ports.specs.declared.port.Given.TheVariants as given
use Rattle.ports.specs.declared.told.Told.{Told}

-- the words of an answer
abbrev pub words_of : Polled → List ℕ
words_of (polled.Word w) = w ∷ []
words_of _ = []

-- an answer after which nothing more comes
abbrev pub ends : Polled → Bool
ends polled.Closed = true
ends polled.Failed = true
ends _ = false

-- which counts rise by an answer; a port that is closed has nothing left
abbrev pub CauseOf : Polled → Told → Told → Type 0
CauseOf polled.Closed old new =
    IsSpent old.left × Rose old.closings new.closings × (old.closings ≤ new.closings) × (new.faults ≡ old.faults)
CauseOf polled.Failed old new =
    Rose old.faults new.faults × (old.faults ≤ new.faults) × (new.closings ≡ old.closings)
CauseOf _ old new = (new.faults ≡ old.faults) × (new.closings ≡ old.closings)

-- one poll: what is answered, what is left, and which counts rise
pub record Polls (old : Told) (answer : Polled) (new : Told) : Type 0 where
  pub gives : Gives old.left (words_of answer) new.left
  pub taken : new.taken ≡ old.taken
  pub polls : Rose old.polls new.polls
  pub rises : old.polls ≤ new.polls
  pub cause : CauseOf answer old new

-- the words that an answer took
abbrev pub kept_of : ℕ → Given → List ℕ
kept_of word given.Took = word ∷ []
kept_of word given.Failed = []

-- the count of faults rises where a put failed, and only there
abbrev pub FaultOf : Given → Told → Told → Type 0
FaultOf given.Took old new = new.faults ≡ old.faults
FaultOf given.Failed old new = Rose old.faults new.faults × (old.faults ≤ new.faults)

-- one put: what is taken, and which counts rise
pub record Puts (old : Told) (word : ℕ) (answer : Given) (new : Told) : Type 0 where
  pub takes : Grew old.taken (kept_of word answer) new.taken
  pub left : new.left ≡ old.left
  pub polls : new.polls ≡ old.polls
  pub closings : new.closings ≡ old.closings
  pub cause : FaultOf answer old new

-- the port j went from what it told to what it tells, and every other stayed as it was
pub record Changes (P : Told → Told → Type 0) (old : List Told) (j : ℕ) (new : List Told) : Type 0 where
  pub before : Told
  pub after : Told
  pub there : slice_get old j ≡ Some before
  pub did : P before after
  pub changed : new ≡ slice_set old j after
