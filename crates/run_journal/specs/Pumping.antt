-- What a pump does: it asks the port of each input that can be fed, in channel order.
use Rattle.std.specs.Prelude.{◌≡◌, ℕ, zero, suc, ◌+◌, ◌<◌, List, [], ◌∷◌, ◌++◌, length, Option, Some, None, option_map, Bool, false, slice_get, if◌then◌else◌}
use Rattle.std.specs.Option.{is_some}
use Rattle.micro_isa.specs.declared.program.Channel.{Channel}
use Rattle.world.specs.declared.event.Entry.{Entry}
use Rattle.world.specs.declared.event.Entry.TheVariants as entry
use Rattle.world.specs.Channels.{ChannelState, with_word, without_port}
use Rattle.world.specs.WorldState.{WorldState, can_feed, after_feed, after_unplug}
use Rattle.semantics.specs.Core.{Core}
use Rattle.ports.specs.declared.told.Told.{Told}
use Rattle.ports.specs.declared.port.Polled.{Polled}
use Rattle.ports.specs.declared.port.Polled.TheVariants as polled
use Rattle.ports.specs.Tales.{Polls, words_of, ends, Changes}
use Rattle.run_journal.specs.Keeping.{port_at, NoChannelHas}
use Rattle.run_journal.specs.Room.{total}

-- the answer for a channel, if its port was asked
abbrev pub answer_at : List (Option Polled) → ℕ → Option Polled
answer_at [] k = None
answer_at (a ∷ rs) zero = a
answer_at (a ∷ rs) (suc k) = answer_at rs k

-- the entry that tells an answer, where one does
abbrev pub answered : ℕ → Option Polled → List Entry
answered k None = []
answered k (Some (polled.Word w)) = entry.Fed k w ∷ []
answered k (Some polled.Empty) = []
answered k (Some polled.Closed) = entry.Unplugged k ∷ []
answered k (Some polled.Failed) = entry.Unplugged k ∷ []

-- the entries of a pump, from channel k on
abbrev pub entries_from : ℕ → List (Option Polled) → List Entry
entries_from k [] = []
entries_from k (a ∷ rs) = answered k a ++ entries_from (k + 1) rs

-- a channel after the answer of its port
abbrev pub answered_channel : Option Polled → ChannelState → ChannelState
answered_channel None ch = ch
answered_channel (Some (polled.Word w)) ch = with_word w ch
answered_channel (Some polled.Empty) ch = ch
answered_channel (Some polled.Closed) ch = without_port ch
answered_channel (Some polled.Failed) ch = without_port ch

-- a port that was asked, or was not
abbrev pub PortAsked : Option Polled → Told → Told → Type 0
PortAsked None a b = b ≡ a
PortAsked (Some r) a b = Polls a r b

abbrev pub words_at : Option Polled → List ℕ
words_at None = []
words_at (Some r) = words_of r

abbrev pub ends_at : Option Polled → Bool
ends_at None = false
ends_at (Some r) = ends r

-- how many of these were asked, gave a word, or were lost
abbrev pub one_if : Bool → ℕ
one_if b = if b then 1 else 0

abbrev pub asked_in : List (Option Polled) → ℕ
asked_in rs = total (λ a. one_if (is_some a)) rs

abbrev pub fed_in : List (Option Polled) → ℕ
fed_in rs = total (λ a. length (words_at a)) rs

abbrev pub dropped_in : List (Option Polled) → ℕ
dropped_in rs = total (λ a. one_if (ends_at a)) rs

-- the ports of the channels below n were asked, where these could be fed, and gave these answers; the rest is as it was
pub record Asks (chs : List Channel) (before after : Core) (told told' : List Told) (answers : List (Option Polled)) (n : ℕ) : Type 0 where
  pub as_many : length answers ≡ n
  pub asked : (k : ℕ) → k < n → is_some (answer_at answers k) ≡ can_feed before.world k
  pub channels : (k : ℕ) → slice_get after.world.channels k ≡ option_map (answered_channel (answer_at answers k)) (slice_get before.world.channels k)
  pub core : after ≡ record before { world = record before.world { channels = after.world.channels } }
  pub tells : length told' ≡ length told
  pub ports : (k j : ℕ) (a b : Told) → port_at chs k ≡ Some j → slice_get told j ≡ Some a → slice_get told' j ≡ Some b → PortAsked (answer_at answers k) a b
  pub others : (j : ℕ) → NoChannelHas chs j → slice_get told' j ≡ slice_get told j

-- the world after an answer
abbrev pub after_answer : Option Polled → WorldState → ℕ → WorldState
after_answer None w k = w
after_answer (Some (polled.Word word)) w k = after_feed w k word
after_answer (Some polled.Empty) w k = w
after_answer (Some polled.Closed) w k = after_unplug w k
after_answer (Some polled.Failed) w k = after_unplug w k

-- the port of a channel answers, if it was asked, and the others are as they were
abbrev pub PortOf : List Channel → Option Polled → ℕ → List Told → List Told → Type 0
PortOf chs None k told told' = told' ≡ told
PortOf chs (Some r) k told told' = (j : ℕ) × (port_at chs k ≡ Some j) × Changes (λ a b. Polls a r b) told j told'
