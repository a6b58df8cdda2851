-- The world of a run: memory, channels and outputs, and what may be done with them.
use Rattle.std.specs.Prelude.{ℕ, List, [], ◌∷◌, ◌++◌, Bool, false, ◌&&◌, Option, Some, None, slice_get, slice_set}
use Rattle.std.specs.List.{list_any}
use Rattle.world.specs.declared.channel.ChannelKind.{ChannelKind}
use Rattle.world.specs.declared.channel.ChannelKind.TheVariants.{Inner, Incoming, Outgoing}
use Rattle.world.specs.declared.event.Output.{Output}
use Rattle.world.specs.Channels.{ChannelState, has_word, takes_word, takes_feed, is_incoming, has_plugged_port, head_of, without_head, with_word, without_port}

-- memory, channels, the words put out so far, and how many may be put out, which is the bound of the run's steps
pub record WorldState : Type 0 where
  pub memory : List ℕ
  pub channels : List ChannelState
  pub outputs : List Output
  pub bound : ℕ

-- a test of a channel, which fails where there is none
abbrev pub holds_at : (ChannelState → Bool) → Option ChannelState → Bool
holds_at test None = false
holds_at test (Some ch) = test ch

abbrev pub can_receive : WorldState → ℕ → Bool
can_receive w k = holds_at has_word (slice_get w.channels k)

abbrev pub can_send : WorldState → ℕ → Bool
can_send w k = holds_at takes_word (slice_get w.channels k)

abbrev pub can_feed : WorldState → ℕ → Bool
can_feed w k = holds_at takes_feed (slice_get w.channels k)

abbrev pub is_plugged : WorldState → ℕ → Bool
is_plugged w k = holds_at has_plugged_port (slice_get w.channels k)

-- one channel changed, where it is there
abbrev pub changed_at : (ChannelState → ChannelState) → List ChannelState → ℕ → Option ChannelState → List ChannelState
changed_at change chs k None = chs
changed_at change chs k (Some ch) = slice_set chs k (change ch)

abbrev pub change : (ChannelState → ChannelState) → WorldState → ℕ → WorldState
change f w k = record w { channels = changed_at f w.channels k (slice_get w.channels k) }

abbrev pub head_at : Option ChannelState → Option ℕ
head_at None = None
head_at (Some ch) = head_of ch.left ch.ring

-- the word that a context receives from a channel, and the world after that
abbrev pub received_from : WorldState → ℕ → Option ℕ
received_from w k = head_at (slice_get w.channels k)

abbrev pub after_receive : WorldState → ℕ → WorldState
after_receive w k = change without_head w k

abbrev pub sent_by : ChannelKind → WorldState → ℕ → ℕ → WorldState
sent_by Inner w k word = change (with_word word) w k
sent_by Incoming w k word = w
sent_by Outgoing w k word = record w { outputs = w.outputs ++ (record { channel = k; word = word }) ∷ [] }

abbrev pub sent_at : Option ChannelState → WorldState → ℕ → ℕ → WorldState
sent_at None w k word = w
sent_at (Some ch) w k word = sent_by ch.kind w k word

-- the world after a word was sent: an inner channel holds it, an output puts it out
abbrev pub after_send : WorldState → ℕ → ℕ → WorldState
after_send w k word = sent_at (slice_get w.channels k) w k word

abbrev pub put_by : ChannelKind → ℕ → ℕ → Option Output
put_by Outgoing k word = Some (record { channel = k; word = word })
put_by _ k word = None

abbrev pub put_at : Option ChannelState → ℕ → ℕ → Option Output
put_at None k word = None
put_at (Some ch) k word = put_by ch.kind k word

-- what a send puts out
abbrev pub put_out : WorldState → ℕ → ℕ → Option Output
put_out w k word = put_at (slice_get w.channels k) k word

-- the world after a word was fed, and after a port was unplugged
abbrev pub after_feed : WorldState → ℕ → ℕ → WorldState
after_feed w k word = change (with_word word) w k

abbrev pub after_unplug : WorldState → ℕ → WorldState
after_unplug w k = change without_port w k

abbrev pub is_open_input : ChannelState → Bool
is_open_input ch = is_incoming ch.kind && has_plugged_port ch

-- whether a word can still come from outside: an input is plugged
abbrev pub has_open_input : WorldState → Bool
has_open_input w = list_any is_open_input w.channels
