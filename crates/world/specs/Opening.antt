-- The world at the opening of a run.
use Rattle.std.specs.Prelude.{ℕ, List, [], map, replicate, Option, Some, None}
use Rattle.micro_isa.specs.declared.program.Channel.{Channel}
use Rattle.micro_isa.specs.declared.program.Channel.TheVariants as channel
use Rattle.micro_isa.specs.declared.program.Setting.{Setting}
use Rattle.micro_isa.specs.declared.program.PortUse.{PortUse}
use Rattle.world.specs.declared.channel.ChannelKind.TheVariants.{Inner, Incoming, Outgoing}
use Rattle.world.specs.declared.channel.PortState.TheVariants.{Absent, Plugged}
use Rattle.world.specs.Channels.{ChannelState}
use Rattle.world.specs.WorldState.{WorldState}

abbrev pub opened_input : List ℕ → Option PortUse → ChannelState
opened_input words None = record { kind = Incoming; port = Absent; capacity = 0; left = words; ring = [] }
opened_input words (Some port) = record { kind = Incoming; port = Plugged; capacity = port.capacity; left = words; ring = [] }

abbrev pub opened_output : Option ℕ → ChannelState
opened_output None = record { kind = Outgoing; port = Absent; capacity = 0; left = []; ring = [] }
opened_output (Some port) = record { kind = Outgoing; port = Plugged; capacity = 0; left = []; ring = [] }

-- a channel with a port starts plugged, and no word was sent or fed
abbrev pub opened_channel : Channel → ChannelState
opened_channel (channel.Inner capacity) = record { kind = Inner; port = Absent; capacity = capacity; left = []; ring = [] }
opened_channel (channel.Input words port) = opened_input words port
opened_channel (channel.Output port) = opened_output port

-- zeros, the initial words, and nothing put out
abbrev pub opening_world : Setting → ℕ → WorldState
opening_world s bound = record {
  memory = replicate s.memory 0;
  channels = map opened_channel s.channels;
  outputs = [];
  bound = bound;
}
