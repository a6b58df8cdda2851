-- What a run shows of its world.
use Rattle.std.specs.Prelude.{ℕ, List, map, Option, Some, None, Result, Ok, Err, slice_get}
use Rattle.world.specs.declared.event.Phase.{Phase}
use Rattle.world.specs.declared.event.View.{View}
use Rattle.world.specs.declared.event.Trap.{Trap}
use Rattle.world.specs.declared.event.Trap.TheVariants.{Address}
use Rattle.world.specs.Channels.{has_plugged_port}
use Rattle.world.specs.WorldState.{WorldState}

-- the world with these steps and phases: the words of each channel, but no capacity
abbrev pub view_of : WorldState → ℕ → List Phase → View
view_of w steps phases = record {
  memory = w.memory;
  left = map (λ ch. ch.left) w.channels;
  rings = map (λ ch. ch.ring) w.channels;
  plugged = map has_plugged_port w.channels;
  outputs = w.outputs;
  steps = steps;
  phases = phases;
}

-- a word of memory, or the trap of an address outside it
abbrev pub found_word : Option ℕ → Result ℕ Trap
found_word None = Err Address
found_word (Some word) = Ok word

abbrev pub loaded : WorldState → ℕ → Result ℕ Trap
loaded w address = found_word (slice_get w.memory address)
