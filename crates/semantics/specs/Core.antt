-- The core of a run: all of it but registers and places. Both meanings share what is said here.
use Rattle.std.specs.Prelude.{ℕ, ◌+◌, ◌-◌, List, length, replicate, Bool, true, false, ◌||◌, nat_lt, Option, Some, None, slice_get, slice_set, slice_index, if◌then◌else◌}
use Rattle.std.specs.List.{list_any, list_all}
use Rattle.micro_isa.specs.declared.program.Setting.{Setting}
use Rattle.world.specs.declared.event.Phase.{Phase}
use Rattle.world.specs.declared.event.Phase.TheVariants.{Ready, Due, Receiving, Sending, Halted, Trapped}
use Rattle.world.specs.declared.event.Trap.TheVariants.{Divide, Address}
use Rattle.world.specs.declared.event.Event.{Event}
use Rattle.world.specs.declared.event.Event.TheVariants.{Run, Feed, Unplug}
use Rattle.world.specs.declared.event.SegmentEnd.{SegmentEnd}
use Rattle.world.specs.declared.event.SegmentEnd.TheVariants as end
use Rattle.world.specs.declared.event.End.{End}
use Rattle.world.specs.declared.event.End.TheVariants as ending
use Rattle.world.specs.declared.event.Illegal.{Illegal}
use Rattle.world.specs.declared.event.Illegal.TheVariants as illegal
use Rattle.world.specs.declared.event.Output.{Output}
use Rattle.world.specs.declared.event.View.{View}
use Rattle.world.specs.declared.channel.PortState.{PortState}
use Rattle.world.specs.declared.channel.PortState.TheVariants.{Absent, Plugged, Unplugged}
use Rattle.world.specs.Channels.{ChannelState, is_incoming, has_room}
use Rattle.world.specs.WorldState.{WorldState, can_receive, can_send, received_from, after_receive, after_send, put_out, has_open_input}
use Rattle.world.specs.Opening.{opening_world}
use Rattle.world.specs.Views.{view_of}
use Rattle.semantics.specs.declared.SegmentExit.{SegmentExit}
use Rattle.semantics.specs.declared.SegmentExit.TheVariants as stop

-- the world, what each context waits for, the steps spent, and whether a segment was cut by the bound
pub record Core : Type 0 where
  pub world : WorldState
  pub phases : List Phase
  pub steps : ℕ
  pub over : Bool

-- every context is ready, and no step is spent
abbrev pub opening_core : Setting → ℕ → ℕ → Core
opening_core setting contexts bound = record {
  world = opening_world setting bound;
  phases = replicate contexts Ready;
  steps = 0;
  over = false;
}

-- the steps that are left
abbrev pub steps_left : Core → ℕ
steps_left core = core.world.bound - core.steps

-- whether a context in this phase can go on
abbrev pub can_go_on : WorldState → Option Phase → Bool
can_go_on w (Some Ready) = true
can_go_on w (Some (Due word)) = true
can_go_on w (Some (Receiving channel)) = can_receive w channel
can_go_on w (Some (Sending channel word)) = can_send w channel
can_go_on w _ = false

abbrev pub is_runnable : Core → ℕ → Bool
is_runnable core c = can_go_on core.world (slice_get core.phases c)

-- the first cause for which a segment may not happen
abbrev pub illegal_run : Core → ℕ → Option Illegal
illegal_run core c =
    if core.over then Some illegal.Over else
    (if nat_lt c (length core.phases) then (if is_runnable core c then None else Some illegal.NotRunnable) else Some illegal.NoContext)

-- a port that is not plugged, or what else stands against it
abbrev pub illegal_at_port : PortState → Option Illegal → Option Illegal
illegal_at_port Absent rest = Some illegal.NoPort
illegal_at_port Plugged rest = rest
illegal_at_port Unplugged rest = Some illegal.Unplugged

-- why a channel takes no word from outside
abbrev pub illegal_fed : Option ChannelState → Option Illegal
illegal_fed None = Some illegal.NoPort
illegal_fed (Some ch) =
    if is_incoming ch.kind then illegal_at_port ch.port (if has_room ch then None else Some illegal.Full) else Some illegal.NoPort

-- why the port of a channel cannot be unplugged
abbrev pub illegal_unplugged : Option ChannelState → Option Illegal
illegal_unplugged None = Some illegal.NoPort
illegal_unplugged (Some ch) = illegal_at_port ch.port None

-- the first cause for which a word may not be fed
abbrev pub illegal_feed : Core → ℕ → Option Illegal
illegal_feed core k = if core.over then Some illegal.Over else illegal_fed (slice_get core.world.channels k)

-- the first cause for which a port may not be unplugged
abbrev pub illegal_unplug : Core → ℕ → Option Illegal
illegal_unplug core k = if core.over then Some illegal.Over else illegal_unplugged (slice_get core.world.channels k)

-- the first cause for which an event may not happen
abbrev pub illegal_of : Core → Event → Option Illegal
illegal_of core (Run c) = illegal_run core c
illegal_of core (Feed k word) = illegal_feed core k
illegal_of core (Unplug k) = illegal_unplug core k

-- what a completion gives: the word that goes to the pending register, the word that was put out, and the world after it
pub record Completed : Type 0 where
  pub received : Option ℕ
  pub sent : Option Output
  pub world : WorldState

-- a due word is handed over, a word is received, or a word is sent
abbrev pub complete_phase : WorldState → Option Phase → Completed
complete_phase w (Some (Due word)) = record { received = Some word; sent = None; world = w }
complete_phase w (Some (Receiving k)) = record { received = received_from w k; sent = None; world = after_receive w k }
complete_phase w (Some (Sending k word)) = record { received = None; sent = put_out w k word; world = after_send w k word }
complete_phase w _ = record { received = None; sent = None; world = w }

abbrev pub completion : Core → ℕ → Completed
completion core c = complete_phase core.world (slice_get core.phases c)

-- the core after that: the context waits for nothing
abbrev pub completed : Core → ℕ → Core
completed core c = record core { world = (completion core c).world; phases = slice_set core.phases c Ready }

-- the phase after a stretch; an address outside memory traps
abbrev pub phase_after : List ℕ → SegmentExit → Phase
phase_after memory stop.Yield = Ready
phase_after memory (stop.Load address line) =
    if nat_lt address (length memory) then Due (slice_index memory address) else Trapped Address line
phase_after memory (stop.Store address word line) =
    if nat_lt address (length memory) then Ready else Trapped Address line
phase_after memory (stop.Recv k) = Receiving k
phase_after memory (stop.Send k word) = Sending k word
phase_after memory stop.Halt = Halted
phase_after memory (stop.Divide line) = Trapped Divide line
phase_after memory stop.Bound = Ready

-- how the segment ended
abbrev pub end_after : List ℕ → SegmentExit → SegmentEnd
end_after memory stop.Yield = end.Yield
end_after memory (stop.Load address line) = if nat_lt address (length memory) then end.Load else end.Trap Address
end_after memory (stop.Store address word line) = if nat_lt address (length memory) then end.Store else end.Trap Address
end_after memory (stop.Recv k) = end.Recv
end_after memory (stop.Send k word) = end.Send
end_after memory stop.Halt = end.Halt
end_after memory (stop.Divide line) = end.Trap Divide
end_after memory stop.Bound = end.Bound

-- the memory after a stretch; a store outside it changes nothing
abbrev pub memory_after : List ℕ → SegmentExit → List ℕ
memory_after memory (stop.Store address word line) = slice_set memory address word
memory_after memory _ = memory

abbrev pub is_cut : SegmentExit → Bool
is_cut stop.Bound = true
is_cut _ = false

-- the core after a stretch of these steps, which ended so
abbrev pub finished : Core → ℕ → ℕ → SegmentExit → Core
finished core c steps why = record core {
  world = record core.world { memory = memory_after core.world.memory why };
  phases = slice_set core.phases c (phase_after core.world.memory why);
  steps = core.steps + steps;
  over = is_cut why;
}

abbrev pub has_ended : Phase → Bool
has_ended Halted = true
has_ended (Trapped trap line) = true
has_ended _ = false

-- whether some context can go on
abbrev pub some_runnable : Core → Bool
some_runnable core = list_any (λ p. can_go_on core.world (Some p)) core.phases

-- how a run ended, if it did: cut by the bound; every context ended; or none can go on and no word can come
abbrev pub ending_of : Core → Option End
ending_of core =
    if core.over then Some ending.Bound else
    (if list_all has_ended core.phases then Some ending.Finished else
    (if some_runnable core || has_open_input core.world then None else Some ending.Stuck))

-- what a run shows
abbrev pub shown_core : Core → View
shown_core core = view_of core.world core.steps core.phases
