-- A run with its ports, and what these told when they were handed in.
use Rattle.std.specs.Prelude.{List}
use Rattle.ports.specs.declared.told.Told.{Told}
use Rattle.ports.specs.SlotsState.{SlotsState}
use Rattle.run_journal.specs.Keeping.{PortsKept}
use Rattle.run_journal.specs.Turning.{Fits}
use Rattle.run_journal.specs.Histories.{RunState, channels_of}

-- each plugged channel has its port there, and each port tells what it must after what it told at the start
pub record IsBench (start : List Told) (r : RunState) (s : SlotsState) : Type 0 where
  pub fits : Fits (channels_of r.engine) r.engine.core.world s
  pub kept : PortsKept (channels_of r.engine) r.entries r.engine.core r.idle start s.told
