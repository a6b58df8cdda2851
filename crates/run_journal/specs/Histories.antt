-- A run and its journal.
use Rattle.std.specs.Prelude.{◌≡◌, ℕ, ◌+◌, ◌<◌, ◌≤◌, List, length, Option, Some, None, Bool, true, false, if◌then◌else◌, ◌==◌}
use Rattle.std.specs.Option.{option_or}
use Rattle.micro_isa.specs.declared.limits.TheConstants.{MOST_STEPS}
use Rattle.micro_isa.specs.Formed.{IsFormedImage}
use Rattle.micro_isa.specs.declared.program.Channel.{Channel}
use Rattle.world.specs.declared.event.Entry.{Entry}
use Rattle.world.specs.declared.event.End.{End}
use Rattle.world.specs.declared.event.End.TheVariants as ending
use Rattle.world.specs.declared.event.SegmentEnd.{SegmentEnd}
use Rattle.world.specs.declared.event.SegmentEnd.TheVariants as end
use Rattle.semantics.specs.Core.{Core, some_runnable, ending_of}
use Rattle.semantics.specs.Entries.{LeadsTo}
use Rattle.semantics.specs.Machine.{machine_semantics, machine_open}
use Rattle.engine_core.specs.EngineState.{EngineState, config_of}
use Rattle.run_journal.specs.Room.{entries_left, most_entries}

-- the engine, its entries, and how many pumps in a row did nothing
pub record RunState : Type 0 where
  pub engine : EngineState
  pub entries : List Entry
  pub idle : ℕ

abbrev pub bound_of : EngineState → ℕ
bound_of e = e.core.world.bound

abbrev pub channels_of : EngineState → List Channel
channels_of e = e.image.setting.channels

-- the engine is the replay of the entries from the opening of its image, and there is room for all that can come
pub record IsHistory (e : EngineState) (es : List Entry) : Type 0 where
  pub formed : IsFormedImage e.image
  pub small : bound_of e ≤ MOST_STEPS
  pub legal : LeadsTo (machine_semantics e.image) (machine_open e.image (bound_of e)) es (config_of e)
  pub few : length es + entries_left e.core ≤ most_entries (bound_of e)

-- pumps that do nothing are counted while no context can go on and there is no ending
pub record IsIdle (core : Core) (idle : ℕ) : Type 0 where
  pub most : idle ≤ 1000
  pub none : 0 < idle → some_runnable core ≡ false
  pub goes : 0 < idle → ending_of core ≡ None

-- how a run ended: as its engine, or idle after 1,000 pumps in a row that did nothing
abbrev pub run_ending : Core → ℕ → Option End
run_ending core idle = option_or (ending_of core) (if idle == 1000 then Some ending.Idle else None)

-- the segment was cut by the bound
abbrev pub is_bound : SegmentEnd → Bool
is_bound end.Bound = true
is_bound _ = false
