-- The reports of runs, and their statuses.
use Rattle.std.specs.Prelude.{◌≡◌, ℕ, List, ◌++◌, replicate, Bool, true, false, Option, Some, None, if◌then◌else◌}
use Rattle.std.specs.List.{list_any, flat_map}
use Rattle.micro_isa.specs.declared.limits.TheConstants.{MOST_CHANNELS, MOST_PORTS}
use mathlib.Core.List.{IsPrefix}
use Rattle.micro_isa.specs.declared.program.Bundle.{Bundle}
use Rattle.micro_isa.specs.declared.image.Image.{Image}
use Rattle.world.specs.declared.event.Phase.{Phase}
use Rattle.world.specs.declared.event.Phase.TheVariants.{Trapped}
use Rattle.world.specs.declared.event.Entry.{Entry}
use Rattle.world.specs.declared.event.End.{End}
use Rattle.world.specs.declared.event.End.TheVariants as ending
use Rattle.world.specs.WorldState.{has_open_input}
use Rattle.semantics.specs.Core.{Core, shown_core, some_runnable, ending_of}
use Rattle.semantics.specs.Events.{Config}
use Rattle.semantics.specs.Entries.{LeadsTo}
use Rattle.semantics.specs.Machine.{Machine, machine_semantics, machine_open}
use Rattle.semantics.specs.Moves.{Move, entries_of, Round, first_round, RoundsTo}
use Rattle.semantics.specs.Source.{Contexts, source_semantics, source_open}
use Rattle.round_order.specs.RoundRuns.{IsRoundRun}
use Rattle.ports.specs.declared.told.Told.{Told}
use Rattle.ports.specs.SlotsState.{SlotsState}
use Rattle.run_journal.specs.Attaching.{detached}
use Rattle.run_journal.specs.Histories.{run_ending}
use Rattle.run_journal.specs.Keeping.{PortsKept}
use Rattle.report_run.specs.Report.{report_text}
use Rattle.commands.specs.declared.status.Status.{Status}
use Rattle.commands.specs.declared.status.Status.TheVariants as status

-- its context ended by a trap
abbrev pub has_trapped : Phase → Bool
has_trapped (Trapped trap line) = true
has_trapped _ = false

-- the status of a run that ended so
abbrev pub status_of : End → List Phase → Status
status_of ending.Finished phases = if list_any has_trapped phases then status.Trapped else status.Done
status_of ending.Stuck phases = status.Stuck
status_of ending.Bound phases = status.Bound
status_of ending.Idle phases = status.Idle

-- the status of a run that may go on
abbrev pub status_so_far : Option End → List Phase → Status
status_so_far None phases = status.Done
status_so_far (Some end) phases = status_of end phases

-- these entries are legal for this image and so many steps, and the text is the report of where they lead
pub record IsReportOfEntries (steps : ℕ) (m : Image) (need : Option ℕ) (entries : List Entry) (answer : Status) (text : List ℕ) : Type 0 where
  pub last : Config Machine
  pub legal : LeadsTo (machine_semantics m) (machine_open m steps) entries last
  pub answered : answer ≡ status_so_far (ending_of last.core) last.core.phases
  pub reported : text ≡ report_text need (Some m) m.setting.channels entries (record { view = shown_core last.core; file = Some last.state.file; ending = ending_of last.core })

-- the ports as they are handed in: none is retired
abbrev pub handed_in : List Told → SlotsState
handed_in start = record { told = start; retired = replicate MOST_PORTS false }

-- how a run of an image begins with these ports: each channel whose port is not among them is unplugged, in channel order
abbrev pub opening_entries : Image → ℕ → List Told → List Entry
opening_entries m steps start = detached m.setting.channels (machine_open m steps).core.world (handed_in start) MOST_CHANNELS

-- behind the entries of an opening, moves in round order left the others and led here, after so many pumps in a row that left
-- nothing
pub record InRounds (m : Image) (steps : ℕ) (opening entries : List Entry) (last : Config Machine) (idle : ℕ) : Type 0 where
  pub opened : Config Machine
  pub opens : LeadsTo (machine_semantics m) (machine_open m steps) opening opened
  pub moves : List Move
  pub behind : entries ≡ opening ++ flat_map entries_of moves
  pub round : Round
  pub order : RoundsTo (machine_semantics m) opened first_round moves last round
  pub pumps : round.idle ≡ idle

-- 1,000 pumps in a row left nothing: no context can go on, and words could still come
pub record IsIdleForGood (core : Core) (idle : ℕ) : Type 0 where
  pub pumps : idle ≡ 1000
  pub none : some_runnable core ≡ false
  pub input : has_open_input core.world ≡ true

-- these entries are those of a run of this image with these ports, of at most so many steps, which led here and ended so: where
-- wanted in round order. What the ports told at its start, and what they tell now
pub record IsRunOf (in_rounds : Bool) (steps : ℕ) (m : Image) (start now : List Told) (entries : List Entry) (last : Config Machine) (end : End) : Type 0 where
  pub legal : LeadsTo (machine_semantics m) (machine_open m steps) entries last
  pub begins : IsPrefix (opening_entries m steps start) entries
  pub idle : ℕ
  pub order : in_rounds ≡ true → InRounds m steps (opening_entries m steps start) entries last idle
  pub ended : run_ending last.core idle ≡ Some end
  pub idles : end ≡ ending.Idle → IsIdleForGood last.core idle
  pub kept : PortsKept m.setting.channels entries last.core idle start now

-- the text is the report of a run of this image with these ports; the need is told where the image was made for a bundle
pub record IsReport (in_rounds : Bool) (steps : ℕ) (m : Image) (need : Option ℕ) (start now : List Told) (answer : Status) (text : List ℕ) : Type 0 where
  pub entries : List Entry
  pub last : Config Machine
  pub end : End
  pub run : IsRunOf in_rounds steps m start now entries last end
  pub answered : answer ≡ status_of end last.core.phases
  pub reported : text ≡ report_text need (Some m) m.setting.channels entries (record { view = shown_core last.core; file = Some last.state.file; ending = Some end })

-- the text is the report of a run of this bundle over registers of its own, in round order, of at most so many steps, with no
-- port at hand; there is no need, image and file to tell
pub record IsSourceReport (steps : ℕ) (b : Bundle) (answer : Status) (text : List ℕ) : Type 0 where
  pub entries : List Entry
  pub last : Config Contexts
  pub end : End
  pub run : IsRoundRun (source_semantics b) (source_open b steps) last entries end
  pub answered : answer ≡ status_of end last.core.phases
  pub reported : text ≡ report_text None None b.setting.channels entries (record { view = shown_core last.core; file = None; ending = Some end })
