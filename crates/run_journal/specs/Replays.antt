-- Written entries that are followed one by one, and the first that does not fit.
use Rattle.std.specs.Prelude.{◌≡◌, ◌≢◌, ℕ, ◌+◌, List, [], ◌∷◌, ◌++◌, length, Option, Some, None}
use Rattle.micro_isa.specs.declared.image.Image.{Image}
use Rattle.world.specs.declared.event.Entry.{Entry}
use Rattle.world.specs.declared.event.Seen.{Seen}
use Rattle.world.specs.declared.event.Illegal.{Illegal}
use Rattle.semantics.specs.Core.{illegal_of}
use Rattle.semantics.specs.Events.{Config, step}
use Rattle.semantics.specs.Entries.{event_of, entry_seen, LeadsTo}
use Rattle.semantics.specs.Machine.{Machine, machine_semantics, machine_open}
use Rattle.engine_core.specs.EngineState.{EngineState, config_of}
use Rattle.run_journal.specs.declared.replaying.ReplayFault.{ReplayFault}
use Rattle.run_journal.specs.declared.replaying.ReplayFault.TheVariants as fault
use Rattle.run_journal.specs.Histories.{RunState, bound_of}
use Rattle.run_journal.specs.Parts.{Went}

-- the event of a written entry happened, and another entry tells what was seen
pub record Happened (e e' : EngineState) (es es' : List Entry) (written found : Entry) : Type 0 where
  pub seen : Seen
  pub did : step (machine_semantics e.image) (config_of e) (event_of written) ≡ Some (config_of e', seen)
  pub told : found ≡ entry_seen written seen
  pub went : Went e e' es es' (found ∷ [])

-- the event of a written entry may not happen
pub record IsIllegal (e : EngineState) (written : Entry) : Type 0 where
  pub cause : Illegal
  pub why : illegal_of e.core (event_of written) ≡ Some cause

-- a written entry was followed, if its event may happen; else nothing changed
abbrev pub Followed : Option Entry → RunState → RunState → Entry → Type 0
Followed None r r' written = IsIllegal r.engine written × (r' ≡ r)
Followed (Some found) r r' written = Happened r.engine r'.engine r.entries r'.entries written found × (r'.idle ≡ 0)

-- the segment of a written entry has other steps or another end
pub record Differs (r : RunState) (written found : Entry) : Type 0 where
  pub next : Config Machine
  pub seen : Seen
  pub did : step (machine_semantics r.engine.image) (config_of r.engine) (event_of written) ≡ Some (next, seen)
  pub told : found ≡ entry_seen written seen
  pub other : found ≢ written

-- why a written entry does not stand behind the entries of a run
abbrev pub StraysAfter : ReplayFault → RunState → Entry → Type 0
StraysAfter (fault.Illegal at w) r written = (at ≡ length r.entries + 1) × (w ≡ written) × IsIllegal r.engine written
StraysAfter (fault.Differs at w found) r written = (at ≡ length r.entries + 1) × (w ≡ written) × Differs r written found
StraysAfter fault.NoMemory r written = ⊥

-- the written entry of this number, counted from 1, is the first whose event may not happen
pub record IsIllegalAt (m : Image) (bound : ℕ) (entries : List Entry) (at : ℕ) (written : Entry) : Type 0 where
  pub before : List Entry
  pub rest : List Entry
  pub last : Config Machine
  pub parts : entries ≡ before ++ written ∷ rest
  pub place : at ≡ length before + 1
  pub legal : LeadsTo (machine_semantics m) (machine_open m bound) before last
  pub cause : Illegal
  pub why : illegal_of last.core (event_of written) ≡ Some cause

-- the written entry of this number is the first whose segment has other steps or another end: those of the found one
pub record DiffersAt (m : Image) (bound : ℕ) (entries : List Entry) (at : ℕ) (written found : Entry) : Type 0 where
  pub before : List Entry
  pub rest : List Entry
  pub last : Config Machine
  pub next : Config Machine
  pub seen : Seen
  pub parts : entries ≡ before ++ written ∷ rest
  pub place : at ≡ length before + 1
  pub legal : LeadsTo (machine_semantics m) (machine_open m bound) before last
  pub did : step (machine_semantics m) last (event_of written) ≡ Some (next, seen)
  pub told : found ≡ entry_seen written seen
  pub other : found ≢ written

-- where and how entries stray; memory may always be wanting
abbrev pub StraysBy : ReplayFault → Image → ℕ → List Entry → Type 0
StraysBy (fault.Illegal at written) m bound entries = IsIllegalAt m bound entries at written
StraysBy (fault.Differs at written found) m bound entries = DiffersAt m bound entries at written found
StraysBy fault.NoMemory m bound entries = Unit {0}

-- entries that stray are not legal
abbrev pub IsRefused : ReplayFault → Image → ℕ → List Entry → Type 0
IsRefused fault.NoMemory m bound entries = Unit {0}
IsRefused _ m bound entries = (last : Config Machine) → LeadsTo (machine_semantics m) (machine_open m bound) entries last → ⊥

-- a run of this image and bound that has these entries, and made no pump
pub record Replays (r : RunState) (m : Image) (bound : ℕ) (entries : List Entry) : Type 0 where
  pub same_image : r.engine.image ≡ m
  pub same_bound : bound_of r.engine ≡ bound
  pub same_entries : r.entries ≡ entries
  pub no_pump : r.idle ≡ 0
