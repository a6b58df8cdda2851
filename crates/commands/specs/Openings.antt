-- What a task comes to before a port is asked or handed anything, and what is told in the end.
use Rattle.std.specs.Prelude.{◌≡◌, ℕ, List, [], length, replicate, Option, Bool, false, Result, IfOk}
use Rattle.micro_isa.specs.declared.limits.TheConstants.{MOST_CHANNELS, MOST_PORTS}
use Rattle.micro_isa.specs.declared.list.NoMemory.{NoMemory}
use Rattle.micro_isa.specs.declared.program.Bundle.{Bundle}
use Rattle.micro_isa.specs.declared.image.Image.{Image}
use Rattle.ports.specs.declared.told.Told.{Told}
use Rattle.ports.specs.SlotsState.{SlotsState}
use Rattle.run_journal.specs.Attaching.{IsFresh, detached}
use Rattle.run_journal.specs.Histories.{RunState, IsHistory, bound_of, channels_of}
use Rattle.commands.specs.declared.status.Status.{Status}
use Rattle.commands.specs.declared.task.Reply.{Reply}
use Rattle.commands.specs.declared.task.BundleTask.{BundleTask}
use Rattle.commands.specs.declared.task.ImageTask.{ImageTask}
use Rattle.commands.specs.declared.prepared.Opening.{Opening}
use Rattle.commands.specs.declared.prepared.Prepared.{Prepared}
use Rattle.commands.specs.declared.prepared.Prepared.TheVariants as prepared
use Rattle.commands.specs.Reports.{IsReport}
use Rattle.commands.specs.GivenBack.{InTheirOrder}
use Rattle.commands.specs.Tells.{RunTells, TellsOfBundle, TellsOfImage, RunsBundleBy, RunsImageBy, FitsFile, Fits, IsServed, IsRefusal}

-- what is told: whether in round order, with which status, what the ports told before and tell after, and the text
abbrev pub Telling : Type 1
Telling = Bool → Status → List Told → List Told → List ℕ → Type 0

-- the opening of a run of this image, of at most so many steps
pub record IsOpening (steps : ℕ) (m : Image) (need : Option ℕ) (o : Opening) : Type 0 where
  pub opens : o.run.entries ≡ []
  pub bound : bound_of o.run.engine ≡ steps
  pub image : o.run.engine.image ≡ m
  pub needed : o.need ≡ need

-- a run from its opening, to which ports were attached
pub record IsAttached (r r' : RunState) (s : SlotsState) : Type 0 where
  pub known : IsHistory r.engine r.entries
  pub none : r.entries ≡ []
  pub entries : r'.entries ≡ detached (channels_of r.engine) r.engine.core.world s MOST_CHANNELS
  pub image : r'.engine.image ≡ r.engine.image
  pub bound : bound_of r'.engine ≡ bound_of r.engine
  pub after : IsHistory r'.engine r'.entries
  pub whole : s.retired ≡ replicate MOST_PORTS false
  pub fresh : IsFresh r' s

-- a reply tells this whatever the ports tell, which are not looked at
pub record TellsAtOnce (tells : Telling) (r : Reply) : Type 0 where
  pub told : (in_rounds : Bool) (start : List Told) → tells in_rounds r.status start start r.text.items

-- the report of a run from this opening tells this, with whichever ports and however it comes out
pub record TellsInTheEnd (tells : Telling) (o : Opening) : Type 0 where
  pub opens : o.run.entries ≡ []
  pub told : (in_rounds : Bool) (start now : List Told) (answer : Status) (text : List ℕ) → IsReport in_rounds (bound_of o.run.engine) o.run.engine.image o.need start now answer text → tells in_rounds answer start now text

-- what a task comes to tells this
abbrev pub ComesTo : Telling → Prepared → Type 0
ComesTo tells (prepared.Reply r) = TellsAtOnce tells r
ComesTo tells (prepared.Run o) = TellsInTheEnd tells o

-- no run is to come
abbrev pub IsReply : Prepared → Type 0
IsReply (prepared.Reply r) = Unit {0}
IsReply (prepared.Run o) = ⊥

-- what a run of a bundle's image tells; a bundle that fits is served
pub record ToldOfRun (steps : ℕ) (b : Bundle) (in_rounds : Bool) (answer : Status) (start now : List Told) (text : List ℕ) : Type 0 where
  pub tells : RunTells in_rounds steps answer b start now text
  pub served : FitsFile b → IsServed answer

-- what a task tells of a bundle, in the order that it asks for; a bundle that fits is served
pub record ToldOfBundle (task : BundleTask) (b : Bundle) (in_rounds : Bool) (answer : Status) (start now : List Told) (text : List ℕ) : Type 0 where
  pub tells : RunsBundleBy in_rounds task → TellsOfBundle task answer b start now text
  pub served : RunsBundleBy in_rounds task → Fits task b → IsServed answer

-- what a task tells of an image, in the order that it asks for
pub record ToldOfImage (task : ImageTask) (m : Image) (in_rounds : Bool) (answer : Status) (start now : List Told) (text : List ℕ) : Type 0 where
  pub tells : RunsImageBy in_rounds task → TellsOfImage task answer m start now text
  pub served : IsServed answer

-- a run from this opening was brought to an ending with these ports, and this came out: its report, with the status of no refusal,
-- or that memory was wanting; the ports come back, as many and in their order
pub record IsReported {P : Type 0} (in_rounds : Bool) (o : Opening) (start now : List Told) (ports ports' : List P) (result : Result Reply NoMemory) : Type 0 where
  pub report : IfOk result (λ r. IsReport in_rounds (bound_of o.run.engine) o.run.engine.image o.need start now r.status r.text.items)
  pub goes : IfOk result (λ r. IsRefusal r.status → ⊥)
  pub as_many : length ports' ≡ length ports
  pub in_order : InTheirOrder start now
