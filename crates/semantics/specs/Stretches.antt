-- A stretch: the instructions of one context up to its next stop, over code and registers of any kind.
use Rattle.std.specs.Prelude.{ℕ, zero, suc, ◌+◌, ◌==◌, List, [], ◌∷◌, drop, Bool, Option, Some, None, option_map, slice_get, if◌then◌else◌}
use Rattle.micro_isa.specs.declared.instr.Instr.{Instr}
use Rattle.semantics.specs.declared.SegmentExit.TheVariants as stop
use Rattle.semantics.specs.declared.Change.{Change}
use Rattle.semantics.specs.declared.Change.TheVariants.{Nothing, Register}
use Rattle.semantics.specs.declared.Stopped.{Stopped}
use Rattle.semantics.specs.declared.Effect.{Effect}
use Rattle.semantics.specs.Events.{Given, Stretch}
use Rattle.semantics.specs.Effects.{SavedContext, stops, effect_of}

-- an instruction with its source line; one that is not counted spends no step
pub record Numbered (R : Type 0) : Type 0 where
  pub instr : Instr R
  pub line : ℕ
  pub counted : Bool

-- a kind of code: what its lines say, and how its registers are read and written
pub record Kind (L R V : Type 0) : Type 0 where
  pub numbered : L → Numbered R
  pub read : V → R → ℕ
  pub write : V → R → ℕ → V

-- a context that runs: what it keeps, and its registers
pub record ActiveContext (R V : Type 0) : Type 0 where
  pub kept : SavedContext R
  pub values : V

abbrev pub at_place : {R V : Type 0} → ℕ → ActiveContext R V → ActiveContext R V
at_place next x = record x { kept = record x.kept { at = next } }

abbrev pub awaiting : {R V : Type 0} → Option R → ActiveContext R V → ActiveContext R V
awaiting pending x = record x { kept = record x.kept { pending = pending } }

-- one step more
abbrev pub spent : {X : Type 0} → Stretch X → Stretch X
spent gone = record gone { steps = suc gone.steps }

-- behind one step: the rest, or the end of the stretch
abbrev pub going_on : {R V : Type 0} → (ActiveContext R V → Stretch (ActiveContext R V)) → ActiveContext R V → Option (Stopped R) → Stretch (ActiveContext R V)
going_on rest x None = spent (rest x)
going_on rest x (Some s) = record { state = awaiting s.pending x; steps = 1; why = s.why }

-- the same stretch, of a larger state
abbrev pub stretch_in : {X Y : Type 0} → (X → Y) → Stretch X → Stretch Y
stretch_in put gone = record { state = put gone.state; steps = gone.steps; why = gone.why }

module _ {L R V : Type 0} (kind : Kind L R V) where
  abbrev pub changed : Change R → ActiveContext R V → ActiveContext R V
  changed Nothing x = x
  changed (Register to value) x = record x { values = kind.write x.values to value }

  -- the context after an instruction: changed, and at the next place
  abbrev pub after : Effect R → ActiveContext R V → ActiveContext R V
  after e x = at_place e.next (changed e.change x)

  -- the completion's word goes to the pending register
  abbrev pub received : Option R → Option ℕ → ActiveContext R V → ActiveContext R V
  received (Some r) (Some v) x = awaiting None (changed (Register r v) x)
  received None v x = x
  received (Some r) None x = x

  -- the instruction at a place
  abbrev pub numbered_at : List L → ℕ → Option (Numbered R)
  numbered_at code at = option_map kind.numbered (slice_get code at)

module _ {L R V : Type 0} (kind : Kind L R V) (c : ℕ) (memory : List ℕ) where
  abbrev pub effect_of_one : Numbered R → ActiveContext R V → Effect R
  effect_of_one i x = effect_of c i.line i.instr (kind.read x.values) memory x.kept

  -- past the last instruction, which formed code never reaches, there is a halt
  abbrev pub effect_at : Option (Numbered R) → ActiveContext R V → Effect R
  effect_at None x = stops stop.Halt None x.kept.at
  effect_at (Some i) x = effect_of_one i x

  -- an instruction that is not counted; then the one behind it comes, or else what follows its jump
  abbrev pub uncounted_on : (ActiveContext R V → ActiveContext R V) → (ActiveContext R V → ActiveContext R V) → ActiveContext R V → Effect R → Option (Stopped R) → ActiveContext R V
  uncounted_on rest jump x e (Some s) = x
  uncounted_on rest jump x e None = if e.next == x.kept.at + 1 then rest (after kind e x) else jump (after kind e x)

  abbrev pub uncounted_one : (ActiveContext R V → ActiveContext R V) → (ActiveContext R V → ActiveContext R V) → Numbered R → ActiveContext R V → ActiveContext R V
  uncounted_one rest jump i x =
      if i.counted then x else uncounted_on rest jump x (effect_of_one i x) (effect_of_one i x).stopped

  -- the instructions that are not counted, up to the next counted one, or to where one of them jumps
  abbrev pub uncounted : (ActiveContext R V → ActiveContext R V) → List L → ActiveContext R V → ActiveContext R V
  uncounted jump [] x = x
  uncounted jump (l ∷ ls) x = uncounted_one (uncounted jump ls) jump (kind.numbered l) x

  module _ (code : List L) where
    -- the same after a jump; in formed code a counted one comes before another jump
    abbrev pub landed : ActiveContext R V → ActiveContext R V
    landed x = uncounted (λ y. y) (drop x.kept.at code) x

    -- the instructions that are not counted, from a place on, up to the next counted one
    abbrev pub settled : ActiveContext R V → ActiveContext R V
    settled x = uncounted landed (drop x.kept.at code) x

    abbrev pub effect_here : ActiveContext R V → Effect R
    effect_here x = effect_at (numbered_at kind code x.kept.at) x

    -- the instructions from a counted one on, up to the next stop, with so many steps left
    abbrev pub counted_from : ℕ → ActiveContext R V → Stretch (ActiveContext R V)
    counted_from zero x = record { state = x; steps = 0; why = stop.Bound }
    counted_from (suc n) x =
        going_on (λ y. counted_from n (settled y)) (after kind (effect_here x) x) (effect_here x).stopped

    abbrev pub stretch : ℕ → ActiveContext R V → Stretch (ActiveContext R V)
    stretch n x = counted_from n (settled x)

-- the stretch of one context, once it has the word that it waits for
abbrev pub stretch_of : {L R V : Type 0} → Kind L R V → ℕ → List L → Given → ActiveContext R V → Stretch (ActiveContext R V)
stretch_of kind c code given x = stretch kind c given.memory code given.left (received kind x.kept.pending given.word x)
