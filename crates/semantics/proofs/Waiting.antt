-- What a legal segment finds: a context that can go on, and a word for the register that waits for one.
use Rattle.std.proofs.Common.{◌≡◌, ◌≢◌, ℕ, zero, suc, ◌<◌, List, [], ◌∷◌, length, Option, Some, None, Bool, true, false, refl, ap, arith}
use Rattle.std.specs.Prelude.{◌||◌, slice_get, slice_set, slice_index, nat_lt, if◌then◌else◌}
use Rattle.world.specs.declared.event.Phase.{Phase}
use Rattle.world.specs.declared.event.Phase.TheVariants.{Ready, Due, Receiving, Sending, Halted, Trapped}
use Rattle.world.specs.declared.event.Trap.TheVariants.{Address}
use Rattle.world.specs.declared.event.Event.TheVariants.{Run}
use Rattle.world.specs.declared.event.Illegal.TheVariants as illegal
use Rattle.world.specs.Channels.{ChannelState, has_word, head_of}
use Rattle.world.specs.WorldState.{WorldState, holds_at, head_at}
use Rattle.semantics.specs.declared.SegmentExit.{SegmentExit}
use Rattle.semantics.specs.declared.SegmentExit.TheVariants as stop
use Rattle.semantics.specs.Core.{Core, can_go_on, is_runnable, illegal_of, complete_phase, phase_after}

-- a legal segment: the run is not over, there is the context, and it can go on
pub record Legal (core : Core) (c : ℕ) : Type 0 where
  pub open_still : core.over ≡ false
  pub there : nat_lt c (length core.phases) ≡ true
  pub can : is_runnable core c ≡ true

legal_by : (core : Core) (c : ℕ) (o t r : Bool) → core.over ≡ o → nat_lt c (length core.phases) ≡ t → is_runnable core c ≡ r → (if o then Some illegal.Over else (if t then (if r then None else Some illegal.NotRunnable) else Some illegal.NoContext)) ≡ None → Legal core c
legal_by core c true t r eo et er h = absurd (cc)
legal_by core c false false r eo et er h = absurd (cc)
legal_by core c false true false eo et er h = absurd (cc)
legal_by core c false true true eo et er h = record { open_still = eo; there = et; can = er }

pub legal : (core : Core) (c : ℕ) → illegal_of core (Run c) ≡ None → Legal core c
legal core c h = legal_by core c core.over (nat_lt c (length core.phases)) (is_runnable core c) refl refl refl h

-- a phase, and the register that waits for a word: there is one where the phase gives a word, and else none; a trapped
-- context may keep the register of its load
abbrev pub Fits : {R : Type 0} → Option Phase → Option R → Type 0
Fits (Some (Due word)) (Some r) = Unit {0}
Fits (Some (Due word)) None = ⊥
Fits (Some (Receiving k)) (Some r) = Unit {0}
Fits (Some (Receiving k)) None = ⊥
Fits (Some (Trapped trap line)) p = Unit {0}
Fits _ None = Unit {0}
Fits _ (Some r) = ⊥

-- a stop, and the register that waits after it
abbrev pub FitsStop : {R : Type 0} → SegmentExit → Option R → Type 0
FitsStop (stop.Load address line) (Some r) = Unit {0}
FitsStop (stop.Load address line) None = ⊥
FitsStop (stop.Recv k) (Some r) = Unit {0}
FitsStop (stop.Recv k) None = ⊥
FitsStop _ None = Unit {0}
FitsStop _ (Some r) = ⊥

due_fits : {R : Type 0} (b : Bool) (word line : ℕ) (r : R) → Fits (Some (if b then Due word else Trapped Address line)) (Some r)
due_fits true word line r = tt
due_fits false word line r = tt

stored_fits : (R : Type 0) (b : Bool) (line : ℕ) → Fits {R = R} (Some (if b then Ready else Trapped Address line)) None
stored_fits R true line = tt
stored_fits R false line = tt

pub fits_after : {R : Type 0} (memory : List ℕ) (why : SegmentExit) (p : Option R) → FitsStop why p → Fits (Some (phase_after memory why)) p
fits_after memory stop.Yield None h = tt
fits_after memory stop.Yield (Some r) h = absurd h
fits_after memory (stop.Load address line) None h = absurd h
fits_after memory (stop.Load address line) (Some r) h = due_fits (nat_lt address (length memory)) (slice_index memory address) line r
fits_after {R} memory (stop.Store address word line) None h = stored_fits R (nat_lt address (length memory)) line
fits_after memory (stop.Store address word line) (Some r) h = absurd h
fits_after memory (stop.Recv k) None h = absurd h
fits_after memory (stop.Recv k) (Some r) h = tt
fits_after memory (stop.Send k word) None h = tt
fits_after memory (stop.Send k word) (Some r) h = absurd h
fits_after memory stop.Halt None h = tt
fits_after memory stop.Halt (Some r) h = absurd h
fits_after memory (stop.Divide line) None h = tt
fits_after memory (stop.Divide line) (Some r) h = tt
fits_after memory stop.Bound None h = tt
fits_after memory stop.Bound (Some r) h = absurd h

head_word : (left ring : List ℕ) → (nat_lt 0 (length left) || nat_lt 0 (length ring)) ≡ true → (word : ℕ) × (head_of left ring ≡ Some word)
head_word [] [] h = absurd (cc)
head_word [] (w ∷ ws) h = (w, refl)
head_word (w ∷ ws) ring h = (w, refl)

channel_word : (o : Option ChannelState) → holds_at has_word o ≡ true → (word : ℕ) × (head_at o ≡ Some word)
channel_word None h = absurd (cc)
channel_word (Some ch) h = head_word ch.left ch.ring h

-- where a register waits and its context can go on, there is a word for it
pub word_for : {R : Type 0} (w : WorldState) (o : Option Phase) (p : R) → Fits o (Some p) → can_go_on w o ≡ true → (word : ℕ) × ((complete_phase w o).received ≡ Some word)
word_for w None p f h = absurd f
word_for w (Some Ready) p f h = absurd f
word_for w (Some (Due word)) p f h = (word, refl)
word_for w (Some (Receiving k)) p f h = channel_word (slice_get w.channels k) h
word_for w (Some (Sending k word)) p f h = absurd f
word_for w (Some Halted) p f h = absurd f
word_for w (Some (Trapped trap line)) p f h = absurd (cc)

-- a list after one item was set
pub get-set_same : {A : Type 0} (xs : List A) (c : ℕ) (x : A) → c < length xs → slice_get (slice_set xs c x) c ≡ Some x
get-set_same [] c x lt = absurd (omega arith)
get-set_same (y ∷ xs) zero x lt = refl
get-set_same (y ∷ xs) (suc c) x lt = get-set_same xs c x (omega arith)

pub get-set_other : {A : Type 0} (xs : List A) (c d : ℕ) (x : A) → d ≢ c → slice_get (slice_set xs c x) d ≡ slice_get xs d
get-set_other [] c d x ne = refl
get-set_other (y ∷ xs) zero zero x ne = absurd (ne refl)
get-set_other (y ∷ xs) zero (suc d) x ne = refl
get-set_other (y ∷ xs) (suc c) zero x ne = refl
get-set_other (y ∷ xs) (suc c) (suc d) x ne = get-set_other xs c d x (λ e. ne (ap suc e))
