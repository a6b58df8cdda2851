-- How many contexts wait to send, as phases change.
use Rattle.std.proofs.Common.{◌≡◌, ℕ, zero, suc, ◌+◌, ◌≤◌, List, [], ◌∷◌, length, Option, Some, None, refl, ap, arith, replicate, Bool, true, false, length-append}
use Rattle.std.specs.Prelude.{slice_get, slice_set, slice_index, nat_lt, if◌then◌else◌}
use Rattle.world.specs.declared.event.Phase.{Phase}
use Rattle.world.specs.declared.event.Phase.TheVariants.{Ready, Sending, Due, Trapped}
use Rattle.world.specs.declared.event.Trap.TheVariants.{Address}
use Rattle.world.specs.declared.channel.ChannelKind.{ChannelKind}
use Rattle.world.specs.declared.channel.ChannelKind.TheVariants.{Inner, Incoming, Outgoing}
use Rattle.world.specs.Channels.{ChannelState}
use Rattle.world.specs.WorldState.{WorldState, sent_by, sent_at, after_send}
use Rattle.semantics.specs.declared.SegmentExit.{SegmentExit}
use Rattle.semantics.specs.declared.SegmentExit.TheVariants as stop
use Rattle.semantics.specs.Core.{phase_after, is_cut}
use Rattle.run_state.specs.Sending.{sends, sending_in}

-- no context waits at the opening
pub none_sending : (n : ℕ) → sending_in (replicate n Ready) ≡ 0
none_sending zero = refl
none_sending (suc n) = omega (arith, none_sending n)

-- a context that sent waits no more
pub sent_less : (ps : List Phase) (c k w : ℕ) → slice_get ps c ≡ Some (Sending k w) → sending_in (slice_set ps c Ready) + 1 ≡ sending_in ps
sent_less [] c k w h = absurd (cc)
sent_less (p ∷ ps) zero k w h = let e : p ≡ Sending k w = cc in let s : sends p ≡ 1 = ap sends e in omega arith
sent_less (p ∷ ps) (suc c) k w h = omega (arith, sent_less ps c k w h)

-- one changed phase adds one at most
pub set_more : (ps : List Phase) (c : ℕ) (p : Phase) → sending_in (slice_set ps c p) ≤ sending_in ps + sends p
set_more [] c p = omega arith
set_more (q ∷ ps) zero p = omega arith
set_more (q ∷ ps) (suc c) p = omega (arith, set_more ps c p)

-- a send puts out one word at most, and leaves the bound
pub record SendsOne (before after : WorldState) : Type 0 where
  pub outputs : length after.outputs ≤ length before.outputs + 1
  pub bound : after.bound ≡ before.bound

by_kind : (kind : ChannelKind) (w : WorldState) (k word : ℕ) → SendsOne w (sent_by kind w k word)
by_kind Inner w k word = record { outputs = omega arith; bound = refl }
by_kind Incoming w k word = record { outputs = omega arith; bound = refl }
by_kind Outgoing w k word = record { outputs = omega (arith, length-append w.outputs ((record { channel = k; word = word }) ∷ [])); bound = refl }

by_channel : (o : Option ChannelState) (w : WorldState) (k word : ℕ) → SendsOne w (sent_at o w k word)
by_channel None w k word = record { outputs = omega arith; bound = refl }
by_channel (Some ch) w k word = by_kind ch.kind w k word

pub sends_one : (w : WorldState) (k word : ℕ) → SendsOne w (after_send w k word)
sends_one w k word = by_channel (slice_get w.channels k) w k word

-- a stretch that ends with a send spent a step
pub sends_spent : (memory : List ℕ) (why : SegmentExit) (steps : ℕ) → (is_cut why ≡ false → 1 ≤ steps) → sends (phase_after memory why) ≤ steps
sends_spent memory stop.Yield steps h = omega arith
sends_spent memory (stop.Load address line) steps h = loaded (nat_lt address (length memory)) (slice_index memory address) line steps
  where
    loaded : (b : Bool) (w line steps : ℕ) → sends (if b then Due w else Trapped Address line) ≤ steps
    loaded true w line steps = omega arith
    loaded false w line steps = omega arith
sends_spent memory (stop.Store address word line) steps h = stored (nat_lt address (length memory)) line steps
  where
    stored : (b : Bool) (line steps : ℕ) → sends (if b then Ready else Trapped Address line) ≤ steps
    stored true line steps = omega arith
    stored false line steps = omega arith
sends_spent memory (stop.Recv k) steps h = omega arith
sends_spent memory (stop.Send k word) steps h = h refl
sends_spent memory stop.Halt steps h = omega arith
sends_spent memory (stop.Divide line) steps h = omega arith
sends_spent memory stop.Bound steps h = omega arith
