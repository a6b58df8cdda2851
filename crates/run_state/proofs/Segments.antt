-- What a completion and the end of a stretch leave, whatever the instructions do.
use Rattle.std.proofs.Common.{◌≡◌, ℕ, zero, suc, ◌+◌, ◌<◌, ◌≤◌, List, [], ◌∷◌, length, Option, Some, None, Bool, false, refl, sym, ap, ◌∙◌, arith}
use Rattle.std.specs.Prelude.{slice_get, slice_set, ◌||◌}
use Rattle.std.specs.List.{list_any}
use Rattle.std.proofs.lemmas.Bool.{ltb-true}
use Rattle.std.proofs.lemmas.List.{length-set}
use Rattle.world.specs.declared.event.Phase.{Phase}
use Rattle.world.specs.declared.event.Phase.TheVariants.{Ready, Due, Receiving, Sending, Halted, Trapped}
use Rattle.world.specs.declared.event.Event.TheVariants.{Run}
use Rattle.world.specs.declared.channel.ChannelKind.{ChannelKind}
use Rattle.world.specs.declared.channel.ChannelKind.TheVariants.{Inner, Incoming, Outgoing}
use Rattle.world.specs.Channels.{ChannelState, with_word, without_head}
use Rattle.world.specs.WorldState.{WorldState, sent_by, sent_at, changed_at, is_open_input, has_open_input}
use Rattle.semantics.specs.declared.SegmentExit.{SegmentExit}
use Rattle.world.specs.declared.event.Output.{Output}
use Rattle.world.specs.declared.event.SegmentEnd.{SegmentEnd}
use Rattle.world.specs.declared.event.Seen.TheVariants.{Ran}
use Rattle.semantics.specs.Core.{Core, Completed, is_cut, complete_phase, completion, completed, steps_left, finished, phase_after, end_after, illegal_of}
use Rattle.semantics.specs.Events.{after_stretch}
use Rattle.semantics.specs.Stretches.{Kind, ActiveContext, received, stretch, stretch_of}
use Rattle.semantics.proofs.Waiting.{legal}
use Rattle.run_state.specs.Segments.{GoesOn, segment_of}

-- a completion leaves the bound
bound_by_kind : (kind : ChannelKind) (w : WorldState) (k word : ℕ) → (sent_by kind w k word).bound ≡ w.bound
bound_by_kind Inner w k word = refl
bound_by_kind Incoming w k word = refl
bound_by_kind Outgoing w k word = refl

bound_by_channel : (o : Option ChannelState) (w : WorldState) (k word : ℕ) → (sent_at o w k word).bound ≡ w.bound
bound_by_channel None w k word = refl
bound_by_channel (Some ch) w k word = bound_by_kind ch.kind w k word

bound_after : (w : WorldState) (o : Option Phase) → ((complete_phase w o).world).bound ≡ w.bound
bound_after w None = refl
bound_after w (Some Ready) = refl
bound_after w (Some (Due word)) = refl
bound_after w (Some (Receiving k)) = refl
bound_after w (Some (Sending k word)) = bound_by_channel (slice_get w.channels k) w k word
bound_after w (Some Halted) = refl
bound_after w (Some (Trapped trap line)) = refl

pub phases_after : (core core1 core2 : Core) (c steps : ℕ) (why : SegmentExit) → core1 ≡ completed core c → core2 ≡ finished core1 c steps why → length core2.phases ≡ length core.phases
phases_after core core1 core2 c steps why done fin2 =
    ap (λ k. length k.phases) fin2
    ∙ length-set core1.phases c (phase_after core1.world.memory why)
    ∙ ap (λ k. length k.phases) done
    ∙ length-set core.phases c Ready

-- a context that may run is there
pub is_there : (core : Core) (c : ℕ) → illegal_of core (Run c) ≡ None → c < length core.phases
is_there core c may = ltb-true c (length core.phases) (legal core c may).there

-- a test of some channel, where one channel changes that passes it as before
any_set : (p : ChannelState → Bool) (xs : List ChannelState) (i : ℕ) (x y : ChannelState) → slice_get xs i ≡ Some x → p y ≡ p x → list_any p (slice_set xs i y) ≡ list_any p xs
any_set p [] i x y at same = absurd (cc)
any_set p (z ∷ xs) zero x y at same = let e : z ≡ x = cc in ap (λ b. b || list_any p xs) (same ∙ sym (ap p e))
any_set p (z ∷ xs) (suc i) x y at same = ap (λ b. p z || b) (any_set p xs i x y at same)

inputs_changed : (f : ChannelState → ChannelState) (chs : List ChannelState) (k : ℕ) (o : Option ChannelState) → slice_get chs k ≡ o → ((ch : ChannelState) → is_open_input (f ch) ≡ is_open_input ch) → list_any is_open_input (changed_at f chs k o) ≡ list_any is_open_input chs
inputs_changed f chs k None at same = refl
inputs_changed f chs k (Some ch) at same = any_set is_open_input chs k ch (f ch) at (same ch)

inputs_by_kind : (kind : ChannelKind) (w : WorldState) (k word : ℕ) → has_open_input (sent_by kind w k word) ≡ has_open_input w
inputs_by_kind Inner w k word = inputs_changed (with_word word) w.channels k (slice_get w.channels k) refl (λ ch. refl)
inputs_by_kind Incoming w k word = refl
inputs_by_kind Outgoing w k word = refl

inputs_by_channel : (o : Option ChannelState) (w : WorldState) (k word : ℕ) → has_open_input (sent_at o w k word) ≡ has_open_input w
inputs_by_channel None w k word = refl
inputs_by_channel (Some ch) w k word = inputs_by_kind ch.kind w k word

-- a completion plugs and unplugs nothing
inputs_after : (w : WorldState) (o : Option Phase) → has_open_input (complete_phase w o).world ≡ has_open_input w
inputs_after w None = refl
inputs_after w (Some Ready) = refl
inputs_after w (Some (Due word)) = refl
inputs_after w (Some (Receiving k)) = inputs_changed without_head w.channels k (slice_get w.channels k) refl (λ ch. refl)
inputs_after w (Some (Sending k word)) = inputs_by_channel (slice_get w.channels k) w k word
inputs_after w (Some Halted) = refl
inputs_after w (Some (Trapped trap line)) = refl

pub goes_on : (core core1 core2 : Core) (c steps left : ℕ) (why : SegmentExit) → core1 ≡ completed core c → core2 ≡ finished core1 c steps why → (is_cut why ≡ false → 1 ≤ steps) → steps ≤ left → core1.steps + left ≡ core1.world.bound → GoesOn core core2
goes_on core core1 core2 c steps left why done fin2 spends few fits = record {
  spent = λ open_still. let k = spends (sym (ap (λ k. k.over) fin2) ∙ open_still) in omega (arith, was, now);
  within = omega (arith, now, bound, fits);
  bound = bound ∙ ap (λ k. k.world.bound) done ∙ bound_after core.world (slice_get core.phases c);
  contexts = phases_after core core1 core2 c steps why done fin2;
  inputs = ap (λ k. has_open_input k.world) fin2 ∙ ap (λ k. has_open_input k.world) done ∙ inputs_after core.world (slice_get core.phases c);
}
  where
    was : core1.steps ≡ core.steps
    was = ap (λ k. k.steps) done

    now : core2.steps ≡ core1.steps + steps
    now = ap (λ k. k.steps) fin2

    bound : core2.world.bound ≡ core1.world.bound
    bound = ap (λ k. k.world.bound) fin2

-- what the interpreter does in a segment, step by step, is a segment of the context
pub segment_is : {L R V : Type 0} (kind : Kind L R V) (core core1 core2 : Core) (c : ℕ) (code : List L) (x x1 : ActiveContext R V) (left : ℕ) (word : Option ℕ) (sent : Option Output) (x2 : ActiveContext R V) (steps : ℕ) (why : SegmentExit) (fin : SegmentEnd) (memory : List ℕ) → memory ≡ core1.world.memory → fin ≡ end_after core1.world.memory why → completion core c ≡ record { received = word; sent = sent; world = core1.world } → core1 ≡ completed core c → x1 ≡ received kind x.kept.pending word x → left ≡ steps_left core1 → record { state = x2; steps = steps; why = why } ≡ stretch kind c memory code left x1 → core2 ≡ finished core1 c steps why → segment_of kind c code core x ≡ (record { core = core2; state = x2 }, Ran (record { steps = steps; end = fin; sent = sent }))
segment_is kind core core1 core2 c code x x1 left word sent x2 steps why fin memory is_memory fin_is done core1_is delivered is_left went fin2 =
    let after : Completed = record { received = word; sent = sent; world = core1.world } in
    (λ i. after_stretch (sym core1_is i) c (done i) (stretch_of kind c code (record { word = (done i).received; memory = (sym core1_is i).world.memory; left = (ap steps_left (sym core1_is) ∙ sym is_left) i }) x))
    ∙ (λ i. after_stretch core1 c after (stretch kind c (sym is_memory i) code left (sym delivered i)))
    ∙ ap (after_stretch core1 c after) (sym went)
    ∙ (λ i. (record { core = sym fin2 i; state = x2 }, Ran (record { steps = steps; end = sym fin_is i; sent = sent })))
