-- What is to come falls, so that a run in turns and pumps ends.
use Rattle.std.proofs.Common.{◌≡◌, ℕ, zero, suc, ◌+◌, ◌*◌, ◌-◌, ◌<◌, ◌≤◌, List, [], ◌∷◌, length, Option, Some, None, false, refl, arith, inl, inr, ◌⊎◌, length-append}
use Rattle.std.proofs.lemmas.Bool.{lt-ltb}
use Rattle.world.specs.declared.event.End.{End}
use Rattle.semantics.specs.Core.{Core, some_runnable}
use Rattle.ports.specs.declared.port.Polled.{Polled}
use Rattle.ports.specs.declared.port.Polled.TheVariants as polled
use Rattle.ports.specs.SlotsState.{SlotsState}
use Rattle.run_journal.specs.declared.answers.TurnAnswer.{TurnAnswer}
use Rattle.run_journal.specs.declared.answers.TurnAnswer.TheVariants as turn
use Rattle.run_journal.specs.declared.answers.Pumped.{Pumped}
use Rattle.run_journal.specs.Room.{entries_left}
use Rattle.run_journal.specs.Pumping.{answered, entries_from, fed_in, dropped_in, words_at, ends_at, one_if}
use Rattle.run_journal.specs.Histories.{RunState, IsIdle, run_ending}
use Rattle.run_journal.specs.Turns.{TurnDid, PumpBy, PumpDid, idle_after, to_come, TurnLowers, PumpLowers}
use Rattle.run_journal.proofs.PumpLoop.{goes_on_still}

less : (left left' idle idle' n : ℕ) → left' + (1 + n) ≤ left → idle' ≡ 0 → left' * 1001 + (1000 - idle') < left * 1001 + (1000 - idle)
less left left' idle idle' n h z = omega (arith, h, z)

pub turn_lowers : (answer : TurnAnswer) (r r' : RunState) (s s' : SlotsState) (c : ℕ) → TurnDid answer r r' s s' c → TurnLowers answer r r'
turn_lowers (turn.Ran e) r r' s s' c (did, idle) =
    less (entries_left r.engine.core) (entries_left r'.engine.core) r.idle r'.idle (length did.lost) (let l = did.went.left in omega (arith, l)) idle
turn_lowers (turn.NotReady n) r r' s s' c did = tt
turn_lowers (turn.Over end) r r' s s' c did = tt

-- a pump has an entry for each word and each lost port
one_entry : (k : ℕ) (a : Option Polled) → length (answered k a) ≡ length (words_at a) + one_if (ends_at a)
one_entry k None = refl
one_entry k (Some (polled.Word w)) = refl
one_entry k (Some polled.Empty) = refl
one_entry k (Some polled.Closed) = refl
one_entry k (Some polled.Failed) = refl

pub pumped_length : (k : ℕ) (rs : List (Option Polled)) → length (entries_from k rs) ≡ fed_in rs + dropped_in rs
pumped_length k [] = refl
pumped_length k (a ∷ rs) = omega (arith, length-append (answered k a) (entries_from (k + 1) rs), one_entry k a, pumped_length (k + 1) rs)

-- while no context can go on a pump moves something, or counts on
moves_or_waits : (core : Core) (p : Pumped) (idle : ℕ) → some_runnable core ≡ false → ((1 ≤ p.fed + p.dropped) × (idle_after core p idle ≡ 0)) ⊎ (idle_after core p idle ≡ idle + 1)
moves_or_waits core p idle none = by p.fed p.dropped
  where
    by : (f d : ℕ) → ((1 ≤ f + d) × (idle_after core (record p { fed = f; dropped = d }) idle ≡ 0)) ⊎ (idle_after core (record p { fed = f; dropped = d }) idle ≡ idle + 1)
    by zero zero = inr (rw none refl)
    by zero (suc d) = inl (omega arith, rw (none, lt-ltb 0 (suc d) (omega arith)) refl)
    by (suc f) d = inl (omega arith, rw (none, lt-ltb 0 (suc f) (omega arith)) refl)

lowers_by : (o : Option End) (r r' : RunState) (s s' : SlotsState) (p : Pumped) → run_ending r.engine.core r.idle ≡ o → o ≡ None → IsIdle r.engine.core r.idle → some_runnable r.engine.core ≡ false → PumpBy o r r' s s' p → to_come r'.engine.core r'.idle < to_come r.engine.core r.idle
lowers_by (Some end) r r' s s' p e none i quiet did = absurd (cc)
lowers_by None r r' s s' p e none i quiet (did, idle) =
    let l = did.went.left in
    let n = pumped_length 0 did.answers in
    let f = did.fed_count in
    let d = did.dropped_count in
    let few = (goes_on_still r.engine.core r.idle i e).1 in
    elim (moves_or_waits r.engine.core p r.idle quiet) [
      | inl m ↦ (let m0 = m.0 in let m1 = m.1 in omega (arith, l, n, f, d, m0, m1, idle))
      | inr m ↦ omega (arith, l, m, idle, few)
    ]

pub pump_lowers : (r r' : RunState) (s s' : SlotsState) (p : Pumped) → IsIdle r.engine.core r.idle → PumpDid r r' s s' p → PumpLowers r r'
pump_lowers r r' s s' p i did none quiet = lowers_by (run_ending r.engine.core r.idle) r r' s s' p refl none i quiet did
