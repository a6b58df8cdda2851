-- A pump, where nobody is next, is a move in round order.
use Rattle.std.proofs.Common.{◌≡◌, ℕ, zero, suc, ◌+◌, ◌<◌, ◌≤◌, List, [], ◌∷◌, length, Option, Some, None, true, false, refl, sym, ap, ◌∙◌, arith}
use Rattle.std.specs.Option.{is_some}
use Rattle.std.proofs.lemmas.Bool.{lt-ltb}
use Rattle.world.specs.declared.event.Entry.{Entry}
use Rattle.world.specs.declared.event.End.{End}
use Rattle.world.specs.WorldState.{WorldState, can_feed}
use Rattle.semantics.specs.Core.{Core, some_runnable, ending_of}
use Rattle.semantics.specs.Rounds.{next_in_round}
use Rattle.semantics.specs.Moves.{Pump, last_of, idle_behind, FromPump}
use Rattle.semantics.proofs.Moves.{last_of-append, pumped_last}
use Rattle.ports.specs.SlotsState.{SlotsState}
use Rattle.ports.specs.declared.port.Polled.{Polled}
use Rattle.ports.specs.declared.port.Polled.TheVariants as polled
use Rattle.run_journal.specs.declared.answers.Pumped.{Pumped}
use Rattle.run_journal.specs.Pumping.{answer_at, entries_from}
use Rattle.run_journal.specs.Histories.{RunState, IsIdle, run_ending}
use Rattle.run_journal.specs.Turns.{idle_after, Pumps, PumpBy, PumpDid}
use Rattle.run_journal.proofs.Progress.{pumped_length}
use Rattle.run_journal.proofs.PumpLoop.{goes_on_still}
use Rattle.context_runner.specs.Moving.{Moved}

here : (w : WorldState) (k : ℕ) (r : Polled) (rs : List (Option Polled)) → ((j : ℕ) → is_some (answer_at (Some r ∷ rs) j) ≡ can_feed w (k + j)) → can_feed w k ≡ true
here w k r rs asked = let e : k + 0 ≡ k = omega arith in sym (asked 0 ∙ ap (can_feed w) e)

behind : (w : WorldState) (k : ℕ) (a : Option Polled) (rs : List (Option Polled)) → ((j : ℕ) → is_some (answer_at (a ∷ rs) j) ≡ can_feed w (k + j)) → (j : ℕ) → is_some (answer_at rs j) ≡ can_feed w (k + 1 + j)
behind w k a rs asked j = let e : k + suc j ≡ k + 1 + j = omega arith in asked (suc j) ∙ ap (can_feed w) e

-- each entry of a pump is that of a channel that could be fed
from_pump : (w : WorldState) (b k : ℕ) (rs : List (Option Polled)) → b ≤ k → ((j : ℕ) → is_some (answer_at rs j) ≡ can_feed w (k + j)) → FromPump w b (entries_from k rs)
from_pump w b k [] le asked = tt
from_pump w b k (None ∷ rs) le asked = from_pump w b (k + 1) rs (omega (arith, le)) (behind w k None rs asked)
from_pump w b k (Some (polled.Word word) ∷ rs) le asked = (le, here w k _ rs asked, from_pump w (k + 1) (k + 1) rs (omega arith) (behind w k _ rs asked))
from_pump w b k (Some polled.Empty ∷ rs) le asked = from_pump w b (k + 1) rs (omega (arith, le)) (behind w k _ rs asked)
from_pump w b k (Some polled.Closed ∷ rs) le asked = (le, here w k _ rs asked, from_pump w (k + 1) (k + 1) rs (omega arith) (behind w k _ rs asked))
from_pump w b k (Some polled.Failed ∷ rs) le asked = (le, here w k _ rs asked, from_pump w (k + 1) (k + 1) rs (omega arith) (behind w k _ rs asked))

-- all entries of a pump
pub all_from_pump : (w : WorldState) (rs : List (Option Polled)) → ((j : ℕ) → is_some (answer_at rs j) ≡ can_feed w j) → FromPump w 0 (entries_from 0 rs)
all_from_pump w rs asked = from_pump w 0 0 rs (omega arith) (λ j. let e : j ≡ 0 + j = omega arith in asked j ∙ ap (can_feed w) e)

-- a pump that left nothing is counted
idle_is : (core : Core) (idle : ℕ) (fed dropped : ℕ) (p : Pumped) (es : List Entry) → some_runnable core ≡ false → p.fed ≡ fed → p.dropped ≡ dropped → length es ≡ fed + dropped → idle_after core p idle ≡ idle_behind es idle
idle_is core idle zero zero p [] none f d e = rw (none, f, d) refl
idle_is core idle zero zero p (x ∷ xs) none f d e = absurd (omega (arith, e))
idle_is core idle zero (suc n) p [] none f d e = absurd (omega (arith, e))
idle_is core idle zero (suc n) p (x ∷ xs) none f d e = rw (none, f, d, lt-ltb 0 (suc n) (omega arith)) refl
idle_is core idle (suc m) n p [] none f d e = absurd (omega (arith, e))
idle_is core idle (suc m) n p (x ∷ xs) none f d e = rw (none, f, d, lt-ltb 0 (suc m) (omega arith)) refl

pumped_moves : (r r' : RunState) (s s' : SlotsState) (p : Pumped) → ending_of r.engine.core ≡ None → r.idle < 1000 → next_in_round r.engine.core (last_of None r.entries) ≡ None → some_runnable r.engine.core ≡ false → Pumps r.engine r'.engine r.entries r'.entries s s' p → r'.idle ≡ idle_after r.engine.core p r.idle → Moved r r'
pumped_moves r r' s s' p goes few next nobody did idle = record {
  move = Pump (entries_from 0 did.answers);
  entries = did.went.entries;
  may = (next, goes, few, all_from_pump r.engine.core.world did.answers did.asked);
  leads = did.went.leads;
  idle = idle ∙ idle_is r.engine.core r.idle _ _ p (entries_from 0 did.answers) nobody did.fed_count did.dropped_count (pumped_length 0 did.answers);
}

moves_by : (o : Option End) (r r' : RunState) (s s' : SlotsState) (p : Pumped) → o ≡ None → ending_of r.engine.core ≡ None → r.idle < 1000 → next_in_round r.engine.core (last_of None r.entries) ≡ None → some_runnable r.engine.core ≡ false → PumpBy o r r' s s' p → Moved r r'
moves_by (Some end) r r' s s' p is goes few next nobody did = absurd (cc)
moves_by None r r' s s' p is goes few next nobody did = pumped_moves r r' s s' p goes few next nobody did.0 did.1

pub pump_moves : (r r' : RunState) (s s' : SlotsState) (p : Pumped) → IsIdle r.engine.core r.idle → run_ending r.engine.core r.idle ≡ None → next_in_round r.engine.core (last_of None r.entries) ≡ None → some_runnable r.engine.core ≡ false → PumpDid r r' s s' p → Moved r r'
pump_moves r r' s s' p quiet none next nobody did =
    let goes = goes_on_still r.engine.core r.idle quiet none in
    moves_by (run_ending r.engine.core r.idle) r r' s s' p none goes.0 goes.1 next nobody did

last_by : (o : Option End) (r r' : RunState) (s s' : SlotsState) (p : Pumped) → o ≡ None → PumpBy o r r' s s' p → last_of None r'.entries ≡ last_of None r.entries
last_by (Some end) r r' s s' p is did = absurd (cc)
last_by None r r' s s' p is did =
    ap (last_of None) did.0.went.entries
    ∙ last_of-append None r.entries (entries_from 0 did.0.answers)
    ∙ pumped_last r.engine.core.world 0 (last_of None r.entries) (entries_from 0 did.0.answers) (all_from_pump r.engine.core.world did.0.answers did.0.asked)

-- no context runs in a pump
pub pump_last : (r r' : RunState) (s s' : SlotsState) (p : Pumped) → run_ending r.engine.core r.idle ≡ None → PumpDid r r' s s' p → last_of None r'.entries ≡ last_of None r.entries
pump_last r r' s s' p none did = last_by (run_ending r.engine.core r.idle) r r' s s' p none did
