-- A turn and a pump of a shared run, and what the pass is told of them.
use Rattle.std.proofs.Common.{◌≡◌, ℕ, ◌+◌, ◌-◌, ◌≤◌, List, [], ◌∷◌, ◌++◌, length, drop, Option, Some, None, Bool, true, false, refl, sym, ap, ◌∙◌, subst, arith}
use Rattle.std.specs.Prelude.{if◌then◌else◌, ◌==◌}
use Rattle.std.specs.Option.{option_or}
use Rattle.std.proofs.lemmas.List.{append-nil}
use Rattle.std.proofs.lemmas.Bool.{eqb-true}
use mathlib.Core.List.{IsPrefix}
use Rattle.world.specs.declared.event.End.{End}
use Rattle.world.specs.declared.event.End.TheVariants as ending
use Rattle.world.specs.declared.event.Entry.{Entry}
use Rattle.world.specs.declared.event.Event.TheVariants.{Run}
use Rattle.ports.specs.declared.port.Polled.{Polled}
use Rattle.ports.specs.declared.port.Polled.TheVariants as polled
use Rattle.ports.specs.SlotsState.{SlotsState}
use Rattle.semantics.specs.Core.{Core, ending_of}
use Rattle.semantics.specs.Entries.{LeadsTo}
use Rattle.semantics.specs.Events.{fire}
use Rattle.semantics.specs.Machine.{machine_semantics, machine_open}
use Rattle.engine_core.specs.EngineState.{config_of}
use Rattle.run_journal.specs.declared.answers.TurnAnswer.{TurnAnswer}
use Rattle.run_journal.specs.declared.answers.TurnAnswer.TheVariants as turn
use Rattle.run_journal.specs.declared.answers.Pumped.{Pumped}
use Rattle.run_journal.specs.Histories.{RunState, IsHistory, IsIdle, run_ending, bound_of}
use Rattle.run_journal.specs.Pumping.{one_if, answered, entries_from, asked_in, fed_in, dropped_in}
use Rattle.run_journal.specs.Room.{total}
use Rattle.run_journal.specs.Turns.{turn_answer, TurnDid, PumpBy, PumpDid}
use Rattle.baton.specs.Views.{numbered, added, taken_view, posted_view, freed_view}
use Rattle.context_runner.specs.declared.beginning.Beginning.{Beginning}
use Rattle.context_runner.specs.Sharing.{BenchState, beginning, Knows, is_fed, is_unplugged, OwnOf, AskedBy, Turned, PumpedOn, SeesAfter, TurnTold, PumpTold, HasTaken}
use Rattle.context_runner.specs.Sharing.AskedBy.{ended, idle, open_inputs}
use Rattle.baton.proofs.Lists.{prefix_same, prefix_then}
use Rattle.context_runner.proofs.Turning.{own_of}
use Rattle.context_runner.proofs.Pumping.{all_from_pump}
use Rattle.context_runner.proofs.Going.{not_over}

-- nothing changed
stood : (r r' : RunState) → r' ≡ r → r'.entries ≡ r.entries ++ []
stood r r' same = ap (λ x. x.entries) same ∙ sym (append-nil r.entries)

pub turned_is : (answer : TurnAnswer) (r r' : RunState) (s s' : SlotsState) (c : ℕ) → IsHistory r.engine r.entries → answer ≡ turn_answer (machine_semantics r.engine.image) (config_of r.engine) (length r.entries) c → TurnDid answer r r' s s' c → Turned answer r r' c
turned_is (turn.Ran e) r r' s s' c known is did = record {
  known = known;
  answered = is;
  own = e ∷ did.0.lost;
  entries = did.0.went.entries;
  legal = did.0.went.leads;
  which = own_of r r' s s' c e did.0;
}
turned_is (turn.NotReady n) r r' s s' c known is did = record {
  known = known;
  answered = is;
  own = [];
  entries = stood r r' did.0;
  legal = ap (λ x. config_of x.engine) (sym did.0);
  which = refl;
}
turned_is (turn.Over how) r r' s s' c known is did = record {
  known = known;
  answered = is;
  own = [];
  entries = stood r r' did.0;
  legal = ap (λ x. config_of x.engine) (sym did.0);
  which = refl;
}

-- what answers tell, and the entries that they leave: one for each word and for each port that was lost, at most one for each answer
record LeftOf (rs : List (Option Polled)) (es : List Entry) : Type 0 where
  fed : fed_in rs ≡ total (λ e. one_if (is_fed e)) es
  dropped : dropped_in rs ≡ total (λ e. one_if (is_unplugged e)) es
  all : length es ≡ fed_in rs + dropped_in rs
  few : length es ≤ asked_in rs

one_more : (k : ℕ) (a : Option Polled) (rs : List (Option Polled)) (es : List Entry) → LeftOf rs es → LeftOf (a ∷ rs) (answered k a ++ es)
one_more k None rs es h = let f = h.fed in let d = h.dropped in let n = h.all in let w = h.few in record { fed = omega (arith, f); dropped = omega (arith, d); all = omega (arith, n); few = omega (arith, w) }
one_more k (Some (polled.Word word)) rs es h = let f = h.fed in let d = h.dropped in let n = h.all in let w = h.few in record { fed = omega (arith, f); dropped = omega (arith, d); all = omega (arith, n); few = omega (arith, w) }
one_more k (Some polled.Empty) rs es h = let f = h.fed in let d = h.dropped in let n = h.all in let w = h.few in record { fed = omega (arith, f); dropped = omega (arith, d); all = omega (arith, n); few = omega (arith, w) }
one_more k (Some polled.Closed) rs es h = let f = h.fed in let d = h.dropped in let n = h.all in let w = h.few in record { fed = omega (arith, f); dropped = omega (arith, d); all = omega (arith, n); few = omega (arith, w) }
one_more k (Some polled.Failed) rs es h = let f = h.fed in let d = h.dropped in let n = h.all in let w = h.few in record { fed = omega (arith, f); dropped = omega (arith, d); all = omega (arith, n); few = omega (arith, w) }

left_of : (k : ℕ) (rs : List (Option Polled)) → LeftOf rs (entries_from k rs)
left_of k [] = record { fed = refl; dropped = refl; all = refl; few = omega arith }
left_of k (a ∷ rs) = one_more k a rs (entries_from (k + 1) rs) (left_of (k + 1) rs)

-- under an ending nothing is asked
none_asked : (core : Core) (n : ℕ) (how : End) → IsIdle core n → run_ending core n ≡ Some how → AskedBy core 0
none_asked core n how quiet over = by (ending_of core) refl over
  where
    idle_by : (b : Bool) → (n == 1000) ≡ b → (if b then Some ending.Idle else None) ≡ Some how → AskedBy core 0
    idle_by true is h = idle (subst (IsIdle core) (eqb-true n 1000 is) quiet) refl
    idle_by false is h = absurd (cc)

    by : (o : Option End) → ending_of core ≡ o → option_or o (if n == 1000 then Some ending.Idle else None) ≡ Some how → AskedBy core 0
    by (Some end) is h = ended end is refl
    by None is h = idle_by (n == 1000) refl h

pumped_by : (o : Option End) (p : Pumped) (r r' : RunState) (s s' : SlotsState) → IsHistory r.engine r.entries → IsIdle r.engine.core r.idle → run_ending r.engine.core r.idle ≡ o → PumpBy o r r' s s' p → PumpedOn p r r'
pumped_by (Some how) p r r' s s' known quiet over did = subst (λ q. PumpedOn q r r') (sym did.2) (record {
  known = known;
  own = [];
  entries = stood r r' did.0;
  legal = ap (λ x. config_of x.engine) (sym did.0);
  left = record { asked = none_asked r.engine.core r.idle how quiet over; from = tt; fed = refl; dropped = refl; others = refl; few = omega arith };
})
pumped_by None p r r' s s' known quiet over did =
    let pumps = did.0 in
    let left = left_of 0 pumps.answers in
    record {
      known = known;
      own = entries_from 0 pumps.answers;
      entries = pumps.went.entries;
      legal = pumps.went.leads;
      left = record {
        asked = open_inputs (not_over r.engine.core r.idle over) pumps.asked_all;
        from = all_from_pump r.engine.core.world pumps.answers pumps.asked;
        fed = pumps.fed_count ∙ left.fed;
        dropped = pumps.dropped_count ∙ left.dropped;
        others = left.all ∙ ap (λ n. n + dropped_in pumps.answers) (sym pumps.fed_count) ∙ ap (λ n. p.fed + n) (sym pumps.dropped_count);
        few = subst (λ n. length (entries_from 0 pumps.answers) ≤ n) (sym pumps.asked_count) left.few;
      };
    }

pub pumped_is : (p : Pumped) (r r' : RunState) (s s' : SlotsState) → IsHistory r.engine r.entries → IsIdle r.engine.core r.idle → PumpDid r r' s s' p → PumpedOn p r r'
pumped_is p r r' s s' known quiet did = pumped_by (run_ending r.engine.core r.idle) p r r' s s' known quiet refl did

-- a history that goes on begins the longer one
pub goes_on : (es es' own : List Entry) → es' ≡ es ++ own → IsPrefix es es'
goes_on es es' own is = (own, sym is)

behind : (xs ys : List Entry) → drop (length xs) (xs ++ ys) ≡ ys
behind [] ys = refl
behind (x ∷ xs) ys = behind xs ys

-- what the pass that holds the run sees of entries that were added to it, once it has put it back
sees_is : (o : Beginning) (before after : Knows) (r r' : RunState) (own : List Entry) → r.engine.image ≡ o.image → bound_of r.engine ≡ o.bound → before.seen ≡ r.entries → IsHistory r.engine r.entries
    → r'.entries ≡ r.entries ++ own → LeadsTo (machine_semantics r.engine.image) (config_of r.engine) own (config_of r'.engine)
    → after ≡ freed_view (posted_view before r'.entries) → SeesAfter o before after r.entries own (config_of r.engine)
sees_is o before after r r' own image bound seen known entries legal put = record {
  begins = subst (λ l. IsPrefix l r.entries) (sym seen) (prefix_same r.entries);
  leads = subst (λ (x : Beginning). LeadsTo (machine_semantics x.image) (machine_open x.image x.bound) r.entries (config_of r.engine)) (λ i. record { image = image i; bound = bound i; start = o.start }) known.legal;
  there = config_of r'.engine;
  legal = subst (λ m. LeadsTo (machine_semantics m) (config_of r.engine) own (config_of r'.engine)) image legal;
  ends = ap (λ v. v.seen) put ∙ entries;
  mine = ap (λ v. v.mine) put ∙ ap (λ l. before.mine ++ added l r'.entries) seen ∙ ap (λ l. before.mine ++ added r.entries l) entries ∙ ap (λ l. before.mine ++ numbered (length r.entries) l) (behind r.entries own);
  number = ap (λ v. v.number) put;
  looks = ap (λ v. v.looks) put;
}

pub turn_told : (o : Beginning) (answer : TurnAnswer) (before after : Knows) (b b' : BenchState) (c : ℕ) → beginning b ≡ o → c ≡ before.number - 1 → before.seen ≡ b.run.entries
    → Turned answer b.run b'.run c → after ≡ freed_view (posted_view before b'.run.entries) → TurnTold o answer before after
turn_told o answer before after b b' c from which seen did put =
    let image = ap (λ x. x.image) from in
    let here = config_of b.run.engine in
    record {
      history = b.run.entries;
      here = here;
      own = did.own;
      sees = sees_is o before after b.run b'.run did.own image (ap (λ x. x.bound) from) seen did.known did.entries did.legal put;
      answered = did.answered ∙ ap (λ m. turn_answer (machine_semantics m) here (length b.run.entries) c) image ∙ ap (λ k. turn_answer (machine_semantics o.image) here (length b.run.entries) k) which;
      which = subst (λ k. OwnOf (fire (machine_semantics o.image) here (Run k)).1 answer did.own) which (subst (λ m. OwnOf (fire (machine_semantics m) here (Run c)).1 answer did.own) image did.which);
    }

pub pump_told : (o : Beginning) (p : Pumped) (before after : Knows) (b b' : BenchState) → beginning b ≡ o → before.seen ≡ b.run.entries
    → PumpedOn p b.run b'.run → after ≡ freed_view (posted_view before b'.run.entries) → PumpTold o p before after
pump_told o p before after b b' from seen did put = record {
  history = b.run.entries;
  here = config_of b.run.engine;
  own = did.own;
  sees = sees_is o before after b.run b'.run did.own (ap (λ x. x.image) from) (ap (λ x. x.bound) from) seen did.known did.entries did.legal put;
  left = did.left;
}

-- a take that found the run free, after some that did not
pub took_is : (before mid after : Knows) (h : List Entry) → mid.seen ≡ before.seen → mid.mine ≡ before.mine → mid.number ≡ before.number → mid.looks ≡ before.looks → IsPrefix mid.seen h → after ≡ taken_view mid h → HasTaken before after h
took_is before mid after h seen mine number looks begins took = record {
  begins = subst (λ l. IsPrefix l h) seen begins;
  seen = ap (λ v. v.seen) took;
  mine = ap (λ v. v.mine) took ∙ mine;
  number = ap (λ v. v.number) took ∙ number;
  looks = ap (λ v. v.looks) took ∙ looks;
}

-- what the pass sees since before its take
sees_from : (o : Beginning) (before mid after : Knows) (h history own : List Entry) (here : _) → HasTaken before mid h → SeesAfter o mid after history own here → SeesAfter o before after history own here
sees_from o before mid after h history own here took s = record {
  begins = prefix_then before.seen h history took.begins (subst (λ l. IsPrefix l history) took.seen s.begins);
  leads = s.leads;
  there = s.there;
  legal = s.legal;
  ends = s.ends;
  mine = s.mine ∙ ap (λ l. l ++ numbered (length history) own) took.mine;
  number = s.number ∙ took.number;
  looks = s.looks ∙ took.looks;
}

pub turn_from : (o : Beginning) (answer : TurnAnswer) (before mid after : Knows) (h : List Entry) → HasTaken before mid h → TurnTold o answer mid after → TurnTold o answer before after
turn_from o answer before mid after h took t = record {
  history = t.history;
  here = t.here;
  own = t.own;
  sees = sees_from o before mid after h t.history t.own t.here took t.sees;
  answered = t.answered ∙ ap (λ k. turn_answer (machine_semantics o.image) t.here (length t.history) (k - 1)) took.number;
  which = subst (λ k. OwnOf (fire (machine_semantics o.image) t.here (Run (k - 1))).1 answer t.own) took.number t.which;
}

pub pump_from : (o : Beginning) (p : Pumped) (before mid after : Knows) (h : List Entry) → HasTaken before mid h → PumpTold o p mid after → PumpTold o p before after
pump_from o p before mid after h took t = record {
  history = t.history;
  here = t.here;
  own = t.own;
  sees = sees_from o before mid after h t.history t.own t.here took t.sees;
  left = t.left;
}

-- what a pass has seen only grows
pub turn_later : (o : Beginning) (answer : TurnAnswer) (before after : Knows) → TurnTold o answer before after → IsPrefix before.seen after.seen
turn_later o answer before after t = prefix_then before.seen t.history after.seen t.sees.begins (t.own, sym t.sees.ends)

pub pump_later : (o : Beginning) (p : Pumped) (before after : Knows) → PumpTold o p before after → IsPrefix before.seen after.seen
pump_later o p before after t = prefix_then before.seen t.history after.seen t.sees.begins (t.own, sym t.sees.ends)
