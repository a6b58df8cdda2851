-- What a turn is answered, and that the run stays what its type keeps.
use Rattle.std.proofs.Common.{◌≡◌, ℕ, ◌+◌, ◌^◌, ◌<◌, ◌≤◌, List, [], length, Some, None, true, false, refl, sym, ap, ◌∙◌, subst, arith}
use Rattle.micro_isa.specs.declared.limits.TheConstants.{MOST_STEPS}
use Rattle.micro_isa.specs.Formed.{IsFormedImage}
use Rattle.micro_isa.specs.declared.image.Image.{Image}
use Rattle.world.specs.declared.event.Event.TheVariants.{Run}
use Rattle.world.specs.declared.event.Entry.{Entry}
use Rattle.world.specs.declared.event.Entry.TheVariants as entry
use Rattle.world.specs.declared.event.End.{End}
use Rattle.world.specs.declared.event.Seen.{Seen}
use Rattle.world.specs.declared.event.SegmentEnd.TheVariants as segment_end
use Rattle.semantics.specs.Core.{Core, is_runnable, ending_of}
use Rattle.semantics.specs.Events.{Semantics, Config, fire}
use Rattle.semantics.specs.Entries.{entry_seen}
use Rattle.semantics.specs.Machine.{Machine, machine_semantics, machine_open}
use Rattle.engine_core.specs.EngineState.{EngineState, config_of}
use Rattle.ports.specs.declared.told.Told.{Told}
use Rattle.ports.specs.SlotsState.{SlotsState}
use Rattle.run_journal.specs.declared.answers.TurnAnswer.{TurnAnswer}
use Rattle.run_journal.specs.declared.answers.TurnAnswer.TheVariants as turn
use Rattle.run_journal.specs.Room.{entries_left, most_entries}
use Rattle.run_journal.specs.Keeping.{PortsKept}
use Rattle.run_journal.specs.Turning.{Fits}
use Rattle.run_journal.specs.Histories.{IsHistory, IsIdle, RunState, bound_of, channels_of}
use Rattle.run_journal.specs.Parts.{Advanced}
use Rattle.run_journal.specs.Turns.{open_answer, turn_answer, TurnDid}
use Rattle.run_journal.proofs.Counting.{opening_left}
use Rattle.run_journal.proofs.Going.{fits_advanced, advanced_keeps}

pub over_answer : (rules : Semantics Machine) (m : Config Machine) (n c : ℕ) (end : End) → Some end ≡ ending_of m.core → turn.Over end ≡ turn_answer rules m n c
over_answer rules m n c end e = ap (λ o. open_answer o (is_runnable m.core c) (entry_seen (entry.Ran c 0 segment_end.Bound) (fire rules m (Run c)).1) n) e

pub not_ready_is : (rules : Semantics Machine) (m : Config Machine) (n c : ℕ) → ending_of m.core ≡ None → is_runnable m.core c ≡ false → turn.NotReady n ≡ turn_answer rules m n c
not_ready_is rules m n c goes ready = rw (goes, ready) refl

pub ready_is : (e e' : EngineState) (es es' : List Entry) (s s' : SlotsState) (n c : ℕ) (told : Entry) → Advanced e e' es es' s s' c told → ending_of e.core ≡ None → is_runnable e.core c ≡ true → turn.Ran told ≡ turn_answer (machine_semantics e.image) (config_of e) n c
ready_is e e' es es' s s' n c told did goes ready = rw (goes, ready) (ap turn.Ran (did.tells ∙ ap (λ (p : Config Machine × Seen). entry_seen (entry.Ran c 0 segment_end.Bound) p.1) (sym did.ran)))

-- the number of entries is a u32
pub few_entries : (e : EngineState) (es : List Entry) → IsHistory e es → length es < 2 ^ 32
few_entries e es h = omega (arith, h.few, h.small)

pub idle_none : (core : Core) → IsIdle core 0
idle_none core = record { most = omega arith; none = λ lt. absurd (omega arith); goes = λ lt. absurd (omega arith) }

-- the opening of a run
pub opening_known : (e : EngineState) (image : Image) (bound : ℕ) → IsFormedImage image → bound ≤ MOST_STEPS → e.image ≡ image → config_of e ≡ machine_open image bound → IsHistory e [] × (bound_of e ≡ bound)
opening_known e image bound formed small same opens =
    let core = ap (λ (m : Config Machine). m.core) opens in
    let b : bound_of e ≡ bound = ap (λ (c : Core). c.world.bound) core in (
      record {
        formed = subst IsFormedImage (sym same) formed;
        small = subst (λ n. n ≤ MOST_STEPS) (sym b) small;
        legal = sym (opens ∙ ap (λ m. machine_open m bound) (sym same) ∙ ap (λ n. machine_open e.image n) (sym b));
        few = subst (λ (c : Core). 0 + entries_left c ≤ most_entries c.world.bound) (sym core) (omega (arith, opening_left image.setting (length image.contexts) bound formed.setting));
      },
      b,
    )

-- what a turn keeps
pub record TurnKept (r r' : RunState) (s s' : SlotsState) : Type 0 where
  pub known : IsHistory r'.engine r'.entries
  pub idle : IsIdle r'.engine.core r'.idle
  pub fits : Fits (channels_of r'.engine) r'.engine.core.world s'
  pub image : r'.engine.image ≡ r.engine.image
  pub bound : bound_of r'.engine ≡ bound_of r.engine
  pub kept : (start : List Told) → PortsKept (channels_of r.engine) r.entries r.engine.core r.idle start s.told → PortsKept (channels_of r'.engine) r'.entries r'.engine.core r'.idle start s'.told

same_kept : (r r' : RunState) (s s' : SlotsState) → IsHistory r.engine r.entries → IsIdle r.engine.core r.idle → Fits (channels_of r.engine) r.engine.core.world s → (r' ≡ r) × (s' ≡ s) → TurnKept r r' s s'
same_kept r r' s s' h i f (er, es) = subst (λ x. TurnKept r x s s') (sym er) (subst (λ x. TurnKept r r s x) (sym es) (record { known = h; idle = i; fits = f; image = refl; bound = refl; kept = λ start k. k }))

pub turn_kept : (answer : TurnAnswer) (r r' : RunState) (s s' : SlotsState) (c : ℕ) → IsHistory r.engine r.entries → IsIdle r.engine.core r.idle → Fits (channels_of r.engine) r.engine.core.world s → TurnDid answer r r' s s' c → TurnKept r r' s s'
turn_kept (turn.Ran e) r r' s s' c h i f (did, idle) = record {
  known = did.went.known;
  idle = subst (IsIdle r'.engine.core) (sym idle) (idle_none r'.engine.core);
  fits = fits_advanced r.engine r'.engine r.entries r'.entries s s' c e h did f;
  image = did.went.image;
  bound = did.went.bound;
  kept = λ start k. subst (λ n. PortsKept (channels_of r'.engine) r'.entries r'.engine.core n start s'.told) (sym idle) (advanced_keeps r.engine r'.engine r.entries r'.entries s s' c e r.idle start h did k);
}
turn_kept (turn.NotReady n) r r' s s' c h i f did = same_kept r r' s s' h i f did
turn_kept (turn.Over end) r r' s s' c h i f did = same_kept r r' s s' h i f did
