-- All contexts over one file: what one does leaves the others' values.
use Rattle.std.proofs.Common.{◌≡◌, ◌≢◌, ℕ, ◌<◌, List, length, Option, Some, None, Bool, true, false, refl, sym, ap, ◌∙◌, subst, length-set}
use Rattle.std.specs.Prelude.{slice_get, slice_set, ◌==◌, if◌then◌else◌}
use Rattle.std.proofs.lemmas.Bool.{eqb-true, eqb-false, ltb-true}
use Rattle.world.specs.declared.event.Phase.{Phase}
use Rattle.world.specs.declared.event.Phase.TheVariants.{Ready, Due, Receiving, Sending, Halted, Trapped}
use Rattle.world.specs.declared.event.Event.TheVariants.{Run}
use Rattle.world.specs.WorldState.{WorldState}
use Rattle.micro_isa.specs.declared.program.VReg.{VReg}
use Rattle.micro_isa.specs.declared.program.Bundle.{Bundle}
use Rattle.micro_isa.specs.declared.image.PReg.{PReg}
use Rattle.micro_isa.specs.declared.image.Word.{Word}
use Rattle.micro_isa.specs.declared.image.Image.{Image}
use Rattle.semantics.specs.declared.SegmentExit.{SegmentExit}
use Rattle.semantics.specs.declared.SegmentExit.TheVariants as stop
use Rattle.semantics.specs.Core.{Core, illegal_of, completed, can_go_on, phase_after, is_cut, has_ended}
use Rattle.semantics.specs.Events.{Stretch, given}
use Rattle.semantics.specs.Effects.{SavedContext}
use Rattle.semantics.specs.Stretches.{received, settled, counted_from, stretch, stretch_of}
use Rattle.semantics.specs.Source.{SourceContext, Contexts, source_kind, with_context, code_of, source_semantics}
use Rattle.semantics.specs.Machine.{Machine, machine_kind, active, with_active, words_of, machine_semantics}
use Rattle.semantics.proofs.Stretching.{settled_none}
use Rattle.semantics.proofs.Simulation.{Keeps, Simulates}
use Rattle.semantics.proofs.Waiting.{Fits, FitsStop, fits_after, legal, word_for, get-set_same, get-set_other}
use Rattle.emitted.proofs.Glue.{OnFile}
use Rattle.emitted.proofs.Standing.{Laid, HasWord, Arrives, Suspended, still_suspended, resumes}
use Rattle.emitted.proofs.Follow.{ends_context, Followed, Carries, follow}

-- a context whose phase is this has ended
abbrev pub has_ended_at : Option Phase → Bool
has_ended_at None = false
has_ended_at (Some phase) = has_ended phase

-- one that can go on has not ended
not_ended : (w : WorldState) (o : Option Phase) → can_go_on w o ≡ true → has_ended_at o ≡ false
not_ended w None h = refl
not_ended w (Some Ready) h = refl
not_ended w (Some (Due word)) h = refl
not_ended w (Some (Receiving k)) h = refl
not_ended w (Some (Sending k word)) h = refl
not_ended w (Some Halted) h = absurd (cc)
not_ended w (Some (Trapped trap line)) h = absurd (cc)

-- and a stop that leaves the context running does not end it
still_goes : (memory : List ℕ) (why : SegmentExit) → has_ended (phase_after memory why) ≡ false → ends_context why ≡ false
still_goes memory stop.Yield h = refl
still_goes memory (stop.Load address line) h = refl
still_goes memory (stop.Store address word line) h = refl
still_goes memory (stop.Recv k) h = refl
still_goes memory (stop.Send k word) h = refl
still_goes memory stop.Halt h = absurd (cc)
still_goes memory (stop.Divide line) h = absurd (cc)
still_goes memory stop.Bound h = refl

has_word : (p : Option VReg) (v : Option ℕ) → ((r : VReg) → p ≡ Some r → (w : ℕ) × (v ≡ Some w)) → HasWord p v
has_word None v h = tt
has_word (Some r) None h = let k = h r refl in absurd (cc)
has_word (Some r) (Some w) h = tt

-- all contexts: each one's words carry its code out, and none writes another's own registers
pub record AllCarried (b : Bundle) (m : Image) (plan : ℕ → Laid) (size : ℕ) (reg : ℕ → ℕ → PReg) : Type 0 where
  pub each : (c : ℕ) (memory : List ℕ) → Carries (plan c) size (words_of m c) (reg c) c memory (code_of b c)
  pub apart : (c d : ℕ) → d ≢ c → (q : ℕ) → (plan d).mine q → (plan c).free q → ⊥

-- one context, in the source and in the image: it is suspended, unless it has ended
pub record One (p : Laid) (size : ℕ) (words : List Word) (reg : ℕ → PReg) (phase : Option Phase) (x : SourceContext) (k : SavedContext PReg) (file : List ℕ) : Type 0 where
  pub fits : Fits phase x.kept.pending
  pub waits : has_ended_at phase ≡ false → Suspended p size words reg x k file

-- the contexts that wait, all of them or all but one
pub record Held (m : Image) (plan : ℕ → Laid) (size : ℕ) (reg : ℕ → ℕ → PReg) (but : Option ℕ) (phases : List Phase) (xs : Contexts) (y : Machine) : Type 0 where
  pub long : length y.file ≡ size
  pub each : (c : ℕ) → c < length phases → but ≢ Some c → One (plan c) size (words_of m c) (reg c) (slice_get phases c) (xs c) (y.contexts c) y.file

-- the context that the bound cut stands at its instruction, and all others wait
pub record CutAt (m : Image) (plan : ℕ → Laid) (size : ℕ) (reg : ℕ → ℕ → PReg) (c : ℕ) (phases : List Phase) (xs : Contexts) (y : Machine) : Type 0 where
  pub there : c < length phases
  pub stands : Arrives (plan c) size (xs c) y.file (active y c)
  pub others : Held m plan size reg (Some c) phases xs y

pub record Related (m : Image) (plan : ℕ → Laid) (size : ℕ) (reg : ℕ → ℕ → PReg) (core : Core) (xs : Contexts) (y : Machine) : Type 0 where
  pub held : core.over ≡ false → Held m plan size reg None core.phases xs y
  pub cut : core.over ≡ true → (c : ℕ) × CutAt m plan size reg c core.phases xs y

module _ (b : Bundle) (m : Image) (plan : ℕ → Laid) (size : ℕ) (reg : ℕ → ℕ → PReg) (fit : AllCarried b m plan size reg) where
  abbrev R : Core → Contexts → Machine → Type 0
  R = Related m plan size reg

  -- the phases after a segment of c: it waited for nothing while it ran
  abbrev phases_after : List ℕ → List Phase → ℕ → Stretch OnFile → List Phase
  phases_after memory ps c gy = slice_set (slice_set ps c Ready) c (phase_after memory gy.why)

  length-phases : (memory : List ℕ) (ps : List Phase) (c : ℕ) (gy : Stretch OnFile) → length (phases_after memory ps c gy) ≡ length ps
  length-phases memory ps c gy = length-set (slice_set ps c Ready) c (phase_after memory gy.why) ∙ length-set ps c Ready

  module _ (memory : List ℕ) (ps : List Phase) (xs : Contexts) (y : Machine) (c : ℕ) (gx : Stretch SourceContext) (gy : Stretch OnFile) (there : c < length ps) (h : Held m plan size reg None ps xs y) (f : Followed (plan c) size (words_of m c) (reg c) y.file gx gy) where
    abbrev ps' : List Phase
    ps' = phases_after memory ps c gy

    -- a context that is not c
    other : (d : ℕ) → d < length ps' → d ≢ c → One (plan d) size (words_of m d) (reg d) (slice_get ps' d) (xs d) (y.contexts d) gy.state.values
    other d lt ne =
        let one = h.each d (subst (λ k. d < k) (length-phases memory ps c gy) lt) (λ e. cc) in
        let phase : slice_get ps' d ≡ slice_get ps d =
        get-set_other (slice_set ps c Ready) c d (phase_after memory gy.why) ne ∙ get-set_other ps c d Ready ne
        in
        record {
          fits = subst (λ o. Fits o (xs d).kept.pending) (sym phase) one.fits;
          waits = λ lives. still_suspended (plan d) size (words_of m d) (reg d) (xs d) (y.contexts d) y.file gy.state.values (λ q mq. f.others q (fit.apart c d ne q mq)) (one.waits (ap has_ended_at (sym phase) ∙ lives));
        }

    itself : is_cut gx.why ≡ false → One (plan c) size (words_of m c) (reg c) (slice_get ps' c) gx.state gy.state.kept gy.state.values
    itself cut =
        let there' : c < length (slice_set ps c Ready) = subst (λ n. c < n) (sym (length-set ps c Ready)) there in
        let phase : slice_get ps' c ≡ Some (phase_after memory gy.why) = get-set_same (slice_set ps c Ready) c (phase_after memory gy.why) there' in
        record {
          fits = subst (λ o. Fits o gx.state.kept.pending) (sym phase) (fits_after memory gy.why gx.state.kept.pending (subst (λ w. FitsStop w gx.state.kept.pending) f.why (f.fits cut)));
          waits = λ lives. f.suspended cut (ap ends_context f.why ∙ still_goes memory gy.why (ap has_ended_at (sym phase) ∙ lives));
        }

    -- every context after a segment of c that was not cut
    after : is_cut gx.why ≡ false → Held m plan size reg None ps' (with_context xs c gx.state) (with_active y c gy.state)
    after cut = record { long = f.long; each = λ d lt but. at d lt (d == c) refl }
      where
        at : (d : ℕ) → d < length ps' → (e : Bool) → (d == c) ≡ e → One (plan d) size (words_of m d) (reg d) (slice_get ps' d) (if e then gx.state else xs d) (if e then gy.state.kept else y.contexts d) gy.state.values
        at d lt true is =
            subst (λ k. One (plan k) size (words_of m k) (reg k) (slice_get ps' k) gx.state gy.state.kept gy.state.values) (sym (eqb-true d c is)) (itself cut)
        at d lt false is = other d lt (eqb-false d c is)

    after_cut : is_cut gx.why ≡ true → CutAt m plan size reg c ps' (with_context xs c gx.state) (with_active y c gy.state)
    after_cut cut = record {
      there = subst (λ n. c < n) (sym (length-phases memory ps c gy)) there;
      stands = stands (c == c) refl;
      others = record { long = f.long; each = λ d lt but. at d lt but (d == c) refl };
    }
      where
        arrived : Arrives (plan c) size gx.state gy.state.values gy.state
        arrived = let a = f.cut cut in record { within = a.within; none = a.none; kept = a.kept; long = a.long; agree = a.agree; others = λ q nf. refl }

        stands : (e : Bool) → (c == c) ≡ e → Arrives (plan c) size (if e then gx.state else xs c) gy.state.values (record { kept = if e then gy.state.kept else y.contexts c; values = gy.state.values })
        stands true is = arrived
        stands false is = absurd (eqb-false c c is refl)

        at : (d : ℕ) → d < length ps' → Some c ≢ Some d → (e : Bool) → (d == c) ≡ e → One (plan d) size (words_of m d) (reg d) (slice_get ps' d) (if e then gx.state else xs d) (if e then gy.state.kept else y.contexts d) gy.state.values
        at d lt but true is = absurd (but (ap Some (sym (eqb-true d c is))))
        at d lt but false is = other d lt (eqb-false d c is)

  same_place : (q : Option VReg) (v : Option ℕ) (x : SourceContext) → (received source_kind q v x).kept.at ≡ x.kept.at
  same_place None v x = refl
  same_place (Some r) None x = refl
  same_place (Some r) (Some u) x = refl

  segment : (core : Core) (xs : Contexts) (y : Machine) (c : ℕ) → illegal_of core (Run c) ≡ None → R core xs y → Keeps R (completed core c) c (source_semantics b xs c (given core c)) (machine_semantics m y c (given core c))
  segment core xs y c ok r =
      let l = legal core c ok in
      let h = r.held l.open_still in
      let there = ltb-true c (length core.phases) l.there in
      let one = h.each c there (λ e. cc) in
      let g = given core c in
      let waits = one.waits (not_ended core.world (slice_get core.phases c) l.can) in
      let word = has_word (xs c).kept.pending g.word (λ p e. word_for core.world (slice_get core.phases c) p (subst (Fits (slice_get core.phases c)) e one.fits) l.can) in
      let x1 = received source_kind (xs c).kept.pending g.word (xs c) in
      let m1 = received machine_kind (y.contexts c).pending g.word (active y c) in
      let a = resumes (plan c) size (words_of m c) (reg c) c g.memory (xs c) (y.contexts c) y.file h.long waits g.word word in
      let go = follow (plan c) size (words_of m c) (reg c) c g.memory (code_of b c) (fit.each c g.memory) g.left x1 y.file (settled machine_kind c g.memory (words_of m c) m1) a in
      let from : counted_from source_kind c g.memory (code_of b c) g.left x1 ≡ stretch source_kind c g.memory (code_of b c) g.left x1 =
      λ i. counted_from source_kind c g.memory (code_of b c) g.left (sym (settled_none source_kind c g.memory (code_of b c) x1 (λ l. refl)) i)
      in
      let f : Followed (plan c) size (words_of m c) (reg c) y.file (stretch_of source_kind c (code_of b c) g (xs c)) (stretch_of machine_kind c (words_of m c) g (active y c)) =
      subst (λ k. Followed (plan c) size (words_of m c) (reg c) y.file k (stretch machine_kind c g.memory (words_of m c) g.left m1)) from go
      in
      let gx = stretch_of source_kind c (code_of b c) g (xs c) in
      let gy = stretch_of machine_kind c (words_of m c) g (active y c) in
      let memory = (completed core c).world.memory in
      record {
        steps = f.steps;
        why = f.why;
        related = record {
          held = λ goes. after memory core.phases xs y c gx gy there h f (ap is_cut f.why ∙ goes);
          cut = λ cut. (c, after_cut memory core.phases xs y c gx gy there h f (ap is_cut f.why ∙ cut));
        };
      }

  pub simulates : Simulates (source_semantics b) (machine_semantics m) R
  simulates = record {
    segment = segment;
    fed = λ core xs y k word ok r. record { held = λ o. r.held o; cut = λ o. r.cut o };
    unplugged = λ core xs y k ok r. record { held = λ o. r.held o; cut = λ o. r.cut o };
  }
