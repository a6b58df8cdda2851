-- One context followed: a stretch of the image's words beside the stretch of the source's instructions.
use Rattle.std.proofs.Common.{◌≡◌, ℕ, zero, suc, List, length, Option, Some, None, Bool, true, false, refl, sym, ap, ◌∙◌, subst}
use Rattle.std.specs.Prelude.{slice_index}
use Rattle.micro_isa.specs.declared.program.VReg.{VReg}
use Rattle.micro_isa.specs.declared.program.Line.{Line}
use Rattle.micro_isa.specs.declared.image.PReg.{PReg}
use Rattle.micro_isa.specs.declared.image.Word.{Word}
use Rattle.semantics.specs.declared.SegmentExit.{SegmentExit}
use Rattle.semantics.specs.declared.SegmentExit.TheVariants as stop
use Rattle.semantics.specs.declared.Stopped.{Stopped}
use Rattle.semantics.specs.declared.Effect.{Effect}
use Rattle.semantics.specs.Core.{is_cut}
use Rattle.semantics.specs.Events.{Stretch}
use Rattle.semantics.specs.Stretches.{awaiting, after, spent, settled, effect_here, going_on, counted_from}
use Rattle.semantics.specs.Source.{SourceContext, source_kind}
use Rattle.semantics.specs.Machine.{machine_kind}
use Rattle.semantics.proofs.Stretching.{settled_none}
use Rattle.semantics.proofs.Waiting.{FitsStop}
use Rattle.emitted.proofs.Glue.{OnFile}
use Rattle.emitted.proofs.Standing.{Laid, Arrives, Suspended}

-- the stop ends the context: nothing of it is read any more
abbrev pub ends_context : SegmentExit → Bool
ends_context stop.Halt = true
ends_context (stop.Divide line) = true
ends_context _ = false

module _ (p : Laid) (size : ℕ) (words : List Word) (reg : ℕ → PReg) where
  -- after a stretch: as many steps and the same stop; a context that was cut stands at its instruction, and one that waits
  -- is suspended, unless it has ended
  pub record Followed (before : List ℕ) (gx : Stretch SourceContext) (gy : Stretch OnFile) : Type 0 where
    pub steps : gx.steps ≡ gy.steps
    pub why : gx.why ≡ gy.why
    pub long : length gy.state.values ≡ size
    pub others : (q : ℕ) → (p.free q → ⊥) → slice_index gy.state.values q ≡ slice_index before q
    pub cut : is_cut gx.why ≡ true → Arrives p size gx.state before gy.state
    pub fits : is_cut gx.why ≡ false → FitsStop gx.why gx.state.kept.pending
    pub suspended : is_cut gx.why ≡ false → ends_context gx.why ≡ false → Suspended p size words reg gx.state gy.state.kept gy.state.values

  module _ (c : ℕ) (memory : List ℕ) where
    -- what a counted word does is what its instruction does
    abbrev pub Matches : List ℕ → SourceContext → OnFile → Option (Stopped VReg) → Option (Stopped PReg) → Type 0
    Matches before x m None None = Arrives p size x before (settled machine_kind c memory words m)
    Matches before x m (Some s) (Some t) =
        (s.why ≡ t.why) × (is_cut s.why ≡ false) × FitsStop s.why s.pending × (m.values ≡ before) × (ends_context s.why ≡ false → Suspended p size words reg (awaiting s.pending x) (awaiting t.pending m).kept m.values)
    Matches before x m None (Some t) = ⊥
    Matches before x m (Some s) None = ⊥

    abbrev pub MatchesEffects : SourceContext → OnFile → Effect VReg → Effect PReg → Type 0
    MatchesEffects x m e d = Matches m.values (after source_kind e x) (after machine_kind d m) e.stopped d.stopped

    module _ (code : List Line) where
      -- the words carry the code out
      abbrev pub Carries : Type 0
      Carries =
          (x : SourceContext) (before : List ℕ) (m : OnFile) → Arrives p size x before m → MatchesEffects x m (effect_here source_kind c memory code x) (effect_here machine_kind c memory words m)

      abbrev From : ℕ → Type 0
      From n =
          (x : SourceContext) (before : List ℕ) (m : OnFile) → Arrives p size x before m → Followed before (counted_from source_kind c memory code n x) (counted_from machine_kind c memory words n m)

      follow_on : (n : ℕ) → From n → (before file : List ℕ) → length file ≡ size → ((q : ℕ) → (p.free q → ⊥) → slice_index file q ≡ slice_index before q) → (x : SourceContext) (m : OnFile) (o : Option (Stopped VReg)) (t : Option (Stopped PReg)) → Matches file x m o t → Followed before (going_on (λ y. counted_from source_kind c memory code n (settled source_kind c memory code y)) x o) (going_on (λ y. counted_from machine_kind c memory words n (settled machine_kind c memory words y)) m t)
      follow_on n rest before file long others x m None None k =
          let f = rest x file (settled machine_kind c memory words m) k in
          let gy = counted_from machine_kind c memory words n (settled machine_kind c memory words m) in
          subst (λ y. Followed before (spent (counted_from source_kind c memory code n y)) (spent gy)) (sym (settled_none source_kind c memory code x (λ l. refl))) (record {
            steps = ap suc f.steps;
            why = f.why;
            long = f.long;
            others = λ q nf. f.others q nf ∙ others q nf;
            cut = λ is. let a = f.cut is in record { within = a.within; none = a.none; kept = a.kept; long = a.long; agree = a.agree; others = λ q nf. a.others q nf ∙ others q nf };
            fits = f.fits;
            suspended = f.suspended;
          })
      follow_on n rest before file long others x m (Some s) (Some t) k = record {
        steps = refl;
        why = k.0;
        long = ap length k.3 ∙ long;
        others = λ q nf. ap (λ f. slice_index f q) k.3 ∙ others q nf;
        cut = λ is. absurd (let no = k.1 in cc);
        fits = λ _. k.2;
        suspended = λ _ lives. k.4 lives;
      }
      follow_on n rest before file long others x m None (Some t) k = absurd k
      follow_on n rest before file long others x m (Some s) None k = absurd k

      pub follow : Carries → (n : ℕ) → From n
      follow carries zero x before m a = record {
        steps = refl;
        why = refl;
        long = a.long;
        others = a.others;
        cut = λ is. a;
        fits = λ cut. absurd (cc);
        suspended = λ cut. absurd (cc);
      }
      follow carries (suc n) x before m a =
          let e = effect_here source_kind c memory code x in
          let d = effect_here machine_kind c memory words m in
          follow_on n (follow carries n) before m.values a.long a.others (after source_kind e x) (after machine_kind d m) e.stopped d.stopped (carries x before m a)
