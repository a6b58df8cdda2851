-- The relation between both runs, said of plans: where each register of a context is.
use Rattle.std.proofs.Common.{◌≡◌, ◌≢◌, ℕ, ◌<◌, List, length, Option, Some, None, Bool, true, false, refl, sym, ap, ◌∙◌, subst, inl, inr}
use Rattle.std.specs.Prelude.{slice_get, slice_index, option_map, ◌==◌}
use Rattle.std.proofs.lemmas.Bool.{eqb-true, eqb-false}
use Rattle.std.proofs.lemmas.Option.{same_Some, slice_get_within}
use Rattle.world.specs.declared.event.Phase.{Phase}
use Rattle.micro_isa.specs.declared.program.VReg.{VReg}
use Rattle.micro_isa.specs.declared.program.Line.{Line}
use Rattle.micro_isa.specs.declared.program.Bundle.{Bundle}
use Rattle.micro_isa.specs.declared.image.PReg.{PReg}
use Rattle.micro_isa.specs.declared.image.Word.{Word}
use Rattle.micro_isa.specs.Formed.{IsFormedBundle}
use Rattle.semantics.specs.Core.{Core, has_ended}
use Rattle.semantics.specs.Events.{run}
use Rattle.semantics.specs.Effects.{SavedContext}
use Rattle.semantics.specs.Source.{SourceContext, Contexts, code_of}
use Rattle.semantics.specs.Machine.{Machine, active, words_of, machine_semantics, machine_open}
use Rattle.semantics.proofs.Simulation.{BothBeside}
use Rattle.plan.specs.declared.row.Plan.{Plan}
use Rattle.budget.specs.declared.Budget.{Budget}
use Rattle.emitted.specs.Edges.{row_at, place_or_zero}
use Rattle.emitted.specs.Words.{address}
use Rattle.emitted.specs.Located.{register_at, StandsAt, IsLocated}
use Rattle.emitted.specs.Emitted.{plan_at, register_in, emitted, ArePlans, PlansFit, Locates}
use Rattle.emitted.proofs.Glue.{OnFile}
use Rattle.emitted.proofs.Standing.{IsOther, Arrives, Suspended}
use Rattle.emitted.proofs.Contexts.{has_ended_at, One, CutAt, Related}
use Rattle.emitted.proofs.WordsOf.{laid}
use Rattle.emitted.proofs.Implementing.{laids, related}

is_other : (pending : Option VReg) (v : VReg) → pending ≢ Some v → IsOther pending v
is_other None v ne = tt
is_other (Some w) v ne = λ e. ne (let same : w ≡ v = λ i. record { 0 = sym e i } in ap Some same)

module _ (code : List Line) (plan : Plan) (size : ℕ) (reg : ℕ → PReg) where
  located_at : (x : SourceContext) (before : List ℕ) (m : OnFile) → Arrives (laid code plan size reg) size x before m → StandsAt code plan reg x m.kept m.values
  located_at x before m a = record {
    within = a.within;
    none = a.none;
    at = ap (λ k. k.at) a.kept;
    pending = ap (λ k. k.pending) a.kept ∙ ap (option_map (λ v. reg (place_or_zero (row_at plan x.kept.at).write))) a.none;
    values = a.agree;
  }

  located_waiting : (words : List Word) (x : SourceContext) (k : SavedContext PReg) (file : List ℕ) → Suspended (laid code plan size reg) size words reg x k file → IsLocated code plan reg x k file
  located_waiting words x k file (inl e) = inl (record {
    within = subst (λ n. n < length code) (sym e.place) e.stays.within;
    none = e.none;
    at = ap (λ n. n.at) e.kept ∙ ap (address code plan) (sym e.place);
    pending = ap (λ n. n.pending) e.kept ∙ ap (option_map (λ v. reg (place_or_zero (row_at plan 0).write))) e.none;
    values = λ v live.
        subst (λ n. slice_index file (register_at plan reg n v) ≡ x.values v) (sym e.place) (e.values v (subst (λ n. (laid code plan size reg).live n v) e.place live)).1;
  })
  located_waiting words x k file (inr b) = inr (
    b.0,
    record {
      within = b.1.way.edge.within;
      next = b.1.place;
      at = ap (λ n. n.at) b.1.kept;
      pending = ap (λ n. n.pending) b.1.kept;
      values = λ v live ne. (b.1.values v live (is_other x.kept.pending v ne)).1;
    },
  )

module _ (b : Bundle) (plans : List Plan) (budget : Budget) (formed : IsFormedBundle b) (are : ArePlans b plans) (room : PlansFit b plans budget) where
  located : (core : Core) (xs : Contexts) (y : Machine) → Related (emitted b plans budget) (laids b plans budget formed are room) b.file (register_in budget) core xs y → (c : ℕ) (phase : Phase) → slice_get core.phases c ≡ Some phase → has_ended phase ≡ false → IsLocated (code_of b c) (plan_at plans c) (register_in budget c) (xs c) (y.contexts c) y.file
  located core xs y r c phase is lives = by core.over refl
    where
      goes : has_ended_at (slice_get core.phases c) ≡ false
      goes = ap has_ended_at is ∙ lives

      one : One (laids b plans budget formed are room c) b.file (words_of (emitted b plans budget) c) (register_in budget c) (slice_get core.phases c) (xs c) (y.contexts c) y.file → IsLocated (code_of b c) (plan_at plans c) (register_in budget c) (xs c) (y.contexts c) y.file
      one o = located_waiting (code_of b c) (plan_at plans c) b.file (register_in budget c) (words_of (emitted b plans budget) c) (xs c) (y.contexts c) y.file (o.waits goes)

      there : c < length core.phases
      there = slice_get_within core.phases c phase is

      cut : (d : ℕ) → CutAt (emitted b plans budget) (laids b plans budget formed are room) b.file (register_in budget) d core.phases xs y → (e : Bool) → (c == d) ≡ e → IsLocated (code_of b c) (plan_at plans c) (register_in budget c) (xs c) (y.contexts c) y.file
      cut d k true e =
          let same : d ≡ c = sym (eqb-true c d e) in
          let stands : Arrives (laids b plans budget formed are room c) b.file (xs c) y.file (active y c) = subst (λ n. Arrives (laids b plans budget formed are room n) b.file (xs n) y.file (active y n)) same k.stands in
          inl (located_at (code_of b c) (plan_at plans c) b.file (register_in budget c) (xs c) y.file (active y c) stands)
      cut d k false e = one (k.others.each c there (λ same. eqb-false c d e (sym (same_Some d c same))))

      by : (over : Bool) → core.over ≡ over → IsLocated (code_of b c) (plan_at plans c) (register_in budget c) (xs c) (y.contexts c) y.file
      by false e = one ((r.held e).each c there (λ same. cc))
      by true e = let k = r.cut e in cut k.0 k.1 (c == k.0) refl

  pub locates : Locates b plans budget
  locates = record {
    each = λ bound es x y seen seen' c phase ex ey is lives.
        let R = Related (emitted b plans budget) (laids b plans budget formed are room) b.file (register_in budget) in
        let both = related b plans budget formed are room bound es in
        let here = subst (λ o. BothBeside R o (run (machine_semantics (emitted b plans budget)) (machine_open (emitted b plans budget) bound) es)) ex both in
        let k = subst (λ o. BothBeside R (Some (x, seen)) o) ey here in
        located y.core x.state y.state k.related c phase is lives;
  }
