-- What one instruction adds to the stretch so far, over code and registers of any kind.
use Rattle.std.proofs.Common.{◌≡◌, ℕ, suc, ◌+◌, ◌-◌, ◌<◌, List, [], ◌∷◌, drop, Some, None, true, refl, sym, ap, ◌∙◌, arith}
use Rattle.std.specs.Prelude.{if◌then◌else◌}
use Rattle.semantics.specs.declared.Stopped.{Stopped}
use Rattle.semantics.specs.declared.Effect.{Effect}
use Rattle.semantics.specs.Events.{Stretch}
use Rattle.semantics.specs.Stretches.{Kind, ActiveContext, spent, awaiting, after, effect_of_one, uncounted_on, uncounted, landed, settled, effect_here, going_on, counted_from, stretch}

-- after so many steps more
abbrev pub later : {X : Type 0} → ℕ → Stretch X → Stretch X
later k gone = record gone { steps = k + gone.steps }

later-spent : {X : Type 0} (k : ℕ) (g : Stretch X) → later k (spent g) ≡ later (k + 1) g
later-spent k g =
    let e : k + suc g.steps ≡ k + 1 + g.steps = omega arith in
    λ i. record g { steps = e i }

module _ {L R V : Type 0} (kind : Kind L R V) (c : ℕ) (memory : List ℕ) (code : List L) where
  -- one instruction, and what comes behind it
  abbrev one_more : ℕ → ActiveContext R V → Effect R → Stretch (ActiveContext R V)
  one_more n x e = going_on (λ y. counted_from kind c memory code n (settled kind c memory code y)) (after kind e x) e.stopped

  one_at : (steps left : ℕ) (x : ActiveContext R V) (e : Effect R) → steps < left → e ≡ effect_here kind c memory code x → counted_from kind c memory code (left - steps) x ≡ one_more (left - (steps + 1)) x e
  one_at steps left x e lt is =
      let n : left - steps ≡ suc (left - (steps + 1)) = omega arith in
      ap (λ k. counted_from kind c memory code k x) n ∙ ap (one_more (left - (steps + 1)) x) (sym is)

  -- a stretch begins behind what is not counted
  pub begins : (left : ℕ) (x y : ActiveContext R V) → settled kind c memory code x ≡ y → later 0 (counted_from kind c memory code (left - 0) y) ≡ stretch kind c memory code left x
  begins left x y settles =
      let all : left - 0 ≡ left = omega arith in
      let gone : Stretch (ActiveContext R V) = counted_from kind c memory code left y in
      let none : 0 + gone.steps ≡ gone.steps = omega arith in
      ap (λ n. later 0 (counted_from kind c memory code n y)) all
      ∙ (λ i. record gone { steps = none i })
      ∙ ap (counted_from kind c memory code left) (sym settles)

  -- one that goes on
  pub one_on : (steps left : ℕ) (x y : ActiveContext R V) (e : Effect R) → steps < left → e ≡ effect_here kind c memory code x → e.stopped ≡ None → settled kind c memory code (after kind e x) ≡ y → later (steps + 1) (counted_from kind c memory code (left - (steps + 1)) y) ≡ later steps (counted_from kind c memory code (left - steps) x)
  one_on steps left x y e lt is goes settles =
      let rest : ActiveContext R V → Stretch (ActiveContext R V) = counted_from kind c memory code (left - (steps + 1)) in
      sym (
      ap (later steps) (one_at steps left x e lt is)
      ∙ ap (λ o. later steps (going_on (λ z. rest (settled kind c memory code z)) (after kind e x) o)) goes
      ∙ later-spent steps (rest (settled kind c memory code (after kind e x)))
      ∙ ap (λ z. later (steps + 1) (rest z)) settles
      )

  -- one that ends the stretch
  pub ends_on : (steps left : ℕ) (x : ActiveContext R V) (e : Effect R) (s : Stopped R) → steps < left → e ≡ effect_here kind c memory code x → e.stopped ≡ Some s → record { state = awaiting s.pending (after kind e x); steps = steps + 1; why = s.why } ≡ later steps (counted_from kind c memory code (left - steps) x)
  ends_on steps left x e s lt is ends =
      sym (
      ap (later steps) (one_at steps left x e lt is)
      ∙ ap (λ o. later steps (going_on (λ z. counted_from kind c memory code (left - (steps + 1)) (settled kind c memory code z)) (after kind e x) o)) ends
      )

  uncounted_none : (jump : ActiveContext R V → ActiveContext R V) (ls : List L) (x : ActiveContext R V) → ((l : L) → (kind.numbered l).counted ≡ true) → uncounted kind c memory jump ls x ≡ x
  uncounted_none jump [] x counts = refl
  uncounted_none jump (l ∷ ls) x counts =
      let e : Effect R = effect_of_one kind c memory (kind.numbered l) x in
      ap (λ b. if b then x else uncounted_on kind c memory (uncounted kind c memory jump ls) jump x e e.stopped) (counts l)

  -- where each instruction is counted nothing comes before it
  pub settled_none : (x : ActiveContext R V) → ((l : L) → (kind.numbered l).counted ≡ true) → settled kind c memory code x ≡ x
  settled_none x counts = uncounted_none (landed kind c memory code) (drop x.kept.at code) x counts
