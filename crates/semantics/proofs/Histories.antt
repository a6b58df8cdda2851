-- Runs that go on: one entry more at the end of a legal history.
use Rattle.std.proofs.Common.{◌≡◌, List, [], ◌∷◌, ◌++◌, map, Option, Some, None, refl, sym, ap, ◌∙◌, subst}
use Rattle.std.proofs.lemmas.Option.{same_Some}
use Rattle.world.specs.declared.event.Event.{Event}
use Rattle.world.specs.declared.event.Entry.{Entry}
use Rattle.world.specs.declared.event.Seen.{Seen}
use Rattle.world.specs.declared.event.Illegal.{Illegal}
use Rattle.semantics.specs.Core.{illegal_of}
use Rattle.semantics.specs.Events.{Semantics, Config, fire, unless_illegal, step, after_first, run_on, run}
use Rattle.semantics.specs.Entries.{event_of, entry_seen, LeadsTo}

stepped_by : {X : Type 0} (rules : Semantics X) (m n : Config X) (e : Event) (s : Seen) (o : Option Illegal) → unless_illegal o (fire rules m e) ≡ Some (n, s) → fire rules m e ≡ (n, s)
stepped_by rules m n e s None h = same_Some _ _ h
stepped_by rules m n e s (Some why) h = absurd (cc)

-- an event that may happen is a step
pub legal_step : {X : Type 0} (rules : Semantics X) (m : Config X) (e : Event) → illegal_of m.core e ≡ None → step rules m e ≡ Some (fire rules m e)
legal_step rules m e legal = ap (λ o. unless_illegal o (fire rules m e)) legal

-- a step that is defined is what happens there
pub stepped : {X : Type 0} (rules : Semantics X) (m n : Config X) (e : Event) (s : Seen) → step rules m e ≡ Some (n, s) → fire rules m e ≡ (n, s)
stepped rules m n e s h = stepped_by rules m n e s (illegal_of m.core e) h

may_by : {A : Type 0} (o : Option Illegal) (a b : A) → unless_illegal o a ≡ Some b → o ≡ None
may_by None a b h = refl
may_by (Some why) a b h = absurd (cc)

-- and it may happen
pub may_happen : {X : Type 0} (rules : Semantics X) (m n : Config X) (e : Event) (s : Seen) → step rules m e ≡ Some (n, s) → illegal_of m.core e ≡ None
may_happen rules m n e s h = may_by (illegal_of m.core e) (fire rules m e) (n, s) h

-- one entry more
pub leads_more : {X : Type 0} (rules : Semantics X) (m last next : Config X) (es : List Entry) (e : Entry) (s : Seen) → LeadsTo rules m es last → step rules last (event_of e) ≡ Some (next, s) → entry_seen e s ≡ e → LeadsTo rules m (es ++ e ∷ []) next
leads_more rules m last next [] e s leads goes told = (next, s, ap (λ x. step rules x (event_of e)) leads ∙ goes, told, refl)
leads_more rules m last next (x ∷ xs) e s leads goes told =
    (leads.0, leads.1, leads.2, leads.3, leads_more rules leads.0 last next xs e s leads.4 goes told)

-- entries that are legal behind legal ones
pub leads_append : {X : Type 0} (rules : Semantics X) (m n last : Config X) (xs ys : List Entry) → LeadsTo rules m xs n → LeadsTo rules n ys last → LeadsTo rules m (xs ++ ys) last
leads_append rules m n last [] ys a b = subst (λ x. LeadsTo rules x ys last) (sym a) b
leads_append rules m n last (x ∷ xs) ys a b = (a.0, a.1, a.2, a.3, leads_append rules a.0 n last xs ys a.4 b)

-- entries that are legal are a run of their events
pub leads_run : {X : Type 0} (rules : Semantics X) (m last : Config X) (es : List Entry) → LeadsTo rules m es last → (seen : List Seen) × (run rules m (map event_of es) ≡ Some (last, seen))
leads_run rules m last [] leads = ([], ap (λ x. Some (x, [])) leads)
leads_run rules m last (e ∷ es) leads =
    let rest = leads_run rules leads.0 last es leads.4 in (
      leads.1 ∷ rest.0,
      ap (run_on (λ next. run rules next (map event_of es))) leads.2 ∙ ap (after_first leads.1) rest.1,
    )
