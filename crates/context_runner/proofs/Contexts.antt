-- A run has as many phases as its image has contexts.
use Rattle.std.proofs.Common.{◌≡◌, ℕ, ◌<◌, List, [], ◌∷◌, length, sym, ap, ◌∙◌, arith}
use Rattle.std.proofs.lemmas.List.{length-replicate}
use Rattle.world.specs.declared.event.Entry.{Entry}
use Rattle.semantics.specs.Events.{Semantics, Config}
use Rattle.semantics.specs.Entries.{LeadsTo, event_of}
use Rattle.semantics.specs.Machine.{machine_semantics, machine_open}
use Rattle.semantics.proofs.Moves.{phases_stay}
use Rattle.engine_core.specs.EngineState.{EngineState, config_of}
use Rattle.run_journal.specs.Histories.{IsHistory, bound_of}

phases_lead : {X : Type 0} (rules : Semantics X) (m now : Config X) (es : List Entry) → LeadsTo rules m es now → length now.core.phases ≡ length m.core.phases
phases_lead rules m now [] leads = sym (ap (λ x. length x.core.phases) leads)
phases_lead rules m now (e ∷ es) leads = phases_lead rules leads.0 now es leads.4 ∙ phases_stay rules m leads.0 (event_of e) leads.1 leads.2

pub as_many : (e : EngineState) (es : List Entry) → IsHistory e es → length e.core.phases ≡ length e.image.contexts
as_many e es h = phases_lead (machine_semantics e.image) (machine_open e.image (bound_of e)) (config_of e) es h.legal ∙ length-replicate (length e.image.contexts) _

pub some_context : (e : EngineState) (es : List Entry) (n : ℕ) → IsHistory e es → n ≡ length e.core.phases → 0 < n
some_context e es n h is = let a = as_many e es h in let some = h.formed.some in omega (arith, a, some, is)
