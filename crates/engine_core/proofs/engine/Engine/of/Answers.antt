use Rattle.std.proofs.Common.{ap, refl, ◌∙◌, replicate, None}
use Rattle.semantics.specs.Core.{opening_core}
use Rattle.micro_isa.specs.declared.image.PReg.{PReg}
use Rattle.run_state.specs.declared.stretch.ContextPlace.{ContextPlace}
use Rattle.engine_core.proofs.Opening.{opens_sound, opens}
use Rattle.engine_core.proofs.engine.Engine.of.Goals as goal

pub invariant_of-result : goal.invariant_of-result
invariant_of-result c =
    opens_sound c.args.image c.args.image c.args.bound c.in_ok-core.core c.in_ok-contexts.contexts.items c.requires.formed refl
    (c.in_ok-core.ensures ∙ ap (λ n. opening_core c.args.image.setting n c.args.bound) c.len.ensures)
    (c.in_ok-contexts.ensures ∙ ap (λ n. replicate n (let s : ContextPlace PReg = record { at = 0; pending = None } in s)) c.len-2.ensures)

pub returns-clause-opening : goal.returns-clause-opening
returns-clause-opening c =
    opens c.args.image c.args.image c.args.bound c.in_ok-core.core c.in_ok-file.file c.in_ok-contexts.contexts.items refl
    (c.in_ok-core.ensures ∙ ap (λ n. opening_core c.args.image.setting n c.args.bound) c.len.ensures)
    c.in_ok-file.ensures
    (c.in_ok-contexts.ensures ∙ ap (λ n. replicate n (let s : ContextPlace PReg = record { at = 0; pending = None } in s)) c.len-2.ensures)
