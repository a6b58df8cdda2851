-- A segment leaves the registers that its context may not write.
use Rattle.std.proofs.Common.{◌≡◌, ℕ, List, refl, subst, ap}
use Rattle.micro_isa.specs.declared.image.PReg.{PReg}
use Rattle.micro_isa.specs.declared.image.Word.{Word}
use Rattle.micro_isa.specs.declared.image.Image.{Image}
use Rattle.world.specs.declared.event.Seen.{Seen}
use Rattle.semantics.specs.Core.{Core, completion}
use Rattle.semantics.specs.Events.{given}
use Rattle.semantics.specs.Stretches.{received}
use Rattle.semantics.specs.Machine.{machine_kind}
use Rattle.run_state.specs.declared.stretch.ContextPlace.{ContextPlace}
use Rattle.run_state.specs.Running.{context_at}
use Rattle.run_state.specs.Segments.{segment_of}
use Rattle.engine_core.specs.EngineState.{may_write}
use Rattle.engine_core.proofs.Confined.{Ran, IsConfined, stretch_confined, received_confined}
use Rattle.engine_core.proofs.MayRun.{MayRun}

pub segment_confined : (image : Image) (core core2 : Core) (c : ℕ) (k k2 : ContextPlace PReg) (words : List Word) (file file2 : List ℕ) (seen : Seen) → MayRun image c k words → segment_of machine_kind c words core (context_at k.at file k.pending) ≡ (record { core = core2; state = context_at k2.at file2 k2.pending }, seen) → IsConfined (may_write image c) file (context_at k2.at file2 k2.pending)
segment_confined image core core2 c k k2 words file file2 seen may went =
    let x : Ran = context_at k.at file k.pending in
    let word = (completion core c).received in
    subst (IsConfined (may_write image c) file) (ap (λ p. p.0.state) went)
    (stretch_confined (may_write image c) file c (given core c).memory words may.written (given core c).left (received machine_kind k.pending word x) (received_confined (may_write image c) x k.pending word refl may.pending))
