use Rattle.std.proofs.Common.{◌≡◌, [], ◌∷◌}
use Rattle.micro_isa.specs.Pieces.{pieces}
use Rattle.emitted.specs.Emitted.{start_of, context_of}
use Rattle.emit.proofs.image.contexts_of.Given as goal

abbrev pub invariant-loop-c : goal.invariant-loop-c
invariant-loop-c l =
    (l.contexts ≡ pieces (λ k. context_of l.bundle l.plans l.budget k ∷ []) l.c) × (l.start ≡ start_of l.budget.private l.c)
