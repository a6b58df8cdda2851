use Rattle.std.proofs.Common.{◌≡◌, take, map}
use Rattle.source_core.specs.SourceState.{start_of}
use Rattle.source_core.proofs.source_run.starts.Given as goal

abbrev pub invariant-loop-program : goal.invariant-loop-program
invariant-loop-program l = l.contexts.items ≡ map start_of (take l.program-index l.programs)
