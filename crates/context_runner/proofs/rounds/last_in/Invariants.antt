use Rattle.std.proofs.Common.{◌≡◌, None, length}
use Rattle.semantics.specs.Moves.{last_of}
use Rattle.context_runner.proofs.rounds.last_in.Given as goal

abbrev pub invariant-entries : goal.invariant-entries
invariant-entries l = last_of None l.rest ≡ last_of None l.fn.entries

abbrev pub decreases-entries : goal.decreases-entries
decreases-entries l = length l.rest
