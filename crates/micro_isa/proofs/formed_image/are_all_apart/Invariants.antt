use Rattle.std.proofs.Common.{◌≡◌, length}
use Rattle.micro_isa.specs.FormedTests.{codes_apart}
use Rattle.micro_isa.proofs.formed_image.are_all_apart.Given as goal

abbrev pub invariant-loop-first : goal.invariant-loop-first
invariant-loop-first l = codes_apart l.rest ≡ codes_apart l.contexts

abbrev pub decreases-loop-first : goal.decreases-loop-first
decreases-loop-first l = length l.rest
