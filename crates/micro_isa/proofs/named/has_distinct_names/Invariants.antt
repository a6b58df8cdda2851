use Rattle.std.proofs.Common.{◌≡◌, length}
use Rattle.std.specs.Str.{bytes_eq}
use Rattle.micro_isa.specs.Formed.{is_distinct}
use Rattle.micro_isa.proofs.named.has_distinct_names.Given as goal

abbrev pub invariant-loop-first : goal.invariant-loop-first
invariant-loop-first g l = is_distinct (λ a b. bytes_eq (g.T.Named.name_of a) (g.T.Named.name_of b)) l.rest ≡ is_distinct (λ a b. bytes_eq (g.T.Named.name_of a) (g.T.Named.name_of b)) l.items

abbrev pub decreases-loop-first : goal.decreases-loop-first
decreases-loop-first g l = length l.rest
