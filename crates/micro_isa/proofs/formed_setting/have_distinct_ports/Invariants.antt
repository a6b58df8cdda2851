use Rattle.std.proofs.Common.{◌≡◌, length}
use Rattle.std.specs.Prelude.{nat_eq}
use Rattle.std.specs.List.{filter_map}
use Rattle.micro_isa.specs.Formed.{is_distinct, port_of}
use Rattle.micro_isa.proofs.formed_setting.have_distinct_ports.Given as goal

abbrev pub invariant-loop-first : goal.invariant-loop-first
invariant-loop-first l = is_distinct nat_eq (filter_map port_of l.rest) ≡ is_distinct nat_eq (filter_map port_of l.channels)

abbrev pub decreases-loop-first : goal.decreases-loop-first
decreases-loop-first l = length l.rest
