use Rattle.std.proofs.Common.{◌≡◌, drop}
use Rattle.std.specs.Prelude.{nat_eq}
use Rattle.std.specs.List.{list_any, filter_map}
use Rattle.micro_isa.specs.Formed.{port_of}
use Rattle.asm_header.proofs.fault.is_taken.Given as goal

abbrev pub invariant-loop-channel : goal.invariant-loop-channel
invariant-loop-channel l = list_any (nat_eq l.port) (filter_map port_of (drop l.channel-index l.channels)) ≡ list_any (nat_eq l.port) (filter_map port_of l.channels)
