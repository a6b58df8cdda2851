use Rattle.std.proofs.Common.{◌≡◌, map, take}
use Rattle.soak_gen.specs.Bundles.{register_name}
use Rattle.soak_gen.proofs.naming.names_in.Given as goal

abbrev pub invariant-loop-name : goal.invariant-loop-name
invariant-loop-name l = l.names ≡ map register_name (take l.name-index l.order)
