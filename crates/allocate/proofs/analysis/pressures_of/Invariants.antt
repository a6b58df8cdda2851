use Rattle.std.proofs.Common.{◌≡◌, length}
use Rattle.std.specs.List.{All}
use Rattle.pressure.specs.Pressures.{IsPart, IsPressureOf}
use Rattle.allocate.specs.Items.{Covers}
use Rattle.allocate.proofs.analysis.pressures_of.Given as goal

abbrev pub invariant-loop-c : goal.invariant-loop-c
invariant-loop-c l = (length l.parts ≡ l.c) × Covers IsPressureOf l.programs l.parts × All IsPart l.parts
