use Rattle.std.proofs.Common.{◌-◌, ◌≤◌, take, length}
use Rattle.micro_kit.specs.Streams.{Grew}
use Rattle.micro_kit.proofs.whole.write_all.Given as goal

abbrev pub invariant-writes : goal.invariant-writes
invariant-writes g l =
    (l.taken ≤ length l.bytes)
    × Grew (g.O.Sink.wrote l.fn.sink) (take l.taken l.bytes) (g.O.Sink.wrote l.sink)
    × (g.O.Sink.faults l.fn.sink ≤ g.O.Sink.faults l.sink)

abbrev pub decreases-writes : goal.decreases-writes
decreases-writes g l = length l.bytes - l.taken
