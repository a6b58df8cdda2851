use Rattle.std.proofs.Common.{◌+◌, ◌-◌, ◌≤◌, vec_len}
use Rattle.micro_kit.specs.Streams.{Gives}
use Rattle.micro_kit.proofs.whole.read_all.Given as goal

abbrev pub invariant-reads : goal.invariant-reads
invariant-reads g l =
    (vec_len l.bytes ≤ l.limit + 1)
    × Gives (g.I.Source.left l.fn.source) l.bytes.items (g.I.Source.left l.source)
    × (g.I.Source.faults l.fn.source ≤ g.I.Source.faults l.source)

abbrev pub decreases-reads : goal.decreases-reads
decreases-reads g l = l.limit + 1 - vec_len l.bytes
