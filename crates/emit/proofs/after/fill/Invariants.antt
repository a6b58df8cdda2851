use Rattle.std.proofs.Common.{◌-◌, length, drop}
use Rattle.emit.specs.Tables.{HasPlaces}
use Rattle.emit.proofs.after.fill.Given as goal

abbrev pub invariant-loop-i : goal.invariant-loop-i
invariant-loop-i l = HasPlaces (drop (length l.places - l.i) l.places) l.table
