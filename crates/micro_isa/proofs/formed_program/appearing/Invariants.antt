use Rattle.std.proofs.Common.{◌≡◌, drop, Some}
use Rattle.std.specs.List.{fold}
use Rattle.micro_isa.specs.Formed.{named_by}
use Rattle.micro_isa.specs.FormedTests.{appear}
use Rattle.micro_isa.proofs.formed_program.appearing.Given as goal

abbrev pub invariant-loop-line : goal.invariant-loop-line
invariant-loop-line l = fold appear l.seen (named_by (drop l.line-index l.code)) ≡ fold appear (Some 0) (named_by l.code)
