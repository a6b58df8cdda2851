use Rattle.std.proofs.Common.{◌≡◌, drop, fold}
use Rattle.micro_isa.specs.WordBytes.{with_field, operands_from}
use Rattle.micro_isa.proofs.fields.operands_from.Given as goal

abbrev pub invariant-loop-role : goal.invariant-loop-role
invariant-loop-role l = fold (with_field l.fields) l.operands (drop l.role-index l.roles) ≡ operands_from l.fields l.roles
