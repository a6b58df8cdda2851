use Rattle.std.proofs.Common.{arith, inl, inr}
use Rattle.std.proofs.lemmas.Bool.Decides.{nat_tests}
use Rattle.allocate.proofs.Costing.{rows_serve}
use Rattle.allocate.proofs.priced.serves.Goals as goal

pub returns-then-walk : goal.returns-then-walk
returns-then-walk c = λ le code from priced. rows_serve code c.args.p from c.args.walk.now priced (inr (c.if-walk.true, grind (arith, nat_tests)))

pub returns-else-walk : goal.returns-else-walk
returns-else-walk c = λ same code from priced. rows_serve code c.args.p from c.args.walk.now priced (inl (grind (arith, nat_tests)))
