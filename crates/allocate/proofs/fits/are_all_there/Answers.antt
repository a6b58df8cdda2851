use Rattle.std.proofs.Common.{arith}
use Rattle.std.proofs.lemmas.Bool.Decides.{nat_tests}
use Rattle.allocate.proofs.fits.are_all_there.Goals as goal

pub returns : goal.returns
returns c = λ same. grind (arith, nat_tests)
