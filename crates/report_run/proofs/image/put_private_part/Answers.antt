use Rattle.std.proofs.Common.{codes}
use Rattle.report_run.proofs.Steps.{word_first}
use Rattle.report_run.proofs.image.put_private_part.Goals as goal

pub returns : goal.returns
returns c = word_first c.put_private_sizes.result _ _ _ (codes "budget private") _ c.in_ok-put_bytes.ensures c.put_private_sizes.ensures
