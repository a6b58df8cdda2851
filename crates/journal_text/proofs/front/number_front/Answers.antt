use Rattle.std.proofs.Common.{◌-◌, length, take, drop, arith}
use Rattle.std.proofs.lemmas.List.{take_rest}
use Rattle.journal_text.proofs.Fronts.{digit_front}
use Rattle.journal_text.proofs.front.number_front.Goals as goal

pub returns-in-48-to-57 : goal.returns-in-48-to-57
returns-in-48-to-57 c =
    digit_front c.args.text.now (take (length c.args.text.now - 2) (drop 2 c.args.text.now)) c.in-48-to-57.len_at_least (omega arith) (omega arith) (omega arith) (take_rest c.args.text.now 2)
