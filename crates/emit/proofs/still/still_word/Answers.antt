use Rattle.emit.proofs.Stilling.{still_goto}
use Rattle.emit.proofs.still.still_word.Goals as goal

pub counted_word-requires-clause-goto : goal.counted_word-requires-clause-goto
counted_word-requires-clause-goto c =
    still_goto c.args.code.now c.args.plan.now c.args.i c.target_at.result c.requires.closed c.requires.still c.requires.within c.target_at.ensures
