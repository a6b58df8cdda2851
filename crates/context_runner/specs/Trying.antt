-- What a turn that waits for nobody is told.
use Rattle.std.specs.Prelude.{◌≡◌, ◌<◌, ◌≤◌, ◌++◌, [], ◌∷◌}
use Rattle.run_journal.specs.declared.answers.TurnAnswer.TheVariants as turn
use Rattle.baton.specs.Views.{busy_view}
use Rattle.context_runner.specs.declared.beginning.Beginning.{Beginning}
use Rattle.context_runner.specs.declared.shared.TryAnswer.{TryAnswer}
use Rattle.context_runner.specs.declared.shared.TryAnswer.TheVariants as try
use Rattle.context_runner.specs.Sharing.{Knows, TurnTold}

-- it is a turn, whose take found 0; or another pass held the run as this one looked, and all else is as it was
abbrev pub TryTold : Beginning → TryAnswer → Knows → Knows → Type 0
TryTold o (try.Ran e) before after = TurnTold o (turn.Ran e) before after × (after.reads ≡ before.reads ++ 0 ∷ [])
TryTold o (try.NotReady n) before after = TurnTold o (turn.NotReady n) before after × (after.reads ≡ before.reads ++ 0 ∷ [])
TryTold o (try.Over how) before after = TurnTold o (turn.Over how) before after × (after.reads ≡ before.reads ++ 0 ∷ [])
TryTold o (try.Busy holder) before after = (0 < holder) × (holder ≤ before.callers) × (after ≡ busy_view before holder)
