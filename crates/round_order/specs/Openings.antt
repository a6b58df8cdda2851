-- Ports that are unplugged one after another, as a run begins.
use Rattle.std.specs.Prelude.{◌≡◌, ℕ, ◌<◌, ◌≤◌, length, false}
use Rattle.micro_isa.specs.declared.limits.TheConstants.{MOST_CHANNELS}
use Rattle.world.specs.WorldState.{WorldState, is_plugged}
use Rattle.semantics.specs.Core.{Core}

-- no segment was cut, and the channels are few
pub record IsOpening (core : Core) : Type 0 where
  pub goes : core.over ≡ false
  pub few : length core.world.channels ≤ MOST_CHANNELS

-- the ports below `k` are unplugged, and the others are as they were
pub record IsUnplugged (w : WorldState) (k : ℕ) (now : Core) : Type 0 where
  pub goes : now.over ≡ false
  pub few : length now.world.channels ≤ MOST_CHANNELS
  pub closed : (j : ℕ) → j < k → is_plugged now.world j ≡ false
  pub rest : (j : ℕ) → k ≤ j → is_plugged now.world j ≡ is_plugged w j
