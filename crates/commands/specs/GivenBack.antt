-- The ports that a call gives back.
use Rattle.std.specs.Prelude.{◌≡◌, ℕ, List, Some, slice_get}
use Rattle.micro_kit.specs.Streams.{Gives, Grew}
use Rattle.ports.specs.declared.told.Told.{Told}
use Rattle.run_journal.specs.Keeping.{Grows}

-- a port went on from what it told: it gave the first of the words that it had left, it took words behind those that it had taken,
-- and no count fell
pub record WentOn (before after : Told) : Type 0 where
  pub given : List ℕ
  pub gave : Gives before.left given after.left
  pub taken : List ℕ
  pub took : Grew before.taken taken after.taken
  pub grows : Grows before after

-- the ports are in their order: each went on from what the one at its place told
pub record InTheirOrder (start now : List Told) : Type 0 where
  pub each : (j : ℕ) (before after : Told) → slice_get start j ≡ Some before → slice_get now j ≡ Some after → WentOn before after
