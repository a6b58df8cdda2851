-- Draws: numbers that a state gives, one after another.
use Rattle.std.specs.Prelude.{ℕ, zero, suc, ◌+◌, ◌*◌, ◌/◌, ◌%◌, ◌^◌}

-- the state after a draw
unfoldable pub next : ℕ → ℕ
next state = (state * 1664525 + 1013904223) % 2 ^ 32

-- what a draw below this number gives
unfoldable pub draw : ℕ → ℕ → ℕ
draw below state = (next state / 65536) % below

-- the state after so many draws
abbrev pub after : ℕ → ℕ → ℕ
after zero state = state
after (suc n) state = next (after n state)
