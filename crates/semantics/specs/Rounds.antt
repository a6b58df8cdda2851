-- Who is next in round order: the first runnable context behind the last one that ran.
use Rattle.std.specs.Prelude.{ℕ, ◌+◌, ◌-◌, List, ◌++◌, length, find, Option, Some, None}
use Rattle.std.specs.List.{range_with_len}
use Rattle.semantics.specs.Core.{Core, is_runnable}

-- the contexts behind the last one that ran, in cyclic order; from context 0 on where none ran yet
abbrev pub behind : ℕ → Option ℕ → List ℕ
behind n None = range_with_len 0 n
behind n (Some c) = range_with_len (c + 1) (n - (c + 1)) ++ range_with_len 0 (c + 1)

-- the context whose turn is next, if any is runnable
abbrev pub next_in_round : Core → Option ℕ → Option ℕ
next_in_round core last = find (is_runnable core) (behind (length core.phases) last)
