-- Which sizes fit a register file, and how many registers contexts need together.
use Rattle.std.specs.Prelude.{ℕ, ◌+◌, ◌-◌, ◌≤◌, max, List, [], ◌∷◌, sum}
use Rattle.std.specs.List.{AllZip, sum_by}

-- how many registers a context needs of its own, and how many in all
pub record Demand : Type 0 where
  pub private : ℕ
  pub all : ℕ

-- each context has what it needs of its own, and in all with the shared ones; the file has them all
pub record SizesFit (demands : List Demand) (file : ℕ) (private : List ℕ) (shared : ℕ) : Type 0 where
  pub own : AllZip (λ demand size. demand.private ≤ size) demands private
  pub whole : AllZip (λ demand size. demand.all ≤ size + shared) demands private
  pub room : sum private + shared ≤ file

-- the most registers that one of the contexts needs beside its own
abbrev pub greatest_gap : List Demand → ℕ
greatest_gap [] = 0
greatest_gap (demand ∷ demands) = max (demand.all - demand.private) (greatest_gap demands)

-- the registers that the contexts need of their own, and the most that one of them needs beside
abbrev pub need_of : List Demand → ℕ
need_of demands = sum_by (λ demand. demand.private) demands + greatest_gap demands
