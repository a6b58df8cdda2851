-- How many registers a program needs at once.
use Rattle.std.specs.Prelude.{ℕ, ◌<◌, ◌≤◌, ◌⊎◌, List, length}
use Rattle.micro_isa.specs.declared.program.Line.{Line}
use Rattle.liveness.specs.Liveness.{LiveIn}
use Rattle.liveness.specs.Sets.{HasSize}
use Rattle.liveness.specs.Surviving.{SwitchesAt, Stays, IsAfter, Crosses}

-- p is the greatest number of registers that are live at the entry, or survive a switching instruction
pub record IsPrivatePressure (code : List Line) (p : ℕ) : Type 0 where
  pub entry : (n : ℕ) → HasSize (LiveIn code 0) n → n ≤ p
  pub stay : (i n : ℕ) → SwitchesAt code i → HasSize (Stays code i) n → n ≤ p
  pub reached : HasSize (LiveIn code 0) p ⊎ ((i : ℕ) × SwitchesAt code i × HasSize (Stays code i) p)

-- r is the greatest number of registers that are live in at an instruction, or have a value after it
pub record IsTotalPressure (code : List Line) (r : ℕ) : Type 0 where
  pub before : (i n : ℕ) → i < length code → HasSize (LiveIn code i) n → n ≤ r
  pub after : (i n : ℕ) → i < length code → HasSize (IsAfter code i) n → n ≤ r
  pub reached : (i : ℕ) × (i < length code) × (HasSize (LiveIn code i) r ⊎ HasSize (IsAfter code i) r)

-- p private places and r places in all are as many as each instruction needs
pub record HasRoom (code : List Line) (p r : ℕ) : Type 0 where
  pub cross : (i n : ℕ) → i < length code → HasSize (Crosses code i) n → n ≤ p
  pub before : (i n : ℕ) → i < length code → HasSize (LiveIn code i) n → n ≤ r
  pub after : (i n : ℕ) → i < length code → HasSize (IsAfter code i) n → n ≤ r
