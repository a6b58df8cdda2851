-- One list more.
use Rattle.std.proofs.Common.{◌≡◌, ℕ, ◌+◌, List, ◌++◌, ap, add-one}
use Rattle.micro_kit.specs.Text.{in_order}

pub next_list : (list : ℕ → List ℕ) (n : ℕ) → in_order (n + 1) list ≡ in_order n list ++ list n
next_list list n = ap (λ m. in_order m list) (add-one n)
