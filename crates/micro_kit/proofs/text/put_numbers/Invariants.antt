use Rattle.std.proofs.Common.{◌≡◌, ◌++◌, take}
use Rattle.micro_kit.specs.Text.{numbers}
use Rattle.micro_kit.proofs.text.put_numbers.Given as goal

abbrev pub invariant-loop-n : goal.invariant-loop-n
invariant-loop-n l = l.text.items ≡ l.initial.text.items ++ numbers (take l.n-index l.words)
