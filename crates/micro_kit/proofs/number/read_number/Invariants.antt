use Rattle.std.proofs.Common.{◌≡◌, ◌<◌, ◌^◌, take, true}
use Rattle.std.specs.Str.{all_ascii_digits}
use Rattle.std.specs.Str.Parse.{digits_value}
use Rattle.micro_kit.proofs.number.read_number.Given as goal

abbrev pub invariant-loop-c : goal.invariant-loop-c
invariant-loop-c l = (l.n ≡ digits_value 10 (take l.c-index l.text)) × (all_ascii_digits (take l.c-index l.text) ≡ true) × (l.n < 2 ^ 32)
