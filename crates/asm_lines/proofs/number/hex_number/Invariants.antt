use Rattle.std.proofs.Common.{◌≡◌, ◌<◌, ◌^◌, take, true}
use Rattle.std.specs.Char.{is_ascii_hexdigit}
use Rattle.std.specs.List.{list_all}
use Rattle.std.specs.Str.Parse.{digits_value}
use Rattle.asm_lines.proofs.number.hex_number.Given as goal

abbrev pub invariant-loop-c : goal.invariant-loop-c
invariant-loop-c l = (l.n ≡ digits_value 16 (take l.c-index l.digits)) × (list_all is_ascii_hexdigit (take l.c-index l.digits) ≡ true) × (l.n < 2 ^ 32)
