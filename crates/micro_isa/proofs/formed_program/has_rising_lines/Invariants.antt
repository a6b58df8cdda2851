use Rattle.std.proofs.Common.{◌≡◌, ◌+◌, drop, map}
use Rattle.micro_isa.specs.Formed.{always_rises}
use Rattle.micro_isa.proofs.formed_program.has_rising_lines.Given as goal

abbrev pub invariant-loop-line : goal.invariant-loop-line
invariant-loop-line l = always_rises (l.before + 1) (map (λ b. b.line) (drop l.line-index l.code)) ≡ always_rises 1 (map (λ b. b.line) l.code)
