use Rattle.std.proofs.Common.{◌≡◌, ◌≤◌, Some, drop, length}
use Rattle.asm_lines.specs.Tables.{words_seen}
use Rattle.asm_context.specs.Spelt.{operands_in}
use Rattle.asm_context.specs.Views.{seen_operands}
use Rattle.asm_context.proofs.spelt.operands_in.Given as goal

abbrev pub invariant-roles : goal.invariant-roles
invariant-roles l = record {
  within : l.at ≤ length l.roles;
  same : length l.roles ≡ length l.words;
  later : operands_in (drop l.at l.roles) (words_seen (drop l.at l.words)) ≡ Some (seen_operands l.spelt);
}

abbrev pub decreases-roles : goal.decreases-roles
decreases-roles l = l.at
