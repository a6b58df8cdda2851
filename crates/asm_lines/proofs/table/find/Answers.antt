use Rattle.std.proofs.Common.{◌∙◌, sym}
use Rattle.std.specs.Str.{bytes_eq}
use Rattle.asm_lines.proofs.Maps.{position-map}
use Rattle.asm_lines.proofs.table.find.Goals as goal

pub returns-clause-place : goal.returns-clause-place
returns-clause-place c = c.get_index_of.ensures.index ∙ sym (position-map (bytes_eq c.args.name.now) (λ n. n.now) c.args.names.now.keys)
