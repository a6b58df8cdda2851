use Rattle.std.proofs.Common.{◌∙◌, sym}
use Rattle.std.specs.Str.{bytes_eq}
use Rattle.asm_lines.proofs.Maps.{list_any-map}
use Rattle.asm_lines.proofs.table.knows.Goals as goal

pub returns : goal.returns
returns c = c.contains.ensures ∙ sym (list_any-map (bytes_eq c.args.name.now) (λ n. n.now) c.args.names.now.keys)
