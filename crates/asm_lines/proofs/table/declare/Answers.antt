use Rattle.std.proofs.Common.{not, ◌++◌, ◌∷◌, [], ◌∙◌, sym, ap, if◌then◌else◌}
use Rattle.std.specs.List.{list_any}
use Rattle.std.specs.Str.{bytes_eq}
use Rattle.asm_lines.specs.Tables.{words_seen, place_of}
use Rattle.asm_lines.proofs.Known.{declared_place}
use Rattle.asm_lines.proofs.Maps.{list_any-map, place-map, if_map}
use Rattle.asm_lines.proofs.table.declare.Goals as goal

pub returns-in-Ok-clause-names : goal.returns-in-Ok-clause-names
returns-in-Ok-clause-names c =
    let keys = c.args.names.now.keys in
    let was = list_any-map (bytes_eq c.args.name.now) (λ n. n.now) keys in
    ap words_seen c.in-Ok.ensures.keys
    ∙ if_map (λ n. n.now) (list_any (λ n. bytes_eq c.args.name.now n.now) keys) keys c.args.name
    ∙ ap (λ b. if b then words_seen keys else words_seen keys ++ c.args.name.now ∷ []) (sym was)

pub returns-in-Ok-clause-place : goal.returns-in-Ok-clause-place
returns-in-Ok-clause-place c =
    let keys = c.args.names.now.keys in
    let name = c.args.name.now in
    c.in-Ok.ensures.index
    ∙ sym (place-map (bytes_eq name) (λ n. n.now) keys)
    ∙ sym (declared_place (words_seen keys) name)
    ∙ ap (λ ns. place_of ns name) (sym (returns-in-Ok-clause-names c))

pub returns-in-Ok-clause-fresh : goal.returns-in-Ok-clause-fresh
returns-in-Ok-clause-fresh c =
    c.in-Ok.ensures.added ∙ ap not (sym (list_any-map (bytes_eq c.args.name.now) (λ n. n.now) c.args.names.now.keys))
