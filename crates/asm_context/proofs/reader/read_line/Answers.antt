use Rattle.std.proofs.Common.{◌≡◌, ◌++◌, sym, ap, ◌∙◌}
use Rattle.asm_lines.specs.Tables.{words_seen}
use Rattle.asm_context.specs.Faults.{channels}
use Rattle.asm_context.specs.Views.{seen_form, seen_body, seen_said, seen_outline}
use Rattle.asm_context.proofs.Naming.{few_registers}
use Rattle.asm_context.specs.Forms.{Body, body_of}
use Rattle.asm_context.specs.Places.{instr_at}
use Rattle.asm_context.specs.Programs.{instr_in, on_line}
use Rattle.asm_context.specs.Said.{Said, with_body, with_line, line_body}
use Rattle.asm_context.proofs.Placing.{places_fit, instr_placed}
use Rattle.asm_context.proofs.reader.read_line.Goals as goal

pub push_code-requires-clause-places : goal.push_code-requires-clause-places
push_code-requires-clause-places c =
    let chs = channels (words_seen c.args.names.now.keys) c.args.kinds.now in
    let few = few_registers chs c.has_name-twice.result (seen_said c.note.new.said) (seen_outline c.args.all.now) c.fair.result (seen_body c.body_of-body.result) (sym c.body_fault.ensures ∙ c.in_default.is) in
    places_fit (words_seen c.note.new.said.registers.keys) (seen_form c.body_of-body.result.form) c.in_ok-places.places c.in_ok-places.ensures.places few

pub returns-clause-code : goal.returns-clause-code
returns-clause-code c =
    let chs = words_seen c.args.names.now.keys in
    let old = seen_said c.args.now.now in
    let all = seen_outline c.args.all.now in
    let row = c.args.row.now in
    let code = c.args.code.now in
    let b = seen_body c.body_of-body.result in
    let places = c.in_ok-places.places in
    let rs = words_seen c.note.new.said.registers.keys in
    let is : b ≡ line_body row = c.body_of-body.ensures ∙ ap body_of (c.as_slice.ensures ∙ c.in_ok-words.ensures) in
    let registers : rs ≡ (with_line old row).registers = ap (λ (s : Said). s.registers) c.in_ok-places.ensures.said ∙ ap (λ (b : Body). (with_body old b).registers) is in
    c.in_ok-push_code.ensures
    ∙ ap (λ n. code ++ on_line n (instr_at places chs all b.form)) c.number-2.ensures
    ∙ ap (λ i. code ++ on_line row.number i) (instr_placed rs chs all b.form places c.in_ok-places.ensures.places)
    ∙ ap (λ r. code ++ on_line row.number (instr_in r chs all b.form)) registers
    ∙ ap (λ (b : Body). code ++ on_line row.number (instr_in (with_line old row).registers chs all b.form)) is
