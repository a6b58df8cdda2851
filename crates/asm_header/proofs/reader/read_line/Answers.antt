use Rattle.std.proofs.Common.{sym, ◌∙◌}
use Rattle.asm_header.specs.Views.{seen_header, seen_form}
use Rattle.asm_header.proofs.Sounding.{port_fits}
use Rattle.asm_header.proofs.reader.read_line.Goals as goal

pub note-requires-clause-port : goal.note-requires-clause-port
note-requires-clause-port c =
    port_fits (seen_header c.args.header.now) c.fair-2.result (seen_form c.header_form-form.result) (sym c.form_fault.ensures ∙ c.in_default.is)
