-- What stands in the text, for values that lend it.
use Rattle.asm_lines.specs.Tables.{words_seen}
use Rattle.asm_header.specs.Forms as spec
use Rattle.asm_header.specs.Headers as headers
use Rattle.asm_header.specs.declared.form.HeaderForm.{HeaderForm}
use Rattle.asm_header.specs.declared.form.HeaderForm.TheVariants as form
use Rattle.asm_header.specs.declared.header.Header.{Header}

abbrev pub seen_form : HeaderForm → spec.HeaderForm
seen_form form.Blank = spec.Blank
seen_form (form.File size) = spec.File size.now
seen_form (form.Memory size) = spec.Memory size.now
seen_form (form.Inner name capacity) = spec.Inner name.now capacity.now
seen_form (form.Input name) = spec.Input name.now
seen_form (form.PortInput name port capacity) = spec.PortInput name.now port.now capacity.now
seen_form (form.Output name) = spec.Output name.now
seen_form (form.PortOutput name port) = spec.PortOutput name.now port.now
seen_form (form.Initial name numbers) = spec.Initial name.now (words_seen numbers.now)
seen_form form.Miscounted = spec.Miscounted
seen_form form.Unknown = spec.Unknown

abbrev pub seen_header : Header → headers.Header
seen_header h = record { file = h.file; memory = h.memory; names = words_seen h.names.keys; channels = h.channels.items; words = h.words }
