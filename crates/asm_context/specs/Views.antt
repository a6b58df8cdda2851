-- What stands in the text, for values that lend it.
use Rattle.std.specs.Prelude.{ℕ, List, [], option_map}
use Rattle.std.specs.Borrow.{Bor}
use Rattle.micro_isa.specs.declared.operands.Extra.{Extra}
use Rattle.micro_isa.specs.declared.operands.Operands.{Operands}
use Rattle.asm_lines.specs.Tables.{words_seen}
use Rattle.asm_context.specs.Spelt.{Spelt, each, each_extra}
use Rattle.asm_context.specs.Forms as spec
use Rattle.asm_context.specs.Said as lines
use Rattle.asm_context.specs.declared.form.Form.{Form}
use Rattle.asm_context.specs.declared.form.Form.TheVariants as form
use Rattle.asm_context.specs.declared.form.Body.{Body}
use Rattle.asm_context.specs.declared.said.Said.{Said}
use Rattle.asm_context.specs.declared.outline.Outline.{Outline}

abbrev pub seen_extra : Extra (Bor (List ℕ)) (Bor (List ℕ)) → Extra (List ℕ) (List ℕ)
seen_extra x = each_extra (λ w. w.now) (λ w. w.now) (λ w. w.now) x

abbrev pub seen_operands : Operands (Bor (List ℕ)) (Bor (List ℕ)) (Bor (List ℕ)) → Spelt
seen_operands x = each (λ w. w.now) (λ w. w.now) (λ w. w.now) (λ w. w.now) x

abbrev pub seen_form : Form → spec.Form
seen_form form.Blank = spec.Blank
seen_form (form.Instruction o x) = spec.Instruction o (seen_operands x)
seen_form form.Miscounted = spec.Miscounted
seen_form form.Unknown = spec.Unknown

abbrev pub seen_body : Body → spec.Body
seen_body b = record { label = option_map (λ n. n.now) b.label; form = seen_form b.form }

abbrev pub seen_said : Said → lines.Said
seen_said s = record { labels = words_seen s.labels.keys; targets = s.targets.items; registers = words_seen s.registers.keys; done = s.done }

abbrev pub seen_outline : Outline → lines.Said
seen_outline o = record { labels = words_seen o.labels.keys; targets = o.targets.items; registers = []; done = o.done }
