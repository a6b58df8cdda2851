use Rattle.std.proofs.Common.{◌+◌, [], fold, ap, ◌∙◌}
use Rattle.asm_lines.specs.Tables.{declare, one}
use Rattle.asm_context.specs.Forms.{label_at, does_at}
use Rattle.asm_context.specs.Said.{targets_after, count}
use Rattle.asm_context.specs.Views.{seen_outline}
use Rattle.asm_context.proofs.Outlining.{label_head, does_head}
use Rattle.asm_context.proofs.outline.note_line.Goals as goal

pub returns : goal.returns
returns c =
    let s = seen_outline c.args.all.now in
    let words = c.args.row.now.words in
    let label = c.label_at.ensures ∙ ap label_at c.head-head.ensures ∙ label_head words in
    let does = ap does_at c.head-head.ensures ∙ does_head words in
    let labels = c.in_ok-note_label.ensures.labels ∙ ap (λ l. fold declare s.labels (one l)) label in
    let targets = c.in_ok-note_label.ensures.targets ∙ ap (λ l. targets_after s.labels s.targets s.done l) label in
    let done = c.counted-all.ensures ∙ ap (λ d. s.done + count d) does in
    λ i. record { labels = labels i; targets = targets i; registers = []; done = done i }
