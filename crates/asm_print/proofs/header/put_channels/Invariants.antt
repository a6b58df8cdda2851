use Rattle.std.proofs.Common.{◌≡◌, ◌++◌}
use Rattle.std.specs.Slice.Iter.{iter_rest}
use Rattle.std.specs.Iterator.Adapters.{zip_first, zip_second}
use Rattle.asm_print.specs.Rows.{rows_text}
use Rattle.asm_print.specs.Canonical.{channels_rows}
use Rattle.asm_print.proofs.header.put_channels.Given as goal

abbrev pub invariant-loop-name : goal.invariant-loop-name
invariant-loop-name l =
    l.text.items ++ rows_text (channels_rows (iter_rest (zip_first l.name-iterator)) (iter_rest (zip_second l.name-iterator)))
    ≡ l.initial.text.items ++ rows_text (channels_rows l.names l.channels)
