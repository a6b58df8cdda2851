use Rattle.std.proofs.Common.{take}
use Rattle.std.specs.List.{AllByRecursion}
use Rattle.asm_print.specs.Typed.{WordsFit}
use Rattle.asm_print.proofs.typed.typed_channels.Given as goal

abbrev pub invariant-loop-channel : goal.invariant-loop-channel
invariant-loop-channel l = AllByRecursion WordsFit (take l.channel-index l.channels)
