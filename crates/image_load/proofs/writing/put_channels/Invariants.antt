use Rattle.std.proofs.Common.{◌≡◌, ◌++◌, take}
use Rattle.std.specs.List.{flat_map, AllByRecursion}
use Rattle.image_load.specs.Spelling.{channel_bytes, FitsChannel}
use Rattle.image_load.proofs.writing.put_channels.Given as goal

abbrev pub invariant-loop-channel : goal.invariant-loop-channel
invariant-loop-channel l = (l.out.items ≡ l.fn.out.items ++ flat_map channel_bytes (take l.channel-index l.channels)) × AllByRecursion FitsChannel (take l.channel-index l.channels)
