use Rattle.std.proofs.Common.{◌≡◌, map, take}
use Rattle.world.specs.Opening.{opened_channel}
use Rattle.world.proofs.shared.open_channels.Given as goal

abbrev pub invariant-loop-channel : goal.invariant-loop-channel
invariant-loop-channel l = l.queues.items ≡ map opened_channel (take l.channel-index l.channels)
