use Rattle.std.proofs.Common.{◌≡◌, map, take}
use Rattle.world.specs.Channels.{has_plugged_port}
use Rattle.world.proofs.copies.shown.Given as goal

abbrev pub invariant-loop-queue : goal.invariant-loop-queue
invariant-loop-queue l = record {
  left : l.left ≡ map (λ ch. ch.left) (take l.queue-index l.channels);
  rings : l.rings ≡ map (λ ch. ch.ring) (take l.queue-index l.channels);
  plugged : l.plugged ≡ map has_plugged_port (take l.queue-index l.channels);
}
