-- What the interpreter unplugs is a step of the source run.
use Rattle.std.proofs.Common.{◌≡◌, ℕ, Some, true, false}
use Rattle.world.specs.declared.event.Event.TheVariants.{Unplug}
use Rattle.world.specs.declared.event.Seen.TheVariants.{Unplugged}
use Rattle.world.specs.WorldState.{is_plugged, after_unplug}
use Rattle.semantics.specs.Events.{step}
use Rattle.semantics.specs.Source.{source_semantics}
use Rattle.semantics.proofs.Histories.{legal_step}
use Rattle.semantics.proofs.Ports.{unplug_is_legal}
use Rattle.source_core.specs.SourceState.{SourceState, config_of}

pub unplugs : (s : SourceState) (k : ℕ) → s.core.over ≡ false → is_plugged s.core.world k ≡ true → step (source_semantics s.bundle) (config_of s) (Unplug k) ≡ Some (config_of (record s { core = record s.core { world = after_unplug s.core.world k } }), Unplugged)
unplugs s k goes plugged =
    legal_step (source_semantics s.bundle) (config_of s) (Unplug k) (unplug_is_legal s.core k goes plugged)
