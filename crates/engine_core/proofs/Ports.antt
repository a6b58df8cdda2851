-- What the engine feeds and unplugs is a step of the machine run.
use Rattle.std.proofs.Common.{◌≡◌, ℕ, Some, true, false}
use Rattle.world.specs.declared.event.Event.TheVariants.{Feed, Unplug}
use Rattle.world.specs.declared.event.Seen.TheVariants.{Fed, Unplugged}
use Rattle.world.specs.WorldState.{can_feed, is_plugged, after_feed, after_unplug}
use Rattle.semantics.specs.Events.{step}
use Rattle.semantics.specs.Machine.{machine_semantics}
use Rattle.semantics.proofs.Histories.{legal_step}
use Rattle.semantics.proofs.Ports.{feed_is_legal, unplug_is_legal}
use Rattle.engine_core.specs.EngineState.{EngineState, config_of}

pub feeds : (e : EngineState) (k word : ℕ) → e.core.over ≡ false → can_feed e.core.world k ≡ true → step (machine_semantics e.image) (config_of e) (Feed k word) ≡ Some (config_of (record e { core = record e.core { world = after_feed e.core.world k word } }), Fed)
feeds e k word goes can =
    legal_step (machine_semantics e.image) (config_of e) (Feed k word) (feed_is_legal e.core k word goes can)

pub unplugs : (e : EngineState) (k : ℕ) → e.core.over ≡ false → is_plugged e.core.world k ≡ true → step (machine_semantics e.image) (config_of e) (Unplug k) ≡ Some (config_of (record e { core = record e.core { world = after_unplug e.core.world k } }), Unplugged)
unplugs e k goes plugged =
    legal_step (machine_semantics e.image) (config_of e) (Unplug k) (unplug_is_legal e.core k goes plugged)
