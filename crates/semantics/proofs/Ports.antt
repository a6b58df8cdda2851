-- A word may be fed where the channel can be fed, and a port may be unplugged where it is plugged, while the bound cut no segment.
use Rattle.std.proofs.Common.{◌≡◌, ℕ, Option, Some, None, Bool, true, false, refl, ap, ◌∙◌}
use Rattle.std.specs.Prelude.{slice_get, ◌&&◌, if◌then◌else◌}
use Rattle.world.specs.declared.channel.PortState.{PortState}
use Rattle.world.specs.declared.channel.PortState.TheVariants.{Absent, Plugged, Unplugged}
use Rattle.world.specs.declared.event.Event.TheVariants.{Feed, Unplug}
use Rattle.world.specs.declared.event.Illegal.{Illegal}
use Rattle.world.specs.declared.event.Illegal.TheVariants as illegal
use Rattle.world.specs.Channels.{ChannelState, is_incoming, is_plug, has_plugged_port, has_room, takes_feed}
use Rattle.world.specs.WorldState.{holds_at, can_feed, is_plugged}
use Rattle.semantics.specs.Core.{Core, illegal_of, illegal_at_port, illegal_fed, illegal_unplugged}

fed_by : (incoming room : Bool) (port : PortState) → (incoming && is_plug port && room) ≡ true → (if incoming then illegal_at_port port (if room then None else Some illegal.Full) else Some illegal.NoPort) ≡ None
fed_by false room port h = absurd (cc)
fed_by true room Absent h = absurd (cc)
fed_by true true Plugged h = refl
fed_by true false Plugged h = absurd (cc)
fed_by true room Unplugged h = absurd (cc)

fed : (o : Option ChannelState) → holds_at takes_feed o ≡ true → illegal_fed o ≡ None
fed None h = absurd (cc)
fed (Some ch) h = fed_by (is_incoming ch.kind) (has_room ch) ch.port h

unplugged_by : (port : PortState) → is_plug port ≡ true → illegal_at_port port None ≡ None
unplugged_by Absent h = absurd (cc)
unplugged_by Plugged h = refl
unplugged_by Unplugged h = absurd (cc)

unplugged : (o : Option ChannelState) → holds_at has_plugged_port o ≡ true → illegal_unplugged o ≡ None
unplugged None h = absurd (cc)
unplugged (Some ch) h = unplugged_by ch.port h

-- a channel that can be fed may be fed
pub feed_is_legal : (core : Core) (k word : ℕ) → core.over ≡ false → can_feed core.world k ≡ true → illegal_of core (Feed k word) ≡ None
feed_is_legal core k word goes can =
    ap (λ b. if b then Some illegal.Over else illegal_fed (slice_get core.world.channels k)) goes ∙ fed (slice_get core.world.channels k) can

-- a port that is plugged may be unplugged
pub unplug_is_legal : (core : Core) (k : ℕ) → core.over ≡ false → is_plugged core.world k ≡ true → illegal_of core (Unplug k) ≡ None
unplug_is_legal core k goes plugged =
    ap (λ b. if b then Some illegal.Over else illegal_unplugged (slice_get core.world.channels k)) goes ∙ unplugged (slice_get core.world.channels k) plugged

takes_by : (incoming room : Bool) (port : PortState) → (if incoming then illegal_at_port port (if room then None else Some illegal.Full) else Some illegal.NoPort) ≡ None → (incoming && is_plug port && room) ≡ true
takes_by false room port h = absurd (cc)
takes_by true room Absent h = absurd (cc)
takes_by true true Plugged h = refl
takes_by true false Plugged h = absurd (cc)
takes_by true room Unplugged h = absurd (cc)

takes : (o : Option ChannelState) → illegal_fed o ≡ None → holds_at takes_feed o ≡ true
takes None h = absurd (cc)
takes (Some ch) h = takes_by (is_incoming ch.kind) (has_room ch) ch.port h

plugs_by : (port : PortState) → illegal_at_port port None ≡ None → is_plug port ≡ true
plugs_by Absent h = absurd (cc)
plugs_by Plugged h = refl
plugs_by Unplugged h = absurd (cc)

plugs : (o : Option ChannelState) → illegal_unplugged o ≡ None → holds_at has_plugged_port o ≡ true
plugs None h = absurd (cc)
plugs (Some ch) h = plugs_by ch.port h

over_by : (b : Bool) (o : Option Illegal) → (if b then Some illegal.Over else o) ≡ None → (b ≡ false) × (o ≡ None)
over_by true o h = absurd (cc)
over_by false o h = (refl, h)

-- where a word may be fed, the bound cut no segment, and the channel can be fed
pub legal_feed : (core : Core) (k word : ℕ) → illegal_of core (Feed k word) ≡ None → (core.over ≡ false) × (can_feed core.world k ≡ true)
legal_feed core k word h =
    let both = over_by core.over (illegal_fed (slice_get core.world.channels k)) h in (both.0, takes (slice_get core.world.channels k) both.1)

-- where a port may be unplugged, the bound cut no segment, and it is plugged
pub legal_unplug : (core : Core) (k : ℕ) → illegal_of core (Unplug k) ≡ None → (core.over ≡ false) × (is_plugged core.world k ≡ true)
legal_unplug core k h =
    let both = over_by core.over (illegal_unplugged (slice_get core.world.channels k)) h in (both.0, plugs (slice_get core.world.channels k) both.1)
