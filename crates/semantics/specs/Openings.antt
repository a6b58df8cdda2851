-- How a run begins: ports that nobody serves are unplugged, in channel order.
use Rattle.std.specs.Prelude.{ℕ, zero, suc, List, [], ◌∷◌, ◌++◌, length, Bool, if◌then◌else◌}
use Rattle.world.specs.declared.event.Entry.{Entry}
use Rattle.world.specs.declared.event.Entry.TheVariants.{Unplugged}
use Rattle.world.specs.WorldState.{WorldState, is_plugged}

-- an unplugging of each channel below n that passes a test, in channel order
abbrev pub unplugs_below : (ℕ → Bool) → ℕ → List Entry
unplugs_below test zero = []
unplugs_below test (suc n) = unplugs_below test n ++ (if test n then Unplugged n ∷ [] else [])

-- an unplugging of each plugged channel
abbrev pub unplugs : WorldState → List Entry
unplugs w = unplugs_below (is_plugged w) (length w.channels)
