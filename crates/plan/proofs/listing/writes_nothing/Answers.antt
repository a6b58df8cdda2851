use Rattle.std.proofs.Common.{◌≡◌, Bool, true, false, Option, Some, None, refl}
use Rattle.std.specs.Prelude.{is_some, not}
use Rattle.micro_isa.specs.declared.program.VReg.{VReg}
use Rattle.plan.proofs.Lists.{nothing_written}
use Rattle.plan.proofs.listing.writes_nothing.Goals as goal

none_by : (b : Bool) (o : Option VReg) → is_some o ≡ not b → b ≡ true → o ≡ None
none_by b None e on = refl
none_by true (Some register) e on = absurd (cc)
none_by false (Some register) e on = absurd (cc)

by_none : (b : Bool) (o : Option VReg) → is_some o ≡ not b → o ≡ None → b ≡ true
by_none true o e none = refl
by_none false None e none = absurd (cc)
by_none false (Some register) e none = absurd (cc)

pub returns : goal.returns
returns c =
    let tells = nothing_written _ _ _ _ c.writes.ensures c.requires.here in
    ((λ on. tells.0 (none_by c.is_none.result c.writes.result c.is_none.ensures on)), (λ none. by_none c.is_none.result c.writes.result c.is_none.ensures (tells.1 none)))
