-- What an opening is: no segment was cut, and the channels are few.
use Rattle.std.proofs.Common.{◌≡◌, ℕ, ◌≤◌, length, refl, sym, ap, subst}
use Rattle.std.proofs.lemmas.List.{length-map}
use Rattle.micro_isa.specs.declared.limits.TheConstants.{MOST_CHANNELS}
use Rattle.micro_isa.specs.declared.program.Setting.{Setting}
use Rattle.micro_isa.specs.declared.program.Bundle.{Bundle}
use Rattle.micro_isa.specs.Formed.{IsFormedSetting, IsFormedBundle}
use Rattle.world.specs.Opening.{opened_channel}
use Rattle.semantics.specs.Core.{opening_core}
use Rattle.semantics.specs.Events.{Config}
use Rattle.semantics.specs.Source.{Contexts, source_open}
use Rattle.round_order.specs.Openings.{IsOpening}

pub opening_is : (s : Setting) (contexts bound : ℕ) → IsFormedSetting s → IsOpening (opening_core s contexts bound)
opening_is s contexts bound formed = record {
  goes = refl;
  few = subst (λ n. n ≤ MOST_CHANNELS) (sym (length-map s.channels opened_channel)) formed.few;
}

-- the opening of a formed bundle
pub bundle_opening : (b : Bundle) (bound : ℕ) (before : Config Contexts) → IsFormedBundle b → before ≡ source_open b bound → IsOpening before.core
bundle_opening b bound before formed opens = subst IsOpening (sym (ap (λ x. x.core) opens)) (opening_is b.setting (length b.programs) bound formed.setting)
