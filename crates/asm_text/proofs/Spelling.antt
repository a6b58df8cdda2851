-- A text spells one bundle where it has no fault, and else none.
use Rattle.std.proofs.Common.{◌≡◌, ℕ, List, Some, None, sym, ◌∙◌}
use Rattle.micro_isa.specs.declared.program.Bundle.{Bundle}
use Rattle.asm_lines.specs.declared.fault.BundleFault.{BundleFault}
use Rattle.asm_lines.specs.declared.fault.BundleFault.TheVariants as fault
use Rattle.asm_lines.specs.Faults.{At, Causes}
use Rattle.asm_text.specs.Texts.{text_fault, Spells, SpellsAlone, SpellsNone}

pub spelled_alone : (text : List ℕ) (b : Bundle) → Spells text b → SpellsAlone text b
spelled_alone text b s other o = o.said ∙ sym s.said

not_both : (at : At) → None ≡ Some at → ⊥
not_both at e = absurd (cc)

pub unspelled : (why : BundleFault) (text : List ℕ) → Causes why (text_fault text) → SpellsNone why text
unspelled (fault.At line k) text e = λ b s. not_both (record { line = line; kind = k }) (sym s.free ∙ e)
unspelled fault.NoMemory text e = tt
