-- A cause of one line is a cause of the lines that it begins.
use Rattle.std.proofs.Common.{◌≡◌, ℕ, Option, Some, None, sym, subst}
use Rattle.std.specs.Prelude.{Result, Ok, Err, IfErr}
use Rattle.std.specs.Result.{IsErrAnd}
use Rattle.asm_lines.specs.declared.fault.BundleKind.{BundleKind}
use Rattle.asm_lines.specs.declared.fault.BundleFault.{BundleFault}
use Rattle.asm_lines.specs.declared.fault.BundleFault.TheVariants as fault
use Rattle.asm_lines.specs.Faults.{At, Causes}
use Rattle.asm_lines.specs.Verdicts.{at_or, or_else}

pub caused : (why : BundleFault) (n : ℕ) (f : Option BundleKind) (later : Option At) → Causes why (at_or n f None) → Causes why (at_or n f later)
caused (fault.At line k) n None later c = absurd (cc)
caused (fault.At line k) n (Some x) later c = c
caused fault.NoMemory n f later c = tt

pub caused_first : (why : BundleFault) (f later : Option At) → Causes why f → Causes why (or_else f later)
caused_first (fault.At line k) None later c = absurd (cc)
caused_first (fault.At line k) (Some x) later c = c
caused_first fault.NoMemory f later c = tt

-- what holds of an error holds of it as `?` hands it on
pub passed_up : {T E : Type 0} (r : Result T E) (e : E) (P : E → Type 0) → IsErrAnd r (λ y. y ≡ e) → P e → IfErr r P
passed_up (Ok x) e P is p = tt
passed_up (Err y) e P is p = subst P (sym is) p
