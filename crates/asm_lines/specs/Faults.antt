-- Faults of a text, and the order in which they are told.
use Rattle.std.specs.Prelude.{ℕ, ◌≡◌, Bool, List, [], Option, Some, map, slice_get, unwrap_or}
use Rattle.std.specs.List.{find}
use denote.Enum.Declared.{tag_of}
use Rattle.asm_lines.specs.declared.fault.BundleKind.{BundleKind}
use Rattle.asm_lines.specs.declared.fault.BundleFault.{BundleFault}
use Rattle.asm_lines.specs.declared.fault.BundleFault.TheVariants as fault
use Rattle.asm_lines.specs.declared.fault.TheConstants.{KINDS}
use Rattle.asm_lines.specs.contracts.fault.BundleKind.{the_type}
use Rattle.asm_lines.specs.Verdicts.{Found}

-- the kinds, in the order in which those of one line are told
abbrev pub kinds : List BundleKind
kinds = map (λ row. row.0) KINDS

-- a kind's place among all, from 0 on
abbrev pub rank : BundleKind → ℕ
rank k = tag_of the_type k

-- the word by which a kind is told
abbrev pub kind_text : BundleKind → List ℕ
kind_text k = unwrap_or (slice_get (map (λ row. row.1.now) KINDS) (rank k)) []

-- the first kind whose test is met
abbrev pub first_kind : (BundleKind → Bool) → Option BundleKind
first_kind test = find test kinds

-- a fault and the line that it stands on
abbrev pub At : Type 0
At = Found BundleKind

-- why a text, of which this is the first fault, was not read
abbrev pub Causes : BundleFault → Option At → Type 0
Causes (fault.At line k) found = found ≡ Some (record { line = line; kind = k })
Causes fault.NoMemory found = Unit {0}
