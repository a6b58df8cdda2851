-- The verdicts on the lines of a text, and the bundle that a text spells.
use Rattle.std.specs.Prelude.{ℕ, ◌≡◌, ◌+◌, ◌++◌, List, [], ◌∷◌, Option, Some, None, Result, MatchResult, unwrap_or, if◌then◌else◌, length}
use Rattle.std.specs.List.{list_any}
use Rattle.micro_isa.specs.declared.program.Bundle.{Bundle}
use Rattle.asm_lines.specs.declared.fault.BundleKind.{BundleKind}
use Rattle.asm_lines.specs.declared.fault.BundleKind.TheVariants as kind
use Rattle.asm_lines.specs.declared.fault.BundleFault.{BundleFault}
use Rattle.asm_lines.specs.declared.fault.BundleFault.TheVariants as fault
use Rattle.asm_lines.specs.Cutting.{TextLine, text_lines}
use Rattle.asm_lines.specs.Faults.{At, Causes}
use Rattle.asm_lines.specs.Verdicts.{Verdict, first_fault, AreWhole, IsFirst}
use Rattle.asm_header.specs.Headers.{Header, header_of, setting_of}
use Rattle.asm_header.specs.Faults.{header_verdicts}
use Rattle.asm_lines.specs.Sections.{starts, ahead}
use Rattle.asm_text.specs.Contexts.{contexts_verdicts, programs}

-- what the lines before the first context say
abbrev pub header_in : List TextLine → Header
header_in lines = header_of (ahead lines)

-- on the line after the last
abbrev pub end_verdict : List TextLine → Verdict BundleKind
end_verdict lines = (length lines + 1, if list_any (λ line. starts line.words) lines then None else Some kind.Missing)

-- on all lines of a text, and the line after the last
abbrev pub verdicts : List TextLine → List (Verdict BundleKind)
verdicts lines = header_verdicts (ahead lines) ++ (contexts_verdicts (header_in lines) [] lines ++ end_verdict lines ∷ [])

abbrev pub lines_fault : List TextLine → Option At
lines_fault lines = first_fault (verdicts lines)

-- the first fault of a text
abbrev pub text_fault : List ℕ → Option At
text_fault text = lines_fault (text_lines text)

-- what the lines say: the size of the file, memory, channels with their names and words, and a program a context
abbrev pub bundle_said : List TextLine → Bundle
bundle_said lines = record {
  file = unwrap_or (header_in lines).file 0;
  setting = setting_of (header_in lines);
  names = (header_in lines).names;
  programs = programs (header_in lines) lines;
}

-- the text has no fault, and its lines say the bundle
pub record Spells (text : List ℕ) (b : Bundle) : Type 0 where
  pub free : text_fault text ≡ None
  pub said : b ≡ bundle_said (text_lines text)

-- the fault is the first of the text: no line before its own has a fault
abbrev pub TellsFault : List ℕ → BundleFault → Type 0
TellsFault text (fault.At line k) = Causes (fault.At line k) (text_fault text) × IsFirst (verdicts (text_lines text)) line k
TellsFault text fault.NoMemory = Unit {0}

-- what an answer tells of a text; there is a verdict on each line, in their order
abbrev pub Tells : List ℕ → Result Bundle BundleFault → Type 0
Tells text answer =
    AreWhole (length (text_lines text)) (verdicts (text_lines text)) × MatchResult answer (Spells text) (TellsFault text)

-- the text spells no other bundle
abbrev pub SpellsAlone : List ℕ → Bundle → Type 0
SpellsAlone text b = (other : Bundle) → Spells text other → other ≡ b

-- a text that has a fault spells no bundle
abbrev pub SpellsNone : BundleFault → List ℕ → Type 0
SpellsNone (fault.At line k) text = (b : Bundle) → Spells text b → ⊥
SpellsNone fault.NoMemory text = Unit {0}
