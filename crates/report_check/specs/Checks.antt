-- The text that tells of a bundle what its contexts need.
use Rattle.std.specs.Prelude.{ℕ, ◌≡◌, List, [], ◌++◌, Option, Some, None, length, map, slice_get, decimal, codes}
use Rattle.std.specs.List.{flat_map}
use Rattle.micro_isa.specs.declared.program.Bundle.{Bundle}
use Rattle.pressure.specs.Pressures.{need_of}
use Rattle.report_check.specs.declared.facts.Facts.{Facts}
use Rattle.micro_kit.specs.Text.{newline, in_order}
use Rattle.report_check.specs.Facts.{AreAllFacts}

-- `context C private P all R regions G`
abbrev pub pressure_line : ℕ → Facts → List ℕ
pressure_line c facts =
    codes "context " ++ decimal c ++ codes " private " ++ decimal facts.pressure.private ++ codes " all " ++ decimal facts.pressure.all
    ++ codes " regions " ++ decimal facts.regions ++ newline

-- `unreachable C LINE`
unfoldable pub unreachable_line : ℕ → ℕ → List ℕ
unreachable_line c line = codes "unreachable " ++ decimal c ++ codes " " ++ decimal line ++ newline

-- of a context its pressures, then its unreachable instructions
abbrev pub context_lines : ℕ → Option Facts → List ℕ
context_lines c None = []
context_lines c (Some facts) = pressure_line c facts ++ flat_map (unreachable_line c) facts.unreachable

-- `need N file F`
abbrev pub need_line : ℕ → ℕ → List ℕ
need_line need file = codes "need " ++ decimal need ++ codes " file " ++ decimal file ++ newline

-- the contexts in order, then what they need together
unfoldable pub check_text : List Facts → ℕ → List ℕ
check_text all file =
    in_order (length all) (λ c. context_lines c (slice_get all c)) ++ need_line (need_of (map (λ facts. facts.pressure) all)) file

-- the text tells of this bundle what its contexts need
abbrev pub IsCheckOf : Bundle → List ℕ → Type 0
IsCheckOf bundle text = (all : List Facts) × AreAllFacts bundle.programs all × (text ≡ check_text all bundle.file)

-- no two texts do so
abbrev pub HasOneCheck : Bundle → Type 0
HasOneCheck bundle = (s t : List ℕ) → IsCheckOf bundle s → IsCheckOf bundle t → s ≡ t
