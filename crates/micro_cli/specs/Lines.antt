-- The lines of refusals.
use Rattle.std.specs.Prelude.{ℕ, List, ◌++◌, decimal, codes}
use Rattle.micro_isa.specs.declared.limits.TheConstants.{LONGEST_BUNDLE, LONGEST_IMAGE, LONGEST_JOURNAL}
use Rattle.micro_kit.specs.Text.{newline}
use Rattle.asm_lines.specs.Faults.{At, kind_text}
use Rattle.image_load.specs.declared.fault.ImageKind.{ImageKind}
use Rattle.image_load.specs.Faults.{kind_text as image_kind_text}
use Rattle.commands.specs.declared.task.Task.{Task}
use Rattle.commands.specs.declared.task.Task.TheVariants.{OfBundle, OfImage, OfJournal}

-- how the program is called
abbrev pub usage_line : List ℕ
usage_line = codes "usage: micro COMMAND [NUMBER] [--steps N] [--order round|threads]" ++ newline

-- the input of a task has this many bytes at most
abbrev pub limit_of : Task → ℕ
limit_of (OfBundle t) = LONGEST_BUNDLE
limit_of (OfImage t) = LONGEST_IMAGE
limit_of (OfJournal t) = LONGEST_JOURNAL

-- `toolong LIMIT`
abbrev pub too_long_line : ℕ → List ℕ
too_long_line limit = codes "toolong " ++ decimal limit ++ newline

-- `bundle LINE KIND`
abbrev pub bad_bundle_line : At → List ℕ
bad_bundle_line at = codes "bundle " ++ decimal at.line ++ codes " " ++ kind_text at.kind ++ newline

-- `image OFFSET KIND`
abbrev pub bad_image_line : ℕ → ImageKind → List ℕ
bad_image_line offset kind = codes "image " ++ decimal offset ++ codes " " ++ image_kind_text kind ++ newline
