-- Reading a printed bundle again.
use Rattle.std.specs.Prelude.{ℕ, ◌≡◌, List, map}
use Rattle.micro_isa.specs.declared.program.Line.{Line}
use Rattle.micro_isa.specs.declared.program.Program.{Program}
use Rattle.micro_isa.specs.declared.program.Bundle.{Bundle}
use Rattle.asm_text.specs.Texts.{Spells}

abbrev pub unlined_code : List Line → List Line
unlined_code code = map (λ l. record { instr = l.instr; line = 0 }) code

abbrev pub unlined_program : Program → Program
unlined_program p = record { name = p.name; registers = p.registers; labels = p.labels; code = unlined_code p.code }

-- a bundle without the lines that its instructions stand on
abbrev pub unlined : Bundle → Bundle
unlined b = record { file = b.file; setting = b.setting; names = b.names; programs = map unlined_program b.programs }

-- the text spells a bundle that is this one in all but those lines
pub record SpellsAgain (text : List ℕ) (b : Bundle) : Type 0 where
  pub spelled : Bundle
  pub spells : Spells text spelled
  pub same : unlined spelled ≡ unlined b
