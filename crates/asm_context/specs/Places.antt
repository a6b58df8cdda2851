-- The places of a line's registers among all.
use Rattle.std.specs.Prelude.{ℕ, ◌<◌, ◌^◌, List, Option, None, Some, option_map}
use Rattle.micro_isa.specs.declared.operands.Operands.{Operands}
use Rattle.micro_isa.specs.declared.instr.Instr.{Instr}
use Rattle.micro_isa.specs.declared.program.VReg.{VReg}
use Rattle.micro_isa.specs.Operands.{instr_of, with}
use Rattle.asm_lines.specs.Cutting.{Words}
use Rattle.asm_lines.specs.Numbers.{number_or}
use Rattle.asm_lines.specs.Tables.{place_of}
use Rattle.asm_context.specs.declared.said.Places.{Places}
use Rattle.asm_context.specs.Forms.{Form, Instruction, operands_of}
use Rattle.asm_context.specs.Programs.{target}
use Rattle.asm_context.specs.Said.{Said}
use Rattle.asm_context.specs.Spelt.{Spelt, each_extra}

-- the place of the register that there may be
abbrev pub place_in : Words → Option (List ℕ) → Option ℕ
place_in rs name = option_map (place_of rs) name

abbrev pub places_of : Words → Spelt → Places
places_of rs x = record { to = place_in rs x.to; a = place_in rs x.a; b = place_in rs x.b }

-- those of a line
abbrev pub places_in : Words → Form → Places
places_in rs f = places_of rs (operands_of f)

-- a place that a register's number may be
abbrev pub PlaceFits : Option ℕ → Type 0
PlaceFits None = Unit {0}
PlaceFits (Some place) = place < 2 ^ 16

pub record PlacesFit (p : Places) : Type 0 where
  pub to : PlaceFits p.to
  pub a : PlaceFits p.a
  pub b : PlaceFits p.b

abbrev pub register_at : ℕ → VReg
register_at place = record { 0 = place }

-- the operands of a line over the places of its registers
abbrev pub placed : Places → Words → Said → Spelt → Operands VReg ℕ ℕ
placed p chs all x =
    with (option_map register_at p.to) (option_map register_at p.a) (option_map register_at p.b) (each_extra number_or (target all) (place_of chs) x.extra)

-- the instruction of a line, where it has one
abbrev pub instr_at : Places → Words → Said → Form → Option (Instr VReg)
instr_at p chs all (Instruction o x) = instr_of o (placed p chs all x)
instr_at p chs all _ = None
