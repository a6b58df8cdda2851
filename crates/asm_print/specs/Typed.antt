-- What the types of a bundle's fields hold of its values: names are names, and numbers have 32 bits.
use Rattle.std.specs.Prelude.{ℕ, ◌≡◌, ◌<◌, ◌^◌, true, Option, Some, None}
use Rattle.std.specs.List.{list_all, AllByRecursion}
use Rattle.micro_isa.specs.declared.instr.Instr.{Instr}
use Rattle.micro_isa.specs.declared.operands.Extra.{Extra}
use Rattle.micro_isa.specs.declared.program.VReg.{VReg}
use Rattle.micro_isa.specs.declared.program.Program.{Program}
use Rattle.micro_isa.specs.declared.program.Channel.{Channel}
use Rattle.micro_isa.specs.declared.program.Channel.TheVariants.{Input}
use Rattle.micro_isa.specs.declared.program.Bundle.{Bundle}
use Rattle.micro_isa.specs.Names.{name_test}
use Rattle.micro_isa.specs.Operands.{operands_of}
use Rattle.asm_context.specs.Spelt.{number_of}

-- a fact of the value that there may be
abbrev pub OfAny : Option ℕ → (ℕ → Type 0) → Type 0
OfAny None P = Unit {0}
OfAny (Some n) P = P n

abbrev pub ExtraFits : Extra ℕ ℕ → Type 0
ExtraFits x = OfAny (number_of x) (λ n. n < 2 ^ 32)

-- an instruction's number, if it has one
abbrev pub NumberFits : Instr VReg → Type 0
NumberFits i = ExtraFits (operands_of i).extra

-- a channel's initial words
abbrev pub WordsFit : Channel → Type 0
WordsFit (Input words port) = AllByRecursion (λ n. n < 2 ^ 32) words
WordsFit _ = Unit {0}

pub record IsTypedProgram (p : Program) : Type 0 where
  pub name : name_test p.name ≡ true
  pub registers : list_all name_test p.registers ≡ true
  pub labels : list_all (λ l. name_test l.name) p.labels ≡ true
  pub numbers : AllByRecursion (λ l. NumberFits l.instr) p.code

pub record IsTyped (b : Bundle) : Type 0 where
  pub names : list_all name_test b.names ≡ true
  pub words : AllByRecursion WordsFit b.setting.channels
  pub programs : AllByRecursion IsTypedProgram b.programs
