-- The bytes of a word: the opcode and its mark, three small fields, the wide field, and the line.
use Rattle.std.specs.Prelude.{ℕ, ◌<◌, ◌+◌, ◌%◌, ◌^◌, Bool, ◌&&◌, ◌==◌, nat_le, if◌then◌else◌, List, ◌∷◌, ◌++◌, Option, Some, None, Result, Ok, Err, drop, fold, slice_index}
use Rattle.byteorder.specs.Endian.{little_bytes, little_number}
use Rattle.micro_isa.specs.declared.instr.Instr.{Instr}
use Rattle.micro_isa.specs.declared.image.PReg.{PReg}
use Rattle.micro_isa.specs.declared.image.Word.{Word}
use Rattle.micro_isa.specs.declared.operation.Operation.{Operation}
use Rattle.micro_isa.specs.declared.operation.Role.{Role}
use Rattle.micro_isa.specs.declared.operation.Role.TheVariants.{To, A, B}
use Rattle.micro_isa.specs.declared.operation.Role.TheVariants as role
use Rattle.micro_isa.specs.declared.operands.Extra.{Extra}
use Rattle.micro_isa.specs.declared.operands.Extra.TheVariants.{Nothing, Number, Target, Receive, Send}
use Rattle.micro_isa.specs.declared.operands.Operands.{Operands}
use Rattle.micro_isa.specs.declared.fields.Fields.{Fields}
use Rattle.micro_isa.specs.declared.codec.WordFault.{WordFault}
use Rattle.micro_isa.specs.declared.codec.WordFault.TheVariants as fault
use Rattle.micro_isa.specs.Operands.{operation_of, operands_of, instr_of, with}
use Rattle.micro_isa.specs.Table.{row_of, roles_of, coded}

-- the number of a register
abbrev pub small_field : Option PReg → ℕ
small_field None = 0
small_field (Some r) = r.0

-- a number, a target or a channel
abbrev pub wide_field : Extra ℕ ℕ → ℕ
wide_field Nothing = 0
wide_field (Number n) = n
wide_field (Target target) = target
wide_field (Receive channel) = channel
wide_field (Send channel) = channel

-- the fields of operands; one that is not there is 0
abbrev pub fields_of : Operands PReg ℕ ℕ → Fields
fields_of x = record { d = small_field x.to; a = small_field x.a; b = small_field x.b; wide = wide_field x.extra }

-- the opcode, and 128 where the word is counted
abbrev pub head_byte : Word → ℕ
head_byte w = (row_of (operation_of w.instr)).opcode + (if w.counted then 128 else 0)

abbrev pub word_fields : Word → Fields
word_fields w = fields_of (operands_of w.instr)

unfoldable pub word_bytes : Word → List ℕ
word_bytes w =
    head_byte w ∷ (word_fields w).d ∷ (word_fields w).a ∷ (word_fields w).b
    ∷ (little_bytes 4 (word_fields w).wide ++ little_bytes 4 w.line)

-- the wide field is below it; a channel has one byte
abbrev pub wide_limit : Extra ℕ ℕ → ℕ
wide_limit (Receive channel) = 256
wide_limit (Send channel) = 256
wide_limit _ = 2 ^ 32

-- the numbers of a word have the widths of their fields
pub record FitsWord (w : Word) : Type 0 where
  pub d : (word_fields w).d < 256
  pub a : (word_fields w).a < 256
  pub b : (word_fields w).b < 256
  pub wide : (word_fields w).wide < wide_limit (operands_of w.instr).extra
  pub line : w.line < 2 ^ 32

-- the word that twelve bytes spell, or why they spell none

abbrev pub fields_in : List ℕ → Fields
fields_in bytes = record {
  d = slice_index bytes 1;
  a = slice_index bytes 2;
  b = slice_index bytes 3;
  wide = little_number 4 (drop 4 bytes);
}

abbrev register : ℕ → PReg
register n = record { 0 = n }

-- operands with the field of this role; of a channel only a byte
abbrev pub with_field : Fields → Operands PReg ℕ ℕ → Role → Operands PReg ℕ ℕ
with_field f x To = with (Some (register f.d)) x.a x.b x.extra
with_field f x A = with x.to (Some (register f.a)) x.b x.extra
with_field f x B = with x.to x.a (Some (register f.b)) x.extra
with_field f x role.Number = with x.to x.a x.b (Number f.wide)
with_field f x role.Target = with x.to x.a x.b (Target f.wide)
with_field f x role.Receive = with x.to x.a x.b (Receive (f.wide % 256))
with_field f x role.Send = with x.to x.a x.b (Send (f.wide % 256))

-- the operands of these roles that the fields hold
abbrev pub operands_from : Fields → List Role → Operands PReg ℕ ℕ
operands_from f roles = fold (with_field f) (with None None None Nothing) roles

abbrev pub same_fields : Fields → Fields → Bool
same_fields f g = (f.d == g.d) && ((f.a == g.a) && ((f.b == g.b) && (f.wide == g.wide)))

-- the instruction of an operation that has just these fields
abbrev pub instr_with : Operation → Fields → Operands PReg ℕ ℕ → Option (Instr PReg)
instr_with o f x = if same_fields (fields_of x) f then instr_of o x else None

abbrev pub instr_in : Operation → Fields → Option (Instr PReg)
instr_in o f = instr_with o f (operands_from f (roles_of o))

abbrev pub or_field : Option (Instr PReg) → Result (Instr PReg) WordFault
or_field None = Err fault.Field
or_field (Some i) = Ok i

abbrev pub operation_in : Option Operation → Fields → Result (Instr PReg) WordFault
operation_in None f = Err fault.Opcode
operation_in (Some o) f = or_field (instr_in o f)

abbrev pub word_of : Bool → ℕ → Result (Instr PReg) WordFault → Result Word WordFault
word_of counted line (Ok instr) = Ok (record { instr = instr; counted = counted; line = line })
word_of counted line (Err why) = Err why

unfoldable pub word_in : List ℕ → Result Word WordFault
word_in bytes =
    word_of (nat_le 128 (slice_index bytes 0)) (little_number 4 (drop 8 bytes)) (operation_in (coded (slice_index bytes 0 % 128)) (fields_in bytes))
