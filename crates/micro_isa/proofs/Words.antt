-- A word that is read is spelled so, and what is spelled so is read.
use Rattle.std.proofs.Common.{◌≡◌, ◌<◌, ◌≤◌, ◌^◌, ◌%◌, ◌/◌, ◌*◌, ◌+◌, ◌==◌, ℕ, Bool, true, false, ◌&&◌, ◌++◌, List, [], ◌∷◌, length, Option, Some, None, Ok, refl, sym, ap, ◌∙◌, subst, arith, if◌then◌else◌}
use Rattle.std.specs.Prelude.{nat_le, slice_index}
use Rattle.std.proofs.lemmas.Bool.{and_parts, and_from, eqb-true, eq-eqb, ltb-true, leb-true, le-leb, lt-leb, leb-false}
use Rattle.byteorder.specs.Endian.{little_bytes, little_number}
use Rattle.byteorder.specs.Numbers.{little_number-reads_back}
use Rattle.micro_isa.specs.declared.instr.Instr.{Instr}
use Rattle.micro_isa.specs.declared.instr.Instr.TheVariants as instr
use Rattle.micro_isa.specs.declared.image.PReg.{PReg}
use Rattle.micro_isa.specs.declared.image.Word.{Word}
use Rattle.micro_isa.specs.declared.operation.Operation.{Operation}
use Rattle.micro_isa.specs.declared.operation.Operation.TheVariants.{Li}
use Rattle.micro_isa.specs.declared.operands.Extra.{Extra}
use Rattle.micro_isa.specs.declared.operands.Operands.{Operands}
use Rattle.micro_isa.specs.declared.operands.Extra.TheVariants as extra
use Rattle.micro_isa.specs.declared.fields.Fields.{Fields}
use Rattle.micro_isa.specs.Operands.{operation_of, operands_of, instr_of, with}
use Rattle.micro_isa.specs.Table.{row_of, roles_of, coded}
use Rattle.micro_isa.specs.WordBytes.{wide_field, fields_of, head_byte, word_fields, word_bytes, wide_limit, FitsWord, fields_in, operands_from, same_fields, instr_with, instr_in, or_field, operation_in, word_of, word_in}
use Rattle.micro_isa.proofs.Laws.{found, made_again, made_of, coded_is}

-- numbers and their bytes

abbrev pub IsBytes : List ℕ → Type 0
IsBytes bytes = (i : ℕ) → slice_index bytes i < 256

pub bytes_back_2 : (a b : ℕ) (r : List ℕ) → a < 256 → b < 256 → little_bytes 2 (little_number 2 (a ∷ b ∷ r)) ≡ a ∷ b ∷ []
bytes_back_2 a b r ha hb =
    let x : (a + 256 * (b + 0)) % 256 ≡ a = omega arith in
    let y : (a + 256 * (b + 0)) / 256 % 256 ≡ b = omega arith in
    rw (x, y) refl

pub bytes_back_4 : (a b c d : ℕ) (r : List ℕ) → a < 256 → b < 256 → c < 256 → d < 256 → little_bytes 4 (little_number 4 (a ∷ b ∷ c ∷ d ∷ r)) ≡ a ∷ b ∷ c ∷ d ∷ []
bytes_back_4 a b c d r ha hb hc hd =
    let x : (a + 256 * (b + 256 * (c + 256 * (d + 0)))) % 256 ≡ a = omega arith in
    let y : (a + 256 * (b + 256 * (c + 256 * (d + 0)))) / 256 % 256 ≡ b = omega arith in
    let z : (a + 256 * (b + 256 * (c + 256 * (d + 0)))) / 65536 % 256 ≡ c = omega arith in
    let w : (a + 256 * (b + 256 * (c + 256 * (d + 0)))) / 16777216 % 256 ≡ d = omega arith in
    rw (x, y, z, w) refl

-- fields

-- the fields of an instruction hold its operands
fields_again : (i : Instr PReg) → wide_field (operands_of i).extra < wide_limit (operands_of i).extra → operands_from (fields_of (operands_of i)) (roles_of (operation_of i)) ≡ operands_of i
fields_again (instr.Recv to channel) h = ap (λ (k : ℕ). with (Some to) None None (extra.Receive k)) (omega (arith, h))
fields_again (instr.Send channel from) h = ap (λ (k : ℕ). with None (Some from) None (extra.Send k)) (omega (arith, h))
fields_again _ h = refl

-- the operands that fields hold have a wide field below its limit
limited : (o : Operation) (f : Fields) → f.wide < 2 ^ 32 → wide_field (operands_from f (roles_of o)).extra < wide_limit (operands_from f (roles_of o)).extra
limited Li f h = h
limited _ f h = omega (arith, h)

same_self : (f : Fields) → same_fields f f ≡ true
same_self f = and_from _ _ (eq-eqb f.d f.d refl) (and_from _ _ (eq-eqb f.a f.a refl) (and_from _ _ (eq-eqb f.b f.b refl) (eq-eqb f.wide f.wide refl)))

are_same : (f g : Fields) → same_fields f g ≡ true → f ≡ g
are_same f g e =
    let first = and_parts (f.d == g.d) ((f.a == g.a) && ((f.b == g.b) && (f.wide == g.wide))) e in
    let second = and_parts (f.a == g.a) ((f.b == g.b) && (f.wide == g.wide)) first.1 in
    let third = and_parts (f.b == g.b) (f.wide == g.wide) second.1 in
    let d = eqb-true f.d g.d first.0 in
    let a = eqb-true f.a g.a second.0 in
    let b = eqb-true f.b g.b third.0 in
    let wide = eqb-true f.wide g.wide third.1 in
    rw (d, a, b, wide) refl

-- the fields of an instruction are read as the instruction
instr_again : (i : Instr PReg) → wide_field (operands_of i).extra < wide_limit (operands_of i).extra → instr_in (operation_of i) (fields_of (operands_of i)) ≡ Some i
instr_again i h =
    ap (instr_with (operation_of i) (fields_of (operands_of i))) (fields_again i h)
    ∙ ap (λ (t : Bool). if t then instr_of (operation_of i) (operands_of i) else None) (same_self (fields_of (operands_of i)))
    ∙ made_again i

-- an instruction that was read is of this operation and has just these fields
record IsRead (o : Operation) (f : Fields) (i : Instr PReg) : Type 0 where
  operation : operation_of i ≡ o
  fields : fields_of (operands_of i) ≡ f
  small : f.wide < 2 ^ 32 → wide_field (operands_of i).extra < wide_limit (operands_of i).extra

is_read : (o : Operation) (f : Fields) (i : Instr PReg) → instr_in o f ≡ Some i → IsRead o f i
is_read o f i e = go (same_fields (fields_of x) f) refl e
  where
    x : Operands PReg ℕ ℕ
    x = operands_from f (roles_of o)

    go : (t : Bool) → same_fields (fields_of x) f ≡ t → (if t then instr_of o x else None) ≡ Some i → IsRead o f i
    go false s h = absurd (cc)
    go true s h =
        let made = made_of o x.to x.a x.b x.extra i h in record {
          operation = made.operation;
          fields = ap fields_of made.operands ∙ are_same (fields_of x) f s;
          small = λ k. subst (λ (y : Operands PReg ℕ ℕ). wide_field y.extra < wide_limit y.extra) (sym made.operands) (limited o f k);
        }

-- words

-- the head byte of a word names its operation, and whether it is counted
head_again : (w : Word) → (coded (head_byte w % 128) ≡ Some (operation_of w.instr)) × (nat_le 128 (head_byte w) ≡ w.counted)
head_again w = go w.counted ((row_of (operation_of w.instr)).opcode) (found (operation_of w.instr)).coded (ltb-true (row_of (operation_of w.instr)).opcode 128 (found (operation_of w.instr)).small)
  where
    go : (c : Bool) (n : ℕ) → coded n ≡ Some (operation_of w.instr) → n < 128 → (coded ((n + (if c then 128 else 0)) % 128) ≡ Some (operation_of w.instr)) × (nat_le 128 (n + (if c then 128 else 0)) ≡ c)
    go true n e s =
        let rest : (n + 128) % 128 ≡ n = omega (arith, s) in
        (ap coded rest ∙ e, le-leb 128 (n + 128) (omega arith))
    go false n e s =
        let rest : (n + 0) % 128 ≡ n = omega (arith, s) in
        (ap coded rest ∙ e, lt-leb 128 (n + 0) (omega (arith, s)))

marked_again : (b : ℕ) → b < 256 → b % 128 + (if nat_le 128 b then 128 else 0) ≡ b
marked_again b lt = go (nat_le 128 b) refl
  where
    go : (t : Bool) → nat_le 128 b ≡ t → b % 128 + (if t then 128 else 0) ≡ b
    go true is = let le = leb-true 128 b is in omega (arith, le, lt)
    go false is = let le = leb-false 128 b is in omega (arith, le, lt)

limit_small : (x : Extra ℕ ℕ) → wide_limit x ≤ 4294967296
limit_small extra.Nothing = omega arith
limit_small (extra.Number n) = omega arith
limit_small (extra.Target target) = omega arith
limit_small (extra.Receive channel) = omega arith
limit_small (extra.Send channel) = omega arith

from_parts : (w : Word) (head line : ℕ) (f : Fields) → head ≡ head_byte w → line ≡ w.line → f ≡ word_fields w → FitsWord w → word_of (nat_le 128 head) line (operation_in (coded (head % 128)) f) ≡ Ok w
from_parts w head line f is_head is_line is_f fits =
    let again = head_again w in
    ap (λ (h : ℕ). word_of (nat_le 128 h) line (operation_in (coded (h % 128)) f)) is_head
    ∙ ap (λ (o : Option Operation). word_of (nat_le 128 (head_byte w)) line (operation_in o f)) again.0
    ∙ ap (λ (g : Fields). word_of (nat_le 128 (head_byte w)) line (or_field (instr_in (operation_of w.instr) g))) is_f
    ∙ ap (λ (o : Option (Instr PReg)). word_of (nat_le 128 (head_byte w)) line (or_field o)) (instr_again w.instr fits.wide)
    ∙ ap (λ (t : Bool). word_of t line (Ok w.instr)) again.1
    ∙ ap (λ (n : ℕ). word_of w.counted n (Ok w.instr)) is_line

pub word_again : (w : Word) → FitsWord w → word_in (word_bytes w) ≡ Ok w
unfolding word_in word_bytes
word_again w fits =
    let f = word_fields w in
    let wide_below : f.wide < 256 ^ 4 = let h = limit_small (operands_of w.instr).extra in omega (arith, fits.wide, h) in
    let wide = little_number-reads_back 4 f.wide (little_bytes 4 w.line) wide_below in
    let line : little_number 4 (little_bytes 4 w.line) ≡ w.line = little_number-reads_back 4 w.line [] (omega (arith, fits.line)) in
    let same : fields_in (word_bytes w) ≡ f = ap (λ (n : ℕ). with_wide f n) wide in
    from_parts w (head_byte w) (little_number 4 (little_bytes 4 w.line)) (fields_in (word_bytes w)) refl line same fits
  where
    with_wide : Fields → ℕ → Fields
    with_wide f n = record { d = f.d; a = f.a; b = f.b; wide = n }

-- a word that was read, by its parts
record IsWord (marked : Bool) (source code : ℕ) (f : Fields) (w : Word) : Type 0 where
  opcode : (row_of (operation_of w.instr)).opcode ≡ code
  read : IsRead (operation_of w.instr) f w.instr
  counted : w.counted ≡ marked
  line : w.line ≡ source

word_ok : (counted : Bool) (line code : ℕ) (f : Fields) (w : Word) → word_of counted line (operation_in (coded code) f) ≡ Ok w → IsWord counted line code f w
word_ok counted line code f w e = go (coded code) refl e
  where
    go : (o : Option Operation) → coded code ≡ o → word_of counted line (operation_in o f) ≡ Ok w → IsWord counted line code f w
    go None is h = absurd (cc)
    go (Some o) is h = at (instr_in o f) refl h
      where
        at : (r : Option (Instr PReg)) → instr_in o f ≡ r → word_of counted line (or_field r) ≡ Ok w → IsWord counted line code f w
        at None was g = absurd (cc)
        at (Some i) was g =
            let read = is_read o f i was in
            let same : record { instr = i; counted = counted; line = line } ≡ w = cc in
            subst (IsWord counted line code f) same (record {
              opcode = ap (λ (p : Operation). (row_of p).opcode) read.operation ∙ coded_is code o is;
              read = subst (λ (p : Operation). IsRead p f i) (sym read.operation) read;
              counted = refl;
              line = refl;
            })

pub word_spelled : (bytes : List ℕ) (w : Word) → IsBytes bytes → length bytes ≡ 12 → word_in bytes ≡ Ok w → (word_bytes w ≡ bytes) × FitsWord w
unfolding word_in word_bytes
word_spelled (b0 ∷ b1 ∷ b2 ∷ b3 ∷ b4 ∷ b5 ∷ b6 ∷ b7 ∷ b8 ∷ b9 ∷ b10 ∷ b11 ∷ []) w bytes len e =
    let f : Fields = fields_in (b0 ∷ b1 ∷ b2 ∷ b3 ∷ b4 ∷ b5 ∷ b6 ∷ b7 ∷ b8 ∷ b9 ∷ b10 ∷ b11 ∷ []) in
    let line = little_number 4 (b8 ∷ b9 ∷ b10 ∷ b11 ∷ []) in
    let ok = word_ok (nat_le 128 b0) line (b0 % 128) f w e in
    let four = bytes_back_4 b4 b5 b6 b7 (b8 ∷ b9 ∷ b10 ∷ b11 ∷ []) (bytes 4) (bytes 5) (bytes 6) (bytes 7) in
    let last = bytes_back_4 b8 b9 b10 b11 [] (bytes 8) (bytes 9) (bytes 10) (bytes 11) in
    let head : head_byte w ≡ b0 =
    ap (λ (n : ℕ). n + (if w.counted then 128 else 0)) ok.opcode
    ∙ ap (λ (t : Bool). b0 % 128 + (if t then 128 else 0)) ok.counted
    ∙ marked_again b0 (bytes 0) in
    let made_bytes : word_bytes w ≡ b0 ∷ b1 ∷ b2 ∷ b3 ∷ b4 ∷ b5 ∷ b6 ∷ b7 ∷ b8 ∷ b9 ∷ b10 ∷ b11 ∷ [] =
    ap (λ (n : ℕ). n ∷ (word_fields w).d ∷ (word_fields w).a ∷ (word_fields w).b ∷ (little_bytes 4 (word_fields w).wide ++ little_bytes 4 w.line)) head
    ∙ ap (λ (h : Fields). b0 ∷ h.d ∷ h.a ∷ h.b ∷ (little_bytes 4 h.wide ++ little_bytes 4 w.line)) ok.read.fields
    ∙ ap (λ (t : List ℕ). b0 ∷ b1 ∷ b2 ∷ b3 ∷ (t ++ little_bytes 4 w.line)) four
    ∙ ap (λ (n : ℕ). b0 ∷ b1 ∷ b2 ∷ b3 ∷ b4 ∷ b5 ∷ b6 ∷ b7 ∷ little_bytes 4 n) ok.line
    ∙ ap (λ (t : List ℕ). b0 ∷ b1 ∷ b2 ∷ b3 ∷ b4 ∷ b5 ∷ b6 ∷ b7 ∷ t) last in
    let wide_below : f.wide < 2 ^ 32 = omega (arith, bytes 4, bytes 5, bytes 6, bytes 7) in
    let line_below : line < 2 ^ 32 = omega (arith, bytes 8, bytes 9, bytes 10, bytes 11) in
    let fits : FitsWord w = record {
      d = subst (λ (h : Fields). h.d < 256) (sym ok.read.fields) (bytes 1);
      a = subst (λ (h : Fields). h.a < 256) (sym ok.read.fields) (bytes 2);
      b = subst (λ (h : Fields). h.b < 256) (sym ok.read.fields) (bytes 3);
      wide = ok.read.small wide_below;
      line = subst (λ (n : ℕ). n < 2 ^ 32) (sym ok.line) line_below;
    } in
    (made_bytes, fits)
word_spelled _ w bytes len e = absurd (omega (arith, len))
