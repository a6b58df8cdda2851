-- The code of a formed program is closed, so the analyses take it.
use Rattle.std.proofs.Common.{◌≡◌, ℕ, ◌+◌, ◌-◌, ◌<◌, ◌≤◌, List, [], ◌∷◌, map, length, Option, Some, None, Bool, true, false, refl, sym, subst, ◌∙◌, inl, inr, arith}
use Rattle.std.specs.Prelude.{nat_lt, slice_get, ⊤}
use Rattle.std.specs.List.{list_all, cons_option}
use Rattle.std.proofs.lemmas.Bool.{and_parts, ltb-true, ltb-false}
use Rattle.std.proofs.lemmas.Option.{same_Some, slice_get_within}
use Rattle.micro_isa.specs.declared.limits.TheConstants.{MOST_REGISTERS}
use Rattle.micro_isa.specs.declared.instr.Instr.{Instr}
use Rattle.micro_isa.specs.declared.instr.Instr.TheVariants.{Jmp, Branch, Halt}
use Rattle.micro_isa.specs.declared.program.VReg.{VReg}
use Rattle.micro_isa.specs.declared.program.Line.{Line}
use Rattle.micro_isa.specs.declared.program.Program.{Program}
use Rattle.micro_isa.specs.Columns.{next_of}
use Rattle.micro_isa.specs.Operands.{operands_of}
use Rattle.micro_isa.specs.Formed.{registers_in, target_of, never_falls, all_below, option_below, IsFormedProgram}
use Rattle.flow_graph.specs.Paths.{IsSmall, HasSmallRegisters, IsClosedCode}

-- each register of the list is one of a context's
abbrev AreSmall : List VReg → Type 0
AreSmall [] = ⊤
AreSmall (r ∷ rs) = (r.0 < MOST_REGISTERS) × AreSmall rs

small : (n : ℕ) → n ≤ MOST_REGISTERS → (rs : List VReg) → all_below n (map (λ r. r.0) rs) ≡ true → AreSmall rs
small n few [] h = tt
small n few (r ∷ rs) h =
    let rest = list_all (λ x. nat_lt x n) (map (λ r. r.0) rs) in
    let both = and_parts (nat_lt r.0 n) rest h in
    let less = ltb-true r.0 n both.0 in
    (omega arith, small n few rs both.1)

small_each : (to a b : Option VReg) → AreSmall (cons_option to (cons_option a (cons_option b []))) → IsSmall to × IsSmall a × IsSmall b
small_each None None None s = (tt, tt, tt)
small_each None None (Some b) s = (tt, tt, s.0)
small_each None (Some a) None s = (tt, s.0, tt)
small_each None (Some a) (Some b) s = (tt, s.0, s.1.0)
small_each (Some to) None None s = (s.0, tt, tt)
small_each (Some to) None (Some b) s = (s.0, tt, s.1.0)
small_each (Some to) (Some a) None s = (s.0, s.1.0, tt)
small_each (Some to) (Some a) (Some b) s = (s.0, s.1.0, s.1.1.0)

of_instr : (instr : Instr VReg) (at : ℕ) → AreSmall (registers_in instr) → HasSmallRegisters (record { instr = instr; line = at })
of_instr instr at s =
    let x = operands_of instr in
    let each = small_each x.to x.a x.b s in
    record { first = each.1; second = each.2; written = each.0 }

-- an instruction falls to the following one, or never
falls_to : (instr : Instr VReg) (i j : ℕ) → (next_of instr i).fall ≡ Some j → (j ≡ i + 1) × (never_falls instr ≡ false)
falls_to Halt i j e = absurd (cc)
falls_to (Jmp target) i j e = absurd (cc)
falls_to _ i j e = (sym (same_Some _ _ e), refl)

-- an instruction jumps to its target, or never
jumps_to : (instr : Instr VReg) (i : ℕ) → (next_of instr i).jump ≡ target_of instr
jumps_to (Jmp target) i = refl
jumps_to (Branch test a b target) i = refl
jumps_to _ i = refl

below_by : (j n : ℕ) (b : Bool) → nat_lt j n ≡ b → (n ≤ j → ⊥) → j < n
below_by j n true e never = ltb-true j n e
below_by j n false e never = absurd (never (ltb-false j n e))

target_below : (n j : ℕ) (o : Option ℕ) → option_below n o ≡ true → o ≡ Some j → j < n
target_below n j None h e = absurd (cc)
target_below n j (Some k) h e = subst (λ t. t < n) (same_Some k j e) (ltb-true k n h)

module _ (p : Program) (formed : IsFormedProgram p) where
  named : (i : ℕ) (line : Line) → slice_get p.code i ≡ Some line → (all_below (length p.registers) (map (λ r. r.0) (registers_in line.instr)) ≡ true) × (option_below (length p.code) (target_of line.instr) ≡ true)
  named i line is = and_parts (all_below (length p.registers) (map (λ r. r.0) (registers_in line.instr))) (option_below (length p.code) (target_of line.instr)) (formed.named i line is)

  registers_of : (i : ℕ) (line : Line) → slice_get p.code i ≡ Some line → HasSmallRegisters line
  registers_of i line is =
      let here = of_instr line.instr line.line (small (length p.registers) formed.registers (registers_in line.instr) (named i line is).0) in
      record { first = here.first; second = here.second; written = here.written }

  target_within : (i j : ℕ) (line : Line) → slice_get p.code i ≡ Some line → (next_of line.instr i).jump ≡ Some j → j < length p.code
  target_within i j line is e = target_below (length p.code) j (target_of line.instr) (named i line is).1 (sym (jumps_to line.instr i) ∙ e)

  -- the last instruction does not fall
  last_stops : (i : ℕ) (line : Line) → slice_get p.code i ≡ Some line → never_falls line.instr ≡ false → length p.code ≤ i + 1 → ⊥
  last_stops i line is falls past =
      let inside = slice_get_within p.code i line is in
      let last : length p.code - 1 ≡ i = omega arith in
      let stops = formed.ends line (subst (λ k. slice_get p.code k ≡ Some line) (sym last) is) in
      absurd (cc)

  fall_within : (i j : ℕ) (line : Line) → slice_get p.code i ≡ Some line → (next_of line.instr i).fall ≡ Some j → j < length p.code
  fall_within i j line is e =
      let way = falls_to line.instr i j e in
      below_by j (length p.code) (nat_lt j (length p.code)) refl (λ past. last_stops i line is way.1 (let same = way.0 in omega arith))

  -- the code of a formed program is closed
  pub closed_code : IsClosedCode p.code
  closed_code = record {
    some = formed.some;
    few = formed.few;
    registers = registers_of;
    closed = λ i j edge. elim edge.2 [
      | inl fall ↦ fall_within i j edge.0 edge.1 fall
      | inr jump ↦ target_within i j edge.0 edge.1 jump
    ];
  }
