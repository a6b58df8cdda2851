-- An instruction is its operation and its operands, and the table names each operation once.
use Rattle.std.proofs.Common.{◌≡◌, ℕ, Option, Some, None, true, refl, subst, nat_lt}
use Rattle.std.proofs.Common.{◌==◌, ◌≤◌, ◌-◌, suc, sym, ap, ◌∙◌, arith, rules, Bool, false, cond, List, [], ◌∷◌}
use Rattle.std.specs.Prelude.{slice_get, option_map}
use Rattle.std.specs.List.{find}
use Rattle.std.proofs.lemmas.Bool.{eqb-true, eqb-false}
use Rattle.std.proofs.lemmas.Option.{same_Some}
use Rattle.micro_isa.specs.declared.arithmetic.AluOp.TheVariants as op
use Rattle.micro_isa.specs.declared.arithmetic.DivOp.TheVariants.{Quotient}
use Rattle.micro_isa.specs.declared.arithmetic.Test.TheVariants as test
use Rattle.micro_isa.specs.declared.instr.Instr.{Instr}
use Rattle.micro_isa.specs.declared.instr.Instr.TheVariants as instr
use Rattle.micro_isa.specs.declared.operation.Operation.{Operation}
use Rattle.micro_isa.specs.declared.operation.Operation.TheVariants.{Li, Alu, Div, Branch}
use Rattle.micro_isa.specs.declared.operands.Extra.{Extra}
use Rattle.micro_isa.specs.declared.operands.Extra.TheVariants.{Nothing, Number}
use Rattle.micro_isa.specs.declared.operands.Operands.{Operands}
use Rattle.micro_isa.specs.Columns.{target_of, never_falls, next_of}
use Rattle.micro_isa.specs.Operands.{operation_of, operands_of, instr_of, made, with, renamed, reword}
use Rattle.micro_isa.specs.Table.{row_of, operations, named, coded}

-- Each of these laws holds of every row of the table by computing: a row in front of the last makes the last one stand for
-- every other instruction, so that a new instruction asks for none here.

pub made_again : {R : Type 0} (i : Instr R) → instr_of (operation_of i) (operands_of i) ≡ Some i
made_again (instr.Li to n) = refl
made_again _ = refl

-- an instruction over other registers: it is made, and is the same operation with its operands renamed
pub record IsReworded {R S : Type 0} (f : R → S) (g : S) (t : ℕ → ℕ) (i : Instr R) : Type 0 where
  pub made : instr_of (operation_of i) (renamed f g t (operands_of i)) ≡ Some (reword f g t i)
  pub operation : operation_of (reword f g t i) ≡ operation_of i
  pub operands : operands_of (reword f g t i) ≡ renamed f g t (operands_of i)

pub reworded : {R S : Type 0} (f : R → S) (g : S) (t : ℕ → ℕ) (i : Instr R) → IsReworded f g t i
reworded f g t (instr.Li to n) = record { made = refl; operation = refl; operands = refl }
reworded f g t _ = record { made = refl; operation = refl; operands = refl }

-- what never falls is followed by nothing, and what has a target jumps there

pub no_fall : {R : Type 0} (i : Instr R) (at : ℕ) → never_falls i ≡ true → (next_of i at).fall ≡ None
no_fall (instr.Jmp target) at h = refl
no_fall instr.Halt at h = refl
no_fall _ at h = absurd (cc)

pub jumps_to : {R : Type 0} (i : Instr R) (at : ℕ) → (next_of i at).jump ≡ target_of i
jumps_to (instr.Jmp target) at = refl
jumps_to _ at = refl

-- what names an operation names this one alone
pub record Found (o : Operation) : Type 0 where
  pub named : named (row_of o).mnemonic ≡ Some o
  pub coded : coded (row_of o).opcode ≡ Some o
  pub small : nat_lt (row_of o).opcode 128 ≡ true

pub found : (o : Operation) → Found o
found Li = record { named = refl; coded = refl; small = refl }
found (Alu op.Add) = record { named = refl; coded = refl; small = refl }
found (Div Quotient) = record { named = refl; coded = refl; small = refl }
found (Branch test.Eq) = record { named = refl; coded = refl; small = refl }
found _ = record { named = refl; coded = refl; small = refl }

-- an instruction that was made has this operation and these operands
pub record IsOf {R : Type 0} (o : Operation) (x : Operands R ℕ ℕ) (i : Instr R) : Type 0 where
  pub operation : operation_of i ≡ o
  pub operands : operands_of i ≡ x

-- the parts of what is made, if it is
abbrev Parts : Type 0 → Type 0
Parts R = Operation × Operands R ℕ ℕ

abbrev parts_of : {R : Type 0} → Instr R → Parts R
parts_of i = (operation_of i, operands_of i)

abbrev these : {R : Type 0} → Operation → Operands R ℕ ℕ → Instr R → Parts R
these o x i = (o, x)

same_parts : {R : Type 0} (o : Operation) (to a b : Option R) (e : Extra ℕ ℕ) → option_map parts_of (made o to a b e) ≡ option_map (these o (with to a b e)) (made o to a b e)
same_parts Li (Some to) None None (Number n) = refl
same_parts _ None None None Nothing = refl
same_parts _ None None (Some b) Nothing = refl
same_parts _ None (Some a) None Nothing = refl
same_parts _ None (Some a) (Some b) Nothing = refl
same_parts _ (Some to) None None Nothing = refl
same_parts _ (Some to) None (Some b) Nothing = refl
same_parts _ (Some to) (Some a) None Nothing = refl
same_parts _ (Some to) (Some a) (Some b) Nothing = refl
same_parts _ _ _ _ _ = refl

pub made_of : {R : Type 0} (o : Operation) (to a b : Option R) (e : Extra ℕ ℕ) (i : Instr R) → made o to a b e ≡ Some i → IsOf o (with to a b e) i
made_of o to a b e i h =
    let x = with to a b e in
    let same = subst (λ (m : Option (Instr _)). option_map parts_of m ≡ option_map (these o x) m) h (same_parts o to a b e) in
    let parts = same_Some (parts_of i) (these o x i) same in
    record { operation = ap (λ (p : Parts _). p.0) parts; operands = ap (λ (p : Parts _). p.1) parts }

-- an opcode is that of the operation that it stands for
pub coded_is : (n : ℕ) (o : Operation) → coded n ≡ Some o → (row_of o).opcode ≡ n
coded_is n o h = go operations h
  where
    go : (os : List Operation) → find (λ (p : Operation). (row_of p).opcode == n) os ≡ Some o → (row_of o).opcode ≡ n
    go [] e = absurd (cc)
    go (p ∷ ps) e = at ((row_of p).opcode == n) refl e (λ g. go ps g)
      where
        at : (b : Bool) → ((row_of p).opcode == n) ≡ b → cond b (Some p) (find (λ (q : Operation). (row_of q).opcode == n) ps) ≡ Some o → (find (λ (q : Operation). (row_of q).opcode == n) ps ≡ Some o → (row_of o).opcode ≡ n) → (row_of o).opcode ≡ n
        at true f g later = subst (λ (q : Operation). (row_of q).opcode ≡ n) (same_Some p o g) (eqb-true (row_of p).opcode n f)
        at false f g later = later g

-- the operations of a table whose opcodes follow on this one

abbrev Follow : ℕ → List Operation → Type 0
Follow n [] = Unit {0}
Follow n (o ∷ os) = ((row_of o).opcode ≡ n) × Follow (suc n) os

coded_from : (os : List Operation) (first n : ℕ) → Follow first os → first ≤ n → find (λ (o : Operation). (row_of o).opcode == n) os ≡ slice_get os (n - first)
coded_from [] first n f le = refl
coded_from (o ∷ os) first n f le = go ((row_of o).opcode == n) refl (coded_from os (suc first) n f.1)
  where
    go : (b : Bool) → ((row_of o).opcode == n) ≡ b → (suc first ≤ n → find (λ (p : Operation). (row_of p).opcode == n) os ≡ slice_get os (n - suc first)) → cond b (Some o) (find (λ (p : Operation). (row_of p).opcode == n) os) ≡ slice_get (o ∷ os) (n - first)
    go true e later =
        let same = eqb-true (row_of o).opcode n e in
        let here : n - first ≡ 0 = omega (arith, same, f.0) in
        ap (λ (i : ℕ). slice_get (o ∷ os) i) (sym here)
    go false e later =
        let other = eqb-false (row_of o).opcode n e in
        let next : n - first ≡ suc (n - suc first) = omega (arith, other, f.0, le) in
        later (omega (arith, other, f.0, le)) ∙ ap (λ (i : ℕ). slice_get (o ∷ os) i) (sym next)

-- an opcode is the place of its operation in the table, counted from 1
pub coded_at : (n : ℕ) → 1 ≤ n → coded n ≡ slice_get operations (n - 1)
coded_at n le = coded_from operations 1 n (search rules) le
