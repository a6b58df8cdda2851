-- An interpreter is sound at its opening.
use Rattle.std.proofs.Common.{◌≡◌, ℕ, zero, suc, ◌<◌, ◌≤◌, List, [], ◌∷◌, length, Option, Some, None, true, refl, sym, ap, ◌∙◌, subst, arith, replicate, map}
use Rattle.std.specs.Prelude.{slice_get, slice_index, IfSome}
use Rattle.std.proofs.lemmas.Bool.{and_parts, ltb-true}
use Rattle.std.proofs.lemmas.List.{length-replicate, length-map}
use Rattle.micro_isa.specs.declared.limits.TheConstants.{MOST_CONTEXTS}
use Rattle.micro_isa.specs.declared.instr.Instr.{Instr}
use Rattle.micro_isa.specs.declared.program.VReg.{VReg}
use Rattle.micro_isa.specs.declared.program.Program.{Program}
use Rattle.micro_isa.specs.declared.program.Bundle.{Bundle}
use Rattle.std.specs.List.{cons_option}
use Rattle.micro_isa.specs.Operands.{operands_of}
use Rattle.micro_isa.specs.Formed.{all_below, option_below, registers_in, target_of, names_below, IsFormedProgram, IsFormedBundle}
use Rattle.world.specs.declared.event.Phase.TheVariants.{Ready}
use Rattle.semantics.specs.Source.{numbered_line, source_open}
use Rattle.semantics.specs.Core.{Core, opening_core}
use Rattle.source_core.specs.declared.context.ContextState.{ContextState}
use Rattle.run_state.specs.Running.{CanRunOne, CanRun}
use Rattle.source_core.specs.SourceState.{context_of, start_of, config_of, is_there, IsContext, IsSound}

-- the register that an instruction writes stands among those that it names
written_there : (n : ℕ) (o : Option VReg) (rest : List VReg) → all_below n (map (λ r. r.0) (cons_option o rest)) ≡ true → IfSome o (λ r. is_there n r ≡ true)
written_there n None rest h = tt
written_there n (Some r) rest h = (and_parts (is_there n r) (all_below n (map (λ q. q.0) rest)) h).0

target_below : (size : ℕ) (o : Option ℕ) → option_below size o ≡ true → IfSome o (λ target. target < size)
target_below size None h = tt
target_below size (Some target) h = ltb-true target size h

can_run : (n size : ℕ) (i : Instr VReg) → names_below (λ r. r.0) n size i ≡ true → CanRunOne (is_there n) size i
can_run n size i h =
    let x = operands_of i in
    let both = and_parts (all_below n (map (λ r. r.0) (registers_in i))) (option_below size (target_of i)) h in
    record {
      written = written_there n x.to (cons_option x.a (cons_option x.b [])) both.0;
      target = target_below size (target_of i) both.1;
    }

formed_runs : (p : Program) → IsFormedProgram p → CanRun numbered_line (is_there (length p.registers)) p.code
formed_runs p formed = record {
  few = omega (arith, formed.few);
  each = λ i l is. can_run (length p.registers) (length p.code) l.instr (formed.named i l is);
}

start_placed : (p : Program) → IsFormedProgram p → IsContext p.code (start_of p)
start_placed p formed = record {
  runs = subst (λ n. CanRun numbered_line (is_there n) p.code) (sym (length-replicate (length p.registers) 0)) (formed_runs p formed);
  placed = record { within = omega arith; pending = tt };
}

start_at : (ps : List Program) (c : ℕ) (p : Program) (x : ContextState) → slice_get ps c ≡ Some p → slice_get (map start_of ps) c ≡ Some x → start_of p ≡ x
start_at [] c p x is at = absurd (cc)
start_at (q ∷ ps) zero p x is at = let e : q ≡ p = cc in let f : start_of q ≡ x = cc in ap start_of (sym e) ∙ f
start_at (q ∷ ps) (suc c) p x is at = start_at ps c p x is at

opened : (b : Bundle) (bound : ℕ) → IsFormedBundle b → IsSound b (opening_core b.setting (length b.programs) bound) (map start_of b.programs)
opened b bound formed = record {
  few = subst (λ n. n ≤ MOST_CONTEXTS) (sym (length-map b.programs start_of)) formed.few;
  as_many = length-map b.programs start_of ∙ sym (length-replicate (length b.programs) Ready);
  as_many_programs = sym (length-replicate (length b.programs) Ready);
  each = λ c p x is_program is_x. subst (λ k. IsContext p.code k) (start_at b.programs c p x is_program is_x) (start_placed p (formed.programs c p is_program));
}

pub opens_sound : (b bundle : Bundle) (bound : ℕ) (core : Core) (xs : List ContextState) → IsFormedBundle b → bundle ≡ b → core ≡ opening_core b.setting (length b.programs) bound → xs ≡ map start_of b.programs → IsSound bundle core xs
opens_sound b bundle bound core xs formed is_bundle is_core is_xs =
    subst (λ x. IsSound x core xs) (sym is_bundle) (subst (λ x. IsSound b x xs) (sym is_core) (subst (λ x. IsSound b (opening_core b.setting (length b.programs) bound) x) (sym is_xs) (opened b bound formed)))

-- every register is 0 at the opening, and so is an absent one
zero_at : (n k : ℕ) → slice_index (replicate n 0) k ≡ 0
zero_at zero k = refl
zero_at (suc n) zero = refl
zero_at (suc n) (suc k) = zero_at n k

context_start : (ps : List Program) (c : ℕ) → context_of (slice_get (map start_of ps) c) ≡ record { kept = record { at = 0; pending = None }; values = λ r. 0 }
context_start [] c = refl
context_start (p ∷ ps) zero = λ i. record { kept = record { at = 0; pending = None }; values = λ r. zero_at (length p.registers) r.0 i }
context_start (p ∷ ps) (suc c) = context_start ps c

-- an interpreter that opens is the opening of the source run
pub opens : (b bundle : Bundle) (bound : ℕ) (core : Core) (xs : List ContextState) → bundle ≡ b → core ≡ opening_core b.setting (length b.programs) bound → xs ≡ map start_of b.programs → config_of (record { bundle = bundle; core = core; contexts = xs }) ≡ source_open b bound
opens b bundle bound core xs is_bundle is_core is_xs =
    (λ i. config_of (record { bundle = is_bundle i; core = is_core i; contexts = is_xs i }))
    ∙ (λ i. record { core = opening_core b.setting (length b.programs) bound; state = λ c. context_start b.programs c i })
