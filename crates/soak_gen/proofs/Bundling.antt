-- The bundle of a number is formed.
use Rattle.std.proofs.Common.{◌≡◌, ◌++◌, ℕ, zero, suc, true, List, [], ◌∷◌, Result, Ok, Err, IfOk, length, map, refl, sym, subst, ap, ◌∙◌, arith}
use Rattle.std.specs.Str.{bytes_eq}
use Rattle.std.proofs.lemmas.List.{length-append, map-append}
use Rattle.std.proofs.lemmas.Option.{same_Some}
use Rattle.micro_isa.specs.declared.program.Program.{Program}
use Rattle.micro_isa.specs.declared.program.Bundle.{Bundle}
use Rattle.micro_isa.specs.Formed.{Each, IsFormedProgram, IsFormedSetting, IsFormedBundle, fits_channels, is_distinct}
use Rattle.soak_gen.specs.declared.contexts.Contexts.{Contexts}
use Rattle.soak_gen.specs.Bundles.{context_name, program, with_context, with_contexts, contexts, generated}
use Rattle.soak_gen.proofs.Forming.{channels, program_fits, program_formed}

each_more : {A : Type 0} (P : A → Type 0) (xs : List A) (y : A) → Each xs P → P y → Each (xs ++ y ∷ []) P
each_more P [] y h p zero a e = subst P (same_Some y a e) p
each_more P [] y h p (suc i) a e = absurd (cc)
each_more P (x ∷ xs) y h p zero a e = h 0 a e
each_more P (x ∷ xs) y h p (suc i) a e = each_more P xs y (λ i a e. h (suc i) a e) p i a e

-- the numbers below n, one after another
abbrev below : ℕ → List ℕ
below zero = []
below (suc n) = below n ++ n ∷ []

-- so many programs, each formed, with the names of so many contexts
record Programs (n : ℕ) (ps : List Program) : Type 0 where
  many : length ps ≡ n
  formed : Each ps IsFormedProgram
  fit : Each ps (λ p. Each p.code (λ l. fits_channels channels l.instr ≡ true))
  names : map (λ p. p.name) ps ≡ map context_name (below n)

program_name : (context line state : ℕ) → (program context line state).name ≡ context_name context
unfolding program
program_name context line state = refl

one_more : (n : ℕ) (cs : Contexts) → Programs n cs.programs → Programs (suc n) (with_context cs n).programs
unfolding with_context
one_more n cs ps =
    let own = program n cs.line cs.state in
    record {
      many = omega (arith, length-append cs.programs (own ∷ []), ps.many);
      formed = each_more IsFormedProgram cs.programs own ps.formed (program_formed n cs.line cs.state);
      fit = each_more (λ (p : Program). Each p.code (λ l. fits_channels channels l.instr ≡ true)) cs.programs own ps.fit (program_fits n cs.line cs.state);
      names =
          map-append (λ (p : Program). p.name) cs.programs (own ∷ [])
          ∙ ap (λ ns. ns ++ own.name ∷ []) ps.names
          ∙ ap (λ name. map context_name (below n) ++ name ∷ []) (program_name n cs.line cs.state)
          ∙ sym (map-append context_name (below n) (n ∷ []));
    }

so_many : (n : ℕ) (cs : Contexts) → cs.programs ≡ [] → Programs n (with_contexts n cs).programs
so_many zero cs e = subst (Programs 0) (sym e) (record { many = refl; formed = λ i a none. absurd (cc); fit = λ i a none. absurd (cc); names = refl })
so_many (suc n) cs e = one_more n (with_contexts n cs) (so_many n cs e)

all_programs : (number : ℕ) → Programs 8 (contexts number).programs
unfolding contexts
all_programs number = so_many 8 (record { programs = []; line = 4; state = number }) refl

setting_formed : IsFormedSetting (record { memory = 1024; channels = channels })
setting_formed = record { memory = omega arith; few = omega arith; rings = refl; ports = refl; distinct = refl; words = omega arith }

pub generated_formed : (number : ℕ) → IsFormedBundle (generated number)
unfolding generated
generated_formed number =
    let ps = all_programs number in
    record {
      file = omega arith;
      small = omega arith;
      setting = setting_formed;
      some = omega (arith, ps.many);
      few = omega (arith, ps.many);
      programs = ps.formed;
      names = refl;
      distinct = refl;
      contexts = ap (is_distinct bytes_eq) ps.names;
      channels = ps.fit;
    }

-- what is the bundle of a number is formed
pub made_formed : {E : Type 0} (result : Result Bundle E) (number : ℕ) → IfOk result (λ bundle. bundle ≡ generated number) → IfOk result IsFormedBundle
made_formed (Ok bundle) number e = subst IsFormedBundle (sym e) (generated_formed number)
made_formed (Err e) number h = h
