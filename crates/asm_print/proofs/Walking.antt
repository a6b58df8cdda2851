-- Lines of a context without a fault, one after another.
use Rattle.std.proofs.Common.{◌≡◌, ◌++◌, List, [], ◌∷◌, None, refl, sym, ap, ◌∙◌, fold, map, append_assoc, append-nil}
use Rattle.std.proofs.lemmas.List.{map-append}
use Rattle.std.proofs.lemmas.List.Sums.{fold-append}
use Rattle.micro_isa.specs.declared.instr.Instr.{Instr}
use Rattle.micro_isa.specs.declared.program.VReg.{VReg}
use Rattle.micro_isa.specs.declared.program.Line.{Line}
use Rattle.asm_lines.specs.Cutting.{TextLine}
use Rattle.asm_lines.specs.Verdicts.{at_or, first_fault}
use Rattle.asm_lines.proofs.Verdicts.{free_in}
use Rattle.asm_context.specs.Faults.{Channels, line_fault, verdicts_after, faults_after}
use Rattle.asm_context.specs.Programs.{line_code, code_after}
use Rattle.asm_context.specs.Said.{Said, with_line, said_by}

-- the instructions of lines of code
abbrev pub instrs : List Line → List (Instr VReg)
instrs code = map (λ l. l.instr) code

-- where all lines of a context say `all`, lines without a fault lead from what the earlier ones say, `s`, to `t`, and give
-- these instructions
pub record Walks (chs : Channels) (all s : Said) (lines : List TextLine) (t : Said) (is : List (Instr VReg)) : Type 0 where
  pub free : (before : List TextLine) → said_by before ≡ s → faults_after chs all before lines ≡ None
  pub said : fold with_line s lines ≡ t
  pub code : (before : List TextLine) → said_by before ≡ s → instrs (code_after chs.names all before lines) ≡ is

module _ (chs : Channels) (all : Said) where
  pub no_walk : (s : Said) → Walks chs all s [] s []
  no_walk s = record { free = λ before e. refl; said = refl; code = λ before e. refl }

  pub one_walk : (s t : Said) (l : TextLine) (is : List (Instr VReg)) → line_fault chs s all l ≡ None → with_line s l ≡ t → instrs (line_code chs.names s all l) ≡ is → Walks chs all s (l ∷ []) t is
  one_walk s t l is f e c = record {
    free = λ before b. ap (λ o. at_or l.number o None) (ap (λ x. line_fault chs x all l) b ∙ f);
    said = e;
    code = λ before b. ap instrs (append-nil (line_code chs.names (said_by before) all l)) ∙ ap (λ x. instrs (line_code chs.names x all l)) b ∙ c;
  }

  verdicts-append : (before xs ys : List TextLine) → verdicts_after chs all before (xs ++ ys) ≡ verdicts_after chs all before xs ++ verdicts_after chs all (before ++ xs) ys
  verdicts-append before [] ys = ap (λ b. verdicts_after chs all b ys) (sym (append-nil before))
  verdicts-append before (x ∷ xs) ys =
      ap (λ vs. (x.number, line_fault chs (said_by before) all x) ∷ vs) (verdicts-append (before ++ x ∷ []) xs ys)
      ∙ ap (λ b. verdicts_after chs all before (x ∷ xs) ++ verdicts_after chs all b ys) (append_assoc before (x ∷ []) xs)

  code-append : (before xs ys : List TextLine) → code_after chs.names all before (xs ++ ys) ≡ code_after chs.names all before xs ++ code_after chs.names all (before ++ xs) ys
  code-append before [] ys = ap (λ b. code_after chs.names all b ys) (sym (append-nil before))
  code-append before (x ∷ xs) ys =
      ap (λ c. line_code chs.names (said_by before) all x ++ c) (code-append (before ++ x ∷ []) xs ys)
      ∙ sym (append_assoc (line_code chs.names (said_by before) all x) (code_after chs.names all (before ++ x ∷ []) xs) (code_after chs.names all ((before ++ x ∷ []) ++ xs) ys))
      ∙ ap (λ b. code_after chs.names all before (x ∷ xs) ++ code_after chs.names all b ys) (append_assoc before (x ∷ []) xs)

  pub then_walk : (s t u : Said) (xs ys : List TextLine) (is js : List (Instr VReg)) → Walks chs all s xs t is → Walks chs all t ys u js → Walks chs all s (xs ++ ys) u (is ++ js)
  then_walk s t u xs ys is js a b =
      let on : (before : List TextLine) → said_by before ≡ s → said_by (before ++ xs) ≡ t = λ before e. fold-append with_line _ before xs ∙ ap (λ x. fold with_line x xs) e ∙ a.said in
      record {
        free = λ before e. ap first_fault (verdicts-append before xs ys) ∙ free_in (verdicts_after chs all before xs) (verdicts_after chs all (before ++ xs) ys) (a.free before e) ∙ b.free (before ++ xs) (on before e);
        said = fold-append with_line s xs ys ∙ ap (λ x. fold with_line x ys) a.said ∙ b.said;
        code = λ before e. ap instrs (code-append before xs ys) ∙ map-append (λ (l : Line). l.instr) (code_after chs.names all before xs) (code_after chs.names all (before ++ xs) ys)
            ∙ ap (λ c. c ++ instrs (code_after chs.names all (before ++ xs) ys)) (a.code before e) ∙ ap (λ c. is ++ c) (b.code (before ++ xs) (on before e));
      }
