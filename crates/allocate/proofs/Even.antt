-- The glue of an allocation is what its budget costs, and the number of words of its image that are not counted.
use Rattle.std.proofs.Common.{◌≡◌, ℕ, zero, suc, ◌+◌, List, [], ◌∷◌, length, refl, sym, ap, ◌∙◌, subst, arith, inl}
use Rattle.std.specs.Prelude.{slice_get, not}
use Rattle.std.specs.List.{filter, sum_by}
use Rattle.std.proofs.lemmas.List.Sums.{sum_by-append, sum_by-cons}
use Rattle.micro_isa.specs.declared.program.Program.{Program}
use Rattle.micro_isa.specs.declared.program.Bundle.{Bundle}
use Rattle.micro_isa.specs.declared.image.Code.{Code}
use Rattle.micro_isa.specs.Formed.{IsFormedBundle}
use Rattle.micro_isa.specs.Pieces.{pieces, total}
use Rattle.semantics.specs.Source.{code_in, code_of}
use Rattle.plan.specs.declared.row.Plan.{Plan}
use Rattle.budget.specs.declared.Budget.{Budget}
use Rattle.budget.specs.Fitting.{SizesFit}
use Rattle.budget.proofs.Keys.{by_key_le}
use Rattle.emitted.specs.Words.{glue_of}
use Rattle.emitted.specs.Emitted.{context_of, plan_at, register_in}
use Rattle.emitted.proofs.Counting.{glue_words}
use Rattle.allocate.specs.declared.allocation.Allocation.{Allocation}
use Rattle.allocate.specs.Cells.{all_places, private_places}
use Rattle.allocate.specs.Items.{AreClosed}
use Rattle.allocate.specs.Preferred.{AllFitWhole, HasCost, HaveCells, demands_by}
use Rattle.allocate.specs.Allocations.{IsAllocation, IsEven, IsStill, uncounted_words}
use Rattle.allocate.proofs.Costing.{cell_glue}
use Rattle.allocate.proofs.Once.{cells_once, parts_once}
use Rattle.allocate.proofs.Zipping.{all_closed}

-- the words of the first contexts that are not counted
words_of_first : (b : Bundle) (plans : List Plan) (budget : Budget) (n : ℕ)
    → sum_by (λ code. length (filter (λ word. not word.counted) code.words)) (pieces (λ c. context_of b plans budget c ∷ []) n) ≡ total (λ c. glue_of (code_of b c) (plan_at plans c)) n
words_of_first b plans budget zero = refl
words_of_first b plans budget (suc n) =
    let g : Code → ℕ = λ code. length (filter (λ word. not word.counted) code.words) in
    let rest = words_of_first b plans budget n in
    let both = sum_by-append g (pieces (λ c. context_of b plans budget c ∷ []) n) (context_of b plans budget n ∷ []) in
    let one = sum_by-cons g (context_of b plans budget n) [] in
    let here = glue_words (code_of b n) (plan_at plans n) (register_in budget n) in
    both ∙ (λ i. rest i + (one ∙ add_none (g (context_of b plans budget n)) ∙ here) i)
  where
    add_none : (n : ℕ) → n + 0 ≡ n
    add_none n = omega arith

total_front : (f : ℕ → ℕ) (n : ℕ) → total f (suc n) ≡ f 0 + total (λ i. f (suc i)) n
total_front f zero = omega arith
total_front f (suc n) = let rest = total_front f n in omega arith

-- what cells cost is the glue of their plans
pub cells_glue : (programs : List Program) (sizes : List ℕ) (shared cost : ℕ) (plans : List Plan) → AreClosed programs → HaveCells programs sizes shared cost plans
    → cost ≡ total (λ c. glue_of (code_in (slice_get programs c)) (plan_at plans c)) (length programs)
cells_glue [] [] shared cost plans closed cells = cells.0
cells_glue [] (size ∷ sizes) shared cost plans closed cells = absurd cells
cells_glue (program ∷ programs) [] shared cost plans closed cells = absurd cells
cells_glue (program ∷ programs) (size ∷ sizes) shared cost plans closed cells =
    let cell = cells.4 in
    let own = cell_glue program.code (private_places cell.pressure size) (all_places cell.pressure size shared) cells.0 cells.1 closed.0 cell.cell in
    let rest = cells_glue programs sizes shared cells.2 cells.3 closed.1 cells.5 in
    let front = total_front (λ c. glue_of (code_in (slice_get (program ∷ programs) c)) (plan_at (cells.1 ∷ cells.3) c)) (length programs) in
    cells.6 ∙ (λ i. own i + rest i) ∙ sym front
    ∙ ap (λ l. total (λ c. glue_of (code_in (slice_get (program ∷ programs) c)) (plan_at l c)) (length (program ∷ programs))) (sym cells.7)

pub is_even : (b : Bundle) (a : Allocation) → IsFormedBundle b → IsAllocation b a → IsEven a
is_even b a formed is = record {
  cost = is.glue ∙ sym (cells_glue b.programs a.budget.private a.budget.shared a.budget.cost a.plans (all_closed b formed) is.cells);
  words = is.glue ∙ sym (words_of_first b a.plans a.budget (length b.programs)) ∙ sym (ap uncounted_words is.image);
}

-- where the fit over the whole program serves each context the sizes cost nothing
whole_free : (programs : List Program) (sizes : List ℕ) (shared : ℕ) → AllFitWhole programs sizes shared → HasCost programs sizes shared 0
whole_free [] [] shared all = ([], (refl, refl))
whole_free [] (size ∷ sizes) shared all = absurd all
whole_free (program ∷ programs) [] shared all = absurd all
whole_free (program ∷ programs) (size ∷ sizes) shared all =
    let here = all.0 in
    let rest = whole_free programs sizes shared all.1 in
    (here.plan ∷ rest.0, (0, here.plan, 0, rest.0, record { pressure = here.pressure; exact = here.exact; cell = inl (record { fit = here.fit; free = refl }) }, rest.1, refl, refl))

pub is_still : (b : Bundle) (a : Allocation) → IsFormedBundle b → IsAllocation b a → IsStill b a
is_still b a formed is = record {
  none = λ parts private shared pressures fits all.
      let same = parts_once b parts is.parts pressures is.pressures in
      let found = is.preferred.first private shared (subst (λ ps. SizesFit (demands_by ps) b.file private shared) same fits) in
      let free = whole_free b.programs private shared all in
      let none : found.0 ≡ 0 = (cells_once b.programs private shared found.0 0 found.1.0 free.0 found.1.1 free.1).0 in
      let le = by_key_le _ _ _ found.2 in
      let cost = (is_even b a formed is).cost in
      omega arith;
}
