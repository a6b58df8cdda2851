-- What the code of an image asks for.
use Rattle.std.proofs.Common.{◌≡◌, ℕ, zero, suc, ◌+◌, ◌<◌, ◌≤◌, List, [], ◌∷◌, length, sum, take, refl, sym, ap, ◌∙◌, subst, arith, add-one}
use Rattle.std.specs.Prelude.{slice_index}
use Rattle.std.proofs.lemmas.List.Sums.{sum_by-cons}
use Rattle.micro_isa.specs.declared.program.Bundle.{Bundle}
use Rattle.micro_isa.specs.declared.image.Image.{Image}
use Rattle.micro_isa.specs.Formed.{IsFormedBundle}
use Rattle.flow_graph.specs.Paths.{IsClosedCode}
use Rattle.semantics.specs.Source.{code_of}
use Rattle.plan.specs.declared.row.Plan.{Plan}
use Rattle.plan.specs.ValidPlans.{IsValidPlan}
use Rattle.budget.specs.declared.Budget.{Budget}
use Rattle.emitted.specs.Emitted.{plan_at, start_of, emitted, ArePlans, PlansFit, IsEmitted}
use Rattle.emitted.proofs.Rows.{item_at}
use Rattle.emitted.proofs.Ranges.{ends_below}
use Rattle.emitted.proofs.Implementing.{closed, valid}
use Rattle.emitted.proofs.Emission.{is_emitted}

sum-cons : (n : ℕ) (ns : List ℕ) → sum (n ∷ ns) ≡ n + sum ns
sum-cons n ns = sum_by-cons (λ k. k) n ns

next_at : (xs : List ℕ) (i : ℕ) → sum (take (suc i) xs) ≡ sum (take i xs) + slice_index xs i
next_at [] zero = refl
next_at [] (suc i) = refl
next_at (x ∷ xs) zero =
    let first : slice_index (x ∷ xs) 0 ≡ x = refl in
    omega (arith, sum-cons x [])
next_at (x ∷ xs) (suc i) =
    let same : slice_index (x ∷ xs) (suc i) ≡ slice_index xs i = refl in
    let here : sum (take (suc i) (x ∷ xs)) ≡ x + sum (take i xs) = sum-cons x (take i xs) in
    let next : sum (take (suc (suc i)) (x ∷ xs)) ≡ x + sum (take (suc i) xs) = sum-cons x (take (suc i) xs) in
    omega (arith, next_at xs i)

pub next_sum : (xs : List ℕ) (i : ℕ) → start_of xs (i + 1) ≡ start_of xs i + slice_index xs i
next_sum xs i = ap (start_of xs) (add-one i) ∙ next_at xs i

pub sum_more : (xs : List ℕ) (i : ℕ) → start_of xs i + slice_index xs i ≤ sum xs
sum_more xs i = ends_below xs i

take_all : (xs : List ℕ) → take (length xs) xs ≡ xs
take_all [] = refl
take_all (x ∷ xs) = ap (λ l. x ∷ l) (take_all xs)

pub whole : (xs : List ℕ) → start_of xs (length xs) ≡ sum xs
whole xs = ap sum (take_all xs)

pub is_emitted_as : (b : Bundle) (plans : List Plan) (budget : Budget) (m : Image) → IsFormedBundle b → ArePlans b plans → PlansFit b plans budget → m ≡ emitted b plans budget → IsEmitted b plans budget m
is_emitted_as b plans budget m formed are room e = subst (IsEmitted b plans budget) (sym e) (is_emitted b plans budget formed are room)

pub valid_at : (b : Bundle) (plans : List Plan) (budget : Budget) (c : ℕ) → IsFormedBundle b → ArePlans b plans → PlansFit b plans budget → c < length b.programs → IsValidPlan (code_of b c) (plan_at plans c)
valid_at b plans budget c formed are room lt = let p = item_at b.programs c lt in valid b plans budget formed are room c p.0 p.1

pub closed_at : (b : Bundle) (plans : List Plan) (budget : Budget) (c : ℕ) → IsFormedBundle b → ArePlans b plans → PlansFit b plans budget → c < length b.programs → IsClosedCode (code_of b c)
closed_at b plans budget c formed are room lt = let p = item_at b.programs c lt in closed b plans budget formed are room c p.0 p.1
