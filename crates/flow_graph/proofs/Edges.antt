-- Steps over a list of successors are edges of the code that has them.
use Rattle.std.proofs.Common.{◌≡◌, ℕ, ◌<◌, Bool, List, [], ◌∷◌, Option, Some, None, length, refl, subst, ◌∙◌, inl, inr, arith}
use Rattle.std.proofs.lemmas.Option.{slice_get_within, slice_get_cases}
use Rattle.micro_isa.specs.declared.instr.Next.{Next}
use Rattle.micro_isa.specs.declared.program.Line.{Line}
use Rattle.micro_isa.specs.Columns.{next_of}
use Rattle.flow_graph.specs.Paths.{GoesTo, Edge, Walk, IsClosedCode, AreSuccessors, Below, AreWithin}
use Rattle.flow_graph.specs.Flows.{IsFlowOf}
use Rattle.flow_graph.specs.Floods.{Step, IsReached}

mapped : (E F : ℕ → ℕ → Type 0) → ((i j : ℕ) → E i j → F i j) → (rest : List ℕ) (i j : ℕ) → Walk E i rest j → Walk F i rest j
mapped E F each [] i j at = at
mapped E F each (h ∷ rest) i j walk = (each i h walk.0, mapped E F each rest h j walk.1)

below_from : (o : Option ℕ) (n : ℕ) → ((j : ℕ) → o ≡ Some j → j < n) → Below o n
below_from None n each = tt
below_from (Some j) n each = each j refl

module _ (code : List Line) (successors : List Next) (are : AreSuccessors code successors) where
  step_of_edge : (i j : ℕ) → Edge code i j → Step successors i j
  step_of_edge i j edge = (next_of edge.0.instr i, are.each i edge.0 edge.1, edge.2)

  edge_of_step : (i j : ℕ) → Step successors i j → Edge code i j
  edge_of_step i j step =
      let inside = slice_get_within successors i step.0 step.1 in
      let one = are.one_each in
      elim (slice_get_cases code i).1 [
        | inl here ↦
            let same : step.0 ≡ next_of here.0.instr i = let e = are.each i here.0 here.2 in let f = step.1 in cc in
            (here.0, here.2, subst (λ next. GoesTo next j) same step.2)
        | inr past ↦ absurd (let le = past.0 in omega arith)
      ]

  pub within : IsClosedCode code → AreWithin successors
  within closed =
      let one = are.one_each in record {
        fall = λ i next is. below_from next.fall (length successors)
            (λ j e. let less = closed.closed i j (edge_of_step i j (next, is, inl e)) in omega arith);
        jump = λ i next is. below_from next.jump (length successors)
            (λ j e. let less = closed.closed i j (edge_of_step i j (next, is, inr e)) in omega arith);
      }

  pub flow_of : (marks : List Bool) → AreWithin successors → IsReached successors marks → IsFlowOf code (record { successors = successors; marks = marks })
  flow_of marks all_within reached = record {
    successors = are;
    within = all_within;
    one_each = reached.one_each ∙ are.one_each;
    reached = λ i inside.
        let both = reached.exact i (let one = are.one_each in omega arith) in (
          λ is. let way = both.0 is in (way.0, mapped (Step successors) (Edge code) edge_of_step way.0 0 i way.1),
          λ way. both.1 (way.0, mapped (Edge code) (Step successors) step_of_edge way.0 0 i way.1),
        );
  }
