use Rattle.std.proofs.Common.{◌≡◌, ◌+◌, ◌<◌, ◌≤◌, length, length-set, get_or-set_same, get_or-set_other, sym, ◌∙◌, subst, inl, inr, arith}
use Rattle.std.specs.Prelude.{slice_index, slice_set}
use Rattle.std.proofs.lemmas.Bool.{cases_eq}
use Rattle.budget.specs.declared.TheConstants.{MOST_COST}
use Rattle.allocate.specs.Tables.{Costs}
use Rattle.allocate.proofs.row_costs.lesser_costs.Goals as goal

pub loop-j-preserved : goal.loop-j-preserved
loop-j-preserved c =
    let costs = c.loop-j.cells in
    let j = c.loop-j.j in
    let cost = c.cell_cost.result in
    let inside : j < length costs = let long = c.loop-j.invariant.long in let lt = c.loop-j-test.true in omega arith in
    let here : slice_index (slice_set costs j cost) j ≡ cost = get_or-set_same costs j cost 0 inside in
    record {
      long = length-set costs j cost ∙ c.loop-j.invariant.long;
      costs = λ code are known walk k less order reach. elim (cases_eq k j) [
        | inl same ↦
            let at : slice_index (slice_set costs j cost) k ≡ cost = subst (λ n. slice_index (slice_set costs j cost) n ≡ cost) (sym same) here in
            let is = c.cell_cost.ensures.cost code are known (walk j c.loop-j-test.true) (omega arith) (omega arith) in
            subst (Costs code c.args.p (c.args.part.all + k)) (sym at) (subst (λ n. Costs code c.args.p (c.args.part.all + n) cost) (sym same) is)
        | inr other ↦ subst (Costs code c.args.p (c.args.part.all + k)) (sym (get_or-set_other costs j k cost 0 other)) (c.loop-j.invariant.costs code are known walk k (omega arith) order reach)
      ];
      small = λ all k. elim (cases_eq k j) [
        | inl same ↦ subst (λ n. slice_index (slice_set costs j cost) n ≤ MOST_COST) (sym same) (subst (λ n. n ≤ MOST_COST) (sym here) (c.cell_cost.ensures.small (all j)))
        | inr other ↦ subst (λ n. n ≤ MOST_COST) (sym (get_or-set_other costs j k cost 0 other)) (c.loop-j.invariant.small all k)
      ];
    }

pub cell_cost-requires-clause-above : goal.cell_cost-requires-clause-above
cell_cost-requires-clause-above c = c.requires.above c.loop-j.j c.loop-j-test.true
