use Rattle.std.proofs.Common.{◌≡◌, ℕ, ◌-◌, ◌≤◌, List, None, Bool, true, false, length, sym, ap, ◌∙◌, subst, arith}
use Rattle.edge_moves.specs.MoveSteps.{Pair, moving, first_free}
use Rattle.edge_moves.specs.ParallelMove.{AreDistinct}
use Rattle.edge_moves.specs.Tally.{outside, inside, openings, sum_of, counted}
use Rattle.edge_moves.proofs.CostLaw.{parts, all_on_cycles, few_pairs, few_cycles}
use Rattle.edge_moves.proofs.counting.both_counted.Goals as goal

-- `left` are the pairs that move, `on_cycles` those of them on cycles
module _ (pairs left on_cycles : List Pair) (all rings : ℕ) (distinct : AreDistinct pairs)
    (left_is : left ≡ moving pairs) (all_is : all ≡ length left)
    (on_cycles_are : on_cycles ≡ inside (length pairs) (moving pairs)) (rings_is : rings ≡ length on_cycles) where
  all_moving : all ≡ length (moving pairs)
  all_moving = all_is ∙ ap length left_is

  all_inside : rings ≡ length (inside (length pairs) (moving pairs))
  all_inside = rings_is ∙ ap length on_cycles_are

  no_more : rings ≤ all
  no_more = omega (arith, all_moving, all_inside, parts pairs distinct)

  counts : (has_free : Bool) (cycles : ℕ) → cycles ≡ openings (length on_cycles) on_cycles → sum_of has_free (all - rings) rings cycles ≡ counted has_free pairs
  counts has_free cycles cycles_is =
      let chains : all - rings ≡ length (outside (length pairs) (moving pairs)) = omega (arith, all_moving, all_inside, parts pairs distinct) in
      let opened = cycles_is ∙ ap (λ k. openings (length k) k) on_cycles_are in
      λ i. sum_of has_free (chains i) (all_inside i) (opened i)

pub take_cycles-cycles-requires-clause-cycles : goal.take_cycles-cycles-requires-clause-cycles
take_cycles-cycles-requires-clause-cycles c = subst (λ k. first_free k k ≡ None) (sym c.take_outside.ensures.left) (all_on_cycles c.args.pairs.now c.requires)

pub overflow_sub-moving : goal.overflow_sub-moving
overflow_sub-moving c = no_more _ _ _ _ _ c.requires c.sources_to-sources.ensures.left c.count_left-moving.ensures.number c.take_outside.ensures.left c.count_left-on_cycles.ensures.number

pub sums-requires-clause-pairs : goal.sums-requires-clause-pairs
sums-requires-clause-pairs c =
    let all = c.count_left-moving.ensures.number ∙ ap length c.sources_to-sources.ensures.left in
    let rings = c.count_left-on_cycles.ensures.number ∙ ap length c.take_outside.ensures.left in
    omega (arith, all, rings, parts c.args.pairs.now c.requires, few_pairs c.args.pairs.now c.requires c.count_left-on_cycles.ensures.registers)

pub sums-requires-clause-cycles : goal.sums-requires-clause-cycles
sums-requires-clause-cycles c =
    let rings = c.count_left-on_cycles.ensures.number ∙ ap length c.take_outside.ensures.left in
    let cycles = c.take_cycles-cycles.ensures ∙ ap (λ k. openings (length k) k) c.take_outside.ensures.left in
    omega (arith, rings, cycles, few_cycles c.args.pairs.now c.requires)

pub returns-clause-with_free : goal.returns-clause-with_free
returns-clause-with_free c =
    c.sums.ensures.with_free ∙ counts _ _ _ _ _ c.requires c.sources_to-sources.ensures.left c.count_left-moving.ensures.number c.take_outside.ensures.left c.count_left-on_cycles.ensures.number true _ c.take_cycles-cycles.ensures

pub returns-clause-without : goal.returns-clause-without
returns-clause-without c =
    c.sums.ensures.without ∙ counts _ _ _ _ _ c.requires c.sources_to-sources.ensures.left c.count_left-moving.ensures.number c.take_outside.ensures.left c.count_left-on_cycles.ensures.number false _ c.take_cycles-cycles.ensures
