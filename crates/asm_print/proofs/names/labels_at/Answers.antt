use Rattle.std.proofs.Common.{rules, ◌-◌, take, drop, length, leb, ltb, arith}
use Rattle.std.proofs.lemmas.List.{take_rest}
use Rattle.std.proofs.lemmas.List.Sorted.{IsPartitionPoint-from_clause, IsPartitionedBy-leb, IsPartitionedBy-ltb, IsNonDecreasingBy-take, IsNonDecreasingBy-drop}
use Rattle.micro_isa.specs.declared.program.Label.{Label}
use Rattle.asm_print.proofs.Labels.{in_order, those_at}
use Rattle.asm_print.proofs.names.labels_at.Goals as goal

pub returns : goal.returns
returns c =
    let target = λ (l : Label). l.target in
    let i = c.partition_point-first.result in
    let labels = c.args.labels.now in
    let rest = take (length labels - i) (drop i labels) in
    let sorted = in_order target labels 0 c.requires in
    let sorted_rest = IsNonDecreasingBy-take target (length labels - i) (drop i labels) (IsNonDecreasingBy-drop target i labels sorted) in
    let first = IsPartitionPoint-from_clause (λ (l : Label). ltb l.target c.args.at) _ _ c.partition_point-first.ensures.partitioned (IsPartitionedBy-ltb target labels c.args.at sorted) (λ a r q k. search rules) in
    let last = IsPartitionPoint-from_clause (λ (l : Label). leb l.target c.args.at) _ _ c.partition_point-count.ensures.partitioned (IsPartitionedBy-leb target rest c.args.at sorted_rest) (λ a r q k. search rules) in
    those_at target labels rest c.args.at i c.partition_point-count.result (take_rest labels i)
    c.partition_point-first.ensures.bound c.partition_point-count.ensures.bound
    (λ k d l. first.0 k d (omega arith) l) (λ k d l m. first.1 k d l m)
    (λ k d l. last.0 k d (omega arith) l) (λ k d l m. last.1 k d l m)
