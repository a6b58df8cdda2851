use Rattle.std.proofs.Common.{◌∙◌, sym, subst}
use Rattle.micro_isa.specs.declared.limits.TheConstants.{MOST_FILE}
use Rattle.edge_moves.specs.Within.{StepsWithin}
use Rattle.emitted.specs.Edges.{steps_to}
use Rattle.emit.proofs.Laying.{fall_small}
use Rattle.emit.proofs.words.push_falls.Goals as goal

pub push_steps-requires : goal.push_steps-requires
push_steps-requires c =
    subst (StepsWithin MOST_FILE) (sym (c.as_slice.ensures ∙ c.in_ok-falls.ensures ∙ (λ k. steps_to c.args.code.now c.args.plan.now c.args.i (c.next_at.ensures k).fall))) (fall_small c.args.code.now c.args.plan.now c.args.i c.requires.valid c.requires.closed c.requires.within).0
