use Rattle.std.proofs.Common.{◌+◌, arith}
use Rattle.emit.specs.Sized.{with_places}
use Rattle.emit.proofs.Pricing.{glue_is, still_fall}
use Rattle.emit.proofs.Sizing.{next_glue}
use Rattle.emit.proofs.jumps.jump_glues_of.Goals as goal

pub loop-i-preserved : goal.loop-i-preserved
loop-i-preserved c =
    let code = c.args.code.now in
    let plan = c.args.plan.now in
    let i = c.loop-i.i in
    let fall = still_fall code plan i (λ r. c.requires.falls r i) in record {
      numbers = λ j less.
          let r = c.args.from + j in
          let more = c.add.ensures.more j less in
          let before = c.loop-i.invariant.numbers j less in
          let here = glue_is code plan i r _ c.in_ok-jump.jump (omega arith) fall c.in_ok-jump.ensures in
          omega (arith, next_glue code (with_places plan r) i, more, before, here);
      few = λ j. let more = c.add.ensures.few j in let before = c.loop-i.invariant.few j in omega arith;
    }
