use Rattle.std.proofs.Common.{◌∷◌, [], length, subst, ap, arith}
use Rattle.std.proofs.lemmas.List.{length-append}
use Rattle.std.proofs.lemmas.List.Elements.{All-push}
use Rattle.pressure.specs.Pressures.{IsPart}
use Rattle.report_check.specs.Facts.{AreFactsOf}
use Rattle.report_check.proofs.Gathering.{next_facts}
use Rattle.report_check.proofs.facts.all_facts.Goals as goal

pub loop-program-preserved : goal.loop-program-preserved
loop-program-preserved c =
    let more = c.in-Ok.ensures.ok in
    let facts = c.in_ok-facts.facts in
    let longer = length-append c.loop-program.all (facts ∷ []) in
    let before = c.loop-program.invariant.one_each in
    let size = ap length more in record {
      exact = next_facts c.args.programs.now c.loop-program.program-index _ c.loop-program.all c.push.new.self facts c.loop-program-test.true more c.loop-program.invariant.exact
          (subst (λ p. AreFactsOf p facts) c.program-item.is c.in_ok-facts.ensures.exact);
      one_each = omega arith;
      parts = rw more (All-push (λ f. IsPart f.pressure) c.loop-program.all facts c.loop-program.invariant.parts c.in_ok-facts.ensures.part);
    }
