use Rattle.std.proofs.Common.{length, refl, ap, ◌∙◌, arith}
use Rattle.std.proofs.lemmas.Slice.Zip.{AllZip-long}
use Rattle.pressure.specs.Pressures.{IsPressureOf, need_of}
use Rattle.allocate.proofs.Once.{is_need}
use Rattle.allocate.proofs.fit.fit.Goals as goal

pub need-need-requires-clause-some : goal.need-need-requires-clause-some
need-need-requires-clause-some c =
    let n = ap (λ l. length l) c.as_slice.ensures ∙ AllZip-long (λ p part. IsPressureOf p.code part) c.args.bundle.now.programs c.args.analysis.parts c.requires.pressures in
    let some = c.requires.formed.some in
    omega arith

pub need-need-requires-clause-few : goal.need-need-requires-clause-few
need-need-requires-clause-few c =
    let n = ap (λ l. length l) c.as_slice.ensures ∙ AllZip-long (λ p part. IsPressureOf p.code part) c.args.bundle.now.programs c.args.analysis.parts c.requires.pressures in
    let few = c.requires.formed.few in
    omega arith

pub returns-else-need-bundle-clause-fault : goal.returns-else-need-bundle-clause-fault
returns-else-need-bundle-clause-fault c = (
  is_need c.args.bundle.now c.args.analysis.parts c.need-need.result c.requires.pressures (c.need-need.ensures ∙ ap need_of c.as_slice.ensures),
  refl,
  c.if-need-bundle.false,
)
