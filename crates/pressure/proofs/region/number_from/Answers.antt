use Rattle.std.proofs.Common.{◌<◌, length, arith}
use Rattle.pressure.proofs.Numbering.{low_links, one_more, numbered_already, unnumbered}
use Rattle.pressure.proofs.region.number_from.Goals as goal

pub returns-then-is_some-clause-numbered : goal.returns-then-is_some-clause-numbered
returns-then-is_some-clause-numbered c = numbered_already _ _ _ _ _ _ c.requires.here c.is_some.ensures c.if-is_some.true c.requires.numbered

pub flood-requires-clause-low : goal.flood-requires-clause-low
flood-requires-clause-low c = low_links _ _ _ _ c.requires.rings c.requires.numbered.one_each

pub returns-clause-numbered : goal.returns-clause-numbered
returns-clause-numbered c =
    let inside : c.args.i < length c.args.numbers.now = let one = c.requires.numbered.one_each in let here = c.requires.here in omega arith in
    let none = unnumbered _ _ _ _ inside c.is_some.ensures c.if-is_some.false in
    one_more _ _ _ c.requires.rings _ _ _ _ c.requires.here none c.requires.numbered c.in_ok-flood.ensures
