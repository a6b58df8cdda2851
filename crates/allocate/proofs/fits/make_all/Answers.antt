use Rattle.std.proofs.Common.{List, refl, subst}
use Rattle.micro_isa.specs.declared.program.Line.{Line}
use Rattle.range_colour.specs.Regional.{AreFits}
use Rattle.allocate.proofs.fits.make_all.Goals as goal

pub returns-clause-fits : goal.returns-clause-fits
returns-clause-fits c =
    let made = subst (λ (code : List Line). AreFits code c.args.fits.now.division c.in_ok-regions.regions) c.as_slice.ensures c.in_ok-regions.ensures in record {
      fit = c.requires.fits.fit;
      division = c.requires.fits.division;
      parts = record { one_each = refl; each = made.each };
      whole = c.requires.fits.whole;
    }

pub returns-clause-whole : goal.returns-clause-whole
returns-clause-whole c = c.in_ok-regions.ensures.one_each
