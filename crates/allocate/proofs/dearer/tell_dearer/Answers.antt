use Rattle.std.proofs.Common.{List, length, sym, subst}
use Rattle.micro_isa.specs.declared.program.Line.{Line}
use Rattle.range_colour.specs.declared.fit.Fit.{Fit}
use Rattle.range_colour.specs.Regional.{AreFirstFits}
use Rattle.allocate.specs.Fits.{AreDearer}
use Rattle.allocate.proofs.dearer.tell_dearer.Goals as goal

pub moves_more-requires-clause-fits : goal.moves_more-requires-clause-fits
moves_more-requires-clause-fits c =
    subst (λ (fs : List Fit). AreFirstFits c.as_slice-code.result.now c.args.fits.now.division (length fs) fs) (sym c.as_slice-regions.ensures)
    (subst (λ (code : List Line). AreFirstFits code c.args.fits.now.division (length c.args.fits.now.regions) c.args.fits.now.regions) (sym c.as_slice-code.ensures) c.requires.fits.parts)

pub returns : goal.returns
returns c = λ more. subst (λ (code : List Line). AreDearer code c.args.words) c.as_slice-code.ensures (c.moves_more.ensures more)
