use Rattle.run_journal.proofs.Going.{advanced, fits_advanced}
use Rattle.run_journal.proofs.parts.advance.Goals as goal

pub returns-clause-fits : goal.returns-clause-fits
returns-clause-fits g c =
    let r = c.run_on-segment in
    let e = c.args.engine.now in
    let es = c.args.entries.now.items in
    fits_advanced e c.deliver.new.engine es c.deliver.new.entries.items c.args.slots.now c.deliver.new.slots c.args.context _ c.requires.known
    (advanced e r.new.engine c.deliver.new.engine es r.new.entries.items c.deliver.new.entries.items c.args.slots.now c.deliver.new.slots c.args.context r.result c.requires.legal r.ensures.fire r.ensures.went c.deliver.ensures.did)
    c.requires.fits
