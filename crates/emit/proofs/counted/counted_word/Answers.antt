use Rattle.std.proofs.Common.{◌<◌, sym, subst}
use Rattle.micro_isa.specs.declared.limits.TheConstants.{MOST_FILE}
use Rattle.plan.specs.ValidPlans.{place_in}
use Rattle.emit.proofs.Laying.{places_small, write_small}
use Rattle.emit.proofs.counted.counted_word.Goals as goal

pub word_of-requires-clause-places : goal.word_of-requires-clause-places
word_of-requires-clause-places c = λ k.
    subst (λ qs. place_in qs k < MOST_FILE) (sym c.places_at.ensures) (places_small c.args.code.now c.args.plan.now c.args.i c.requires.valid c.requires.within k)

pub word_of-requires-clause-write : goal.word_of-requires-clause-write
word_of-requires-clause-write c =
    subst (λ n. n < MOST_FILE) (sym c.write_at.ensures) (write_small c.args.code.now c.args.plan.now c.args.i c.requires.valid c.requires.within)
