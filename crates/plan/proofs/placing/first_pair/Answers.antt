use Rattle.std.proofs.Common.{◌≡◌, arith, refl, drop, length, subst, None}
use Rattle.std.proofs.lemmas.List.{drop_all, get_or-replicate}
use Rattle.micro_isa.specs.declared.limits.TheConstants.{MOST_FILE}
use Rattle.plan.specs.Finding.{pair_of}
use Rattle.plan.proofs.Entries.{pair_first}
use Rattle.plan.proofs.placing.first_pair.Goals as goal

pub entries-init : goal.entries-init
entries-init c =
    let none = drop_all (length c.args.places.now) c.args.places.now (omega arith) in record {
      inside = omega arith;
      size = refl;
      pair = rw none refl;
      holders = λ x less. rw none (get_or-replicate MOST_FILE x None None less);
    }

pub returns : goal.returns
returns c =
    let none : c.entries.at ≡ 0 = omega arith in
    let first = pair_first c.args.places.now c.requires.rises in
    let pair : c.entries.pair ≡ pair_of c.args.places.now = subst (λ n. c.entries.pair ≡ pair_of (drop n c.args.places.now)) none c.entries.invariant.pair in
    rw pair first
