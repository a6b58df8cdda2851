use Rattle.std.proofs.Common.{ℕ, ◌≡◌, ◌≤◌, ◌<◌, drop, length, get_or, None}
use Rattle.micro_isa.specs.declared.limits.TheConstants.{MOST_FILE}
use Rattle.plan.specs.Finding.{holder_of, pair_of}
use Rattle.plan.proofs.placing.first_pair.Given as goal

abbrev pub invariant-entries : goal.invariant-entries
invariant-entries l = record {
  inside : l.at ≤ length l.places;
  size : length l.holders ≡ MOST_FILE;
  pair : l.pair ≡ pair_of (drop l.at l.places);
  holders : (x : ℕ) → x < MOST_FILE → get_or l.holders x None ≡ holder_of (drop l.at l.places) x;
}

abbrev pub decreases-entries : goal.decreases-entries
decreases-entries l = l.at
