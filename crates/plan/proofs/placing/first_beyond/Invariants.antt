use Rattle.std.proofs.Common.{◌≡◌, drop}
use Rattle.std.specs.List.{find}
use Rattle.plan.specs.Finding.{is_beyond}
use Rattle.plan.proofs.placing.first_beyond.Given as goal

abbrev pub invariant-entries : goal.invariant-entries
invariant-entries l = find (is_beyond l.set l.bound) (drop l.entry-index l.places) ≡ find (is_beyond l.set l.bound) l.places
