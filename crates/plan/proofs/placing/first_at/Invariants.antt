use Rattle.std.proofs.Common.{◌≡◌, drop}
use Rattle.std.specs.List.{find}
use Rattle.plan.specs.Finding.{is_at}
use Rattle.plan.proofs.placing.first_at.Given as goal

abbrev pub invariant-entries : goal.invariant-entries
invariant-entries l = find (is_at l.set l.place) (drop l.entry-index l.places) ≡ find (is_at l.set l.place) l.places
