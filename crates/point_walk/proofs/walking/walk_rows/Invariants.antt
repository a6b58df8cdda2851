use Rattle.std.proofs.Common.{◌≡◌, ◌≤◌, ℕ, true}
use Rattle.point_walk.specs.Walks.{Walked}
use Rattle.point_walk.specs.Tables.{IsTable}
use Rattle.point_walk.specs.Keeping.{AreSeats, HasWishes}
use Rattle.point_walk.specs.Settling.{FallsStill}
use Rattle.point_walk.proofs.walking.walk_rows.Given as goal

abbrev pub invariant-rows : goal.invariant-rows
invariant-rows l = record {
  table : IsTable l.wishes;
  seats : AreSeats l.wishes l.seats;
  apart : HasWishes l.code l.p l.i l.wishes;
  private : l.plan.p ≡ l.p;
  all : l.plan.r ≡ l.r;
  walked : Walked l.code l.p l.i l.plan.rows l.wishes;
  lasting : l.lasting ≡ true → (q : ℕ) → l.p ≤ q → Walked l.code q l.i l.plan.rows l.wishes;
  settled : l.settled ≡ true → FallsStill l.code l.plan;
}
