-- The best mark gives the preferred budget.
use Rattle.std.proofs.Common.{◌≡◌, ℕ, ◌+◌, ◌-◌, ◌<◌, ◌≤◌, ◌↔◌, List, length, sum, refl, sym, ap, subst, inl, inr, ◌∙◌, arith}
use Rattle.std.specs.List.{All}
use Rattle.std.proofs.lemmas.Bool.{cases_eq, cases_lt}
use Rattle.budget.specs.declared.Budget.{Budget}
use Rattle.budget.specs.declared.CostTable.{CostTable}
use Rattle.budget.specs.declared.choice.Entry.{Entry}
use Rattle.budget.specs.declared.sharing.Mark.{Mark}
use Rattle.budget.specs.declared.TheConstants.{SIZES}
use Rattle.budget.specs.Orders.{ByKey, IsNoGreater}
use Rattle.budget.specs.Fitting.{SizesFit, greatest_gap, need_of}
use Rattle.budget.specs.Costs.{IsCostTable, cost_of, demands_of}
use Rattle.budget.specs.Best.{CanFit, IsBest, IsNoLater, total_of}
use Rattle.budget.specs.Choices.{IsBestBelow, IsOpen, entry_of, least_sum, mark_of, sizes_of, spare_of}
use Rattle.budget.proofs.Keys.{by_key_trans, by_key_weaker, by_key_moved, by_key_le, by_key_antisym, no_greater_antisym}
use Rattle.budget.proofs.Choosing.{entry_small, sizes_follow}
use Rattle.budget.proofs.Beating.{beats, least_below}
use Rattle.budget.proofs.Needs.{own_long, fits_least, gap_serves, gap_costs, need_least, need_fits}

-- the budget of a mark
abbrev pub budget_of : List CostTable → ℕ → Mark → Budget
budget_of tables file mark = record { private = sizes_of tables mark.shared (spare_of tables file mark.shared); shared = mark.shared; cost = mark.cost }

abbrev pub priced : List CostTable → List ℕ → ℕ → Budget
priced tables private shared = record { private = private; shared = shared; cost = cost_of tables private shared }

module _ (tables : List CostTable) (file gap : ℕ) (all : All IsCostTable tables) (is_gap : gap ≡ greatest_gap (demands_of tables)) (mark : Mark)
    (best : IsBestBelow tables file (gap + SIZES) mark) where
  abbrev pub budget : Budget
  budget = budget_of tables file mark

  entry : Entry
  entry = entry_of tables mark.shared (spare_of tables file mark.shared)

  total_is : total_of budget ≡ mark.total
  unfolding entry
  total_is =
      let follow = sizes_follow tables mark.shared (spare_of tables file mark.shared) in
      let t = follow.total in
      let m = ap (λ (m : Mark). m.total) best.is in
      omega arith

  lists : (private : List ℕ) (shared : ℕ) → shared ≤ mark.shared → IsNoGreater (sizes_of tables shared (spare_of tables file shared)) private
      → ByKey shared mark.shared (IsNoGreater budget.private private)
  lists private shared le on = elim (cases_eq shared mark.shared) [
    | inl same ↦ inr (same, subst (λ s. IsNoGreater (sizes_of tables s (spare_of tables file s)) private) same on)
    | inr less ↦ inl (omega arith)
  ]

  near : (private : List ℕ) (shared : ℕ) → shared < gap + SIZES → SizesFit (demands_of tables) file private shared → IsNoLater budget (priced tables private shared)
  near private shared less fits =
      let least = fits_least tables shared private fits.own fits.whole in
      let low = least_below tables shared private least in
      let room = fits.room in
      let opens : IsOpen tables file shared = omega arith in
      let extra = sum private - least_sum tables shared in
      let on_list = beats tables shared (spare_of tables file shared) private extra least (omega arith) (omega arith) in
      by_key_trans _ _ _ _ _ _
      (λ on_mark rest. by_key_trans _ _ _ _ _ _ (lists private shared) (rw total_is on_mark)
      (by_key_moved _ _ (mark_of tables file shared).total (sum private + shared) (least_sum tables shared + shared) _ refl (omega arith) rest))
      (best.first shared less opens) on_list

  far : (private : List ℕ) (shared : ℕ) → gap + SIZES ≤ shared → SizesFit (demands_of tables) file private shared → IsNoLater budget (priced tables private shared)
  far private shared more fits =
      let room = fits.room in
      let nearer = near private (gap + 7) (omega arith) (record { own = fits.own; whole = gap_serves tables gap private (omega arith) fits.own; room = omega arith }) in
      let cost = gap_costs tables gap shared private (omega arith) (omega arith) fits.own in
      rw cost (by_key_weaker _ _ _ _ (λ on. let le = by_key_le _ _ _ on in inl (omega arith)) nearer)

  pub is_best : IsBest tables file budget
  is_best =
      let follow = sizes_follow tables mark.shared (spare_of tables file mark.shared) in
      let small = entry_small tables mark.shared (spare_of tables file mark.shared) all in
      record {
        fits = record {
          own = follow.own;
          whole = follow.whole;
          room = let t = follow.total in let x = small.extra in let o = best.open_to in omega arith;
        };
        cost = ap (λ (m : Mark). m.cost) best.is ∙ follow.cost;
        first = λ private shared fits. elim (cases_lt shared (gap + SIZES)) [
          | inl less ↦ near private shared less fits
          | inr more ↦ far private shared (omega arith) fits
        ];
      }

same_budget : (x y : Budget) → x.private ≡ y.private → x.shared ≡ y.shared → x.cost ≡ y.cost → x ≡ y
same_budget x y private shared cost =
    let by_private : List ℕ → Budget = λ n. record { private = n; shared = x.shared; cost = x.cost } in
    let by_shared : ℕ → Budget = λ n. record { private = y.private; shared = n; cost = x.cost } in
    let by_cost : ℕ → Budget = λ n. record { private = y.private; shared = y.shared; cost = n } in
    ap by_private private ∙ ap by_shared shared ∙ ap by_cost cost

no_later_antisym : (x y : Budget) → length x.private ≡ length y.private → IsNoLater x y → IsNoLater y x → x ≡ y
no_later_antisym x y long ahead behind =
    let costs = by_key_antisym _ _ _ _ ahead behind in
    let totals = by_key_antisym _ _ _ _ costs.1.0 costs.1.1 in
    let shared = by_key_antisym _ _ _ _ totals.1.0 totals.1.1 in
    same_budget x y (no_greater_antisym x.private y.private long shared.1.0 shared.1.1) (sym shared.0) costs.0

priced_is : (tables : List CostTable) (file : ℕ) (x : Budget) → IsBest tables file x → priced tables x.private x.shared ≡ x
priced_is tables file x best = same_budget (priced tables x.private x.shared) x refl refl (sym best.cost)

-- there is one best budget
pub best_once : (tables : List CostTable) (file : ℕ) (x y : Budget) → IsBest tables file x → IsBest tables file y → x ≡ y
best_once tables file x y first second =
    no_later_antisym x y (omega (arith, own_long tables x.private first.fits.own, own_long tables y.private second.fits.own))
    (subst (IsNoLater x) (priced_is tables file y second) (first.first y.private y.shared second.fits))
    (subst (IsNoLater y) (priced_is tables file x first) (second.first x.private x.shared first.fits))

-- sizes fit exactly where the need is not above the file
pub can_fit : (tables : List CostTable) (file : ℕ) → CanFit tables file ↔ (need_of (demands_of tables) ≤ file)
can_fit tables file = (
  λ some. let le = need_least tables some.1 some.0 some.2.own some.2.whole in let room = some.2.room in omega arith,
  λ le. (_, _, need_fits tables file le),
)
