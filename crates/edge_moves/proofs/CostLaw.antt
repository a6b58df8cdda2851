-- The law on costs holds of the steps.
use Rattle.std.proofs.Common.{◌≡◌, ℕ, suc, ◌+◌, ◌*◌, ◌<◌, ◌≤◌, List, [], ◌∷◌, ◌++◌, length, length-append, Option, Some, None, Bool, true, false, ◌≢◌, ◌⊎◌, inl, inr, refl, sym, ap, subst, ◌∙◌, arith}
use Rattle.std.specs.Prelude.{◌==◌, ◌-◌, nat_lt, if◌then◌else◌, is_some}
use Rattle.std.proofs.lemmas.Bool.{cases_eq}
use Rattle.std.proofs.lemmas.Bool.Decides.{nat_tests}
use Rattle.micro_isa.specs.declared.image.PReg.{PReg}
use Rattle.edge_moves.specs.MoveSteps.{Pair, moving, first_free, without, steps_from, move_steps}
use Rattle.edge_moves.specs.ParallelMove.{is_target, AreDistinct, IsFree}
use Rattle.edge_moves.specs.Costs.{LeadBack, AreCycles, pairs_of, SamePairs, cycles_cost, most_steps, CostsByCycle}
use Rattle.edge_moves.specs.Tally.{outside, inside, openings, sum_of, counted}
use Rattle.edge_moves.proofs.Lists.{stay-without, few, source_to-without, distinct-without, length-moving, distinct-moving, stay-moving, some_target}
use Rattle.edge_moves.specs.Remaining.{NoneStay, Remains, IsNoTarget}
use Rattle.edge_moves.proofs.Parallel.{free_kept}
use Rattle.edge_moves.proofs.Rings.{Run, after, Rings, exchanges, ringed, length-without-one, is_source-split}
use Rattle.edge_moves.proofs.Openings.{free_steps, rings_openings, distinct-after}
use Rattle.edge_moves.proofs.Outside.{same_outside, unwinds, settles, later}

-- the cycles, each with the pair that it begins with
abbrev pub cycles_of : List Pair → List (List Pair) → List (List Pair)
cycles_of left [] = []
cycles_of [] (c ∷ cs) = []
cycles_of (p ∷ ps) (c ∷ cs) = (p ∷ c) ∷ cycles_of (after ps c) cs

run_leads : (c : List Pair) (left : List Pair) (start end : ℕ) → Run left start c end → LeadBack start c end
run_leads [] left start end r = r
run_leads (p ∷ c) left start end r = (r.0, run_leads c (without (p.1).0 left) (p.0).0 end r.2)

closed : (cs : List (List Pair)) (left : List Pair) → Rings left cs → AreCycles (cycles_of left cs)
closed [] left r = tt
closed (c ∷ cs) [] r = absurd r
closed (c ∷ cs) (p ∷ ps) r = (run_leads c ps (p.0).0 (p.1).0 r.0, closed cs (after ps c) r.1)

same_run : (c : List Pair) (left : List Pair) (start end : ℕ) (xs : List Pair) → AreDistinct left → Run left start c end → SamePairs xs (after left c) → SamePairs (c ++ xs) left
same_run [] left start end xs d r s = s
same_run (p ∷ c) left start end xs d r s =
    let later = same_run c (without (p.1).0 left) (p.0).0 end xs (distinct-without (p.1).0 left d) r.2 s in
    record {
      number = let one = length-without-one (p.1).0 left d (some_target left (p.1).0 (p.0).0 r.1) in omega (arith, one, later.number);
      to = λ q. grind (arith, nat_tests, later.to q, source_to-without (p.1).0 q left, r.1);
      sources = λ q. ap (λ b. if (p.0).0 == q then true else b) (later.sources q) ∙ sym (is_source-split left (p.1).0 (p.0).0 q d r.1);
    }

same_rings : (cs : List (List Pair)) (left : List Pair) → AreDistinct left → Rings left cs → SamePairs (pairs_of (cycles_of left cs)) left
same_rings [] [] d r = record { number = refl; to = λ q. refl; sources = λ q. refl }
same_rings [] (p ∷ ps) d r = absurd r
same_rings (c ∷ cs) [] d r = absurd r
same_rings (c ∷ cs) (p ∷ ps) d r =
    let later = same_run c ps (p.0).0 (p.1).0 (pairs_of (cycles_of (after ps c) cs)) d.2 r.0 (same_rings cs (after ps c) (distinct-after c ps d.2) r.1) in
    record {
      number = ap suc later.number;
      to = λ q. ap (λ o. if (p.1).0 == q then Some (p.0).0 else o) (later.to q);
      sources = λ q. ap (λ b. if (p.0).0 == q then true else b) (later.sources q);
    }

-- the cost of the cycles, counted in two ways
cost_bare : (cs : List (List Pair)) (left : List Pair) → Rings left cs → exchanges cs ≡ cycles_cost false (cycles_of left cs)
cost_bare [] left r = refl
cost_bare (c ∷ cs) [] r = absurd r
cost_bare (c ∷ cs) (p ∷ ps) r = let ih = cost_bare cs (after ps c) r.1 in omega (arith, ih)

cost_free : (cs : List (List Pair)) (left : List Pair) → Rings left cs → length (pairs_of (cycles_of left cs)) + length cs ≡ cycles_cost true (cycles_of left cs)
cost_free [] left r = refl
cost_free (c ∷ cs) [] r = absurd r
cost_free (c ∷ cs) (p ∷ ps) r = let ih = cost_free cs (after ps c) r.1 in omega (arith, ih, length-append c (pairs_of (cycles_of (after ps c) cs)))

exchanged : (cs : List (List Pair)) (left : List Pair) → Rings left cs → exchanges cs + 3 * length cs ≡ 3 * length (pairs_of (cycles_of left cs))
exchanged [] left r = refl
exchanged (c ∷ cs) [] r = absurd r
exchanged (c ∷ cs) (p ∷ ps) r = let ih = exchanged cs (after ps c) r.1 in omega (arith, ih, length-append c (pairs_of (cycles_of (after ps c) cs)))

-- what remains when the first cycle is opened is a list of cycles
record Split (n : ℕ) (left : List Pair) : Type 0 where
  rings : List (List Pair)
  are : Rings (inside n left) rings
  bare : length (steps_from None n left) ≡ length (outside n left) + exchanges rings
  opened : openings n left ≡ length rings
  opened_inside : openings (length (inside n left)) (inside n left) ≡ length rings
  same_inside : SamePairs (pairs_of (cycles_of (inside n left) rings)) (inside n left)
  same : SamePairs (outside n left ++ pairs_of (cycles_of (inside n left) rings)) left

split : (n : ℕ) (left : List Pair) → length left ≤ n → Remains None left → Split n left
split n left le r =
    let s = settles n left le r in
    let l = later n left le r.distinct in
    let k = ringed l.turns (inside n left) l.suffice s.remains s.stuck in
    let pairs = pairs_of (cycles_of (inside n left) k.rings) in
    let same_inside = same_rings k.rings (inside n left) s.remains.distinct k.are in
    let same = same_outside n left pairs r.distinct same_inside in
    record {
      rings = k.rings;
      are = k.are;
      bare = omega (arith, l.steps, k.cost);
      opened = l.opened ∙ rings_openings k.rings l.turns (inside n left) l.suffice s.remains.distinct s.stuck k.are;
      opened_inside = rings_openings k.rings (length (inside n left)) (inside n left) (omega arith) s.remains.distinct s.stuck k.are;
      same_inside = same_inside;
      same = same;
    }

steps_by : (n : ℕ) (left : List Pair) → length left ≤ n → Remains None left → Split n left → (has_free : Bool) (free : Option PReg) → IsNoTarget free left → is_some free ≡ has_free → length (steps_from free n left) ≡ sum_of has_free (length (outside n left)) (length (inside n left)) (openings (length (inside n left)) (inside n left))
steps_by n left le r s true None h g = absurd (cc)
steps_by n left le r s false (Some f) h g = absurd (cc)
steps_by n left le r s false None h g = omega (arith, s.bare, s.opened_inside, s.same_inside.number, exchanged s.rings (inside n left) s.are)
steps_by n left le r s true (Some f) h g =
    omega (arith, free_steps f n left h r.distinct le, s.opened, s.opened_inside, s.same.number, s.same_inside.number, length-append (outside n left) (pairs_of (cycles_of (inside n left) s.rings)))

sum_by : (n : ℕ) (left : List Pair) → (s : Split n left) → (has_free : Bool) → sum_of has_free (length (outside n left)) (length (inside n left)) (openings (length (inside n left)) (inside n left)) ≡ length (outside n left) + cycles_cost has_free (cycles_of (inside n left) s.rings)
sum_by n left s true = omega (arith, s.opened_inside, s.same_inside.number, cost_free s.rings (inside n left) s.are)
sum_by n left s false = omega (arith, s.opened_inside, s.same_inside.number, cost_bare s.rings (inside n left) s.are, exchanged s.rings (inside n left) s.are)

remains : (pairs : List Pair) → AreDistinct pairs → Remains None (moving pairs)
remains pairs d = record { distinct = distinct-moving pairs d; stay = stay-moving pairs; kept = tt }

pub cost_is : (pairs : List Pair) (has_free : Bool) → AreDistinct pairs → (free : Option PReg) → IsFree pairs free → is_some free ≡ has_free → counted has_free pairs ≡ length (move_steps pairs free)
cost_is pairs has_free d free h g =
    let r = remains pairs d in
    sym (steps_by (length pairs) (moving pairs) (length-moving pairs) r (split (length pairs) (moving pairs) (length-moving pairs) r) has_free free (free_kept free pairs h) g)

pub cost_law : (pairs : List Pair) (has_free : Bool) → AreDistinct pairs → CostsByCycle pairs has_free (counted has_free pairs)
cost_law pairs has_free d =
    let n = length pairs in
    let left = moving pairs in
    let s = split n left (length-moving pairs) (remains pairs d) in
    record {
      outside = outside n left;
      cycles = cycles_of (inside n left) s.rings;
      same = s.same;
      unwinds = unwinds n left (pairs_of (cycles_of (inside n left) s.rings)) (distinct-moving pairs d) s.same_inside;
      closed = closed s.rings (inside n left) s.are;
      sum = sum_by n left s has_free;
    }

-- the pairs that move something are those outside cycles and those on cycles
pub parts : (pairs : List Pair) → AreDistinct pairs → length (outside (length pairs) (moving pairs)) + length (inside (length pairs) (moving pairs)) ≡ length (moving pairs)
parts pairs d =
    let n = length pairs in
    let left = moving pairs in
    let s = split n left (length-moving pairs) (remains pairs d) in
    omega (arith, s.same.number, s.same_inside.number, length-append (outside n left) (pairs_of (cycles_of (inside n left) s.rings)))

pub all_on_cycles : (pairs : List Pair) → AreDistinct pairs → first_free (inside (length pairs) (moving pairs)) (inside (length pairs) (moving pairs)) ≡ None
all_on_cycles pairs d = (settles (length pairs) (moving pairs) (length-moving pairs) (remains pairs d)).stuck

-- the registers are below 256, so there are at most as many pairs
pub few_pairs : (pairs : List Pair) → AreDistinct pairs → ((q : ℕ) → is_target pairs q ≡ true → q < 256) → length (outside (length pairs) (moving pairs)) + length (inside (length pairs) (moving pairs)) ≤ 256
few_pairs pairs d below =
    let n = length pairs in
    let left = moving pairs in
    let s = split n left (length-moving pairs) (remains pairs d) in
    omega (arith, few pairs 256 d below, length-moving pairs, s.same.number, s.same_inside.number, length-append (outside n left) (pairs_of (cycles_of (inside n left) s.rings)))

pub few_cycles : (pairs : List Pair) → AreDistinct pairs → let rings : List Pair = inside (length pairs) (moving pairs) in openings (length rings) rings ≤ length rings
few_cycles pairs d =
    let n = length pairs in
    let left = moving pairs in
    let s = split n left (length-moving pairs) (remains pairs d) in
    omega (arith, s.opened_inside, s.same_inside.number, exchanged s.rings (inside n left) s.are)

-- a cycle has at least two pairs
stay-after : (c left : List Pair) → NoneStay left → NoneStay (after left c)
stay-after [] left stay = stay
stay-after (p ∷ c) left stay = stay-after c (without (p.1).0 left) (stay-without (p.1).0 left stay)

two_each : (cs : List (List Pair)) (left : List Pair) → Rings left cs → NoneStay left → 2 * length cs ≤ length (pairs_of (cycles_of left cs))
two_each [] left r stay = omega arith
two_each (c ∷ cs) [] r stay = absurd r
two_each ([] ∷ cs) (p ∷ ps) r stay = absurd (stay.0 r.0)
two_each ((q ∷ c) ∷ cs) (p ∷ ps) r stay =
    let ih = two_each cs (after ps (q ∷ c)) r.1 (stay-after (q ∷ c) ps stay.1) in
    omega (arith, ih, length-append (q ∷ c) (pairs_of (cycles_of (after ps (q ∷ c)) cs)))

no_cycles : (cs : List (List Pair)) (left : List Pair) → Rings left cs → length cs ≡ 0 → length (pairs_of (cycles_of left cs)) ≡ 0
no_cycles [] left r e = refl
no_cycles (c ∷ cs) left r e = absurd (omega arith)

most_by : (has_free : Bool) (n outside inside cycles : ℕ) → outside + inside ≤ n → 2 * cycles ≤ inside → (cycles ≡ 0 → inside ≡ 0)
    → sum_of has_free outside inside cycles ≤ most_steps n
most_by has_free n outside inside cycles le two none = by has_free (cases_eq cycles 0) (nat_lt n 2) refl
  where
    by : (f : Bool) → (cycles ≡ 0) ⊎ (cycles ≢ 0) → (b : Bool) → nat_lt n 2 ≡ b → sum_of f outside inside cycles ≤ (if b then n else 3 * (n - 1))
    by true (inl zero_cycles) true is = let i = none zero_cycles in omega arith
    by true (inl zero_cycles) false is = let i = none zero_cycles in let more : 2 ≤ n = grind (arith, nat_tests) in omega arith
    by true (inr some) true is = let less : n < 2 = grind (arith, nat_tests) in absurd (omega arith)
    by true (inr some) false is = let more : 2 ≤ n = grind (arith, nat_tests) in omega arith
    by false (inl zero_cycles) true is = let i = none zero_cycles in omega arith
    by false (inl zero_cycles) false is = let i = none zero_cycles in let more : 2 ≤ n = grind (arith, nat_tests) in omega arith
    by false (inr some) true is = let less : n < 2 = grind (arith, nat_tests) in absurd (omega arith)
    by false (inr some) false is = let more : 2 ≤ n = grind (arith, nat_tests) in omega arith

-- there are few steps
pub cost_few : (pairs : List Pair) (has_free : Bool) → AreDistinct pairs → counted has_free pairs ≤ most_steps (length pairs)
cost_few pairs has_free d =
    let n = length pairs in
    let left = moving pairs in
    let s = split n left (length-moving pairs) (remains pairs d) in
    let settled = settles n left (length-moving pairs) (remains pairs d) in
    let number = s.same_inside.number in
    let opened = s.opened_inside in
    let two = two_each s.rings (inside n left) s.are settled.remains.stay in
    let both = length-append (outside n left) (pairs_of (cycles_of (inside n left) s.rings)) in
    let all = s.same.number in
    let short = length-moving pairs in
    most_by has_free n (length (outside n left)) (length (inside n left)) (openings (length (inside n left)) (inside n left)) (omega arith) (omega arith)
    (λ e. let none = no_cycles s.rings (inside n left) s.are (sym opened ∙ e) in sym number ∙ none)

pub steps_few : (pairs : List Pair) (free : Option PReg) → AreDistinct pairs → IsFree pairs free → length (move_steps pairs free) ≤ most_steps (length pairs)
steps_few pairs free d h = subst (λ m. m ≤ most_steps (length pairs)) (cost_is pairs (is_some free) d free h refl) (cost_few pairs (is_some free) d)
