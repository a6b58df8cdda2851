-- Where no target is free the remaining pairs are cycles; exchanges do them one after the other.
use Rattle.std.proofs.Common.{◌≡◌, ℕ, zero, suc, ◌+◌, ◌*◌, ◌≤◌, List, [], ◌∷◌, ◌++◌, length, length-append, Option, Some, None, Bool, true, false, refl, sym, ap, ◌∙◌, subst, arith}
use Rattle.std.specs.Prelude.{◌==◌, if◌then◌else◌}
use Rattle.std.proofs.lemmas.Bool.{eqb-true}
use Rattle.std.proofs.lemmas.Bool.Decides.{nat_tests}
use Rattle.micro_isa.specs.declared.image.PReg.{PReg}
use Rattle.edge_moves.specs.declared.step.Step.{Step}
use Rattle.edge_moves.specs.declared.step.Step.TheVariants.{Xor}
use Rattle.edge_moves.specs.MoveSteps.{Pair, is_source, first_free, without, target_of, joined, Turn, turn_at, steps_from}
use Rattle.edge_moves.specs.ParallelMove.{source_to, is_target, AreDistinct}
use Rattle.edge_moves.proofs.Lists.{none_free, source_to-without, some_target, is_source_found, source_of_target}
use Rattle.edge_moves.specs.Remaining.{Remains}
use Rattle.edge_moves.proofs.Parallel.{remains-joined, length-joined}
use Rattle.edge_moves.proofs.Cycles.{stuck_by}

pub is_target-dropped : (t q : ℕ) (ps : List Pair) → is_target (without t ps) q ≡ (if q == t then false else is_target ps q)
is_target-dropped t q [] = grind (arith, nat_tests)
is_target-dropped t q (p ∷ ps) = grind (arith, nat_tests, is_target-dropped t q ps)

pub without_none : (t : ℕ) (ps : List Pair) → is_target ps t ≡ false → without t ps ≡ ps
without_none t [] h = refl
without_none t (p ∷ ps) h = grind (arith, nat_tests, without_none t ps)

pub length-without-one : (t : ℕ) (ps : List Pair) → AreDistinct ps → is_target ps t ≡ true → suc (length (without t ps)) ≡ length ps
length-without-one t [] d h = absurd (cc)
length-without-one t (p ∷ ps) d h = grind (arith, nat_tests, length-without-one t ps d.2, without_none t ps, d.1)

pub without-without : (a b : ℕ) (ps : List Pair) → without a (without b ps) ≡ without b (without a ps)
without-without a b [] = refl
without-without a b (p ∷ ps) = grind (arith, nat_tests, without-without a b ps)

-- the sources are that of one pair and those of the others
pub is_source-split : (ps : List Pair) (t s q : ℕ) → AreDistinct ps → source_to ps t ≡ Some s → is_source ps q ≡ (if s == q then true else is_source (without t ps) q)
is_source-split [] t s q d h = absurd (cc)
is_source-split (p ∷ ps) t s q d h = grind (arith, nat_tests, is_source-split ps t s q d.2, without_none t ps, d.1)

-- walked back from a register, each pair is the one that remains with that target
abbrev pub Run : List Pair → ℕ → List Pair → ℕ → Type 0
Run left start [] end = start ≡ end
Run left start (p ∷ c) end = ((p.1).0 ≡ start) × (source_to left (p.1).0 ≡ Some (p.0).0) × Run (without (p.1).0 left) (p.0).0 c end

abbrev pub after : List Pair → List Pair → List Pair
after left [] = left
after left (p ∷ c) = after (without (p.1).0 left) c

-- the remaining pairs are cycles: each begins with the first pair that remains, and goes on with those that are listed
abbrev pub Rings : List Pair → List (List Pair) → Type 0
Rings [] [] = Unit {0}
Rings (p ∷ ps) [] = ⊥
Rings [] (c ∷ cs) = ⊥
Rings (p ∷ ps) (c ∷ cs) = Run ps (p.0).0 c (p.1).0 × Rings (after ps c) cs

run_longer : (ps : List Pair) (c : List Pair) (start : ℕ) (x : Pair) → source_to ps (x.1).0 ≡ Some (x.0).0 → Run (without (x.1).0 ps) start c (x.1).0 → Run ps start (c ++ x ∷ []) (x.0).0
run_longer ps [] start x s r = (sym r, s, refl)
run_longer ps (p ∷ c) start x s r =
    let kept : source_to (without (p.1).0 ps) (x.1).0 ≡ Some (x.0).0 = grind (arith, nat_tests, source_to-without (p.1).0 (x.1).0 ps, source_to-without (x.1).0 (p.1).0 ps, r.1, s) in
    let here : source_to ps (p.1).0 ≡ Some (p.0).0 = grind (arith, nat_tests, source_to-without (x.1).0 (p.1).0 ps, r.1) in
    (r.0, here, run_longer (without (p.1).0 ps) c (p.0).0 x kept (subst (λ k. Run k (p.0).0 c (x.1).0) (without-without (p.1).0 (x.1).0 ps) r.2))

after-longer : (ps : List Pair) (c : List Pair) (x : Pair) → after ps (c ++ x ∷ []) ≡ after (without (x.1).0 ps) c
after-longer ps [] x = refl
after-longer ps (p ∷ c) x = after-longer (without (p.1).0 ps) c x ∙ ap (λ k. after k c) (without-without (x.1).0 (p.1).0 ps)

-- after an exchange there is still no target that is no source
stuck_joined : (p : Pair) (ps : List Pair) (u : PReg) → AreDistinct (p ∷ ps) → first_free (p ∷ ps) (p ∷ ps) ≡ None → target_of ps (p.1).0 ≡ Some u → (b : Bool) → (u.0 == (p.0).0) ≡ b → let left : List Pair = if b then without u.0 ps else (p.0, u) ∷ without u.0 ps in first_free left left ≡ None
stuck_joined p ps u d stuck to b is = by b is
  where
    from_t : source_to ps u.0 ≡ Some (p.1).0
    from_t = source_of_target ps (p.1).0 u d.2 to

    met : (q : ℕ) → is_target ps q ≡ true → is_source (p ∷ ps) q ≡ true
    met q h = none_free (p ∷ ps) (p ∷ ps) stuck q (grind (arith, nat_tests))

    by : (b : Bool) → (u.0 == (p.0).0) ≡ b → let left : List Pair = if b then without u.0 ps else (p.0, u) ∷ without u.0 ps in first_free left left ≡ None
    by true is = stuck_by (without u.0 ps) (without u.0 ps) (λ q h. grind (arith, nat_tests, is_target-dropped u.0 q ps, met q, is_source-split ps u.0 (p.1).0 q d.2 from_t, d.1))
    by false is = stuck_by ((p.0, u) ∷ without u.0 ps) ((p.0, u) ∷ without u.0 ps) (λ q h. grind (arith, nat_tests, is_target-dropped u.0 q ps, some_target ps u.0 (p.1).0 from_t, met q, is_source-split ps u.0 (p.1).0 q d.2 from_t, d.1))

-- three steps for each pair of a cycle but the first
abbrev pub exchanges : List (List Pair) → ℕ
exchanges [] = 0
exchanges (c ∷ cs) = 3 * length c + exchanges cs

pub record Ringed (left : List Pair) (ss : List Step) : Type 0 where
  pub rings : List (List Pair)
  pub are : Rings left rings
  pub cost : length ss ≡ exchanges rings

abbrev From : ℕ → Type 0
From n = (left : List Pair) → length left ≤ n → Remains None left → first_free left left ≡ None → Ringed left (steps_from None n left)

by_target : (p : Pair) (ps : List Pair) (u : PReg) (ss : List Step) → source_to ps u.0 ≡ Some (p.1).0 → (b : Bool) → (u.0 == (p.0).0) ≡ b → Ringed (if b then without u.0 ps else (p.0, u) ∷ without u.0 ps) ss → Ringed (p ∷ ps) (Xor p.0 p.1 ∷ Xor p.1 p.0 ∷ Xor p.0 p.1 ∷ ss)
by_target p ps u ss from_t true is r = record {
  rings = ((p.1, u) ∷ []) ∷ r.rings;
  are = ((eqb-true u.0 (p.0).0 is, from_t, refl), r.are);
  cost = omega (arith, r.cost);
}
by_target p ps u ss from_t false is r = go r.rings r.are r.cost
  where
    go : (rings : List (List Pair)) → Rings ((p.0, u) ∷ without u.0 ps) rings → length ss ≡ exchanges rings → Ringed (p ∷ ps) (Xor p.0 p.1 ∷ Xor p.1 p.0 ∷ Xor p.0 p.1 ∷ ss)
    go [] are cost = absurd are
    go (c ∷ cs) are cost = record {
      rings = (c ++ (p.1, u) ∷ []) ∷ cs;
      are = (run_longer ps c (p.0).0 (p.1, u) from_t are.0, subst (λ k. Rings k cs) (sym (after-longer ps c (p.1, u))) are.1);
      cost = omega (arith, cost, length-append c ((p.1, u) ∷ []));
    }

by_exchange : (n : ℕ) → From n → (p : Pair) (ps : List Pair) → length ps ≤ n → Remains None (p ∷ ps) → first_free (p ∷ ps) (p ∷ ps) ≡ None → (o : Option PReg) → target_of ps (p.1).0 ≡ o → Ringed (p ∷ ps) (Xor p.0 p.1 ∷ Xor p.1 p.0 ∷ Xor p.0 p.1 ∷ steps_from None n (joined p.0 ps o))
by_exchange n rest p ps le r stuck None to =
    let no = is_source_found ps (p.1).0 to in
    let yes : is_source (p ∷ ps) (p.1).0 ≡ true = none_free (p ∷ ps) (p ∷ ps) stuck (p.1).0 (grind (arith, nat_tests)) in
    absurd (grind (arith, nat_tests, r.stay.0))
by_exchange n rest p ps le r stuck (Some u) to =
    let b = u.0 == (p.0).0 in
    let from_t = source_of_target ps (p.1).0 u r.distinct.2 to in
    let l : length (joined p.0 ps (Some u)) ≤ n = omega (arith, length-joined p ps u (some_target ps u.0 (p.1).0 from_t) b) in
    by_target p ps u (steps_from None n (joined p.0 ps (Some u))) from_t b refl (rest (joined p.0 ps (Some u)) l (remains-joined p ps r.distinct r.stay u to b refl) (stuck_joined p ps u r.distinct stuck to b refl))

abbrev after_turn : ℕ → Turn → List Step
after_turn n t = t.steps ++ steps_from None n t.left

pub ringed : (n : ℕ) → From n
ringed zero [] le r stuck = record { rings = []; are = tt; cost = refl }
ringed zero (p ∷ ps) le r stuck = absurd (omega arith)
ringed (suc n) [] le r stuck = ringed n [] (omega arith) r stuck
ringed (suc n) (p ∷ ps) le r stuck = subst (λ o. Ringed (p ∷ ps) (after_turn n (turn_at None (p ∷ ps) o))) (sym stuck) (by_exchange n (ringed n) p ps (omega arith) r stuck (target_of ps (p.1).0) refl)
