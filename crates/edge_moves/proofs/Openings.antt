-- With a free register each pair takes one step, and each opening of a cycle one more.
use Rattle.std.proofs.Common.{◌≡◌, ℕ, zero, suc, ◌+◌, ◌≤◌, List, [], ◌∷◌, ◌++◌, length, Option, Some, None, Bool, true, false, refl, sym, ap, ◌∙◌, subst, arith}
use Rattle.std.specs.Prelude.{not, ◌-◌, ◌==◌, if◌then◌else◌}
use Rattle.std.proofs.lemmas.Bool.Decides.{nat_tests}
use Rattle.micro_isa.specs.declared.image.PReg.{PReg}
use Rattle.edge_moves.specs.declared.step.Step.{Step}
use Rattle.edge_moves.specs.MoveSteps.{Pair, is_source, first_free, without, renamed, Turn, turn_at, steps_from}
use Rattle.edge_moves.specs.ParallelMove.{is_target, AreDistinct}
use Rattle.edge_moves.specs.Tally.{left_at, opens_at, openings}
use Rattle.edge_moves.proofs.Lists.{found, none_free, distinct-without, some_target}
use Rattle.edge_moves.proofs.Cycles.{Hole, into_by, next_hole, done}
use Rattle.edge_moves.proofs.Rings.{is_target-dropped, length-without-one, Run, after, Rings}

pub openings-none : (n : ℕ) → openings n [] ≡ 0
openings-none zero = refl
openings-none (suc n) = omega (arith, openings-none n)

-- the free register is no register of the cycle, so what remains may as well keep its names
abbrev pub Alike : (ℕ → Bool) → List Pair → List Pair → Type 0
Alike live [] [] = Unit {0}
Alike live [] (q ∷ qs) = ⊥
Alike live (p ∷ ps) [] = ⊥
Alike live (p ∷ ps) (q ∷ qs) = ((p.1).0 ≡ (q.1).0) × ((x : ℕ) → live x ≡ true → ((p.0).0 == x) ≡ ((q.0).0 == x)) × Alike live ps qs

alike-refl : (live : ℕ → Bool) (ps : List Pair) → Alike live ps ps
alike-refl live [] = tt
alike-refl live (p ∷ ps) = (refl, (λ x h. refl), alike-refl live ps)

alike-source : (live : ℕ → Bool) (ps qs : List Pair) (x : ℕ) → Alike live ps qs → live x ≡ true → is_source ps x ≡ is_source qs x
alike-source live [] [] x a h = refl
alike-source live [] (q ∷ qs) x a h = absurd a
alike-source live (p ∷ ps) [] x a h = absurd a
alike-source live (p ∷ ps) (q ∷ qs) x a h = grind (arith, nat_tests, a.1 x h, alike-source live ps qs x a.2 h)

alike-without_by : (live : ℕ → Bool) (p q : Pair) (ps qs : List Pair) → Alike live (p ∷ ps) (q ∷ qs) → (rs ss : List Pair) → Alike live rs ss → (b : Bool) → Alike live (if not b then p ∷ rs else rs) (if not b then q ∷ ss else ss)
alike-without_by live p q ps qs a rs ss rest true = rest
alike-without_by live p q ps qs a rs ss rest false = (a.0, a.1, rest)

alike-without : (live : ℕ → Bool) (ps qs : List Pair) (t : ℕ) → Alike live ps qs → Alike live (without t ps) (without t qs)
alike-without live [] [] t a = tt
alike-without live [] (q ∷ qs) t a = absurd a
alike-without live (p ∷ ps) [] t a = absurd a
alike-without live (p ∷ ps) (q ∷ qs) t a =
    subst (λ c. Alike live (without t (p ∷ ps)) (if not c then q ∷ without t qs else without t qs)) (ap (λ k. k == t) a.0) (alike-without_by live p q ps qs a (without t ps) (without t qs) (alike-without live ps qs t a.2) ((p.1).0 == t))

-- the registers that are still targets, after an opening
abbrev less_live : (ℕ → Bool) → ℕ → ℕ → Bool
less_live live t x = if x == t then false else live x

same_name : (live : ℕ → Bool) (f s z : PReg) (t x : ℕ) → live f.0 ≡ false → (live x ≡ true → (s.0 == x) ≡ (z.0 == x)) → less_live live t x ≡ true → (b : Bool) → (s.0 == t) ≡ b → ((if b then f else s).0 == x) ≡ (z.0 == x)
same_name live f s z t x nf a h true is = grind (arith, nat_tests, a)
same_name live f s z t x nf a h false is = grind (arith, nat_tests, a)

alike-renamed : (live : ℕ → Bool) (f : PReg) (t : ℕ) (ps qs : List Pair) → live f.0 ≡ false → Alike live ps qs → Alike (less_live live t) (renamed t f ps) qs
alike-renamed live f t [] [] nf a = tt
alike-renamed live f t [] (q ∷ qs) nf a = absurd a
alike-renamed live f t (p ∷ ps) [] nf a = absurd a
alike-renamed live f t (p ∷ ps) (q ∷ qs) nf a = (a.0, (λ x h. same_name live f p.0 q.0 t x nf (a.1 x) h ((p.0).0 == t) refl), alike-renamed live f t ps qs nf a.2)

abbrev Same : Option Pair → Option Pair → Type 0
Same None None = Unit {0}
Same None (Some q) = ⊥
Same (Some p) None = ⊥
Same (Some p) (Some q) = (p.1).0 ≡ (q.1).0

abbrev Covers : (ℕ → Bool) → List Pair → Type 0
Covers live ps = (x : ℕ) → is_target ps x ≡ true → live x ≡ true

same_by : (p q : Pair) (o z : Option Pair) → (p.1).0 ≡ (q.1).0 → Same o z → (b : Bool) → Same (if b then o else Some p) (if b then z else Some q)
same_by p q o z e s true = s
same_by p q o z e s false = e

first_alike : (live : ℕ → Bool) (all every : List Pair) → ((x : ℕ) → live x ≡ true → is_source all x ≡ is_source every x) → (ps qs : List Pair) → Covers live qs → Alike live ps qs → Same (first_free all ps) (first_free every qs)
first_alike live all every k [] [] cov a = tt
first_alike live all every k [] (q ∷ qs) cov a = absurd a
first_alike live all every k (p ∷ ps) [] cov a = absurd a
first_alike live all every k (p ∷ ps) (q ∷ qs) cov a =
    let here : is_source all (p.1).0 ≡ is_source every (q.1).0 = ap (is_source all) a.0 ∙ k (q.1).0 (cov (q.1).0 (grind (arith, nat_tests))) in
    let later = first_alike live all every k ps qs (λ x h. cov x (grind (arith, nat_tests))) a.2 in
    subst (λ b. Same (first_free all (p ∷ ps)) (if b then first_free every qs else Some q)) here (same_by p q (first_free all ps) (first_free every qs) a.0 later (is_source all (p.1).0))

abbrev Counts : PReg → ℕ → Type 0
Counts f n = (live : ℕ → Bool) (left kept : List Pair) → live f.0 ≡ false → Covers live kept → AreDistinct kept → Alike live left kept → length kept ≤ n → length (steps_from (Some f) n left) ≡ length kept + openings n kept

abbrev after_turn : PReg → ℕ → Turn → List Step
after_turn f n t = t.steps ++ steps_from (Some f) n t.left

counts_by : (f : PReg) (n : ℕ) → Counts f n → (live : ℕ → Bool) (left kept : List Pair) → live f.0 ≡ false → Covers live kept → AreDistinct kept → Alike live left kept → length kept ≤ suc n → (o z : Option Pair) → Same o z → first_free kept kept ≡ z → length (after_turn f n (turn_at (Some f) left o)) ≡ length kept + (opens_at kept z + openings n (left_at kept z))
counts_by f n rest live left kept nf cov d a le None (Some q) s is = absurd s
counts_by f n rest live left kept nf cov d a le (Some p) None s is = absurd s
counts_by f n rest live left kept nf cov d a le (Some p) (Some q) s is =
    let k = found kept kept q d is in
    let one = length-without-one (q.1).0 kept d k.target in
    let alike : Alike live (without (p.1).0 left) (without (q.1).0 kept) = subst (λ t. Alike live (without t left) (without (q.1).0 kept)) (sym s) (alike-without live left kept (q.1).0 a) in
    let ih = rest live (without (p.1).0 left) (without (q.1).0 kept) nf (λ x h. cov x (grind (arith, nat_tests, is_target-dropped (q.1).0 x kept))) (distinct-without (q.1).0 kept d) alike (omega arith) in
    omega (arith, ih, one)
counts_by f n rest live [] [] nf cov d a le None None s is = let ih = rest live [] [] nf cov d a (omega arith) in omega (arith, ih)
counts_by f n rest live [] (q ∷ qs) nf cov d a le None None s is = absurd a
counts_by f n rest live (p ∷ ps) [] nf cov d a le None None s is = absurd a
counts_by f n rest live (p ∷ ps) (q ∷ qs) nf cov d a le None None s is =
    let t = (p.1).0 in
    let dead : less_live live t f.0 ≡ false = grind (arith, nat_tests) in
    let covers : Covers (less_live live t) qs = λ x h. grind (arith, nat_tests, cov x, a.0, d.1) in
    let ih = rest (less_live live t) (renamed t f ps) qs dead covers d.2 (alike-renamed live f t ps qs nf a.2) (omega arith) in
    omega (arith, ih)

counts : (f : PReg) (n : ℕ) → Counts f n
counts f zero live left [] nf cov d a le = refl
counts f zero live left (q ∷ qs) nf cov d a le = absurd (omega arith)
counts f (suc n) live left kept nf cov d a le =
    counts_by f n (counts f n) live left kept nf cov d a le (first_free left left) (first_free kept kept) (first_alike live left kept (λ x h. alike-source live left kept x a h) left kept cov a) refl

-- one step a pair, and one an opening
pub free_steps : (f : PReg) (n : ℕ) (left : List Pair) → is_target left f.0 ≡ false → AreDistinct left → length left ≤ n → length (steps_from (Some f) n left) ≡ length left + openings n left
free_steps f n left nf d le = counts f n (is_target left) left left nf (λ x h. h) d (alike-refl (is_target left) left) le

run_openings : (c : List Pair) (n m : ℕ) (left : List Pair) (start end : ℕ) → n ≡ length c + m → AreDistinct left → Hole start left → Run left start c end → openings n left ≡ openings m (after left c)
run_openings [] n m left start end e d hole r = ap (λ k. openings k left) (omega arith)
run_openings (p ∷ c) zero m left start end e d hole r = absurd (omega arith)
run_openings (p ∷ c) (suc n) m left start end e d hole r =
    let t = (p.1).0 in
    let here : Hole t left = subst (λ k. Hole k left) (sym r.0) hole in
    let into = into_by left left t here.free here.others (some_target left t (p.0).0 r.1) in
    let turn : openings (suc n) left ≡ openings n (without t left) = ap (λ o. opens_at left o + openings n (left_at left o)) into.1 ∙ (λ i. 0 + openings n (without (into.2 i) left)) ∙ omega arith in
    turn ∙ run_openings c n m (without t left) (p.0).0 end (omega arith) (distinct-without t left d) (next_hole t (p.0).0 left d here r.1) r.2

hole_after : (c : List Pair) (left : List Pair) (start end : ℕ) → AreDistinct left → Hole start left → Run left start c end → Hole end (after left c)
hole_after [] left start end d hole r = subst (λ k. Hole k left) r hole
hole_after (p ∷ c) left start end d hole r =
    let t = (p.1).0 in
    let here : Hole t left = subst (λ k. Hole k left) (sym r.0) hole in
    hole_after c (without t left) (p.0).0 end (distinct-without t left d) (next_hole t (p.0).0 left d here r.1) r.2

pub distinct-after : (c : List Pair) (left : List Pair) → AreDistinct left → AreDistinct (after left c)
distinct-after [] left d = d
distinct-after (p ∷ c) left d = distinct-after c (without (p.1).0 left) (distinct-without (p.1).0 left d)

not_target_after : (c : List Pair) (left : List Pair) (q : ℕ) → is_target left q ≡ false → is_target (after left c) q ≡ false
not_target_after [] left q h = h
not_target_after (p ∷ c) left q h = not_target_after c (without (p.1).0 left) q (grind (arith, nat_tests, is_target-dropped (p.1).0 q left))

pub length-run : (c : List Pair) (left : List Pair) (start end : ℕ) → AreDistinct left → Run left start c end → length c + length (after left c) ≡ length left
length-run [] left start end d r = omega arith
length-run (p ∷ c) left start end d r =
    let one = length-without-one (p.1).0 left d (some_target left (p.1).0 (p.0).0 r.1) in
    let ih = length-run c (without (p.1).0 left) (p.0).0 end (distinct-without (p.1).0 left d) r.2 in
    omega (arith, one, ih)

first_hole : (p : Pair) (ps : List Pair) → AreDistinct (p ∷ ps) → first_free (p ∷ ps) (p ∷ ps) ≡ None → Hole (p.0).0 ps
first_hole p ps d stuck = record {
  free = d.0;
  others = λ q t ne. grind (arith, nat_tests, none_free (p ∷ ps) (p ∷ ps) stuck q);
}

-- each cycle is opened once
pub rings_openings : (cs : List (List Pair)) (n : ℕ) (left : List Pair) → length left ≤ n → AreDistinct left → first_free left left ≡ None → Rings left cs → openings n left ≡ length cs
rings_openings [] n [] le d stuck r = openings-none n
rings_openings [] n (p ∷ ps) le d stuck r = absurd r
rings_openings (c ∷ cs) n [] le d stuck r = absurd r
rings_openings (c ∷ cs) zero (p ∷ ps) le d stuck r = absurd (omega arith)
rings_openings (c ∷ cs) (suc n) (p ∷ ps) le d stuck r =
    let m = n - length c in
    let hole = first_hole p ps d stuck in
    let size = length-run c ps (p.0).0 (p.1).0 d.2 r.0 in
    let fuel : n ≡ length c + m = omega (arith, size) in
    let opened : openings (suc n) (p ∷ ps) ≡ suc (openings n ps) = ap (λ o. opens_at (p ∷ ps) o + openings n (left_at (p ∷ ps) o)) stuck ∙ omega arith in
    let stuck' = done (p.1).0 (after ps c) (hole_after c ps (p.0).0 (p.1).0 d.2 hole r.0) (not_target_after c ps (p.1).0 d.1) in
    let ih = rings_openings cs m (after ps c) (omega (arith, size)) (distinct-after c ps d.2) stuck' r.1 in
    opened ∙ ap suc (run_openings c n m ps (p.0).0 (p.1).0 fuel d.2 hole r.0 ∙ ih)
