-- Lists of pairs, seen by their sources and targets.
use Rattle.std.proofs.Common.{◌≡◌, ◌≢◌, ℕ, zero, suc, ◌+◌, ◌<◌, ◌≤◌, List, [], ◌∷◌, length, drop, drop-cons, Option, Some, None, Bool, true, false, refl, sym, ap, ◌∙◌, subst, arith}
use Rattle.std.specs.Prelude.{not, is_some, slice_get, slice_index_or, ◌==◌, if◌then◌else◌}
use Rattle.std.proofs.lemmas.Bool.Decides.{nat_tests}
use Rattle.micro_isa.specs.declared.image.PReg.{PReg}
use Rattle.edge_moves.specs.MoveSteps.{Pair, moving, is_source, first_free, without, renamed, target_of}
use Rattle.edge_moves.specs.ParallelMove.{source_to, held_after, is_target, AreDistinct}
use Rattle.edge_moves.specs.Remaining.{NoneStay}

pub source_to-without : (t q : ℕ) (ps : List Pair) → source_to (without t ps) q ≡ (if q == t then None else source_to ps q)
source_to-without t q [] = grind (arith, nat_tests)
source_to-without t q (p ∷ ps) = grind (arith, nat_tests, source_to-without t q ps)

pub is_source-without : (t q : ℕ) (ps : List Pair) → is_source ps q ≡ false → is_source (without t ps) q ≡ false
is_source-without t q [] h = refl
is_source-without t q (p ∷ ps) h = grind (arith, nat_tests, is_source-without t q ps)

pub is_target-without : (t q : ℕ) (ps : List Pair) → is_target ps q ≡ false → is_target (without t ps) q ≡ false
is_target-without t q [] h = refl
is_target-without t q (p ∷ ps) h = grind (arith, nat_tests, is_target-without t q ps)

pub gone-without : (t : ℕ) (ps : List Pair) → is_target (without t ps) t ≡ false
gone-without t [] = refl
gone-without t (p ∷ ps) = grind (arith, nat_tests, gone-without t ps)

distinct-without_by : (t : ℕ) (p : Pair) (ps : List Pair) → AreDistinct (p ∷ ps) → AreDistinct (without t ps) → (b : Bool) → AreDistinct (if not b then p ∷ without t ps else without t ps)
distinct-without_by t p ps h rest true = rest
distinct-without_by t p ps h rest false = (is_source-without t (p.0).0 ps h.0, is_target-without t (p.1).0 ps h.1, rest)

pub distinct-without : (t : ℕ) (ps : List Pair) → AreDistinct ps → AreDistinct (without t ps)
distinct-without t [] h = tt
distinct-without t (p ∷ ps) h = distinct-without_by t p ps h (distinct-without t ps h.2) ((p.1).0 == t)

pub length-without-le : (t : ℕ) (ps : List Pair) → length (without t ps) ≤ length ps
length-without-le t [] = omega arith
length-without-le t (p ∷ ps) = grind (arith, nat_tests, length-without-le t ps)

-- one pair fewer at least
pub length-without : (t : ℕ) (ps : List Pair) → is_target ps t ≡ true → length (without t ps) < length ps
length-without t [] h = absurd (cc)
length-without t (p ∷ ps) h = grind (arith, nat_tests, length-without t ps, length-without-le t ps)

stay-without_by : (t : ℕ) (p : Pair) (ps : List Pair) → NoneStay (p ∷ ps) → NoneStay (without t ps) → (b : Bool) → NoneStay (if not b then p ∷ without t ps else without t ps)
stay-without_by t p ps h rest true = rest
stay-without_by t p ps h rest false = (h.0, rest)

pub stay-without : (t : ℕ) (ps : List Pair) → NoneStay ps → NoneStay (without t ps)
stay-without t [] h = tt
stay-without t (p ∷ ps) h = stay-without_by t p ps h (stay-without t ps h.1) ((p.1).0 == t)

-- a source that is found is a source
pub source_is : (ps : List Pair) (q s : ℕ) → source_to ps q ≡ Some s → is_source ps s ≡ true
source_is [] q s h = absurd (cc)
source_is (p ∷ ps) q s h = grind (arith, nat_tests, source_is ps q s)

-- a register is a target where its pair is found
target_found : (ps : List Pair) (q : ℕ) → is_target ps q ≡ is_some (source_to ps q)
target_found [] q = refl
target_found (p ∷ ps) q = grind (arith, nat_tests, target_found ps q)

pub no_target : (ps : List Pair) (q : ℕ) → is_target ps q ≡ false → source_to ps q ≡ None
no_target ps q h = go (source_to ps q) (sym (target_found ps q) ∙ h)
  where
    go : (found : Option ℕ) → is_some found ≡ false → found ≡ None
    go None is = refl
    go (Some s) is = absurd (cc)

pub some_target : (ps : List Pair) (q s : ℕ) → source_to ps q ≡ Some s → is_target ps q ≡ true
some_target ps q s h = target_found ps q ∙ ap is_some h

pub is_target_none : (ps : List Pair) (q : ℕ) → source_to ps q ≡ None → is_target ps q ≡ false
is_target_none ps q h = target_found ps q ∙ ap is_some h

pub is_source_found : (ps : List Pair) (r : ℕ) → target_of ps r ≡ None → is_source ps r ≡ false
is_source_found [] r h = refl
is_source_found (p ∷ ps) r h = grind (arith, nat_tests, is_source_found ps r)

-- where a source's value goes: its pair is found by its target too
pub source_of_target : (ps : List Pair) (r : ℕ) (u : PReg) → AreDistinct ps → target_of ps r ≡ Some u → source_to ps u.0 ≡ Some r
source_of_target [] r u d h = absurd (cc)
source_of_target (p ∷ ps) r u d h = grind (arith, nat_tests, source_of_target ps r u, some_target ps u.0 r)

-- each source has one target
pub one_target : (ps : List Pair) (q r : ℕ) (u : PReg) → AreDistinct ps → target_of ps r ≡ Some u → source_to ps q ≡ Some r → q ≡ u.0
one_target [] q r u d h k = absurd (cc)
one_target (p ∷ ps) q r u d h k = grind (arith, nat_tests, one_target ps q r u, source_is ps q r)

-- renaming
pub source_to-renamed : (a q : ℕ) (b : PReg) (ps : List Pair) (s : ℕ) → source_to ps q ≡ Some s → source_to (renamed a b ps) q ≡ Some (if s == a then b.0 else s)
source_to-renamed a q b [] s h = absurd (cc)
source_to-renamed a q b (p ∷ ps) s h = grind (arith, nat_tests, source_to-renamed a q b ps s)

pub is_target-renamed : (a q : ℕ) (b : PReg) (ps : List Pair) → is_target (renamed a b ps) q ≡ is_target ps q
is_target-renamed a q b [] = refl
is_target-renamed a q b (p ∷ ps) = grind (arith, nat_tests, is_target-renamed a q b ps)

pub length-renamed : (a : ℕ) (b : PReg) (ps : List Pair) → length (renamed a b ps) ≡ length ps
length-renamed a b [] = refl
length-renamed a b (p ∷ ps) = ap suc (length-renamed a b ps)

pub is_source-renamed : (a x : ℕ) (b : PReg) (ps : List Pair) → is_source ps x ≡ false → x ≢ b.0 → is_source (renamed a b ps) x ≡ false
is_source-renamed a x b [] h ne = refl
is_source-renamed a x b (p ∷ ps) h ne = grind (arith, nat_tests, is_source-renamed a x b ps)

pub new-renamed : (a : ℕ) (b : PReg) (ps : List Pair) → is_source ps a ≡ false → is_source ps b.0 ≡ false → is_source (renamed a b ps) b.0 ≡ false
new-renamed a b [] h k = refl
new-renamed a b (p ∷ ps) h k = grind (arith, nat_tests, new-renamed a b ps)

pub distinct-renamed : (a : ℕ) (b : PReg) (ps : List Pair) → is_source ps b.0 ≡ false → AreDistinct ps → AreDistinct (renamed a b ps)
distinct-renamed a b [] k h = tt
distinct-renamed a b (p ∷ ps) k h = (
  grind (arith, nat_tests, new-renamed a b ps, is_source-renamed a (p.0).0 b ps),
  is_target-renamed a (p.1).0 b ps ∙ h.1,
  distinct-renamed a b ps (grind (arith, nat_tests)) h.2,
)

pub stay-renamed : (a : ℕ) (b : PReg) (ps : List Pair) → is_target ps b.0 ≡ false → NoneStay ps → NoneStay (renamed a b ps)
stay-renamed a b [] k h = tt
stay-renamed a b (p ∷ ps) k h = (grind (arith, nat_tests), stay-renamed a b ps (grind (arith, nat_tests)) h.1)

-- what the search for a free target finds
pub record Found (all ps : List Pair) (p : Pair) : Type 0 where
  pub target : is_target ps (p.1).0 ≡ true
  pub free : is_source all (p.1).0 ≡ false
  pub source : source_to ps (p.1).0 ≡ Some (p.0).0

pub found : (all ps : List Pair) (p : Pair) → AreDistinct ps → first_free all ps ≡ Some p → Found all ps p
found all [] p d h = absurd (cc)
found all (h ∷ ps) p d e = found_by all h ps p d (found all ps p d.2) (is_source all (h.1).0) refl e
  where
    found_by : (all : List Pair) (h : Pair) (ps : List Pair) (p : Pair) → AreDistinct (h ∷ ps) → (first_free all ps ≡ Some p → Found all ps p) → (b : Bool) → is_source all (h.1).0 ≡ b → (if b then first_free all ps else Some h) ≡ Some p → Found all (h ∷ ps) p
    found_by all h ps p d rest true is e =
        let f = rest e in
        record { target = grind (arith, nat_tests, f.target); free = f.free; source = grind (arith, nat_tests, f.target, f.source, d.1) }
    found_by all h ps p d rest false is e =
        let same : h ≡ p = cc in
        subst (λ k. Found all (h ∷ ps) k) same (record { target = grind (arith, nat_tests); free = is; source = grind (arith, nat_tests) })

pub none_free : (all ps : List Pair) → first_free all ps ≡ None → (q : ℕ) → is_target ps q ≡ true → is_source all q ≡ true
none_free all [] h q t = absurd (cc)
none_free all (p ∷ ps) h q t = none_free_by all p ps q t (none_free all ps) (is_source all (p.1).0) refl h
  where
    none_free_by : (all : List Pair) (p : Pair) (ps : List Pair) (q : ℕ) → is_target (p ∷ ps) q ≡ true → (first_free all ps ≡ None → (q : ℕ) → is_target ps q ≡ true → is_source all q ≡ true) → (b : Bool) → is_source all (p.1).0 ≡ b → (if b then first_free all ps else Some p) ≡ None → is_source all q ≡ true
    none_free_by all p ps q t rest true is e = grind (arith, nat_tests, rest e q)
    none_free_by all p ps q t rest false is e = absurd (cc)

-- as many targets as sources, each target a source: then each source is a target
abbrev has : List ℕ → ℕ → Bool
has [] q = false
has (x ∷ xs) q = if x == q then true else has xs q

abbrev less : ℕ → List ℕ → List ℕ
less x [] = []
less x (y ∷ ys) = if y == x then ys else y ∷ less x ys

has-less : (x q : ℕ) (ys : List ℕ) → q ≢ x → has (less x ys) q ≡ has ys q
has-less x q [] ne = refl
has-less x q (y ∷ ys) ne = grind (arith, nat_tests, has-less x q ys)

length-less : (x : ℕ) (ys : List ℕ) → has ys x ≡ true → suc (length (less x ys)) ≡ length ys
length-less x [] h = absurd (cc)
length-less x (y ∷ ys) h = grind (arith, nat_tests, length-less x ys)

abbrev Apart : List ℕ → Type 0
Apart [] = Unit {0}
Apart (x ∷ xs) = (has xs x ≡ false) × Apart xs

all_met : (xs ys : List ℕ) → Apart xs → length ys ≤ length xs → ((q : ℕ) → has xs q ≡ true → has ys q ≡ true) → (q : ℕ) → has ys q ≡ true → has xs q ≡ true
all_met [] [] d le sub q h = h
all_met [] (y ∷ ys) d le sub q h = absurd (omega arith)
all_met (x ∷ xs) ys d le sub q h =
    let here : has ys x ≡ true = sub x (grind (arith, nat_tests)) in
    let fewer : suc (length (less x ys)) ≡ length ys = length-less x ys here in
    let rest = all_met xs (less x ys) d.1 (omega arith) (λ z k. has-less x z ys (grind (arith, nat_tests, d.0)) ∙ sub z (grind (arith, nat_tests))) in
    grind (arith, nat_tests, rest q, has-less x q ys)

abbrev sources : List Pair → List ℕ
sources [] = []
sources (p ∷ ps) = (p.0).0 ∷ sources ps

abbrev targets : List Pair → List ℕ
targets [] = []
targets (p ∷ ps) = (p.1).0 ∷ targets ps

has-sources : (ps : List Pair) (q : ℕ) → has (sources ps) q ≡ is_source ps q
has-sources [] q = refl
has-sources (p ∷ ps) q = ap (λ b. if (p.0).0 == q then true else b) (has-sources ps q)

has-targets : (ps : List Pair) (q : ℕ) → has (targets ps) q ≡ is_target ps q
has-targets [] q = refl
has-targets (p ∷ ps) q = ap (λ b. if (p.1).0 == q then true else b) (has-targets ps q)

apart-targets : (ps : List Pair) → AreDistinct ps → Apart (targets ps)
apart-targets [] d = tt
apart-targets (p ∷ ps) d = (has-targets ps (p.1).0 ∙ d.1, apart-targets ps d.2)

as_many : (ps : List Pair) → length (sources ps) ≡ length (targets ps)
as_many [] = refl
as_many (p ∷ ps) = ap suc (as_many ps)

-- targets below n are at most n
fits_in : (xs ys : List ℕ) → Apart xs → ((q : ℕ) → has xs q ≡ true → has ys q ≡ true) → length xs ≤ length ys
fits_in [] ys d sub = omega arith
fits_in (x ∷ xs) ys d sub =
    let here : has ys x ≡ true = sub x (grind (arith, nat_tests)) in
    let fewer : suc (length (less x ys)) ≡ length ys = length-less x ys here in
    let rest = fits_in xs (less x ys) d.1 (λ z k. has-less x z ys (grind (arith, nat_tests, d.0)) ∙ sub z (grind (arith, nat_tests))) in
    omega (arith, fewer, rest)

abbrev below : ℕ → List ℕ
below zero = []
below (suc n) = n ∷ below n

length-below : (n : ℕ) → length (below n) ≡ n
length-below zero = refl
length-below (suc n) = ap suc (length-below n)

has-below : (n q : ℕ) → q < n → has (below n) q ≡ true
has-below zero q h = absurd (omega arith)
has-below (suc n) q h = grind (arith, nat_tests, has-below n q)

length-targets : (ps : List Pair) → length (targets ps) ≡ length ps
length-targets [] = refl
length-targets (p ∷ ps) = ap suc (length-targets ps)

pub few : (ps : List Pair) (n : ℕ) → AreDistinct ps → ((q : ℕ) → is_target ps q ≡ true → q < n) → length ps ≤ n
few ps n d h =
    let l = fits_in (targets ps) (below n) (apart-targets ps d) (λ q k. has-below n q (h q (sym (has-targets ps q) ∙ k))) in
    omega (arith, l, length-below n, length-targets ps)

pub closed : (ps : List Pair) → AreDistinct ps → first_free ps ps ≡ None → (q : ℕ) → is_source ps q ≡ true → is_target ps q ≡ true
closed ps d stuck q h =
    let le : length (sources ps) ≤ length (targets ps) = omega (arith, as_many ps) in
    sym (has-targets ps q) ∙ all_met (targets ps) (sources ps) (apart-targets ps d) le (λ z k. has-sources ps z ∙ none_free ps ps stuck z (sym (has-targets ps z) ∙ k)) q (has-sources ps q ∙ h)

pub is_source-moving : (ps : List Pair) (q : ℕ) → is_source ps q ≡ false → is_source (moving ps) q ≡ false
is_source-moving [] q h = refl
is_source-moving (p ∷ ps) q h = grind (arith, nat_tests, is_source-moving ps q)

pub is_target-moving : (ps : List Pair) (q : ℕ) → is_target ps q ≡ false → is_target (moving ps) q ≡ false
is_target-moving [] q h = refl
is_target-moving (p ∷ ps) q h = grind (arith, nat_tests, is_target-moving ps q)

distinct-moving_by : (p : Pair) (ps : List Pair) → AreDistinct (p ∷ ps) → AreDistinct (moving ps) → (b : Bool) → AreDistinct (if b then moving ps else p ∷ moving ps)
distinct-moving_by p ps h rest true = rest
distinct-moving_by p ps h rest false = (is_source-moving ps (p.0).0 h.0, is_target-moving ps (p.1).0 h.1, rest)

pub distinct-moving : (ps : List Pair) → AreDistinct ps → AreDistinct (moving ps)
distinct-moving [] h = tt
distinct-moving (p ∷ ps) h = distinct-moving_by p ps h (distinct-moving ps h.2) ((p.0).0 == (p.1).0)

stay-moving_by : (p : Pair) (ps : List Pair) → NoneStay (moving ps) → (b : Bool) → ((p.0).0 == (p.1).0) ≡ b → NoneStay (if b then moving ps else p ∷ moving ps)
stay-moving_by p ps rest true is = rest
stay-moving_by p ps rest false is = (grind (arith, nat_tests), rest)

pub stay-moving : (ps : List Pair) → NoneStay (moving ps)
stay-moving [] = tt
stay-moving (p ∷ ps) = stay-moving_by p ps (stay-moving ps) ((p.0).0 == (p.1).0) refl

pub length-moving : (ps : List Pair) → length (moving ps) ≤ length ps
length-moving [] = omega arith
length-moving (p ∷ ps) = grind (arith, nat_tests, length-moving ps)

pub moving_moves : (ps : List Pair) (q : ℕ) (file : ℕ → ℕ) → AreDistinct ps → held_after file q (source_to (moving ps) q) ≡ held_after file q (source_to ps q)
moving_moves [] q file d = refl
moving_moves (p ∷ ps) q file d = grind (arith, nat_tests, moving_moves ps q file, no_target (moving ps) q, is_target-moving ps q)

pub target_at : (ps : List Pair) (i : ℕ) (p : Pair) → slice_get ps i ≡ Some p → is_target ps (p.1).0 ≡ true
target_at [] i p h = absurd (cc)
target_at (h ∷ ps) zero p e = let same : h ≡ p = cc in grind (arith, nat_tests)
target_at (h ∷ ps) (suc i) p e = grind (arith, nat_tests, target_at ps i p)

pub source_at : (ps : List Pair) (i : ℕ) (p : Pair) → AreDistinct ps → slice_get ps i ≡ Some p → source_to ps (p.1).0 ≡ Some (p.0).0
source_at [] i p d h = absurd (cc)
source_at (h ∷ ps) zero p d e = let same : h ≡ p = cc in grind (arith, nat_tests)
source_at (h ∷ ps) (suc i) p d e = grind (arith, nat_tests, source_at ps i p, target_at ps i p)

-- the pairs from one on
pub drop_pair : (ps : List Pair) (i : ℕ) (d : Pair) → i < length ps → drop i ps ≡ slice_index_or ps i d ∷ drop (i + 1) ps
drop_pair ps i d h = let next : suc i ≡ i + 1 = omega arith in drop-cons ps i d h ∙ ap (λ k. slice_index_or ps i d ∷ drop k ps) next
