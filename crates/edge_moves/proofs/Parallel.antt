-- What remains to be moved, from the file as it is, gives the last file.
use Rattle.std.proofs.Common.{◌≡◌, ◌≢◌, ℕ, zero, suc, ◌+◌, ◌-◌, ◌<◌, ◌≤◌, List, [], ◌∷◌, ◌++◌, append_assoc, length, Option, Some, None, Bool, true, false, refl, sym, ap, ◌∙◌, subst, arith}
use Rattle.std.specs.Prelude.{◌==◌, if◌then◌else◌, bit_xor}
use Rattle.std.specs.Int.Bits.{xor_self, xor_zero_l}
use lib.Bits.{xor_assoc}
use Rattle.std.proofs.lemmas.Nat.{xor_comm}
use Rattle.std.proofs.lemmas.Bool.Decides.{nat_tests}
use Rattle.micro_isa.specs.declared.image.PReg.{PReg}
use Rattle.edge_moves.specs.declared.step.Step.{Step}
use Rattle.edge_moves.specs.declared.step.Step.TheVariants.{Xor}
use Rattle.edge_moves.specs.MoveSteps.{Pair, moving, is_source, first_free, without, renamed, target_of, joined, Turn, open_cycle, turn_at, turn, steps_from, move_steps}
use Rattle.edge_moves.specs.ParallelMove.{File, set_at, do_steps, source_to, held_after, moved, is_target, AreDistinct, IsFree, IsNot, ParallelMove}
use Rattle.edge_moves.specs.Remaining.{NoneStay, IsNoTarget, Remains}
use Rattle.edge_moves.proofs.Lists.{Found, found, none_free, closed, source_to-without, is_source-without, is_target-without, gone-without, distinct-without, stay-without, length-without, length-without-le, source_is, no_target, some_target, is_target_none, is_source_found, source_of_target, one_target, source_to-renamed, is_target-renamed, length-renamed, distinct-renamed, stay-renamed, distinct-moving, stay-moving, length-moving, is_target-moving, moving_moves, target_at, source_at}

-- the two halves of an exchange
xor_back : (a b : ℕ) → bit_xor a (bit_xor b a) ≡ b
xor_back a b = ap (bit_xor a) (xor_comm b a) ∙ sym (xor_assoc a a b) ∙ ap (λ k. bit_xor k b) (xor_self a) ∙ xor_zero_l b

xor_front : (a b : ℕ) → bit_xor a (bit_xor a b) ≡ b
xor_front a b = sym (xor_assoc a a b) ∙ ap (λ k. bit_xor k b) (xor_self a) ∙ xor_zero_l b

-- one move whose target is no source
chain : (left : List Pair) (p : Pair) → Found left left p → (file : File) (q : ℕ) → moved (without (p.1).0 left) (set_at file (p.1).0 (file (p.0).0)) q ≡ moved left file q
chain left p f file q = by (source_to left q) refl
  where
    by : (o : Option ℕ) → source_to left q ≡ o → held_after (set_at file (p.1).0 (file (p.0).0)) q (source_to (without (p.1).0 left) q) ≡ held_after file q (source_to left q)
    by None is = grind (arith, nat_tests, source_to-without (p.1).0 q left, f.source)
    by (Some s) is = grind (arith, nat_tests, source_to-without (p.1).0 q left, f.source, f.free, source_is left q s)

-- a cycle is opened with a free register
opened : (f : PReg) (p : Pair) (ps : List Pair) → AreDistinct (p ∷ ps) → is_source (p ∷ ps) f.0 ≡ false → is_target (p ∷ ps) f.0 ≡ false → (file : File) (q : ℕ) → q ≢ f.0 → moved (renamed (p.1).0 f ps) (set_at (set_at file f.0 (file (p.1).0)) (p.1).0 (set_at file f.0 (file (p.1).0) (p.0).0)) q ≡ moved (p ∷ ps) file q
opened f p ps d nos not file q ne = by (source_to ps q) refl
  where
    by : (o : Option ℕ) → source_to ps q ≡ o → moved (renamed (p.1).0 f ps) (set_at (set_at file f.0 (file (p.1).0)) (p.1).0 (set_at file f.0 (file (p.1).0) (p.0).0)) q ≡ moved (p ∷ ps) file q
    by None is = grind (arith, nat_tests, no_target (renamed (p.1).0 f ps) q, is_target-renamed (p.1).0 q f ps, is_target_none ps q)
    by (Some s) is = grind (arith, nat_tests, source_to-renamed (p.1).0 q f ps s, source_is ps q s, some_target ps q s, d.1)

-- an exchange
pub record Swapped (s t : ℕ) (file file' : File) : Type 0 where
  first : file' s ≡ file t
  second : file' t ≡ file s
  others : (q : ℕ) → q ≢ s → q ≢ t → file' q ≡ file q

swapped : (s t : PReg) → s.0 ≢ t.0 → (file : File) → Swapped s.0 t.0 file (do_steps (Xor s t ∷ Xor t s ∷ Xor s t ∷ []) file)
swapped s t ne file = record {
  first = grind (arith, nat_tests, xor_back, xor_front, xor_comm);
  second = grind (arith, nat_tests, xor_back, xor_front, xor_comm);
  others = λ q ns nt. grind (arith, nat_tests);
}

-- after an exchange of s and t, what went from s to t is done, and what t's source gave comes from s
exchanged : (p : Pair) (ps : List Pair) → AreDistinct (p ∷ ps) → NoneStay (p ∷ ps) → ((q : ℕ) → is_source (p ∷ ps) q ≡ true → is_target (p ∷ ps) q ≡ true) → (u : PReg) → target_of ps (p.1).0 ≡ Some u → (file file' : File) → Swapped (p.0).0 (p.1).0 file file' → (q : ℕ) → (b : Bool) → (u.0 == (p.0).0) ≡ b → moved (if b then without u.0 ps else (p.0, u) ∷ without u.0 ps) file' q ≡ moved (p ∷ ps) file q
exchanged p ps d st met u to file file' sw q b is = by (source_to ps q) refl b is
  where
    from_t : source_to ps u.0 ≡ Some (p.1).0
    from_t = source_of_target ps (p.1).0 u d.2 to

    by : (o : Option ℕ) → source_to ps q ≡ o → (b : Bool) → (u.0 == (p.0).0) ≡ b → moved (if b then without u.0 ps else (p.0, u) ∷ without u.0 ps) file' q ≡ moved (p ∷ ps) file q
    by None e true is = grind (arith, nat_tests, source_to-without u.0 q ps, from_t, sw.second, sw.first, sw.others q, d.1, no_target ps (p.1).0)
    by None e false is = grind (arith, nat_tests, source_to-without u.0 q ps, from_t, sw.second, sw.first, sw.others q, d.1, met q, is_target_none ps q)
    by (Some s) e true is = grind (arith, nat_tests, source_to-without u.0 q ps, from_t, sw.second, sw.first, sw.others s, d.0, d.1, source_is ps q s, some_target ps q s, one_target ps q (p.1).0 u)
    by (Some s) e false is = grind (arith, nat_tests, source_to-without u.0 q ps, from_t, sw.second, sw.first, sw.others s, d.0, d.1, source_is ps q s, some_target ps q s, one_target ps q (p.1).0 u)

not_target-without : (free : Option PReg) (t : ℕ) (left : List Pair) → IsNoTarget free left → IsNoTarget free (without t left)
not_target-without None t left h = tt
not_target-without (Some f) t left h = is_target-without t f.0 left h

pub remains-without : (free : Option PReg) (t : ℕ) (left : List Pair) → Remains free left → Remains free (without t left)
remains-without free t left r = record {
  distinct = distinct-without t left r.distinct;
  stay = stay-without t left r.stay;
  kept = not_target-without free t left r.kept;
}

pub remains-joined : (p : Pair) (ps : List Pair) → AreDistinct (p ∷ ps) → NoneStay (p ∷ ps) → (u : PReg) → target_of ps (p.1).0 ≡ Some u → (b : Bool) → (u.0 == (p.0).0) ≡ b → Remains None (if b then without u.0 ps else (p.0, u) ∷ without u.0 ps)
remains-joined p ps d st u to true is = remains-without None u.0 ps (record { distinct = d.2; stay = st.1; kept = tt })
remains-joined p ps d st u to false is = record {
  distinct = (is_source-without u.0 (p.0).0 ps d.0, gone-without u.0 ps, distinct-without u.0 ps d.2);
  stay = (grind (arith, nat_tests), stay-without u.0 ps st.1);
  kept = tt;
}

pub remains-renamed : (f : PReg) (p : Pair) (ps : List Pair) → Remains (Some f) (p ∷ ps) → is_source (p ∷ ps) f.0 ≡ false → Remains (Some f) (renamed (p.1).0 f ps)
remains-renamed f p ps r nos = record {
  distinct = distinct-renamed (p.1).0 f ps (grind (arith, nat_tests)) r.distinct.2;
  stay = stay-renamed (p.1).0 f ps (grind (arith, nat_tests, r.kept)) r.stay.1;
  kept = is_target-renamed (p.1).0 f.0 f ps ∙ grind (arith, nat_tests, r.kept);
}

-- where each target is a source, the free register is none
pub no_source : (f : PReg) (left : List Pair) → Remains (Some f) left → first_free left left ≡ None → is_source left f.0 ≡ false
no_source f left r stuck = grind (arith, nat_tests, r.kept, closed left r.distinct stuck f.0)

-- the target of the first pair is a source of the others then
pub next_source : (free : Option PReg) (p : Pair) (ps : List Pair) → Remains free (p ∷ ps) → first_free (p ∷ ps) (p ∷ ps) ≡ None → is_source ps (p.1).0 ≡ true
next_source free p ps r stuck =
    let all : is_source (p ∷ ps) (p.1).0 ≡ true = none_free (p ∷ ps) (p ∷ ps) stuck (p.1).0 (grind (arith, nat_tests)) in
    grind (arith, nat_tests, r.stay.0)

remains-open : (free : Option PReg) (left : List Pair) → Remains free left → first_free left left ≡ None → Remains free (open_cycle free left).left
remains-open free [] r stuck = r
remains-open (Some f) (p ∷ ps) r stuck = remains-renamed f p ps r (no_source f (p ∷ ps) r stuck)
remains-open None (p ∷ ps) r stuck = by (target_of ps (p.1).0) refl
  where
    by : (o : Option PReg) → target_of ps (p.1).0 ≡ o → Remains None (joined p.0 ps o)
    by None is = record { distinct = r.distinct.2; stay = r.stay.1; kept = tt }
    by (Some u) is = remains-joined p ps r.distinct r.stay u is (u.0 == (p.0).0) refl

-- what remains after a turn is in order
pub remains-turn : (free : Option PReg) (left : List Pair) → Remains free left → Remains free (turn free left).left
remains-turn free left r = by (first_free left left) refl
  where
    by : (o : Option Pair) → first_free left left ≡ o → Remains free (turn_at free left o).left
    by None is = remains-open free left r is
    by (Some p) is = remains-without free (p.1).0 left r

pub length-joined : (p : Pair) (ps : List Pair) (u : PReg) → is_target ps u.0 ≡ true → (b : Bool) → length (if b then without u.0 ps else (p.0, u) ∷ without u.0 ps) ≤ length ps
length-joined p ps u h true = length-without-le u.0 ps
length-joined p ps u h false = let k : length (without u.0 ps) < length ps = length-without u.0 ps h in omega arith

-- the steps do what remains
abbrev pub Does : Option PReg → List Step → List Pair → Type 0
Does free ss left = (file : File) (q : ℕ) → IsNot free q → do_steps ss file q ≡ moved left file q

-- n turns do whatever remains, where it is at most n pairs
abbrev pub From : Option PReg → ℕ → Type 0
From free n = (left : List Pair) → length left ≤ n → Remains free left → Does free (steps_from free n left) left

abbrev after_turn : Option PReg → ℕ → Turn → List Step
after_turn free n t = t.steps ++ steps_from free n t.left

by_exchange : (n : ℕ) → From None n → (p : Pair) (ps : List Pair) → length ps ≤ n → Remains None (p ∷ ps) → ((q : ℕ) → is_source (p ∷ ps) q ≡ true → is_target (p ∷ ps) q ≡ true) → ((q : ℕ) → is_target (p ∷ ps) q ≡ true → is_source (p ∷ ps) q ≡ true) → (o : Option PReg) → target_of ps (p.1).0 ≡ o → Does None (Xor p.0 p.1 ∷ Xor p.1 p.0 ∷ Xor p.0 p.1 ∷ steps_from None n (joined p.0 ps o)) (p ∷ ps)
by_exchange n rest p ps le r met source None to = let no = is_source_found ps (p.1).0 to in let yes : is_source (p ∷ ps) (p.1).0 ≡ true = source (p.1).0 (grind (arith, nat_tests)) in absurd (grind (arith, nat_tests, r.stay.0))
by_exchange n rest p ps le r met source (Some u) to = λ file q nf.
    let b = u.0 == (p.0).0 in
    let file' : File = do_steps (Xor p.0 p.1 ∷ Xor p.1 p.0 ∷ Xor p.0 p.1 ∷ []) file in
    let there = some_target ps u.0 (p.1).0 (source_of_target ps (p.1).0 u r.distinct.2 to) in
    let l : length (joined p.0 ps (Some u)) ≤ n = omega (arith, length-joined p ps u there b) in
    rest (joined p.0 ps (Some u)) l (remains-joined p ps r.distinct r.stay u to b refl) file' q nf
    ∙ exchanged p ps r.distinct r.stay met u to file file' (swapped p.0 p.1 r.stay.0 file) q b refl

by_cycle : (free : Option PReg) (n : ℕ) → From free n → (left : List Pair) → length left ≤ suc n → Remains free left → first_free left left ≡ None → Does free (after_turn free n (open_cycle free left)) left
by_cycle free n rest [] le r stuck = rest [] (omega arith) r
by_cycle None n rest (p ∷ ps) le r stuck = by_exchange n rest p ps (omega arith) r (closed (p ∷ ps) r.distinct stuck) (none_free (p ∷ ps) (p ∷ ps) stuck) (target_of ps (p.1).0) refl
by_cycle (Some f) n rest (p ∷ ps) le r stuck = λ file q nf.
    let nos : is_source (p ∷ ps) f.0 ≡ false = no_source f (p ∷ ps) r stuck in
    let l : length (renamed (p.1).0 f ps) ≤ n = omega (arith, length-renamed (p.1).0 f ps) in
    rest (renamed (p.1).0 f ps) l (remains-renamed f p ps r nos) _ q nf ∙ opened f p ps r.distinct nos r.kept file q nf

by_one : (free : Option PReg) (n : ℕ) → From free n → (left : List Pair) → length left ≤ suc n → Remains free left → (o : Option Pair) → first_free left left ≡ o → Does free (after_turn free n (turn_at free left o)) left
by_one free n rest left le r None is = by_cycle free n rest left le r is
by_one free n rest left le r (Some p) is = λ file q nf.
    let f = found left left p r.distinct is in
    let fewer : length (without (p.1).0 left) < length left = length-without (p.1).0 left f.target in
    rest (without (p.1).0 left) (omega arith) (remains-without free (p.1).0 left r) (set_at file (p.1).0 (file (p.0).0)) q nf
    ∙ chain left p f file q

pub does : (free : Option PReg) (n : ℕ) → From free n
does free zero [] le r = λ file q nf. refl
does free zero (p ∷ ps) le r = absurd (omega arith)
does free (suc n) left le r = by_one free n (does free n) left le r (first_free left left) refl

pub free_kept : (free : Option PReg) (pairs : List Pair) → IsFree pairs free → IsNoTarget free (moving pairs)
free_kept None pairs h = tt
free_kept (Some f) pairs h = is_target-moving pairs f.0 h.1

pub remains-moving : (free : Option PReg) (pairs : List Pair) → AreDistinct pairs → IsFree pairs free → Remains free (moving pairs)
remains-moving free pairs d h = record { distinct = distinct-moving pairs d; stay = stay-moving pairs; kept = free_kept free pairs h }

-- before the first turn
pub first_turn : (free : Option PReg) (pairs left : List Pair) (ss : List Step) → ss ≡ [] → left ≡ moving pairs
    → ss ++ steps_from free (length pairs - 0) left ≡ move_steps pairs free
first_turn free pairs left ss none is = let same : length pairs - 0 ≡ length pairs = omega arith in rw (none, is, same)

pub goes : (pairs : List Pair) (free : Option PReg) → AreDistinct pairs → IsFree pairs free → Does free (move_steps pairs free) pairs
goes pairs free d h = λ file q nf.
    does free (length pairs) (moving pairs) (length-moving pairs) (remains-moving free pairs d h) file q nf ∙ moving_moves pairs q file d

not_free : (free : Option PReg) (pairs : List Pair) (q : ℕ) → IsFree pairs free → is_target pairs q ≡ true → IsNot free q
not_free None pairs q h t = tt
not_free (Some f) pairs q h t = grind (arith, nat_tests, h.1)

pub parallel_move : (pairs : List Pair) (free : Option PReg) (ss : List Step) → AreDistinct pairs → IsFree pairs free → ss ≡ move_steps pairs free → ParallelMove pairs free ss
parallel_move pairs free ss d h e = subst (ParallelMove pairs free) (sym e) (record {
  moves = λ file i p is. goes pairs free d h file (p.1).0 (not_free free pairs (p.1).0 h (target_at pairs i p is)) ∙ ap (held_after file (p.1).0) (source_at pairs i p d is);
  others = λ file q no nf. goes pairs free d h file q nf ∙ ap (held_after file q) (no_target pairs q no);
})

-- one turn of the loop
pub one_turn : (free : Option PReg) (n c : ℕ) (left left' : List Pair) (ss ss' all : List Step) → c < n → left' ≡ (turn free left).left → ss' ≡ ss ++ (turn free left).steps → ss ++ steps_from free (n - c) left ≡ all → ss' ++ steps_from free (n - (c + 1)) left' ≡ all
one_turn free n c left left' ss ss' all lt el es h =
    let e : n - c ≡ suc (n - (c + 1)) = omega arith in
    (λ i. es i ++ steps_from free (n - (c + 1)) (el i))
    ∙ append_assoc ss (turn free left).steps (steps_from free (n - (c + 1)) (turn free left).left)
    ∙ ap (λ k. ss ++ steps_from free k left) (sym e)
    ∙ h
