-- The two passes: chains are taken backwards from where they end, then cycles from their first pair.
use Rattle.std.proofs.Common.{◌≡◌, ℕ, suc, ◌+◌, ◌≤◌, List, [], ◌∷◌, length, Some, None, Bool, true, false, refl, sym, ap, ◌∙◌, subst, arith}
use Rattle.std.specs.Prelude.{◌==◌, is_some, if◌then◌else◌, slice_index_or}
use Rattle.std.proofs.lemmas.Bool.Decides.{nat_tests}
use Rattle.micro_isa.specs.declared.image.PReg.{PReg}
use Rattle.edge_moves.specs.MoveSteps.{Pair, moving, is_source, first_free, without}
use Rattle.edge_moves.specs.ParallelMove.{source_to, is_target, AreDistinct}
use Rattle.edge_moves.specs.Tally.{SourceTable, Holds, left_of, inside, left_at, opens_at, openings, IsEnd, Unwound, TakenBack, CycleTaken}
use Rattle.edge_moves.proofs.Lists.{none_free, is_source-without, length-without-le, is_target-moving, length-moving}
use Rattle.edge_moves.proofs.Rings.{is_source-split, without_none}
use Rattle.edge_moves.proofs.Cycles.{stuck_by, dropped_source, was_target}
use Rattle.edge_moves.proofs.Outside.{inside-stuck, later}
use Rattle.edge_moves.proofs.Orders.{inside-without, openings-turns}
use Rattle.edge_moves.proofs.Tables.{holds-taken, none_at, some_at, distinct-left, left-left}

unwound_begins : (left : List Pair) (last : ℕ) → is_source left last ≡ false → Unwound left last left last
unwound_begins left last free = record { free = free; ends = λ q e ne. (e, ne); few = omega arith; same = λ n le. refl }

-- the pair whose target is the hole is taken
unwound_next : (left : List Pair) (last : ℕ) (now : List Pair) (hole s : ℕ) → AreDistinct now → source_to now hole ≡ Some s → Unwound left last now hole → Unwound left last (without hole now) s
unwound_next left last now hole s d to u = record {
  free = dropped_source now hole s d to;
  ends = λ q e ne.
      let was = was_target now hole q e.0 in
      let no : is_source now q ≡ false = grind (arith, nat_tests, is_source-split now hole s q d to, e.1) in
      u.ends q (was.0, no) was.1;
  few = let less = length-without-le hole now in omega (arith, less, u.few);
  same = λ n le. inside-without n now hole (let few = u.few in omega (arith, few, le)) d u.free ∙ u.same n le;
}

pub taken_begins : (pairs : List Pair) (table : SourceTable) (last : ℕ) → Holds table (left_of table pairs) → is_source (left_of table pairs) last ≡ false → TakenBack pairs table last table last
taken_begins pairs table last h free = record { holds = h; unwound = unwound_begins (left_of table pairs) last free; taken = λ q is. is }

abbrev pub Others : SourceTable → ℕ → SourceTable → Type 0
Others table t now = (q : ℕ) → slice_index_or now q None ≡ (if q == t then None else slice_index_or table q None)

gone : (table now : SourceTable) (t : ℕ) → Others table t now → (q : ℕ) → slice_index_or table q None ≡ None → slice_index_or now q None ≡ None
gone table now t others q is = others q ∙ by (q == t)
  where
    by : (b : Bool) → (if b then None else slice_index_or table q None) ≡ None
    by true = refl
    by false = is

-- one more entry
pub taken_next : (pairs : List Pair) (before table now : SourceTable) (last hole : ℕ) (s : PReg) → AreDistinct pairs → TakenBack pairs before last table hole
    → slice_index_or table hole None ≡ Some s → left_of now pairs ≡ without hole (left_of table pairs) → Others table hole now → TakenBack pairs before last now s.0
taken_next pairs before table now last hole s d t is e others = record {
  holds = holds-taken table now (left_of table pairs) (left_of now pairs) hole t.holds e others;
  unwound = subst (λ k. Unwound (left_of before pairs) last k s.0) (sym e) (unwound_next (left_of before pairs) last (left_of table pairs) hole s.0 (distinct-left table pairs d) (some_at table (left_of table pairs) hole s t.holds is) t.unwound);
  taken = λ q none. gone table now hole others q (t.taken q none);
}

-- the entry that was looked for is not there
pub taken_ends : (pairs : List Pair) (before table now : SourceTable) (last hole : ℕ) → AreDistinct pairs → TakenBack pairs before last table hole
    → slice_index_or table hole None ≡ None → left_of now pairs ≡ without hole (left_of table pairs) → Others table hole now
    → (h : ℕ) × TakenBack pairs before last now h × (is_target (left_of now pairs) h ≡ false)
taken_ends pairs before table now last hole d t is e others =
    let no = none_at table (left_of table pairs) hole t.holds is in
    let same : left_of now pairs ≡ left_of table pairs = e ∙ without_none hole (left_of table pairs) no in (
      hole,
      record {
        holds = holds-taken table now (left_of table pairs) (left_of now pairs) hole t.holds e others;
        unwound = subst (λ k. Unwound (left_of before pairs) last k hole) (sym same) t.unwound;
        taken = λ q none. gone table now hole others q (t.taken q none);
      },
      subst (λ k. is_target k hole ≡ false) (sym same) no,
    )

-- chains: of what remains each chain ends at the target of a pair to come that is no source at all
pub record Peeled (pairs rest first left : List Pair) : Type 0 where
  pub few : length left ≤ length first
  pub same : (n : ℕ) → length first ≤ n → inside n left ≡ inside n first
  pub ends : (q : ℕ) → IsEnd left q → (is_source pairs q ≡ false) × (is_target rest q ≡ true)

source_moving : (ps : List Pair) (q : ℕ) → is_target ps q ≡ false → is_source (moving ps) q ≡ is_source ps q
source_moving [] q h = refl
source_moving (p ∷ ps) q h = grind (arith, nat_tests, source_moving ps q)

source_of_moving : (ps : List Pair) (q : ℕ) → AreDistinct ps → is_target (moving ps) q ≡ true → is_source (moving ps) q ≡ is_source ps q
source_of_moving [] q d h = refl
source_of_moving (p ∷ ps) q d h = grind (arith, nat_tests, source_of_moving ps q d.2, source_moving ps q, is_target-moving ps q, d.1)

pub peeled_begins : (pairs left : List Pair) → AreDistinct pairs → left ≡ moving pairs → Peeled pairs pairs (moving pairs) left
peeled_begins pairs left d e = subst (Peeled pairs pairs (moving pairs)) (sym e) (record {
  few = omega arith;
  same = λ n le. refl;
  ends = λ q end. (sym (source_of_moving pairs q d end.0) ∙ end.1, by q end (is_target pairs q) refl);
})
  where
    by : (q : ℕ) → IsEnd (moving pairs) q → (b : Bool) → is_target pairs q ≡ b → is_target pairs q ≡ true
    by q end true is = is
    by q end false is = let no = is_target-moving pairs q is in absurd (cc (no, end.0))

pub peeled_source : (pairs rest first left : List Pair) (p : Pair) → is_source pairs (p.1).0 ≡ true → Peeled pairs (p ∷ rest) first left → Peeled pairs rest first left
peeled_source pairs rest first left p is t = record {
  few = t.few;
  same = t.same;
  ends = λ q end. let e = t.ends q end in (e.0, grind (arith, nat_tests, e.0, e.1));
}

pub peeled_chain : (pairs rest first left now : List Pair) (p : Pair) (hole : ℕ) → Unwound left (p.1).0 now hole → is_target now hole ≡ false → Peeled pairs (p ∷ rest) first left → Peeled pairs rest first now
peeled_chain pairs rest first left now p hole u none t = record {
  few = let a = u.few in let b = t.few in omega (arith, a, b);
  same = λ n le. u.same n (let b = t.few in omega (arith, b, le)) ∙ t.same n le;
  ends = λ q end.
      let before = u.ends q end (λ e. let no = ap (is_target now) e ∙ none in absurd (cc (no, end.0))) in
      let e = t.ends q before.0 in
      (e.0, grind (arith, nat_tests, e.1, before.1));
}

pub peeled_ends : (pairs left : List Pair) → Peeled pairs [] (moving pairs) left → left ≡ inside (length pairs) (moving pairs)
peeled_ends pairs left t =
    let stuck : first_free left left ≡ None = stuck_by left left (λ q to. by q to (is_source left q) refl) in
    sym (inside-stuck (length pairs) left stuck) ∙ t.same (length pairs) (length-moving pairs)
  where
    by : (q : ℕ) → is_target left q ≡ true → (b : Bool) → is_source left q ≡ b → is_source left q ≡ true
    by q to true is = is
    by q to false is = let e = t.ends q (to, is) in absurd (cc (e.1))

-- cycles: the one at the first pair that remains
ring_closes : (p : Pair) (ps now : List Pair) (hole : ℕ) → first_free (p ∷ ps) (p ∷ ps) ≡ None → Unwound ps (p.0).0 now hole → is_target now hole ≡ false → first_free now now ≡ None
ring_closes p ps now hole stuck u none = stuck_by now now (λ q to. by q to (is_source now q) refl)
  where
    by : (q : ℕ) → is_target now q ≡ true → (b : Bool) → is_source now q ≡ b → is_source now q ≡ true
    by q to true is = is
    by q to false is =
        let before = u.ends q (to, is) (λ e. let no = ap (is_target now) e ∙ none in absurd (cc (no, to))) in
        let met : is_source (p ∷ ps) q ≡ true = none_free (p ∷ ps) (p ∷ ps) stuck q (grind (arith, nat_tests, before.0)) in
        absurd (grind (arith, nat_tests, met, before.0, before.1))

ring_opens : (p : Pair) (ps now : List Pair) (hole : ℕ) → AreDistinct (p ∷ ps) → first_free (p ∷ ps) (p ∷ ps) ≡ None → Unwound ps (p.0).0 now hole → AreDistinct now → first_free now now ≡ None
    → openings (length (p ∷ ps)) (p ∷ ps) ≡ 1 + openings (length now) now
ring_opens p ps now hole d stuck u dn closed =
    let n = length ps in
    let l = later n ps (omega arith) d.2 in
    let ends : inside n ps ≡ now = sym (u.same n (omega arith)) ∙ inside-stuck n now closed in
    let few : length now ≤ l.turns = subst (λ k. length k ≤ l.turns) ends l.suffice in
    let opened : openings (suc n) (p ∷ ps) ≡ suc (openings n ps) = ap (λ o. opens_at (p ∷ ps) o + openings n (left_at (p ∷ ps) o)) stuck ∙ omega arith in
    opened ∙ (let rest = l.opened ∙ ap (openings l.turns) ends ∙ openings-turns l.turns (length now) now few (omega arith) dn in omega (arith, rest))

-- the first pair after those that are done is one that remains
pub cycle_taken : (pairs rest : List Pair) (p : Pair) (before table now : SourceTable) (s : PReg) (hole : ℕ) → AreDistinct pairs
    → first_free (left_of before pairs) (left_of before pairs) ≡ None → left_of before (p ∷ rest) ≡ left_of before pairs → slice_index_or before (p.1).0 None ≡ Some s
    → left_of table pairs ≡ without (p.1).0 (left_of before pairs) → Others before (p.1).0 table
    → TakenBack pairs table (p.0).0 now hole → is_target (left_of now pairs) hole ≡ false → CycleTaken pairs rest before now true
cycle_taken pairs rest p before table now s hole d stuck here is e others t none = record {
  holds = t.holds;
  closed = ring_closes p ps (left_of now pairs) hole stuck' u none;
  later = sym (left-left before now rest both) ∙ ap (left_of now) (sym left) ∙ left-left table now pairs t.taken;
  number = ap (λ k. openings (length k) k) (sym whole) ∙ ring_opens p ps (left_of now pairs) hole d' stuck' u (distinct-left now pairs d) (ring_closes p ps (left_of now pairs) hole stuck' u none);
}
  where
    ps : List Pair
    ps = left_of before rest

    whole : p ∷ ps ≡ left_of before pairs
    whole = ap (λ o. if is_some o then p ∷ ps else ps) (sym is) ∙ here

    d' : AreDistinct (p ∷ ps)
    d' = subst AreDistinct (sym whole) (distinct-left before pairs d)

    stuck' : first_free (p ∷ ps) (p ∷ ps) ≡ None
    stuck' = subst (λ k. first_free k k ≡ None) (sym whole) stuck

    left : left_of table pairs ≡ ps
    left = e ∙ ap (without (p.1).0) (sym whole) ∙ grind (arith, nat_tests, without_none (p.1).0 ps, d'.1)

    u : Unwound ps (p.0).0 (left_of now pairs) hole
    u = subst (λ k. Unwound k (p.0).0 (left_of now pairs) hole) left t.unwound

    both : (q : ℕ) → slice_index_or before q None ≡ None → slice_index_or now q None ≡ None
    both q none = t.taken q (gone before table (p.1).0 others q none)

-- where the pair is taken, no other pair goes to its source
pub no_source_taken : (pairs rest : List Pair) (p : Pair) (before table : SourceTable) (s : PReg) → AreDistinct pairs
    → left_of before (p ∷ rest) ≡ left_of before pairs → slice_index_or before (p.1).0 None ≡ Some s → left_of table pairs ≡ without (p.1).0 (left_of before pairs)
    → is_source (left_of table pairs) (p.0).0 ≡ false
no_source_taken pairs rest p before table s d here is e =
    let whole : p ∷ left_of before rest ≡ left_of before pairs = ap (λ o. if is_some o then p ∷ left_of before rest else left_of before rest) (sym is) ∙ here in
    let d' : AreDistinct (p ∷ left_of before rest) = subst AreDistinct (sym whole) (distinct-left before pairs d) in
    ap (λ k. is_source k (p.0).0) (e ∙ ap (without (p.1).0) (sym whole)) ∙ grind (arith, nat_tests, is_source-without (p.1).0 (p.0).0 (left_of before rest), d'.0)
