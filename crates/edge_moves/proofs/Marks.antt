-- The set of the sources of what remains, kept from turn to turn.
use Rattle.std.proofs.Common.{◌≡◌, ◌≢◌, ℕ, zero, suc, ◌+◌, ◌<◌, List, [], ◌∷◌, ◌++◌, length, take, drop, Option, Some, None, Bool, true, false, refl, sym, ap, ◌∙◌, subst, arith}
use Rattle.std.specs.Prelude.{not, slice_get, slice_index_or, ◌==◌, ◌&&◌, ◌||◌, if◌then◌else◌}
use Rattle.std.proofs.lemmas.Bool.Decides.{nat_tests}
use Rattle.std.proofs.lemmas.Option.{slice_get-get_or, get_or_from_slice_get}
use Rattle.micro_isa.specs.declared.image.PReg.{PReg}
use Rattle.edge_moves.specs.MoveSteps.{Pair, is_source, first_free, without, renamed, target_of, joined}
use Rattle.edge_moves.specs.ParallelMove.{source_to, is_target, AreDistinct}
use Rattle.edge_moves.specs.declared.step.Step.{Step}
use Rattle.edge_moves.specs.declared.step.Step.TheVariants.{Mov}
use Rattle.edge_moves.specs.Remaining.{Remains, AreSources, IsMovedAt}
use Rattle.edge_moves.proofs.Lists.{is_source-without, is_source_found, source_of_target, target_at, source_at, drop_pair}
use Rattle.edge_moves.proofs.Cycles.{kept_source, dropped_source}
use Rattle.edge_moves.proofs.Parallel.{no_source, next_source}

-- the pair with this target was taken out
taken_source : (left : List Pair) (t s q : ℕ) → AreDistinct left → source_to left t ≡ Some s → (not (s == q) && is_source left q) ≡ is_source (without t left) q
taken_source left t s q d to = by (s == q) refl (is_source left q) refl
  where
    by : (b : Bool) → (s == q) ≡ b → (c : Bool) → is_source left q ≡ c → (not b && c) ≡ is_source (without t left) q
    by true is c e = grind (arith, nat_tests, dropped_source left t s d to)
    by false is true e = sym (kept_source left t s q d to (grind (arith, nat_tests)) e)
    by false is false e = sym (is_source-without t q left e)

pub taken : (left : List Pair) (set after : List Bool) (t s : ℕ) → AreDistinct left → source_to left t ≡ Some s
    → ((q : ℕ) → slice_index_or after q false ≡ (not (s == q) && slice_index_or set q false)) → AreSources left set → AreSources (without t left) after
taken left set after t s d to told are = record {
  exact = λ q. told q ∙ ap (λ b. not (s == q) && b) (are.exact q) ∙ taken_source left t s q d to;
}

-- another source in place of one
renamed_source : (a q : ℕ) (b : PReg) (ps : List Pair) → a ≢ b.0 → is_source (renamed a b ps) q ≡ ((b.0 == q && is_source ps a) || (not (a == q) && is_source ps q))
renamed_source a q b [] ne = grind (arith, nat_tests)
renamed_source a q b (p ∷ ps) ne = grind (arith, nat_tests, renamed_source a q b ps)

opened_source : (f s t q : ℕ) (rest : Bool) → (f ≡ q → s ≢ q) → (s ≡ q → rest ≡ false)
    → (f == q || (not (t == q) && (not (s == q) && (if s == q then true else rest)))) ≡ ((f == q && true) || (not (t == q) && rest))
opened_source f s t q true apart low = grind (arith, nat_tests)
opened_source f s t q false apart low = grind (arith, nat_tests)

pub opened : (f : PReg) (p : Pair) (ps : List Pair) (set one two three : List Bool) → Remains (Some f) (p ∷ ps) → first_free (p ∷ ps) (p ∷ ps) ≡ None
    → ((q : ℕ) → slice_index_or one q false ≡ (not ((p.0).0 == q) && slice_index_or set q false))
    → ((q : ℕ) → slice_index_or two q false ≡ (not ((p.1).0 == q) && slice_index_or one q false))
    → ((q : ℕ) → slice_index_or three q false ≡ (f.0 == q || slice_index_or two q false))
    → AreSources (p ∷ ps) set → AreSources (renamed (p.1).0 f ps) three
opened f p ps set one two three r stuck first second third are = record {
  exact = λ q.
      let nos : is_source (p ∷ ps) f.0 ≡ false = no_source f (p ∷ ps) r stuck in
      let next : is_source ps (p.1).0 ≡ true = next_source (Some f) p ps r stuck in
      let none : is_source ps (p.0).0 ≡ false = r.distinct.0 in
      let kept : is_target (p ∷ ps) f.0 ≡ false = r.kept in
      let ne : (p.1).0 ≢ f.0 = grind (arith, nat_tests) in
      let apart : f.0 ≡ q → (p.0).0 ≢ q = grind (arith, nat_tests) in
      let low : (p.0).0 ≡ q → is_source ps q ≡ false = λ same. subst (λ n. is_source ps n ≡ false) same none in
      third q
      ∙ ap (λ b. f.0 == q || b) (second q ∙ ap (λ b. not ((p.1).0 == q) && b) (first q ∙ ap (λ b. not ((p.0).0 == q) && b) (are.exact q)))
      ∙ opened_source f.0 (p.0).0 (p.1).0 q (is_source ps q) apart low
      ∙ ap (λ b. (f.0 == q && b) || (not ((p.1).0 == q) && is_source ps q)) (sym next)
      ∙ sym (renamed_source (p.1).0 q f ps ne);
}

-- the pairs from and to a register were made one
pub joins : (p : Pair) (ps : List Pair) (u : PReg) (set one two : List Bool) → Remains None (p ∷ ps) → target_of ps (p.1).0 ≡ Some u
    → ((q : ℕ) → slice_index_or one q false ≡ (not ((p.1).0 == q) && slice_index_or set q false))
    → ((q : ℕ) → slice_index_or two q false ≡ (if u.0 == (p.0).0 then (not ((p.0).0 == q) && slice_index_or one q false) else slice_index_or one q false))
    → AreSources (p ∷ ps) set → AreSources (joined p.0 ps (Some u)) two
joins p ps u set one two r to first second are = by (u.0 == (p.0).0) refl
  where
    from_there : source_to ps u.0 ≡ Some (p.1).0
    from_there = source_of_target ps (p.1).0 u r.distinct.2 to

    one_is : (q : ℕ) → slice_index_or one q false ≡ (not ((p.1).0 == q) && (if (p.0).0 == q then true else is_source ps q))
    one_is q = first q ∙ ap (λ b. not ((p.1).0 == q) && b) (are.exact q)

    by : (b : Bool) → (u.0 == (p.0).0) ≡ b → AreSources (if b then without u.0 ps else (p.0, u) ∷ without u.0 ps) two
    by true is = record {
      exact = λ q.
          let rest = taken_source ps u.0 (p.1).0 q r.distinct.2 from_there in
          let none : is_source ps (p.0).0 ≡ false = r.distinct.0 in
          let now = second q in
          let was = one_is q in
          grind (arith, nat_tests, rest, none, now, was);
    }
    by false is = record {
      exact = λ q.
          let rest = taken_source ps u.0 (p.1).0 q r.distinct.2 from_there in
          let ne = r.stay.0 in
          let now = second q in
          let was = one_is q in
          grind (arith, nat_tests, rest, ne, now, was);
    }

-- taken out at its place
without_none : (ps : List Pair) (t : ℕ) → is_target ps t ≡ false → without t ps ≡ ps
without_none [] t h = refl
without_none (p ∷ ps) t h = grind (arith, nat_tests, without_none ps t)

pub removed : (ps : List Pair) (i : ℕ) (p : Pair) → AreDistinct ps → slice_get ps i ≡ Some p → take i ps ++ drop (suc i) ps ≡ without (p.1).0 ps
removed [] i p d e = absurd (cc)
removed (h ∷ ps) zero p d e =
    let same : h ≡ p = cc in
    subst (λ k. ps ≡ without (k.1).0 (h ∷ ps)) same (let off = without_none ps (h.1).0 d.1 in grind (arith, nat_tests))
removed (h ∷ ps) (suc i) p d e =
    let there = target_at ps i p e in
    let rest = removed ps i p d.2 e in
    grind (arith, nat_tests, rest, there, d.1)

-- the lemmas as the code asks for them
pub first_here : (left : List Pair) (i : ℕ) (d : Pair) → i < length left → is_source left ((slice_index_or left i d).1).0 ≡ false
    → first_free left (drop i left) ≡ first_free left left → (i < length left) × (first_free left left ≡ slice_get left i)
first_here left i d inside is_none before = (
  inside,
  sym before ∙ ap (first_free left) (drop_pair left i d inside)
      ∙ ap (λ b. if b then first_free left (drop (i + 1) left) else Some (slice_index_or left i d)) is_none
      ∙ sym (slice_get-get_or left i d inside),
)

pub moved_at : (left rest : List Pair) (i : ℕ) (r : Pair) (ss after : List Step) → AreDistinct left → r ≡ slice_index_or left i r
    → rest ≡ take i left ++ drop (i + 1) left → after ≡ ss ++ Mov r.1 r.0 ∷ [] → IsMovedAt left i rest ss after
moved_at left rest i r ss after d value gone pushed = record {
  each = λ p is.
      let same : r ≡ p = value ∙ get_or_from_slice_get left i p r is in
      let next : i + 1 ≡ suc i = omega arith in
      (gone ∙ ap (λ n. take i left ++ drop n left) next ∙ removed left i p d is, pushed ∙ ap (λ (k : Pair). ss ++ Mov k.1 k.0 ∷ []) same);
}

pub moved_sources : (left rest : List Pair) (i : ℕ) (r : Pair) (set after : List Bool) → AreDistinct left → i < length left → r ≡ slice_index_or left i r
    → rest ≡ take i left ++ drop (i + 1) left → ((q : ℕ) → slice_index_or after q false ≡ (not ((r.0).0 == q) && slice_index_or set q false))
    → AreSources left set → AreSources rest after
moved_sources left rest i r set after d here value gone told are =
    let is : slice_get left i ≡ Some r = slice_get-get_or left i r here ∙ ap (λ (k : Pair). Some k) (sym value) in
    let next : i + 1 ≡ suc i = omega arith in
    let rest_is : rest ≡ without (r.1).0 left = gone ∙ ap (λ n. take i left ++ drop n left) next ∙ removed left i r d is in
    subst (λ k. AreSources k after) (sym rest_is) (taken left set after (r.1).0 (r.0).0 d (source_at left i r d is) told are)

pub opened_sources : (free : Option PReg) (f : PReg) (left rest last : List Pair) (r : Pair) (n : ℕ) (empty : Bool) (set one two three : List Bool) → Remains free left
    → first_free left left ≡ None → n ≡ length left → empty ≡ (n == 0) → empty ≡ false → free ≡ Some f → r ≡ slice_index_or left 0 r
    → rest ≡ take 0 left ++ drop (0 + 1) left → last ≡ renamed (r.1).0 f rest
    → ((q : ℕ) → slice_index_or one q false ≡ (not ((r.0).0 == q) && slice_index_or set q false))
    → ((q : ℕ) → slice_index_or two q false ≡ (not ((r.1).0 == q) && slice_index_or one q false))
    → ((q : ℕ) → slice_index_or three q false ≡ (f.0 == q || slice_index_or two q false))
    → AreSources left set → AreSources last three
opened_sources free f [] rest last r n empty set one two three remains stuck long is_empty not_empty is value gone now first second third are =
    absurd (let all : empty ≡ true = is_empty ∙ ap (λ k. k == 0) long in cc)
opened_sources free f (p ∷ ps) rest last r n empty set one two three remains stuck long is_empty not_empty is value gone now first second third are =
    let last_is : last ≡ renamed (p.1).0 f ps = now ∙ ap (λ (k : Pair). renamed (k.1).0 f rest) value ∙ ap (λ k. renamed (p.1).0 f k) gone in
    subst (λ k. AreSources k three) (sym last_is)
    (opened f p ps set one two three (subst (λ o. Remains o (p ∷ ps)) is remains) stuck
    (subst (λ (k : Pair). (q : ℕ) → slice_index_or one q false ≡ (not ((k.0).0 == q) && slice_index_or set q false)) value first)
    (subst (λ (k : Pair). (q : ℕ) → slice_index_or two q false ≡ (not ((k.1).0 == q) && slice_index_or one q false)) value second) third are)

pub joined_sources : (free : Option PReg) (left rest last : List Pair) (r : Pair) (to : Option PReg) (n : ℕ) (empty : Bool) (set one two : List Bool) → Remains free left
    → first_free left left ≡ None → n ≡ length left → empty ≡ (n == 0) → empty ≡ false → free ≡ None → r ≡ slice_index_or left 0 r
    → rest ≡ take 0 left ++ drop (0 + 1) left → to ≡ target_of rest (r.1).0 → last ≡ joined r.0 rest to
    → ((q : ℕ) → slice_index_or one q false ≡ (not ((r.1).0 == q) && slice_index_or set q false))
    → ((u : PReg) → to ≡ Some u → (q : ℕ) → slice_index_or two q false ≡ (if u.0 == (r.0).0 then (not ((r.0).0 == q) && slice_index_or one q false) else slice_index_or one q false))
    → AreSources left set → AreSources last two
joined_sources free [] rest last r to n empty set one two remains stuck long is_empty not_empty is value gone to_is now first second are =
    absurd (let all : empty ≡ true = is_empty ∙ ap (λ k. k == 0) long in cc)
joined_sources free (p ∷ ps) rest last r to n empty set one two remains stuck long is_empty not_empty is value gone to_is now first second are = by to refl
  where
    whole : Remains None (p ∷ ps)
    whole = subst (λ o. Remains o (p ∷ ps)) is remains

    to_here : to ≡ target_of ps (p.1).0
    to_here = to_is ∙ ap (λ (k : Pair). target_of rest (k.1).0) value ∙ ap (λ k. target_of k (p.1).0) gone

    last_is : last ≡ joined p.0 ps to
    last_is = now ∙ ap (λ (k : Pair). joined k.0 rest to) value ∙ ap (λ k. joined p.0 k to) gone

    by : (o : Option PReg) → to ≡ o → AreSources last two
    by None e = absurd (
        let off = is_source_found ps (p.1).0 (sym to_here ∙ e) in
        let on = next_source None p ps whole stuck in
        cc)
    by (Some u) e =
        subst (λ k. AreSources k two) (sym (last_is ∙ ap (λ o. joined p.0 ps o) e))
        (joins p ps u set one two whole (sym to_here ∙ e)
        (subst (λ (k : Pair). (q : ℕ) → slice_index_or one q false ≡ (not ((k.1).0 == q) && slice_index_or set q false)) value first)
        (subst (λ (k : Pair). (q : ℕ) → slice_index_or two q false ≡ (if u.0 == (k.0).0 then (not ((k.0).0 == q) && slice_index_or one q false) else slice_index_or one q false)) value (second u e)) are)
