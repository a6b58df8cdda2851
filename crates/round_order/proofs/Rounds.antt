-- Turns in round order: who is next, and what a turn adds to the run so far.
use Rattle.std.proofs.Common.{◌≡◌, ℕ, zero, suc, ◌+◌, ◌-◌, ◌<◌, ◌≤◌, List, [], ◌∷◌, ◌++◌, length, Option, Some, None, Bool, true, false, refl, sym, ap, ◌∙◌, subst, arith, inl, inr}
use Rattle.std.specs.Prelude.{slice_get, nat_lt, find, ◌||◌, ◌&&◌, ◌⊎◌, if◌then◌else◌}
use Rattle.std.specs.List.{list_any, list_all, flat_map, range_with_len}
use Rattle.std.proofs.lemmas.Bool.{ltb-true, ltb-false, cases_eq}
use Rattle.std.proofs.lemmas.Option.{same_Some}
use Rattle.std.proofs.lemmas.List.{append-nil, append_assoc}
use Rattle.std.proofs.lemmas.List.Folds.{find-append, list_all-append}
use Rattle.std.proofs.lemmas.Grind.{flat_map-append}
use Rattle.std.specs.Option.{option_or}
use Rattle.micro_isa.specs.declared.limits.TheConstants.{MOST_CONTEXTS}
use Rattle.world.specs.declared.event.Phase.{Phase}
use Rattle.world.specs.declared.event.Event.TheVariants.{Run}
use Rattle.world.specs.declared.event.Seen.{Seen}
use Rattle.world.specs.declared.event.Seen.TheVariants as seen
use Rattle.world.specs.declared.event.SegmentEnd.{SegmentEnd}
use Rattle.world.specs.declared.event.Segment.{Segment}
use Rattle.world.specs.declared.event.Entry.{Entry}
use Rattle.world.specs.declared.event.Entry.TheVariants.{Ran}
use Rattle.world.specs.declared.event.Illegal.TheVariants as illegal
use Rattle.world.specs.declared.event.End.TheVariants as ending
use Rattle.world.specs.WorldState.{WorldState, has_open_input}
use Rattle.semantics.specs.Core.{Core, can_go_on, is_runnable, illegal_of, has_ended, some_runnable, ending_of}
use Rattle.semantics.specs.Rounds.{behind, next_in_round}
use Rattle.semantics.specs.Moves.{Turn, entries_of, first_round}
use Rattle.semantics.specs.Entries.{entry_seen}
use Rattle.semantics.specs.Events.{Semantics, Config, fire, step, unless_illegal}
use Rattle.semantics.proofs.Moves.{rounds_more}
use Rattle.run_state.specs.Segments.{GoesOn}
use Rattle.round_order.specs.RoundRuns.{is_bare_turn}
use Rattle.round_order.specs.Journals.{IsTurn, TakesTurns, IsRunSoFar, RanAs}

-- a segment that may happen, and its entry
pub turn_is : {X : Type 0} (rules : Semantics X) (before after : Config X) (c : ℕ) (s : Segment) → illegal_of before.core (Run c) ≡ None → fire rules before (Run c) ≡ (after, seen.Ran s) → IsTurn rules before after (Ran c s.steps s.end)
turn_is rules before after c s legal happened = record {
  seen = seen.Ran s;
  happened = ap (λ o. unless_illegal o (fire rules before (Run c))) legal ∙ ap Some happened;
  told = refl;
}

-- a run that has no ending goes on
pub record GoesOnStill (core : Core) : Type 0 where
  pub open_still : core.over ≡ false
  pub some : (some_runnable core || has_open_input core.world) ≡ true

still_by : (core : Core) (o a r : Bool) → core.over ≡ o → (some_runnable core || has_open_input core.world) ≡ r → (if o then Some ending.Bound else (if a then Some ending.Finished else (if r then None else Some ending.Stuck))) ≡ None → GoesOnStill core
still_by core true a r eo er h = absurd (cc)
still_by core false true r eo er h = absurd (cc)
still_by core false false true eo er h = record { open_still = eo; some = er }
still_by core false false false eo er h = absurd (cc)

pub still : (core : Core) → ending_of core ≡ None → GoesOnStill core
still core h = still_by core core.over (list_all has_ended core.phases) (some_runnable core || has_open_input core.world) refl refl h

-- some context is runnable
record Someone (w : WorldState) (phases : List Phase) : Type 0 where
  c : ℕ
  there : c < length phases
  can : can_go_on w (slice_get phases c) ≡ true

someone_by : (w : WorldState) (p : Phase) (ps : List Phase) (b : Bool) → can_go_on w (Some p) ≡ b → (list_any (λ q. can_go_on w (Some q)) ps ≡ true → Someone w ps) → list_any (λ q. can_go_on w (Some q)) (p ∷ ps) ≡ true → Someone w (p ∷ ps)
someone_by w p ps true e ih h = record { c = 0; there = omega arith; can = e }
someone_by w p ps false e ih h =
    let rest = ih (sym (ap (λ b. b || list_any (λ q. can_go_on w (Some q)) ps) e) ∙ h) in
    record { c = suc rest.c; there = omega (arith, rest.there); can = rest.can }

someone_in : (w : WorldState) (phases : List Phase) → list_any (λ p. can_go_on w (Some p)) phases ≡ true → Someone w phases
someone_in w [] h = absurd (cc)
someone_in w (p ∷ ps) h = someone_by w p ps (can_go_on w (Some p)) refl (someone_in w ps) h

-- numbers in a row: the first one, and those behind it
pub range_step : (a to : ℕ) → a < to → range_with_len a (to - a) ≡ a ∷ range_with_len (a + 1) (to - (a + 1))
range_step a to lt = let e : to - a ≡ suc (to - (a + 1)) = omega arith in ap (range_with_len a) e

pub range_none : (a to : ℕ) → to ≤ a → range_with_len a (to - a) ≡ []
range_none a to le = let e : to - a ≡ 0 = omega arith in ap (range_with_len a) e

find_by : (p : ℕ → Bool) (x : ℕ) (xs : List ℕ) (b : Bool) → p x ≡ b → find p (x ∷ xs) ≡ (if b then Some x else find p xs)
find_by p x xs true e = ap (λ b. if b then Some x else find p xs) e
find_by p x xs false e = ap (λ b. if b then Some x else find p xs) e

found_by : (p : ℕ → Bool) (x c : ℕ) (xs : List ℕ) (b : Bool) → p x ≡ b → (find p xs ≡ Some c → p c ≡ true) → find p (x ∷ xs) ≡ Some c → p c ≡ true
found_by p x c xs true e ih h = subst (λ y. p y ≡ true) (same_Some x c (sym (find_by p x xs true e) ∙ h)) e
found_by p x c xs false e ih h = ih (sym (find_by p x xs false e) ∙ h)

-- what is found passes the test
found : (p : ℕ → Bool) (xs : List ℕ) (c : ℕ) → find p xs ≡ Some c → p c ≡ true
found p [] c h = absurd (cc)
found p (x ∷ xs) c h = found_by p x c xs (p x) refl (found p xs c) h

-- a number stands in a list
abbrev IsIn : ℕ → List ℕ → Type 0
IsIn c [] = ⊥
IsIn c (x ∷ xs) = (c ≡ x) ⊎ IsIn c xs

missed_by : (p : ℕ → Bool) (x c : ℕ) (xs : List ℕ) (b : Bool) → p x ≡ b → (IsIn c xs → find p xs ≡ None → ⊥) → IsIn c (x ∷ xs) → p c ≡ true → find p (x ∷ xs) ≡ None → ⊥
missed_by p x c xs true e ih i passes h = let f : Some x ≡ None = sym (find_by p x xs true e) ∙ h in absurd (cc)
missed_by p x c xs false e ih (inl same) passes h = let f : p x ≡ true = sym (ap p same) ∙ passes in absurd (cc)
missed_by p x c xs false e ih (inr rest) passes h = ih rest (sym (find_by p x xs false e) ∙ h)

-- where a number of the list passes, something is found
not_missed : (p : ℕ → Bool) (xs : List ℕ) (c : ℕ) → IsIn c xs → p c ≡ true → find p xs ≡ None → ⊥
not_missed p [] c is_in passes h = is_in
not_missed p (x ∷ xs) c is_in passes h = missed_by p x c xs (p x) refl (λ i n. not_missed p xs c i passes n) is_in passes h

in_range : (n a c : ℕ) → a ≤ c → c < a + n → IsIn c (range_with_len a n)
in_range zero a c le lt = absurd (omega arith)
in_range (suc n) a c le lt = elim (cases_eq c a) [
  | inl e ↦ inl e
  | inr ne ↦ inr (in_range n (a + 1) c (omega (arith, ne)) (omega arith))
]

in_left : (c : ℕ) (xs ys : List ℕ) → IsIn c xs → IsIn c (xs ++ ys)
in_left c [] ys h = absurd h
in_left c (x ∷ xs) ys (inl e) = inl e
in_left c (x ∷ xs) ys (inr h) = inr (in_left c xs ys h)

in_right : (c : ℕ) (xs ys : List ℕ) → IsIn c ys → IsIn c (xs ++ ys)
in_right c [] ys h = h
in_right c (x ∷ xs) ys h = inr (in_right c xs ys h)

-- every context has its turn
in_behind : (n c : ℕ) (last : Option ℕ) → c < n → IsIn c (behind n last)
in_behind n c None lt = in_range n 0 c (omega arith) (omega arith)
in_behind n c (Some l) lt = at (nat_lt l c) refl
  where
    at : (b : Bool) → nat_lt l c ≡ b → IsIn c (behind n (Some l))
    at true e =
        let above = ltb-true l c e in
        in_left c (range_with_len (l + 1) (n - (l + 1))) (range_with_len 0 (l + 1)) (in_range (n - (l + 1)) (l + 1) c (omega arith) (omega arith))
    at false e =
        let below = ltb-false l c e in
        in_right c (range_with_len (l + 1) (n - (l + 1))) (range_with_len 0 (l + 1)) (in_range (l + 1) 0 c (omega arith) (omega arith))

-- where a run goes on and no word can come from outside, some context is next
pub somebody_next : (core : Core) (last : Option ℕ) → ending_of core ≡ None → has_open_input core.world ≡ false → next_in_round core last ≡ None → ⊥
somebody_next core last goes closed h =
    let s = still core goes in
    let some : some_runnable core ≡ true = or_left (some_runnable core) (has_open_input core.world) closed s.some in
    let one = someone_in core.world core.phases some in
    not_missed (is_runnable core) (behind (length core.phases) last) one.c (in_behind (length core.phases) one.c last one.there) one.can h
  where
    or_left : (a b : Bool) → b ≡ false → (a || b) ≡ true → a ≡ true
    or_left true b e h = refl
    or_left false b e h = absurd (cc)

-- who is next can go on
pub next_can : (core : Core) (last : Option ℕ) (c : ℕ) → next_in_round core last ≡ Some c → is_runnable core c ≡ true
next_can core last c h = found (is_runnable core) (behind (length core.phases) last) c h

nobody_by : (core : Core) (last : Option ℕ) (b : Bool) → some_runnable core ≡ b → next_in_round core last ≡ None → some_runnable core ≡ false
nobody_by core last false e h = e
nobody_by core last true e h =
    let one = someone_in core.world core.phases e in
    absurd (not_missed (is_runnable core) (behind (length core.phases) last) one.c (in_behind (length core.phases) one.c last one.there) one.can h)

-- where nobody is next no context can go on
pub nobody_next : (core : Core) (last : Option ℕ) → next_in_round core last ≡ None → some_runnable core ≡ false
nobody_next core last h = nobody_by core last (some_runnable core) refl h

there_where : (w : WorldState) (phases : List Phase) (c : ℕ) → can_go_on w (slice_get phases c) ≡ true → c < length phases
there_where w [] c h = absurd (cc)
there_where w (p ∷ ps) zero h = omega arith
there_where w (p ∷ ps) (suc c) h = omega (arith, there_where w ps c h)

legal_by : (core : Core) (c : ℕ) (b : Bool) → nat_lt c (length core.phases) ≡ b → c < length core.phases → core.over ≡ false → is_runnable core c ≡ true → illegal_of core (Run c) ≡ None
legal_by core c true e lt open_still can =
    ap (λ o. if o then Some illegal.Over else (if nat_lt c (length core.phases) then (if is_runnable core c then None else Some illegal.NotRunnable) else Some illegal.NoContext)) open_still
    ∙ ap (λ t. if t then (if is_runnable core c then None else Some illegal.NotRunnable) else Some illegal.NoContext) e
    ∙ ap (λ r. if r then None else Some illegal.NotRunnable) can
legal_by core c false e lt open_still can = absurd (let below = ltb-false c (length core.phases) e in omega arith)

-- the context whose turn is next may run
pub next_is_legal : (core : Core) (last : Option ℕ) (c : ℕ) → ending_of core ≡ None → next_in_round core last ≡ Some c → illegal_of core (Run c) ≡ None
next_is_legal core last c goes h =
    let can = found (is_runnable core) (behind (length core.phases) last) c h in
    legal_by core c (nat_lt c (length core.phases)) refl (there_where core.world core.phases c can) (still core goes).open_still can

-- the turns begin behind the entries of the opening
pub no_turn_yet : {X : Type 0} (rules : Semantics X) (before : Config X) (opening : List Entry) → has_open_input before.core.world ≡ false → IsRunSoFar rules before before opening opening None
no_turn_yet rules before opening closed = record {
  gone = record { moves = []; behind = sym (append-nil opening); order = (refl, refl); turns = refl };
  closed = closed;
  small = λ x is. absurd (cc);
}

and_true : (a b : Bool) → a ≡ true → b ≡ true → (a && b) ≡ true
and_true true b e f = f
and_true false b e f = e

-- a turn more
takes_more : {X : Type 0} (rules : Semantics X) (before now after : Config X) (opening entries : List Entry) (last : Option ℕ) (c steps : ℕ) (end : SegmentEnd) (seen : Seen) → TakesTurns rules before now opening entries last → next_in_round now.core last ≡ Some c → step rules now (Run c) ≡ Some (after, seen) → entry_seen (Ran c steps end) seen ≡ Ran c steps end → TakesTurns rules before after opening (entries ++ Ran c steps end ∷ []) (Some c)
takes_more rules before now after opening entries last c steps end seen gone next did told =
    let move = Turn c steps end None in
    record {
      moves = gone.moves ++ move ∷ [];
      behind = ap (λ l. l ++ Ran c steps end ∷ []) gone.behind
          ∙ append_assoc opening (flat_map entries_of gone.moves) (Ran c steps end ∷ [])
          ∙ ap (λ l. opening ++ l) (sym (flat_map-append entries_of gone.moves (move ∷ [])));
      order = rounds_more rules before now after first_round (record { last = last; idle = 0 }) gone.moves move gone.order (next, tt) (after, seen, did, told, refl);
      turns = list_all-append is_bare_turn gone.moves (move ∷ []) ∙ and_true (list_all is_bare_turn gone.moves) true gone.turns refl;
    }

-- a turn adds its entry to the journal
pub turn_more : {X : Type 0} (rules : Semantics X) (before now after : Config X) (opening entries : List Entry) (last : Option ℕ) (c : ℕ) (e : Entry) → IsRunSoFar rules before now opening entries last → next_in_round now.core last ≡ Some c → GoesOn now.core after.core → IsTurn rules now after e → RanAs c e → c < MOST_CONTEXTS → IsRunSoFar rules before after opening (entries ++ e ∷ []) (Some c)
turn_more rules before now after opening entries last c e so next goes turn ran low =
    let is = subst (IsTurn rules now after) ran.2 turn in
    record {
      gone = subst (λ x. TakesTurns rules before after opening (entries ++ x ∷ []) (Some c)) (sym ran.2) (takes_more rules before now after opening entries last c ran.0 ran.1 is.seen so.gone next is.happened is.told);
      closed = goes.inputs ∙ so.closed;
      small = λ x same. subst (λ y. y < MOST_CONTEXTS) (same_Some c x same) low;
    }

-- the search behind a context, in two parts
pub next_found : (p : ℕ → Bool) (n l c : ℕ) → Some c ≡ find p (range_with_len (l + 1) (n - (l + 1))) → Some c ≡ find p (behind n (Some l))
next_found p n l c h =
    ap (λ o. option_or o (find p (range_with_len 0 (l + 1)))) h ∙ sym (find-append p (range_with_len (l + 1) (n - (l + 1))) (range_with_len 0 (l + 1)))

pub next_missed : (p : ℕ → Bool) (n l : ℕ) → None ≡ find p (range_with_len (l + 1) (n - (l + 1))) → find p (range_with_len 0 (l + 1 - 0)) ≡ find p (behind n (Some l))
next_missed p n l h =
    let e : l + 1 - 0 ≡ l + 1 = omega arith in
    ap (λ k. find p (range_with_len 0 k)) e
    ∙ ap (λ o. option_or o (find p (range_with_len 0 (l + 1)))) h
    ∙ sym (find-append p (range_with_len (l + 1) (n - (l + 1))) (range_with_len 0 (l + 1)))
