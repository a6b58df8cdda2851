-- What remains, as a table of sources.
use Rattle.std.proofs.Common.{◌≡◌, ◌≢◌, ℕ, zero, suc, ◌<◌, ◌≤◌, List, [], ◌∷◌, length, replicate, Option, Some, None, Bool, true, false, refl, sym, ap, ◌∙◌, arith, drop}
use Rattle.std.specs.Prelude.{◌==◌, is_some, if◌then◌else◌, slice_set, slice_index_or}
use Rattle.std.proofs.lemmas.List.{get_or-set_same, get_or-set_other, length-set, drop_all}
use Rattle.std.proofs.lemmas.Bool.Decides.{nat_tests}
use Rattle.micro_isa.specs.declared.image.PReg.{PReg}
use Rattle.edge_moves.specs.MoveSteps.{Pair, moving, is_source, without}
use Rattle.edge_moves.specs.ParallelMove.{source_to, is_target, AreDistinct}
use Rattle.edge_moves.specs.Tally.{SourceTable, number_of, Holds, filled, is_left, left_of}
use Rattle.edge_moves.proofs.Lists.{no_target, is_target_none, source_to-without, is_target-moving}

-- one entry is taken
pub left-taken : (table : SourceTable) (t : ℕ) (pairs : List Pair) → t < length table → left_of (slice_set table t None) pairs ≡ without t (left_of table pairs)
left-taken table t [] h = refl
left-taken table t (p ∷ ps) h = grind (arith, nat_tests, left-taken table t ps h, get_or-set_same table t None None h, get_or-set_other table t (p.1).0 None None)

pub entry-taken : (table : SourceTable) (t q : ℕ) → t < length table → slice_index_or (slice_set table t None) q None ≡ (if q == t then None else slice_index_or table q None)
entry-taken table t q h = grind (arith, nat_tests, get_or-set_same table t None None h, get_or-set_other table t q None None)

pub filled-taken : (table : SourceTable) (t : ℕ) → is_some (slice_index_or table t None) ≡ true → filled (slice_set table t None) < filled table
filled-taken [] t h = absurd (cc)
filled-taken (None ∷ rest) zero h = absurd (cc)
filled-taken (Some r ∷ rest) zero h = omega arith
filled-taken (None ∷ rest) (suc t) h = filled-taken rest t h
filled-taken (Some r ∷ rest) (suc t) h = omega (arith, filled-taken rest t h)

pub holds-taken : (table table' : SourceTable) (left left' : List Pair) (t : ℕ) → Holds table left → left' ≡ without t left
    → ((q : ℕ) → slice_index_or table' q None ≡ (if q == t then None else slice_index_or table q None)) → Holds table' left'
holds-taken table table' left left' t h e others = record {
  at = λ q. ap number_of (others q) ∙ by q (q == t) refl ∙ sym (source_to-without t q left) ∙ ap (λ k. source_to k q) (sym e);
}
  where
    by : (q : ℕ) (b : Bool) → (q == t) ≡ b → number_of (if b then None else slice_index_or table q None) ≡ (if b then None else source_to left q)
    by q true is = refl
    by q false is = h.at q

-- an entry that is not there
pub none_at : (table : SourceTable) (left : List Pair) (t : ℕ) → Holds table left → slice_index_or table t None ≡ None → is_target left t ≡ false
none_at table left t h is = is_target_none left t (sym (h.at t) ∙ ap number_of is)

pub some_at : (table : SourceTable) (left : List Pair) (t : ℕ) (s : PReg) → Holds table left → slice_index_or table t None ≡ Some s → source_to left t ≡ Some s.0
some_at table left t s h is = sym (h.at t) ∙ ap number_of is

-- what remains of distinct pairs
pub no_source-left : (table : SourceTable) (q : ℕ) (ps : List Pair) → is_source ps q ≡ false → is_source (left_of table ps) q ≡ false
no_source-left table q [] h = refl
no_source-left table q (p ∷ ps) h = grind (arith, nat_tests, no_source-left table q ps)

no_target-left : (table : SourceTable) (q : ℕ) (ps : List Pair) → is_target ps q ≡ false → is_target (left_of table ps) q ≡ false
no_target-left table q [] h = refl
no_target-left table q (p ∷ ps) h = grind (arith, nat_tests, no_target-left table q ps)

pub distinct-left : (table : SourceTable) (ps : List Pair) → AreDistinct ps → AreDistinct (left_of table ps)
distinct-left table [] d = tt
distinct-left table (p ∷ ps) d = by table p ps d (distinct-left table ps d.2) (is_left table p)
  where
    by : (table : SourceTable) (p : Pair) (ps : List Pair) → AreDistinct (p ∷ ps) → AreDistinct (left_of table ps) → (b : Bool) → AreDistinct (if b then p ∷ left_of table ps else left_of table ps)
    by table p ps d rest false = rest
    by table p ps d rest true = (no_source-left table (p.0).0 ps d.0, no_target-left table (p.1).0 ps d.1, rest)

-- what remains later remains of what remained before
pub left-left : (a b : SourceTable) (ps : List Pair) → ((q : ℕ) → slice_index_or a q None ≡ None → slice_index_or b q None ≡ None) → left_of b (left_of a ps) ≡ left_of b ps
left-left a b [] h = refl
left-left a b (p ∷ ps) h = by a b p ps (left-left a b ps h) (h (p.1).0) (slice_index_or a (p.1).0 None) refl
  where
    by : (a b : SourceTable) (p : Pair) (ps : List Pair) → left_of b (left_of a ps) ≡ left_of b ps → (slice_index_or a (p.1).0 None ≡ None → slice_index_or b (p.1).0 None ≡ None)
        → (o : Option PReg) → slice_index_or a (p.1).0 None ≡ o → left_of b (if is_some o then p ∷ left_of a ps else left_of a ps) ≡ left_of b (p ∷ ps)
    by a b p ps rest h None is = rest ∙ ap (λ o. if is_some o then p ∷ left_of b ps else left_of b ps) (sym (h is))
    by a b p ps rest h (Some r) is = ap (λ k. if is_left b p then p ∷ k else k) rest

-- the table of the pairs that move something
left_moving_by : (table : SourceTable) (ps : List Pair) → AreDistinct ps → ((q : ℕ) → is_target ps q ≡ true → is_some (slice_index_or table q None) ≡ is_target (moving ps) q) → left_of table ps ≡ moving ps
left_moving_by table [] d h = refl
left_moving_by table (p ∷ ps) d h =
    let rest = left_moving_by table ps d.2 (λ q t. grind (arith, nat_tests, h q, d.1)) in
    grind (arith, nat_tests, rest, h (p.1).0, d.1, is_target-moving ps (p.1).0)

some_number : (o : Option PReg) (left : List Pair) (q : ℕ) → number_of o ≡ source_to left q → is_some o ≡ is_target left q
some_number None left q h = sym (is_target_none left q (sym h))
some_number (Some r) left q h = sym (some_to left q r.0 (sym h))
  where
    some_to : (ps : List Pair) (q s : ℕ) → source_to ps q ≡ Some s → is_target ps q ≡ true
    some_to [] q s h = absurd (cc)
    some_to (p ∷ ps) q s h = grind (arith, nat_tests, some_to ps q s)

pub left_moving : (table : SourceTable) (pairs : List Pair) → AreDistinct pairs → Holds table (moving pairs) → left_of table pairs ≡ moving pairs
left_moving table pairs d h = left_moving_by table pairs d (λ q t. some_number (slice_index_or table q None) (moving pairs) q (h.at q))

-- filling the table: an entry stands for what the pairs to come do not set
abbrev pub later : Option ℕ → Option ℕ → Option ℕ
later None o = o
later (Some s) o = Some s

pub record Filling (table : SourceTable) (rest pairs : List Pair) : Type 0 where
  pub size : length table ≡ 256
  pub distinct : AreDistinct rest
  pub at : (q : ℕ) → later (source_to (moving rest) q) (number_of (slice_index_or table q None)) ≡ source_to (moving pairs) q

none_in : (n q : ℕ) → number_of (slice_index_or (replicate n None) q None) ≡ None
none_in zero q = refl
none_in (suc n) zero = refl
none_in (suc n) (suc q) = none_in n q

pub filling_begins : (pairs : List Pair) → AreDistinct pairs → Filling (replicate 256 None) pairs pairs
filling_begins pairs d = record { size = refl; distinct = d; at = λ q. ap (later (source_to (moving pairs) q)) (none_in 256 q) ∙ same (source_to (moving pairs) q) }
  where
    same : (o : Option ℕ) → later o None ≡ o
    same None = refl
    same (Some s) = refl

pub filling_stays : (table : SourceTable) (p : Pair) (rest pairs : List Pair) → (p.0).0 ≡ (p.1).0 → Filling table (p ∷ rest) pairs → Filling table rest pairs
filling_stays table p rest pairs is f = record { size = f.size; distinct = f.distinct.2; at = λ q. grind (arith, nat_tests, f.at q) }

pub filling_moves : (table : SourceTable) (p : Pair) (rest pairs : List Pair) → (p.0).0 ≢ (p.1).0 → (p.1).0 < length table → Filling table (p ∷ rest) pairs → Filling (slice_set table (p.1).0 (Some p.0)) rest pairs
filling_moves table p rest pairs ne h f = record { size = length-set table (p.1).0 (Some p.0) ∙ f.size; distinct = f.distinct.2; at = λ q. by q ((p.1).0 == q) refl ∙ whole q ∙ f.at q }
  where
    whole : (q : ℕ) → later (if (p.1).0 == q then Some (p.0).0 else source_to (moving rest) q) (number_of (slice_index_or table q None)) ≡ later (source_to (moving (p ∷ rest)) q) (number_of (slice_index_or table q None))
    whole q = grind (arith, nat_tests)

    by : (q : ℕ) (b : Bool) → ((p.1).0 == q) ≡ b → later (source_to (moving rest) q) (number_of (slice_index_or (slice_set table (p.1).0 (Some p.0)) q None)) ≡ later (if b then Some (p.0).0 else source_to (moving rest) q) (number_of (slice_index_or table q None))
    by q true is = grind (arith, nat_tests, get_or-set_same table (p.1).0 (Some p.0) None h, no_target (moving rest) q, is_target-moving rest q, f.distinct.1)
    by q false is = ap (λ o. later (source_to (moving rest) q) (number_of o)) (get_or-set_other table (p.1).0 q (Some p.0) None (grind (arith, nat_tests)))

pub filling_ends : (table : SourceTable) (i : ℕ) (pairs : List Pair) → length pairs ≤ i → Filling table (drop i pairs) pairs → Holds table (moving pairs)
filling_ends table i pairs h f = record { at = λ q. ap (λ k. later (source_to (moving k) q) (number_of (slice_index_or table q None))) (sym (drop_all i pairs h)) ∙ f.at q }
