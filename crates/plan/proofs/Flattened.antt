-- Rows that stand one after another in one list.
use Rattle.std.proofs.Common.{◌≡◌, ℕ, zero, suc, ◌+◌, ◌-◌, ◌<◌, ◌≤◌, List, [], ◌∷◌, ◌++◌, length, take, drop, Some, None, refl, sym, ap, ◌∙◌, subst, arith, length-append, length-drop}
use Rattle.std.proofs.lemmas.List.{drop_at, drop-append-le, take-append-le, take_all}
use Rattle.std.specs.Prelude.{slice_get}
use native.Mathlib.Numerals.{unary_clauses}
use Rattle.plan.specs.declared.row.Place.{Place}
use Rattle.plan.specs.declared.row.PlanRow.{PlanRow}
use Rattle.plan.specs.declared.row.Plan.{Plan}
use Rattle.plan.specs.declared.flat.FlatRow.{FlatRow}
use Rattle.plan.specs.Flat.{AreOrdered, first_start, rows_of}
use Rattle.plan.specs.Rows.{places_in, with_row, write_in}

pub first_below : (rows : List FlatRow) (end : ℕ) → AreOrdered rows end → first_start rows end ≤ end
first_below [] end ordered = omega arith
first_below (row ∷ rows) end ordered = let rest = first_below rows end ordered.1 in let here = ordered.0 in omega arith

-- the first start with a row more
first_push : (rows : List FlatRow) (row : FlatRow) (end most : ℕ) → row.start ≡ end → first_start (rows ++ row ∷ []) most ≡ first_start rows end
first_push [] row end most e = e
first_push (first ∷ rows) row end most e = refl

pub ordered_push : (rows : List FlatRow) (row : FlatRow) (end most : ℕ) → row.start ≡ end → end ≤ most → AreOrdered rows end → AreOrdered (rows ++ row ∷ []) most
ordered_push [] row end most e le ordered = (omega arith, tt)
ordered_push (first ∷ rows) row end most e le ordered =
    let same = first_push rows row end most e in
    let here = ordered.0 in
    (omega arith, ordered_push rows row end most e le ordered.1)

-- a part of a list, where more stands behind
part_same : (entries more : List Place) (start end : ℕ) → start ≤ end → end ≤ length entries → take (end - start) (drop start (entries ++ more)) ≡ take (end - start) (drop start entries)
part_same entries more start end order within =
    let size = length-drop start entries in
    ap (take (end - start)) (drop-append-le start entries more (omega arith)) ∙ take-append-le (end - start) (drop start entries) more (omega arith)

-- the part at the end
part_last : (entries more : List Place) (n end : ℕ) → n ≡ length entries → end ≡ length (entries ++ more) → take (end - n) (drop n (entries ++ more)) ≡ more
part_last entries more n end is whole =
    let size = length-append entries more in
    ap (take (end - n)) (drop_at entries more n (sym is)) ∙ take_all (end - n) more (omega arith)

-- the rows with one more
pub rows_push : (entries more : List Place) (rows : List FlatRow) (row : FlatRow) → row.start ≡ length entries → AreOrdered rows (length entries)
    → rows_of (entries ++ more) (rows ++ row ∷ []) ≡ rows_of entries rows ++ record { places = more; write = row.write } ∷ []
rows_push entries more [] row e ordered =
    ap (λ (places : List Place). record { places = places; write = row.write } ∷ []) (part_last entries more row.start (length (entries ++ more)) e refl)
rows_push entries more (first ∷ rows) row e ordered =
    let here = ap (λ end. take (end - first.start) (drop first.start (entries ++ more))) (first_push rows row (length entries) (length (entries ++ more)) e)
    ∙ part_same entries more first.start (first_start rows (length entries)) ordered.0 (first_below rows (length entries) ordered.1) in
    ap (λ (places : List Place). record { places = places; write = first.write } ∷ rows_of (entries ++ more) (rows ++ row ∷ [])) here
    ∙ ap (λ later. record { places = take (first_start rows (length entries) - first.start) (drop first.start entries); write = first.write } ∷ later) (rows_push entries more rows row e ordered.1)

-- the plan with one more
pub plan_push : (before : Plan) (p r : ℕ) (entries longer more : List Place) (rows pushed : List FlatRow) (row : FlatRow) → record { p = p; r = r; rows = rows_of entries rows } ≡ before
    → row.start ≡ length entries → AreOrdered rows (length entries) → longer ≡ entries ++ more → pushed ≡ rows ++ row ∷ []
    → record { p = p; r = r; rows = rows_of longer pushed } ≡ with_row before (record { places = more; write = row.write })
plan_push before p r entries longer more rows pushed row is e ordered l m =
    let whole : rows_of longer pushed ≡ rows_of entries rows ++ record { places = more; write = row.write } ∷ [] =
    ap (λ list. rows_of list pushed) l ∙ ap (rows_of (entries ++ more)) m ∙ rows_push entries more rows row e ordered in
    ap (λ list. record { p = p; r = r; rows = list }) whole ∙ ap (λ plan. with_row plan (record { places = more; write = row.write })) is

-- a row's part is within the entries
pub within : (rows : List FlatRow) (i end : ℕ) (row : FlatRow) → AreOrdered rows end → slice_get rows i ≡ Some row
    → (row.start ≤ first_start (drop (i + 1) rows) end) × (first_start (drop (i + 1) rows) end ≤ end)
within [] i end row ordered is = absurd (cc)
within (first ∷ rows) zero end row ordered is =
    let same : first ≡ row = cc in
    subst (λ (x : FlatRow). (x.start ≤ first_start rows end) × (first_start rows end ≤ end)) same (ordered.0, first_below rows end ordered.1)
within (first ∷ rows) (suc i) end row ordered is = simp unary_clauses (simp unary_clauses at (within rows i end row ordered.1 is))

-- what a row has
pub row_get : (entries : List Place) (rows : List FlatRow) (i : ℕ) (row : FlatRow) → slice_get rows i ≡ Some row
    → slice_get (rows_of entries rows) i ≡ Some (record { places = take (first_start (drop (i + 1) rows) (length entries) - row.start) (drop row.start entries); write = row.write })
row_get entries [] i row is = absurd (cc)
row_get entries (first ∷ rows) zero row is =
    let same : first ≡ row = cc in
    ap (λ (x : FlatRow). Some (record { places = take (first_start rows (length entries) - x.start) (drop x.start entries); write = x.write })) same
row_get entries (first ∷ rows) (suc i) row is = simp unary_clauses (simp unary_clauses at (row_get entries rows i row is))

pub row_none : (entries : List Place) (rows : List FlatRow) (i : ℕ) → slice_get rows i ≡ None → slice_get (rows_of entries rows) i ≡ None
row_none entries [] i is = refl
row_none entries (first ∷ rows) zero is = absurd (cc)
row_none entries (first ∷ rows) (suc i) is = row_none entries rows i is

pub rows_length : (entries : List Place) (rows : List FlatRow) → length (rows_of entries rows) ≡ length rows
rows_length entries [] = refl
rows_length entries (row ∷ rows) = ap suc (rows_length entries rows)

-- so many rows and one more, which says the same as that of its number
pub taken_more : (rows : List PlanRow) (i : ℕ) (row : PlanRow) (some more : List PlanRow) → i < length rows
    → row ≡ record { places = places_in (slice_get rows i); write = write_in (slice_get rows i) } → some ≡ take i rows → more ≡ some ++ row ∷ [] → more ≡ take (i + 1) rows
taken_more [] i row some more lt e is m = absurd (omega arith)
taken_more (first ∷ rows) zero row some more lt e is m = m ∙ ap (λ l. l ++ row ∷ []) is ∙ ap (λ (x : PlanRow). x ∷ []) e
taken_more (first ∷ rows) (suc i) row some more lt e is m =
    m ∙ ap (λ l. l ++ row ∷ []) is ∙ simp unary_clauses (ap (λ l. first ∷ l) (simp unary_clauses at (taken_more rows i row (take i rows) (take i rows ++ row ∷ []) (omega arith) e refl refl)))
