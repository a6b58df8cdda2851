-- Rows whose registers have given places.
use Rattle.std.proofs.Common.{◌≡◌, ℕ, ◌+◌, ◌^◌, ◌<◌, ◌↔◌, true, List, [], ◌∷◌, ◌++◌, length, set, take, Option, Some, None, slice_get, is_some, sym, ap, subst, refl, ◌∙◌, inl, inr, arith}
use Rattle.std.specs.Option.{option_map}
use Rattle.std.specs.List.{Contains}
use Rattle.std.proofs.lemmas.List.{append_assoc, map-append, take_more_set}
use Rattle.std.proofs.lemmas.List.Elements.{Contains-append_right, Contains-push_cases}
use Rattle.micro_isa.specs.declared.program.Line.{Line}
use Rattle.micro_isa.specs.declared.program.VReg.{VReg}
use Rattle.micro_isa.specs.Columns.{written_by}
use Rattle.liveness.specs.Liveness.{LiveIn}
use Rattle.liveness.specs.Sets.{IsSetOf, members}
use Rattle.liveness.specs.Surviving.{WritesAt}
use Rattle.liveness.proofs.Members.{listed}
use Rattle.liveness.proofs.Sizes.{member_set}
use Rattle.plan.specs.declared.row.Place.{Place}
use Rattle.plan.specs.declared.row.PlanRow.{PlanRow}
use Rattle.plan.specs.ValidPlans.{registers_of}
use Rattle.range_colour.specs.Groups.{InUse}
use Rattle.range_colour.specs.PlacedPlans.{IsPlacedRow}
use Rattle.range_colour.specs.Settling.{In}

-- the register that is taken is of the set
pub taken_member : (before : List ℕ) (those rest left k : ℕ) → before ++ members 128 rest ≡ members 128 those → members 128 rest ≡ k ∷ members 128 left → In those k
taken_member before those rest left k whole taken =
    let has : Contains (k ∷ members 128 left) k = (0, omega arith, refl) in
    let there : Contains (members 128 rest) k = subst (λ xs. Contains xs k) (sym taken) has in
    let among : Contains (members 128 those) k = subst (λ xs. Contains xs k) whole (Contains-append_right before (members 128 rest) k there) in
    (member_set 128 those k among).1

-- one more entry of a row is written
pub entry_more : (entries : List Place) (count : ℕ) (q : Place) (ks rest all : List ℕ) → count < length entries → ks ≡ q.register.0 ∷ rest
    → registers_of (take count entries) ++ ks ≡ all → registers_of (take (count + 1) (set entries count q)) ++ rest ≡ all
entry_more entries count q ks rest all inside least before =
    ap (λ front. registers_of front ++ rest) (take_more_set entries count q inside)
    ∙ ap (λ front. front ++ rest) (map-append (λ (p : Place). p.register.0) (take count entries) (q ∷ []))
    ∙ append_assoc (registers_of (take count entries)) (q.register.0 ∷ []) rest
    ∙ ap (λ back. registers_of (take count entries) ++ back) (sym least)
    ∙ before

pub entry_each : (P : Place → Type 0) (entries : List Place) (count : ℕ) (q : Place) → count < length entries
    → ((p : Place) → Contains (take count entries) p → P p) → P q → (p : Place) → Contains (take (count + 1) (set entries count q)) p → P p
entry_each P entries count q inside before here p has =
    elim (Contains-push_cases (take count entries) q p (subst (λ xs. Contains xs p) (take_more_set entries count q inside) has)) [
      | inl old ↦ before p old
      | inr same ↦ subst P same here
    ]

module _ (code : List Line) (i : ℕ) (line : Line) (is : slice_get code i ≡ Some line) where
  -- what is written is the written register
  pub written_at : (k : ℕ) → WritesAt code i k ↔ (written_by line.instr ≡ Some (record { 0 = k }))
  written_at k = (
    λ at. let same : Some at.0 ≡ Some line = sym at.1 ∙ is in let e : at.0 ≡ line = cc in subst (λ (l : Line). written_by l.instr ≡ Some (record { 0 = k })) e at.2,
    λ e. (line, is, e),
  )

  writes_some : (f : ℕ → ℕ) (register : Option VReg) → register ≡ written_by line.instr
      → (is_some (option_map (λ (v : VReg). f v.0) register) ≡ true) ↔ ((k : ℕ) × WritesAt code i k)
  writes_some f None e = (
    λ some. absurd (cc),
    λ some. absurd (let w = (written_at some.0).0 some.1 in cc),
  )
  writes_some f (Some register) e = (
    λ some. (register.0, (written_at register.0).1 (sym e)),
    λ some. refl,
  )

  writes_place : (f : ℕ → ℕ) (register : Option VReg) → register ≡ written_by line.instr
      → (k w : ℕ) → WritesAt code i k → option_map (λ (v : VReg). f v.0) register ≡ Some w → w ≡ f k
  writes_place f None e k w at some = absurd (cc)
  writes_place f (Some register) e k w at some =
      let same : Some register ≡ Some (record { 0 = k }) = e ∙ (written_at k).0 at in
      let number : register ≡ record { 0 = k } = cc in
      let place : f register.0 ≡ w = cc in
      sym place ∙ ap (λ (v : VReg). f v.0) number

  pub row_placed : (f : ℕ → ℕ) (those : ℕ) (row : PlanRow) → those < 2 ^ 128 → IsSetOf (LiveIn code i) those → registers_of row.places ≡ members 128 those
      → ((q : Place) → Contains row.places q → q.place ≡ f q.register.0) → (register : Option VReg) → register ≡ written_by line.instr
      → row.write ≡ option_map (λ (v : VReg). f v.0) register → IsPlacedRow code i f row
  row_placed f those row small live registers places register e write = record {
    lists = rw registers (listed (LiveIn code i) those small live);
    places = places;
    writes = rw write (writes_some f register e);
    written = λ k w at some. writes_place f register e k w at (sym write ∙ some);
  }

-- what is live in, or written, is in use
pub live_used : (code : List Line) (i those k : ℕ) → IsSetOf (LiveIn code i) those → In those k → InUse code i k k
live_used code i those k live member = let is = (live.exact k).0 member in inl (is, is)

pub written_used : (code : List Line) (i k : ℕ) (line : Line) (register : Option VReg) → slice_get code i ≡ Some line → register ≡ written_by line.instr
    → register ≡ Some (record { 0 = k }) → InUse code i k k
written_used code i k line register is e named = let at = (written_at code i line is k).1 (sym e ∙ named) in inr (inr at, inr at)
