-- Sizes that are at least the pressures have room.
use Rattle.std.proofs.Common.{◌≡◌, ℕ, ◌≤◌, Bool, true, false, List, [], ◌∷◌, Option, Some, None, length, slice_get, Contains, refl, sym, subst, ◌∙◌, ◌⊎◌, inl, inr, arith}
use Rattle.std.proofs.lemmas.Bool.{cases_eq}
use Rattle.std.proofs.lemmas.Option.{same_Some}
use Rattle.micro_isa.specs.declared.program.Line.{Line}
use Rattle.micro_isa.specs.Columns.{switches_at}
use Rattle.liveness.specs.Sets.{HasSize}
use Rattle.liveness.specs.Surviving.{SwitchesAt, Crosses}
use Rattle.liveness.specs.Pressures.{IsPrivatePressure, IsTotalPressure, HasRoom}
use Rattle.liveness.proofs.Steps.{crosses_live}
use Rattle.plan.proofs.Entries.{here}

switches_or_not : (code : List Line) (i : ℕ) → SwitchesAt code i ⊎ (SwitchesAt code i → ⊥)
switches_or_not code i = by (slice_get code i) refl
  where
    tells : (line : Line) → slice_get code i ≡ Some line → (b : Bool) → switches_at line.instr ≡ b → SwitchesAt code i ⊎ (SwitchesAt code i → ⊥)
    tells line is true e = inl (line, is, e)
    tells line is false e = inr (λ at.
        let same = same_Some at.0 line (sym at.1 ∙ is) in
        let on = subst (λ (l : Line). switches_at l.instr ≡ true) same at.2 in
        absurd (cc))

    by : (o : Option Line) → slice_get code i ≡ o → SwitchesAt code i ⊎ (SwitchesAt code i → ⊥)
    by None e = inr (λ at. absurd (let off : None ≡ Some at.0 = sym e ∙ at.1 in cc))
    by (Some line) e = tells line e (switches_at line.instr) refl

none_listed : (xs : List ℕ) → ((k : ℕ) → Contains xs k → ⊥) → length xs ≡ 0
none_listed [] none = refl
none_listed (x ∷ xs) none = absurd (none x (here x xs))

crossing_fits : (code : List Line) (p : ℕ) → IsPrivatePressure code p → (i n : ℕ) → HasSize (Crosses code i) n → n ≤ p
crossing_fits code p private i n size = elim (cases_eq i 0) [
  | inl entry ↦
      let at_entry = subst (λ m. HasSize (Crosses code m) n) entry size in
      private.entry n (
        at_entry.0,
        at_entry.1,
        (λ k. (
          λ has. crosses_live code 0 k ((at_entry.2 k).0 has),
          λ live. (at_entry.2 k).1 (inr (refl, live)),
        )),
        at_entry.3,
      )
  | inr later ↦ elim (switches_or_not code i) [
    | inl at ↦ private.stay i n at (
      size.0,
      size.1,
      (λ k. (
        λ has. elim ((size.2 k).0 has) [ inl cross ↦ cross.1 | inr entry ↦ absurd (later entry.0) ],
        λ stays. (size.2 k).1 (inl (at, stays)),
      )),
      size.3,
    )
    | inr quiet ↦
        let none = none_listed size.0 (λ k has. elim ((size.2 k).0 has) [ inl cross ↦ quiet cross.0 | inr entry ↦ later entry.0 ]) in
        let e = size.3 in
        omega arith
  ]
]

pub room_of : (code : List Line) (p r : ℕ) → ((n : ℕ) × IsPrivatePressure code n × (n ≤ p)) → ((m : ℕ) × IsTotalPressure code m × (m ≤ r)) → HasRoom code p r
room_of code p r private total = record {
  cross = λ i n inside size. let le = crossing_fits code private.0 private.1 i n size in let more = private.2 in omega arith;
  before = λ i n inside size. let le = total.1.before i n inside size in let more = total.2 in omega arith;
  after = λ i n inside size. let le = total.1.after i n inside size in let more = total.2 in omega arith;
}
