-- The first fault of verdicts: of some before others, where there is none, and cut out of them.
use Rattle.std.proofs.Common.{◌≡◌, ◌&&◌, ◌++◌, ℕ, List, [], ◌∷◌, Option, Some, None, refl, sym, ap, ◌∙◌}
use Rattle.std.specs.Prelude.{is_none}
use Rattle.std.specs.List.{list_all}
use Rattle.asm_lines.specs.Verdicts.{Verdict, Found, at_or, or_else, first_fault, IsFirst}

-- some before others

at_first : {K : Type 0} (n : ℕ) (k : Option K) (f later : Option (Found K)) → at_or n k (or_else f later) ≡ or_else (at_or n k f) later
at_first n None f later = refl
at_first n (Some x) f later = refl

pub first_append : {K : Type 0} (xs ys : List (Verdict K)) → first_fault (xs ++ ys) ≡ or_else (first_fault xs) (first_fault ys)
first_append [] ys = refl
first_append (v ∷ vs) ys = ap (at_or v.0 v.1) (first_append vs ys) ∙ at_first v.0 v.1 (first_fault vs) (first_fault ys)

-- verdicts of which none has a fault

pub none_at : {K : Type 0} (n : ℕ) (k : Option K) (later : Option (Found K)) → at_or n k later ≡ None → (k ≡ None) × (later ≡ None)
none_at n None later e = (refl, e)
none_at n (Some k) later e = absurd (cc)

none_else : {K : Type 0} (f later : Option (Found K)) → or_else f later ≡ None → (f ≡ None) × (later ≡ None)
none_else None later e = (refl, e)
none_else (Some at) later e = absurd (cc)

pub none_in : {K : Type 0} (xs ys : List (Verdict K)) → first_fault (xs ++ ys) ≡ None → (first_fault xs ≡ None) × (first_fault ys ≡ None)
none_in xs ys e = none_else (first_fault xs) (first_fault ys) (sym (first_append xs ys) ∙ e)

pub free_in : {K : Type 0} (xs ys : List (Verdict K)) → first_fault xs ≡ None → first_fault (xs ++ ys) ≡ first_fault ys
free_in xs ys e = first_append xs ys ∙ ap (λ f. or_else f (first_fault ys)) e

-- the first fault, cut out of verdicts

pub cut : {K : Type 0} (vs : List (Verdict K)) (at : Found K) → first_fault vs ≡ Some at → IsFirst vs at.line at.kind
cut [] at e = absurd (cc)
cut {K} (v ∷ vs) at e =
    let go : (k : Option K) → v.1 ≡ k → at_or v.0 k (first_fault vs) ≡ Some at → IsFirst (v ∷ vs) at.line at.kind = elim [
      | None ↦ λ is f.
          let c = cut vs at f in
          record {
            earlier = v ∷ c.earlier;
            later = c.later;
            parts = ap (λ l. v ∷ l) c.parts;
            free = ap (λ k. is_none k && list_all (λ v. is_none v.1) c.earlier) is ∙ c.free;
          }
      | Some k ↦ λ is f.
          let same : record { line = v.0; kind = k } ≡ at = cc in
          record {
            earlier = [];
            later = vs;
            parts = ap (λ o. (v.0, o) ∷ vs) is ∙ ap (λ (a : Found K). (a.line, Some a.kind) ∷ vs) same;
            free = refl;
          }
    ] in go v.1 refl e
