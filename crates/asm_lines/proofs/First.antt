-- A line without a fault meets none of its tests.
use Rattle.std.proofs.Common.{◌≡◌, ◌+◌, ◌<◌, ◌≤◌, ◌==◌, ℕ, Bool, true, false, not, List, [], ◌∷◌, Some, None, length, map, refl, sym, ap, subst, ◌∙◌, arith, cond, inl, inr}
use Rattle.std.specs.List.{find, list_all, range_with_len}
use Rattle.std.proofs.lemmas.Bool.{and_parts, and_from, eqb-true, eqb-false}
use denote.Struct.Field.{Field}
use denote.Enum.Enum.{Sum, tag}
use denote.Enum.Declared.{rowss}
use denote.Enum.Bare.{tag_one}
use Rattle.asm_lines.specs.declared.fault.BundleKind.{BundleKind}
use Rattle.asm_lines.specs.contracts.fault.BundleKind.{the_type}
use Rattle.asm_lines.specs.Faults.{kinds, rank, first_kind}

-- where a search finds nothing, and where it would

none_finds : {A : Type 0} (test : A → Bool) (xs : List A) → find test xs ≡ None → list_all (λ x. not (test x)) xs ≡ true
none_finds test [] e = refl
none_finds test (x ∷ xs) e =
    let go : (b : Bool) → cond b (Some x) (find test xs) ≡ None → (not b ≡ true) × (find test xs ≡ None) = elim [
      | true ↦ λ f. absurd (cc)
      | false ↦ λ f. (refl, f)
    ] in
    let both = go (test x) e in
    and_from (not (test x)) (list_all (λ x. not (test x)) xs) both.0 (none_finds test xs both.1)

finds_none : {A : Type 0} (test : A → Bool) (xs : List A) → ((x : A) → test x ≡ false) → find test xs ≡ None
finds_none test [] h = refl
finds_none test (x ∷ xs) h = ap (λ b. cond b (Some x) (find test xs)) (h x) ∙ finds_none test xs h

-- each kind stands in the list of all

tag_below : (Fss : List (List Field)) (x : Sum (rowss Fss)) → tag (rowss Fss) x < length Fss
tag_below [] x = absurd x
tag_below (Fs ∷ Fss) (inl x) = omega arith
tag_below (Fs ∷ Fss) (inr x) = omega (arith, tag_below Fss x)

ranked : map rank kinds ≡ range_with_len 0 (length kinds)
ranked = refl

passes_among : (p : BundleKind → Bool) (k : BundleKind) (from : ℕ) (ks : List BundleKind) → map rank ks ≡ range_with_len from (length ks) → from ≤ rank k → rank k < from + length ks → list_all p ks ≡ true → p k ≡ true
passes_among p k from [] e least most all = absurd (omega arith)
passes_among p k from (x ∷ xs) e least most all =
    let head : rank x ≡ from = cc in
    let tail : map rank xs ≡ range_with_len (from + 1) (length xs) = cc in
    let both = and_parts (p x) (list_all p xs) all in
    let go : (b : Bool) → (rank k == from) ≡ b → p k ≡ true = elim [
      | true ↦ λ is. subst (λ k. p k ≡ true) (tag_one the_type tt x k (head ∙ sym (eqb-true (rank k) from is))) both.0
      | false ↦ λ is. let other = eqb-false (rank k) from is in passes_among p k (from + 1) xs tail (omega arith) (omega arith) both.1
    ] in go (rank k == from) refl

-- what all kinds of the list pass, each kind passes
each_kind : (p : BundleKind → Bool) → list_all p kinds ≡ true → (k : BundleKind) → p k ≡ true
each_kind p all k = passes_among p k 0 kinds ranked (omega arith) (tag_below the_type.parts (the_type.to k)) all

not_true : (b : Bool) → not b ≡ true → b ≡ false
not_true true e = sym e
not_true false e = refl

-- a line without a fault meets no kind's test

pub none_met : (test : BundleKind → Bool) → first_kind test ≡ None → (k : BundleKind) → test k ≡ false
none_met test e k = not_true (test k) (each_kind (λ k. not (test k)) (none_finds test kinds e) k)

pub no_kind : (test : BundleKind → Bool) → ((k : BundleKind) → test k ≡ false) → first_kind test ≡ None
no_kind test h = finds_none test kinds h
