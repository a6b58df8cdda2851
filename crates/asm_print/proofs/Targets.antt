-- Labels in the order of their targets: those from an instruction on, and the first with a target.
use Rattle.std.proofs.Common.{◌≡◌, ◌++◌, ◌<◌, ◌≤◌, ◌==◌, ◌||◌, ◌&&◌, ℕ, ◌+◌, suc, Bool, true, false, List, [], ◌∷◌, refl, sym, ap, ◌∙◌, arith, length, map, filter, get_or, slice_index, cond, nat_le, nat_lt, subst}
use Rattle.std.proofs.lemmas.Bool.{and_parts, eqb-true, eqb-false, leb-true, leb-false, ltb-true, le-leb, lt-leb, ne_eqb}
use Rattle.std.specs.List.{list_any, AllByRecursion}
use Rattle.micro_isa.specs.declared.program.Label.{Label}
use Rattle.micro_isa.specs.Formed.{never_drops, all_below}
use Rattle.asm_print.specs.Canonical.{labels_at, first_name, target_name}

-- the labels of an instruction and those behind it
abbrev pub labels_from : ℕ → List Label → List Label
labels_from at labels = filter (λ l. nat_le at l.target) labels

keep : (p : Label → Bool) (l : Label) (ls : List Label) (b : Bool) → p l ≡ b → filter p (l ∷ ls) ≡ cond b (l ∷ filter p ls) (filter p ls)
keep p l ls b e = ap (λ (b : Bool). cond b (l ∷ filter p ls) (filter p ls)) e

-- labels whose targets do not fall, and are not below this number
abbrev Rising : ℕ → List Label → Type 0
Rising least ls = never_drops least (map (λ l. l.target) ls) ≡ true

all_from : (at : ℕ) (ls : List Label) (least : ℕ) → at ≤ least → Rising least ls → labels_from at ls ≡ ls
all_from at [] least h r = refl
all_from at (l ∷ ls) least h r =
    let a = and_parts (nat_le least l.target) (never_drops l.target (map (λ l. l.target) ls)) r in
    let b = leb-true least l.target a.0 in
    keep (λ l. nat_le at l.target) l ls true (le-leb at l.target (omega arith)) ∙ ap (λ t. l ∷ t) (all_from at ls l.target (omega arith) a.1)

none_at : (at : ℕ) (ls : List Label) (least : ℕ) → at < least → Rising least ls → labels_at ls at ≡ []
none_at at [] least h r = refl
none_at at (l ∷ ls) least h r =
    let a = and_parts (nat_le least l.target) (never_drops l.target (map (λ l. l.target) ls)) r in
    let b = leb-true least l.target a.0 in
    keep (λ l. l.target == at) l ls false (ne_eqb l.target at (λ (e : l.target ≡ at). omega arith)) ∙ none_at at ls l.target (omega arith) a.1

-- the labels of an instruction stand before those of the later ones
pub here_then_later : (at : ℕ) (ls : List Label) (least : ℕ) → Rising least ls → labels_from at ls ≡ labels_at ls at ++ labels_from (at + 1) ls
here_then_later at [] least r = refl
here_then_later at (l ∷ ls) least r = go (here_then_later at ls l.target a.1) (l.target == at) refl (nat_le at l.target) refl
  where
    a : (nat_le least l.target ≡ true) × (never_drops l.target (map (λ l. l.target) ls) ≡ true)
    a = and_parts (nat_le least l.target) (never_drops l.target (map (λ l. l.target) ls)) r

    go : labels_from at ls ≡ labels_at ls at ++ labels_from (at + 1) ls → (b : Bool) → (l.target == at) ≡ b → (d : Bool) → nat_le at l.target ≡ d → labels_from at (l ∷ ls) ≡ labels_at (l ∷ ls) at ++ labels_from (at + 1) (l ∷ ls)
    go ih true e d f =
        let s = eqb-true l.target at e in
        keep (λ l. nat_le at l.target) l ls true (le-leb at l.target (omega arith))
        ∙ ap (λ t. l ∷ t) (ih ∙ ap (λ t. labels_at ls at ++ t) (sym (keep (λ l. nat_le (at + 1) l.target) l ls false (lt-leb (at + 1) l.target (omega arith)))))
        ∙ ap (λ t. t ++ labels_from (at + 1) (l ∷ ls)) (sym (keep (λ l. l.target == at) l ls true e))
    go ih false e true f =
        let g = leb-true at l.target f in
        let n : at + 1 ≤ l.target = omega (arith, eqb-false l.target at e) in
        all_from at (l ∷ ls) least_here (omega arith) whole
        ∙ sym (all_from (at + 1) (l ∷ ls) l.target n whole)
        ∙ ap (λ t. t ++ labels_from (at + 1) (l ∷ ls)) (sym (keep (λ l. l.target == at) l ls false e ∙ none_at at ls l.target (omega arith) a.1))
      where
        least_here : ℕ
        least_here = l.target

        whole : Rising l.target (l ∷ ls)
        whole = ap (λ b. b && never_drops l.target (map (λ l. l.target) ls)) (le-leb l.target l.target (omega arith)) ∙ a.1
    go ih false e false f =
        let g = leb-false at l.target f in
        keep (λ l. nat_le at l.target) l ls false f
        ∙ ih
        ∙ ap (λ t. labels_at ls at ++ t) (sym (keep (λ l. nat_le (at + 1) l.target) l ls false (lt-leb (at + 1) l.target (omega arith))))
        ∙ ap (λ t. t ++ labels_from (at + 1) (l ∷ ls)) (sym (keep (λ l. l.target == at) l ls false e))

pub from_start : (ls : List Label) (least : ℕ) → Rising least ls → labels_from 0 ls ≡ ls
from_start ls least r = all_from 0 ls least (omega arith) r

pub none_past : (n : ℕ) (ls : List Label) → all_below n (map (λ l. l.target) ls) ≡ true → labels_from n ls ≡ []
none_past n [] e = refl
none_past n (l ∷ ls) e =
    let a = and_parts (nat_lt l.target n) (all_below n (map (λ l. l.target) ls)) e in
    keep (λ l. nat_le n l.target) l ls false (lt-leb n l.target (ltb-true l.target n a.0)) ∙ none_past n ls a.1

-- each label of an instruction has it as its target
pub targets_here : (at : ℕ) (ls : List Label) → AllByRecursion (λ l. l.target ≡ at) (labels_at ls at)
targets_here at [] = tt
targets_here at (l ∷ ls) = go (targets_here at ls) (l.target == at) refl
  where
    go : AllByRecursion (λ l. l.target ≡ at) (labels_at ls at) → (b : Bool) → (l.target == at) ≡ b → AllByRecursion (λ l. l.target ≡ at) (labels_at (l ∷ ls) at)
    go ih true e = subst (AllByRecursion (λ l. l.target ≡ at)) (sym (keep (λ l. l.target == at) l ls true e)) (eqb-true l.target at e, ih)
    go ih false e = subst (AllByRecursion (λ l. l.target ≡ at)) (sym (keep (λ l. l.target == at) l ls false e)) ih

-- where the first label with a target stands
pub record Found (labels : List Label) (target : ℕ) : Type 0 where
  pub place : ℕ
  pub within : place < length labels
  pub named : get_or (map (λ l. l.name) labels) place [] ≡ target_name labels target
  pub there : slice_index (map (λ l. l.target) labels) place ≡ target

pub found : (labels : List Label) (target : ℕ) → list_any (λ l. l.target == target) labels ≡ true → Found labels target
found [] target e = absurd (cc)
found (l ∷ ls) target e = go (λ f. found ls target f) (l.target == target) refl
  where
    go : (list_any (λ l. l.target == target) ls ≡ true → Found ls target) → (b : Bool) → (l.target == target) ≡ b → Found (l ∷ ls) target
    go ih true f = record { place = 0; within = omega arith; named = ap first_name (sym (keep (λ l. l.target == target) l ls true f)); there = eqb-true l.target target f }
    go ih false f =
        let r = ih (sym (ap (λ b. b || list_any (λ l. l.target == target) ls) f) ∙ e) in
        record { place = suc r.place; within = omega (arith, r.within); named = r.named ∙ ap first_name (sym (keep (λ l. l.target == target) l ls false f)); there = r.there }
