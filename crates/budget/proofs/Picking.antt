-- The nearest of several entries.
use Rattle.std.proofs.Common.{◌≡◌, ◌==◌, ℕ, zero, suc, ◌<◌, ◌≤◌, ◌⊎◌, ◌&&◌, ◌||◌, nat_lt, Bool, true, false, refl, sym, ap, subst, inl, inr, arith}
use Rattle.std.specs.Prelude.{if◌then◌else◌}
use Rattle.std.proofs.lemmas.Bool.{cases_eq, cases_lt}
use Rattle.std.proofs.lemmas.Bool.Decides.{nat_tests}
use Rattle.budget.specs.declared.choice.Entry.{Entry}
use Rattle.budget.specs.Orders.{ByKey}
use Rattle.budget.specs.Choices.{nearer, pick}
use Rattle.budget.proofs.Keys.{by_key_trans}

by_test : (t : Bool) (x y : Entry) → ((t ≡ true) × ((if t then x else y) ≡ x)) ⊎ ((t ≡ false) × ((if t then x else y) ≡ y))
by_test true x y = inl (refl, refl)
by_test false x y = inr (refl, refl)

is_less : (a b c d : ℕ) → (nat_lt a b || (a == b && nat_lt c d)) ≡ true → ByKey a b (c < d)
is_less a b c d e = elim (cases_lt a b) [
  | inl less ↦ inl less
  | inr other ↦ inr (grind (arith, nat_tests), grind (arith, nat_tests))
]

not_less : (a b c d : ℕ) → (nat_lt a b || (a == b && nat_lt c d)) ≡ false → ByKey b a (d ≤ c)
not_less a b c d e = elim (cases_lt b a) [
  | inl less ↦ inl less
  | inr other ↦ inr (grind (arith, nat_tests), grind (arith, nat_tests))
]

pub nearer_cases : (a b : Entry) → ((nearer a b ≡ b) × ByKey b.cost a.cost (b.extra < a.extra)) ⊎ ((nearer a b ≡ a) × ByKey a.cost b.cost (a.extra ≤ b.extra))
nearer_cases a b = elim (by_test (nat_lt b.cost a.cost || (b.cost == a.cost && nat_lt b.extra a.extra)) b a) [
  | inl taken_b ↦ inl (taken_b.1, is_less b.cost a.cost b.extra a.extra taken_b.0)
  | inr taken_a ↦ inr (taken_a.1, not_less b.cost a.cost b.extra a.extra taken_a.0)
]

-- e is the first among the nearest of f 0 .. f n
pub record IsPicked (f : ℕ → Entry) (n : ℕ) (e : Entry) : Type 0 where
  pub within : e.step ≤ n
  pub is : e ≡ f e.step
  pub first : (d : ℕ) → d ≤ n → ByKey e.cost (f d).cost (ByKey e.extra (f d).extra (e.step ≤ d))

module _ (f : ℕ → Entry) (steps : (d : ℕ) → (f d).step ≡ d) where
  itself : (d : ℕ) → ByKey (f d).cost (f d).cost (ByKey (f d).extra (f d).extra ((f d).step ≤ d))
  itself d = inr (refl, inr (refl, let e = steps d in omega arith))

  at : (d k : ℕ) → d ≡ k → (n : ℕ) (e : Entry) → ByKey e.cost (f d).cost (ByKey e.extra (f d).extra (e.step ≤ d)) → ByKey e.cost (f k).cost (ByKey e.extra (f k).extra (e.step ≤ k))
  at d k same n e h = subst (λ j. ByKey e.cost (f j).cost (ByKey e.extra (f j).extra (e.step ≤ j))) same h

  taken : (n : ℕ) (e : Entry) → IsPicked f n e → ByKey (f (suc n)).cost e.cost ((f (suc n)).extra < e.extra) → IsPicked f (suc n) (f (suc n))
  taken n e before better = record {
    within = let s = steps (suc n) in omega arith;
    is = ap f (sym (steps (suc n)));
    first = λ d le. elim (cases_eq d (suc n)) [
      | inl same ↦ at (suc n) d (sym same) n (f (suc n)) (itself (suc n))
      | inr other ↦ by_key_trans _ _ _ _ _ _ (λ less rest. elim rest [ inl x ↦ inl (omega arith) | inr x ↦ inl (omega arith) ]) better (before.first d (omega arith))
    ];
  }

  stays : (n : ℕ) (e : Entry) → IsPicked f n e → ByKey e.cost (f (suc n)).cost (e.extra ≤ (f (suc n)).extra) → IsPicked f (suc n) e
  stays n e before no_better = record {
    within = let w = before.within in omega arith;
    is = before.is;
    first = λ d le. elim (cases_eq d (suc n)) [
      | inl same ↦ at (suc n) d (sym same) n e (elim no_better [
        | inl less ↦ inl less
        | inr equal ↦ inr (
          equal.0,
          elim (cases_eq e.extra (f (suc n)).extra) [
            | inl alike ↦ inr (alike, let w = before.within in omega arith)
            | inr fewer ↦ inl (let le = equal.1 in omega arith)
          ],
        )
      ])
      | inr other ↦ before.first d (omega arith)
    ];
  }

  pub picked : (n : ℕ) → IsPicked f n (pick f n)
  picked zero = record {
    within = let s = steps 0 in omega arith;
    is = ap f (sym (steps 0));
    first = λ d le. let same : 0 ≡ d = omega arith in at 0 d same 0 (f 0) (itself 0);
  }
  picked (suc n) = elim (nearer_cases (pick f n) (f (suc n))) [
    | inl new ↦ subst (IsPicked f (suc n)) (sym new.0) (taken n (pick f n) (picked n) new.1)
    | inr old ↦ subst (IsPicked f (suc n)) (sym old.0) (stays n (pick f n) (picked n) old.1)
  ]
