-- The worked plan is valid.
use Rattle.std.proofs.Common.{◌≡◌, ℕ, zero, suc, ◌<◌, [], ◌∷◌, length, get_or, Option, Some, None, true, false, Contains, refl, sym, ap, ◌∙◌, subst, inl, inr, ◌⊎◌, arith}
use Rattle.std.specs.Prelude.{slice_get, slice_index, is_some, nat_eq, ◌↔◌}
use Rattle.std.specs.List.{IsDistinct}
use Rattle.std.proofs.lemmas.Map.Keys.{IsDistinct-cons}
use Rattle.std.proofs.lemmas.Option.{same_Some}
use Rattle.micro_isa.specs.declared.instr.Next.{Next}
use Rattle.micro_isa.specs.declared.program.VReg.{VReg}
use Rattle.micro_isa.specs.declared.program.Line.{Line}
use Rattle.micro_isa.specs.Columns.{written_by, switches_at, next_of}
use Rattle.flow_graph.specs.Paths.{GoesTo}
use Rattle.liveness.specs.Liveness.{Reads, Writes, LiveIn}
use Rattle.plan.specs.declared.row.Place.{Place}
use Rattle.plan.specs.declared.row.PlanRow.{PlanRow}
use Rattle.liveness.specs.Surviving.{SwitchesAt, WritesAt, Stays, Crosses}
use Rattle.liveness.specs.Sets.{Lists}
use Rattle.plan.specs.ValidPlans.{place_in, IsValidRow, IsValidPlan}
use Rattle.emitted.proofs.Rows.{live_before}
use Rattle.emitted.proofs.Example.{x, y, code, plan}

-- a live register is read here, or it is live behind and not written here
live_cases : (i k : ℕ) (l : Line) → slice_get code i ≡ Some l → LiveIn code i k → Reads l k ⊎ ((j : ℕ) × GoesTo (next_of l.instr i) j × (Writes l k → ⊥) × LiveIn code j k)
live_cases i k l is ([], a) = inl (subst (λ m. Reads m k) (same_Some a.0 l (sym a.1 ∙ is)) a.2)
live_cases i k l is (j ∷ rest, a) =
    let same : a.0 ≡ l = same_Some a.0 l (sym a.1 ∙ is) in
    inr (j, subst (λ m. GoesTo (next_of m.instr i) j) same a.3, subst (λ m. Writes m k → ⊥) same a.2, (rest, a.4))

goes_to : (o : Next) (n j : ℕ) → (o.fall ≡ Some n) ⊎ (o.fall ≡ None) → (o.jump ≡ Some n) ⊎ (o.jump ≡ None) → GoesTo o j → n ≡ j
goes_to o n j (inl f) g (inl e) = same_Some n j (sym f ∙ e)
goes_to o n j (inr f) g (inl e) = absurd (cc)
goes_to o n j f (inl g) (inr e) = same_Some n j (sym g ∙ e)
goes_to o n j f (inr g) (inr e) = absurd (cc)

number : (v : VReg) (k : ℕ) → Some v ≡ Some (record { 0 = k }) → k ≡ v.0
number v k e = let same : v ≡ record { 0 = k } = same_Some v (record { 0 = k }) e in ap (λ r. r.0) (sym same)

live_6 : (k : ℕ) → LiveIn code 6 k → ⊥
live_6 k h = elim (live_cases 6 k _ refl h) [
  | inl r ↦ elim r [ inl e ↦ absurd (cc) | inr e ↦ absurd (cc) ]
  | inr g ↦ elim g.1 [ inl e ↦ absurd (cc) | inr e ↦ absurd (cc) ]
]

live_5 : (k : ℕ) → LiveIn code 5 k → k ≡ 1
live_5 k h = elim (live_cases 5 k _ refl h) [
  | inl r ↦ elim r [ inl e ↦ number y k e | inr e ↦ absurd (cc) ]
  | inr g ↦ absurd (live_6 k (subst (λ j. LiveIn code j k) (sym (goes_to _ 6 g.0 (inl refl) (inr refl) g.1)) g.3))
]

live_4 : (k : ℕ) → LiveIn code 4 k → k ≡ 1
live_4 k h = elim (live_cases 4 k _ refl h) [
  | inl r ↦ elim r [ inl e ↦ absurd (cc) | inr e ↦ absurd (cc) ]
  | inr g ↦ live_5 k (subst (λ j. LiveIn code j k) (sym (goes_to _ 5 g.0 (inl refl) (inr refl) g.1)) g.3)
]

live_3 : (k : ℕ) → LiveIn code 3 k → (k ≡ 0) ⊎ (k ≡ 1)
live_3 k h = elim (live_cases 3 k _ refl h) [
  | inl r ↦ elim r [ inl e ↦ inl (number x k e) | inr e ↦ inr (number y k e) ]
  | inr g ↦ inr (live_4 k (subst (λ j. LiveIn code j k) (sym (goes_to _ 4 g.0 (inl refl) (inl refl) g.1)) g.3))
]

writes_one : (v : VReg) (k : ℕ) → k ≡ v.0 → Some v ≡ Some (record { 0 = k })
writes_one v k e = let same : v ≡ record { 0 = k } = λ i. record { 0 = sym e i } in ap Some same

live_2 : (k : ℕ) → LiveIn code 2 k → k ≡ 0
live_2 k h = elim (live_cases 2 k _ refl h) [
  | inl r ↦ elim r [ inl e ↦ absurd (cc) | inr e ↦ absurd (cc) ]
  | inr g ↦ elim (live_3 k (subst (λ j. LiveIn code j k) (sym (goes_to _ 3 g.0 (inl refl) (inr refl) g.1)) g.3)) [
    | inl e ↦ e
    | inr e ↦ absurd (g.2 (writes_one y k e))
  ]
]

live_1 : (k : ℕ) → LiveIn code 1 k → k ≡ 0
live_1 k h = elim (live_cases 1 k _ refl h) [
  | inl r ↦ elim r [ inl e ↦ absurd (cc) | inr e ↦ absurd (cc) ]
  | inr g ↦ live_2 k (subst (λ j. LiveIn code j k) (sym (goes_to _ 2 g.0 (inl refl) (inr refl) g.1)) g.3)
]

live_0 : (k : ℕ) → LiveIn code 0 k → ⊥
live_0 k h = elim (live_cases 0 k _ refl h) [
  | inl r ↦ elim r [ inl e ↦ absurd (cc) | inr e ↦ absurd (cc) ]
  | inr g ↦ g.2 (writes_one x k (live_1 k (subst (λ j. LiveIn code j k) (sym (goes_to _ 1 g.0 (inl refl) (inr refl) g.1)) g.3)))
]

x_at_3 : LiveIn code 3 0
x_at_3 = ([], (_, refl, inl refl))

y_at_3 : LiveIn code 3 1
y_at_3 = ([], (_, refl, inr refl))

x_at_2 : LiveIn code 2 0
x_at_2 = (3 ∷ [], (_, refl, (λ e. let n : 0 ≡ 1 = number y 0 e in omega arith), inl refl, (_, refl, inl refl)))

x_at_1 : LiveIn code 1 0
x_at_1 = live_before code 1 2 0 _ refl (inl refl) (λ e. absurd (cc)) x_at_2

y_at_5 : LiveIn code 5 1
y_at_5 = ([], (_, refl, inl refl))

y_at_4 : LiveIn code 4 1
y_at_4 = (5 ∷ [], (_, refl, (λ e. absurd (cc)), inl refl, (_, refl, inl refl)))

lists_none : (S : ℕ → Type 0) → ((k : ℕ) → S k → ⊥) → Lists S []
lists_none S h = record { exact = λ k. (λ c. let lt = c.1 in absurd (omega arith), λ s. absurd (h k s)); rising = λ a b lt le. absurd (omega arith) }

lists_one : (S : ℕ → Type 0) (n : ℕ) → S n → ((k : ℕ) → S k → k ≡ n) → Lists S (n ∷ [])
lists_one S n s h = record {
  exact = λ k. (λ c. one k c.0 c.1 c.2, λ t. (0, omega arith, sym (h k t)));
  rising = λ a b lt le. absurd (omega arith);
}
  where
    one : (k i : ℕ) → i < length (n ∷ []) → get_or (n ∷ []) i k ≡ k → S k
    one k zero lt e = subst S e s
    one k (suc i) lt e = absurd (omega arith)

lists_two : (S : ℕ → Type 0) (n m : ℕ) → n < m → S n → S m → ((k : ℕ) → S k → (k ≡ n) ⊎ (k ≡ m)) → Lists S (n ∷ m ∷ [])
lists_two S n m less s t h = record {
  exact = λ k. (λ c. one k c.0 c.1 c.2, λ u. elim (h k u) [ inl e ↦ (0, omega arith, sym e) | inr e ↦ (1, omega arith, sym e) ]);
  rising = λ a b lt le. up a b lt le;
}
  where
    one : (k i : ℕ) → i < length (n ∷ m ∷ []) → get_or (n ∷ m ∷ []) i k ≡ k → S k
    one k zero lt e = subst S e s
    one k (suc zero) lt e = subst S e t
    one k (suc (suc i)) lt e = absurd (omega arith)

    up : (a b : ℕ) → a < b → b < length (n ∷ m ∷ []) → slice_index (n ∷ m ∷ []) a < slice_index (n ∷ m ∷ []) b
    up zero zero lt le = absurd (omega arith)
    up zero (suc zero) lt le = less
    up zero (suc (suc b)) lt le = absurd (omega arith)
    up (suc a) zero lt le = absurd (omega arith)
    up (suc a) (suc zero) lt le = absurd (omega arith)
    up (suc a) (suc (suc b)) lt le = absurd (omega arith)

distinct_none : IsDistinct nat_eq []
unfolding IsDistinct
distinct_none = tt

distinct_one : (n : ℕ) → IsDistinct nat_eq (n ∷ [])
distinct_one n = IsDistinct-cons nat_eq n [] tt distinct_none

distinct_two : IsDistinct nat_eq (0 ∷ 1 ∷ [])
distinct_two = IsDistinct-cons nat_eq 0 (1 ∷ []) (refl, tt) (distinct_one 1)

-- what is asked of what survives, and of the write, at an instruction with this line
abbrev nothing : Option ℕ
nothing = None

quiet : (i : ℕ) (l : Line) → slice_get code i ≡ Some l → written_by l.instr ≡ None → (is_some nothing ≡ true) ↔ ((k : ℕ) × WritesAt code i k)
quiet i l is none = (
  λ e. absurd (cc),
  λ w. let at = w.1 in let same : at.0 ≡ l = same_Some at.0 l (sym at.1 ∙ is) in let wrote = subst (λ m. Writes m w.0) same at.2 in absurd (cc),
)

loud : (i w : ℕ) (l : Line) (d : VReg) → slice_get code i ≡ Some l → written_by l.instr ≡ Some d → (is_some (Some w) ≡ true) ↔ ((k : ℕ) × WritesAt code i k)
loud i w l d is writes = (λ e. (d.0, (l, is, writes)), λ k. refl)

stays_live : (i k n : ℕ) (l : Line) → slice_get code i ≡ Some l → ((next_of l.instr i).fall ≡ Some n) ⊎ ((next_of l.instr i).fall ≡ None) → ((next_of l.instr i).jump ≡ Some n) ⊎ ((next_of l.instr i).jump ≡ None) → Stays code i k → LiveIn code n k
stays_live i k n l is f g s =
    let edge = s.0.1 in
    let same : edge.0 ≡ l = same_Some edge.0 l (sym edge.1 ∙ is) in
    let goes = subst (λ m. GoesTo (next_of m.instr i) s.0.0) same edge.2 in
    subst (λ j. LiveIn code j k) (sym (goes_to (next_of l.instr i) n s.0.0 f g goes)) s.0.2

no_switch : (i : ℕ) (l : Line) → slice_get code i ≡ Some l → switches_at l.instr ≡ false → SwitchesAt code i → ⊥
no_switch i l is not s = let same : s.0 ≡ l = same_Some s.0 l (sym s.1 ∙ is) in let yes_it = subst (λ m. switches_at m.instr ≡ true) same s.2 in absurd (cc)

placed_none : (r : ℕ) (q : Place) → Contains [] q → q.place < r
placed_none r q c = let lt = c.1 in absurd (omega arith)

placed_one : (p q : Place) → p.place < 2 → Contains (p ∷ []) q → q.place < 2
placed_one p q h c = by c.0 c.1 c.2
  where
    by : (i : ℕ) → i < length (p ∷ []) → get_or (p ∷ []) i q ≡ q → q.place < 2
    by zero lt e = subst (λ k. k.place < 2) e h
    by (suc i) lt e = absurd (omega arith)

placed_two : (p o q : Place) → p.place < 2 → o.place < 2 → Contains (p ∷ o ∷ []) q → q.place < 2
placed_two p o q h k c = by c.0 c.1 c.2
  where
    by : (i : ℕ) → i < length (p ∷ o ∷ []) → get_or (p ∷ o ∷ []) i q ≡ q → q.place < 2
    by zero lt e = subst (λ k. k.place < 2) e h
    by (suc zero) lt e = subst (λ k. k.place < 2) e k
    by (suc (suc i)) lt e = absurd (omega arith)

row_0 : IsValidRow code 1 2 0 (record { places = []; write = Some 0 })
row_0 = record {
  lists = lists_none (LiveIn code 0) live_0;
  writes = loud 0 0 _ x refl refl;
  in_range = λ q c. placed_none 2 q c;
  write_in_range = λ w e. let n : 0 ≡ w = same_Some 0 w e in omega arith;
  apart = distinct_none;
  write_apart = λ k w s e. absurd (s.1 (_, refl, writes_one x k (live_1 k (stays_live 0 k 1 _ refl (inl refl) (inr refl) s))));
  private = λ k c. omega arith;
}

-- one register is live, and nothing is written
row_alone : (i : ℕ) (v : VReg) (l : Line) → slice_get code i ≡ Some l → written_by l.instr ≡ None → LiveIn code i v.0 → ((k : ℕ) → LiveIn code i k → k ≡ v.0)
    → ((k : ℕ) → Crosses code i k → place_in (record { register = v; place = 0 } ∷ []) k < 1)
    → IsValidRow code 1 2 i (record { places = record { register = v; place = 0 } ∷ []; write = None })
row_alone i v l is none here live private = record {
  lists = lists_one (LiveIn code i) v.0 here live;
  writes = quiet i l is none;
  in_range = λ q c. placed_one (record { register = v; place = 0 }) q (omega arith) c;
  write_in_range = λ w e. absurd (cc);
  apart = distinct_one 0;
  write_apart = λ k w s e. absurd (cc);
  private = private;
}

row_1 : IsValidRow code 1 2 1 (record { places = record { register = x; place = 0 } ∷ []; write = None })
row_1 = row_alone 1 x _ refl refl x_at_1 live_1 (λ k c. elim c [
  | inl s ↦ subst (λ n. place_in (record { register = x; place = 0 } ∷ []) n < 1) (sym (live_2 k (stays_live 1 k 2 _ refl (inl refl) (inr refl) s.1))) (omega arith)
  | inr e ↦ let zero_one = e.0 in absurd (omega arith)
])

row_2 : IsValidRow code 1 2 2 (record { places = record { register = x; place = 0 } ∷ []; write = Some 1 })
row_2 = record {
  lists = lists_one (LiveIn code 2) 0 x_at_2 live_2;
  writes = loud 2 1 _ y refl refl;
  in_range = λ q c. placed_one (record { register = x; place = 0 }) q (omega arith) c;
  write_in_range = λ w e. let n : 1 ≡ w = same_Some 1 w e in omega arith;
  apart = distinct_one 0;
  write_apart = λ k w s e. let n : 1 ≡ w = same_Some 1 w e in elim (live_3 k (stays_live 2 k 3 _ refl (inl refl) (inr refl) s)) [
    | inl z ↦ λ same. let zero_there = subst (λ n. place_in (record { register = x; place = 0 } ∷ []) n ≡ w) z same in absurd (cc)
    | inr o ↦ absurd (s.1 (_, refl, writes_one y k o))
  ];
  private = λ k c. elim c [
    | inl s ↦ absurd (no_switch 2 _ refl refl s.0)
    | inr e ↦ let zero_two = e.0 in absurd (omega arith)
  ];
}

row_3 : IsValidRow code 1 2 3 (record { places = record { register = x; place = 0 } ∷ record { register = y; place = 1 } ∷ []; write = None })
row_3 = record {
  lists = lists_two (LiveIn code 3) 0 1 (omega arith) x_at_3 y_at_3 live_3;
  writes = quiet 3 _ refl refl;
  in_range = λ q c. placed_two (record { register = x; place = 0 }) (record { register = y; place = 1 }) q (omega arith) (omega arith) c;
  write_in_range = λ w e. absurd (cc);
  apart = distinct_two;
  write_apart = λ k w s e. absurd (cc);
  private = λ k c. elim c [
    | inl s ↦ absurd (no_switch 3 _ refl refl s.0)
    | inr e ↦ let zero_three = e.0 in absurd (omega arith)
  ];
}

row_4 : IsValidRow code 1 2 4 (record { places = record { register = y; place = 0 } ∷ []; write = None })
row_4 = row_alone 4 y _ refl refl y_at_4 live_4 (λ k c. elim c [
  | inl s ↦ subst (λ n. place_in (record { register = y; place = 0 } ∷ []) n < 1) (sym (live_5 k (stays_live 4 k 5 _ refl (inl refl) (inr refl) s.1))) (omega arith)
  | inr e ↦ let zero_four = e.0 in absurd (omega arith)
])

row_5 : IsValidRow code 1 2 5 (record { places = record { register = y; place = 0 } ∷ []; write = None })
row_5 = row_alone 5 y _ refl refl y_at_5 live_5 (λ k c. elim c [
  | inl s ↦ absurd (live_6 k (stays_live 5 k 6 _ refl (inl refl) (inr refl) s.1))
  | inr e ↦ let zero_five = e.0 in absurd (omega arith)
])

row_6 : IsValidRow code 1 2 6 (record { places = []; write = None })
row_6 = record {
  lists = lists_none (LiveIn code 6) live_6;
  writes = quiet 6 _ refl refl;
  in_range = λ q c. placed_none 2 q c;
  write_in_range = λ w e. absurd (cc);
  apart = distinct_none;
  write_apart = λ k w s e. absurd (cc);
  private = λ k c. omega arith;
}

pub valid : IsValidPlan code plan
valid = record { order = omega arith; few = omega arith; one_each = refl; rows = each }
  where
    each : (i : ℕ) (row : PlanRow) → slice_get plan.rows i ≡ Some row → IsValidRow code 1 2 i row
    each zero row e = subst (IsValidRow code 1 2 0) (same_Some _ row e) row_0
    each (suc zero) row e = subst (IsValidRow code 1 2 1) (same_Some _ row e) row_1
    each (suc (suc zero)) row e = subst (IsValidRow code 1 2 2) (same_Some _ row e) row_2
    each (suc (suc (suc zero))) row e = subst (IsValidRow code 1 2 3) (same_Some _ row e) row_3
    each (suc (suc (suc (suc zero)))) row e = subst (IsValidRow code 1 2 4) (same_Some _ row e) row_4
    each (suc (suc (suc (suc (suc zero))))) row e = subst (IsValidRow code 1 2 5) (same_Some _ row e) row_5
    each (suc (suc (suc (suc (suc (suc zero)))))) row e = subst (IsValidRow code 1 2 6) (same_Some _ row e) row_6
    each (suc (suc (suc (suc (suc (suc (suc i))))))) row e = absurd (cc)
