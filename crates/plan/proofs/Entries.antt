-- Lists of places, entry by entry.
use Rattle.std.proofs.Common.{◌≡◌, ◌==◌, ℕ, zero, suc, ◌<◌, ◌≤◌, Bool, true, false, List, [], ◌∷◌, Option, Some, None, length, get_or, Contains, refl, sym, subst, ap, ◌⊎◌, inl, inr, arith}
use Rattle.std.specs.Prelude.{slice_index, if◌then◌else◌, cond}
use Rattle.std.specs.List.{find}
use Rattle.std.proofs.lemmas.Bool.{eqb-true, eq-eqb}
use Rattle.plan.specs.declared.row.Place.{Place}
use Rattle.plan.specs.ValidPlans.{registers_of, place_in}
use Rattle.plan.specs.Faults.{HasPlace, Share, IsPairChecked}
use Rattle.plan.specs.Finding.{holder_of, pair_or, pair_of, Rises}

-- elements of a list

pub here : {X : Type 0} (x : X) (xs : List X) → Contains (x ∷ xs) x
here x xs = (0, omega arith, refl)

pub there : {X : Type 0} (y x : X) (xs : List X) → Contains xs x → Contains (y ∷ xs) x
there y x xs has = (suc has.0, let inside = has.1 in omega arith, has.2)

pub member_cases : {X : Type 0} (y x : X) (xs : List X) → Contains (y ∷ xs) x → (y ≡ x) ⊎ Contains xs x
member_cases y x xs has = by has.0 has.1 has.2
  where
    by : (a : ℕ) → a < length (y ∷ xs) → get_or (y ∷ xs) a x ≡ x → (y ≡ x) ⊎ Contains xs x
    by zero inside is = inl is
    by (suc a) inside is = inr (a, omega arith, is)

pub no_member : {X : Type 0} (x : X) → Contains [] x → ⊥
no_member x has = let inside = has.1 in absurd (omega arith)

-- a listed register has its place in the list
pub placed : (qs : List Place) (k : ℕ) → Contains (registers_of qs) k → HasPlace qs k (place_in qs k)
placed [] k has = absurd (no_member k has)
placed (q ∷ qs) k has = by (placed qs k) (q.register.0 == k) refl
  where
    by : (Contains (registers_of qs) k → HasPlace qs k (place_in qs k)) → (b : Bool) → (q.register.0 == k) ≡ b
        → HasPlace (q ∷ qs) k (if b then q.place else place_in qs k)
    by on true e = let same = eqb-true q.register.0 k e in subst (λ n. HasPlace (q ∷ qs) n q.place) same (here q qs)
    by on false e = elim (member_cases q.register.0 k (registers_of qs) has) [
      | inl same ↦ absurd (let y = eq-eqb q.register.0 k same in cc)
      | inr rest ↦ there q (record { register = record { 0 = k }; place = place_in qs k }) qs (on rest)
    ]

-- a place in the list is a listed register's
pub listed : (qs : List Place) (k x : ℕ) → HasPlace qs k x → Contains (registers_of qs) k
listed [] k x has = absurd (no_member _ has)
listed (q ∷ qs) k x has =
    elim (member_cases q (record { register = record { 0 = k }; place = x }) qs has) [
      | inl same ↦
          let e : q.register.0 ≡ k = ap (λ (s : Place). s.register.0) same in
          subst (λ n. Contains (registers_of (q ∷ qs)) n) e (here q.register.0 (registers_of qs))
      | inr rest ↦ there q.register.0 k (registers_of qs) (listed qs k x rest)
    ]

-- an entry's register, listed
pub entry_listed : (qs : List Place) (q : Place) → Contains qs q → Contains (registers_of qs) q.register.0
entry_listed qs q has = listed qs q.register.0 q.place has

-- of a rising list a register has one place
pub place_once : (qs : List Place) (k x : ℕ) → Rises qs → HasPlace qs k x → place_in qs k ≡ x
place_once [] k x rises has = absurd (no_member _ has)
place_once (q ∷ qs) k x rises has = by (place_once qs k x rises.1) (q.register.0 == k) refl (member_cases q (record { register = record { 0 = k }; place = x }) qs has)
  where
    by : (HasPlace qs k x → place_in qs k ≡ x) → (b : Bool) → (q.register.0 == k) ≡ b → (q ≡ record { register = record { 0 = k }; place = x }) ⊎ HasPlace qs k x
        → (if b then q.place else place_in qs k) ≡ x
    by on true e (inl same) = ap (λ (s : Place). s.place) same
    by on true e (inr rest) =
        let same = eqb-true q.register.0 k e in
        let less = rises.0 (record { register = record { 0 = k }; place = x }) rest in
        absurd (omega arith)
    by on false e (inl same) =
        let is : q.register.0 ≡ k = ap (λ (s : Place). s.register.0) same in
        absurd (let y = eq-eqb q.register.0 k is in cc)
    by on false e (inr rest) = on rest

-- rising entries, by index and by element

pub index_rises : (qs : List Place) → Rises qs → (a b : ℕ) → a < b → b < length (registers_of qs)
    → slice_index (registers_of qs) a < slice_index (registers_of qs) b
index_rises [] rises a b less inside = absurd (omega arith)
index_rises (q ∷ qs) rises a zero less inside = absurd (omega arith)
index_rises (q ∷ qs) rises zero (suc b) less inside = above qs b (omega arith) rises.0
  where
    above : (ss : List Place) (c : ℕ) → c < length (registers_of ss) → ((s : Place) → Contains ss s → q.register.0 < s.register.0)
        → q.register.0 < slice_index (registers_of ss) c
    above [] c within all = absurd (omega arith)
    above (s ∷ ss) zero within all = all s (here s ss)
    above (s ∷ ss) (suc c) within all = above ss c (omega arith) (λ t has. all t (there s t ss has))
index_rises (q ∷ qs) rises (suc a) (suc b) less inside = index_rises qs rises.1 a b (omega arith) (omega arith)

pub rises_by_index : (qs : List Place) → ((a b : ℕ) → a < b → b < length (registers_of qs)
    → slice_index (registers_of qs) a < slice_index (registers_of qs) b) → Rises qs
rises_by_index [] all = tt
rises_by_index (q ∷ qs) all = (
  (λ s has. below qs s has (λ b inside. all zero (suc b) (omega arith) (omega arith))),
  rises_by_index qs (λ a b less inside. all (suc a) (suc b) (omega arith) (omega arith)),
)
  where
    below : (ss : List Place) (s : Place) → Contains ss s → ((b : ℕ) → b < length (registers_of ss) → q.register.0 < slice_index (registers_of ss) b)
        → q.register.0 < s.register.0
    below [] s has each = absurd (no_member s has)
    below (t ∷ ss) s has each = elim (member_cases t s ss has) [
      | inl same ↦ subst (λ (u : Place). q.register.0 < u.register.0) same (each zero (omega arith))
      | inr rest ↦ below ss s rest (λ b inside. each (suc b) (omega arith))
    ]

-- the first entry that passes a test has the least register of those that do
unfoldable pub IsFirstWith : (Place → Bool) → List Place → Option Place → Type 0
IsFirstWith test qs None = (s : Place) → Contains qs s → test s ≡ true → ⊥
IsFirstWith test qs (Some q) = Contains qs q × (test q ≡ true) × ((s : Place) → Contains qs s → test s ≡ true → q.register.0 ≤ s.register.0)

pub find_least : (test : Place → Bool) (qs : List Place) → Rises qs → IsFirstWith test qs (find test qs)
unfolding IsFirstWith
find_least test [] rises = λ s has yes. no_member s has
find_least test (q ∷ qs) rises = by (find_least test qs rises.1) (test q) refl
  where
    more : (o : Option Place) → test q ≡ false → IsFirstWith test qs o → IsFirstWith test (q ∷ qs) o
    more None off first = λ s has yes. elim (member_cases q s qs has) [
      | inl same ↦ absurd (let on = subst (λ (u : Place). test u ≡ true) (sym same) yes in cc)
      | inr rest ↦ first s rest yes
    ]
    more (Some t) off first = (
      there q t qs first.0,
      first.1,
      λ s has yes. elim (member_cases q s qs has) [
        | inl same ↦ absurd (let on = subst (λ (u : Place). test u ≡ true) (sym same) yes in cc)
        | inr rest ↦ first.2 s rest yes
      ],
    )

    by : IsFirstWith test qs (find test qs) → (b : Bool) → test q ≡ b → IsFirstWith test (q ∷ qs) (cond b (Some q) (find test qs))
    by on true is = (
      here q qs,
      is,
      λ s has yes. elim (member_cases q s qs has) [
        | inl same ↦ subst (λ (u : Place). q.register.0 ≤ u.register.0) same (omega arith)
        | inr rest ↦ let less = rises.0 s rest in omega arith
      ],
    )
    by on false is = more (find test qs) is on

-- the first holder of a place

HoldsFirst : List Place → ℕ → Option Place → Type 0
HoldsFirst qs x None = (s : Place) → Contains qs s → s.place ≡ x → ⊥
HoldsFirst qs x (Some q) = Contains qs q × (q.place ≡ x) × ((s : Place) → Contains qs s → s.place ≡ x → q.register.0 ≤ s.register.0)

holds_first : (qs : List Place) (x : ℕ) → Rises qs → HoldsFirst qs x (holder_of qs x)
unfolding HoldsFirst
holds_first [] x rises = λ s has is. no_member s has
holds_first (q ∷ qs) x rises = by (holds_first qs x rises.1) (q.place == x) refl
  where
    more : (o : Option Place) → (q.place ≡ x → ⊥) → HoldsFirst qs x o → HoldsFirst (q ∷ qs) x o
    more None off first = λ s has is. elim (member_cases q s qs has) [
      | inl same ↦ off (subst (λ (u : Place). u.place ≡ x) (sym same) is)
      | inr rest ↦ first s rest is
    ]
    more (Some t) off first = (
      there q t qs first.0,
      first.1,
      λ s has is. elim (member_cases q s qs has) [
        | inl same ↦ absurd (off (subst (λ (u : Place). u.place ≡ x) (sym same) is))
        | inr rest ↦ first.2 s rest is
      ],
    )

    by : HoldsFirst qs x (holder_of qs x) → (b : Bool) → (q.place == x) ≡ b → HoldsFirst (q ∷ qs) x (if b then Some q else holder_of qs x)
    by on true is = (
      here q qs,
      eqb-true q.place x is,
      λ s has at. elim (member_cases q s qs has) [
        | inl same ↦ subst (λ (u : Place). q.register.0 ≤ u.register.0) same (omega arith)
        | inr rest ↦ let less = rises.0 s rest in omega arith
      ],
    )
    by on false is = more (holder_of qs x) (λ e. absurd (let y = eq-eqb q.place x e in cc)) on

-- the first pair

share_cases : (q : Place) (qs : List Place) (k l x : ℕ) → Rises (q ∷ qs) → Share (q ∷ qs) k l x
    → ((k ≡ q.register.0) × (x ≡ q.place) × HasPlace qs l x) ⊎ (Share qs k l x × (q.register.0 < k))
share_cases q qs k l x rises share =
    let less = share.0 in
    let one : Place = record { register = record { 0 = k }; place = x } in
    let two : Place = record { register = record { 0 = l }; place = x } in
    elim (member_cases q one qs share.1) [
      | inl is_q ↦
          let same : k ≡ q.register.0 = sym (ap (λ (s : Place). s.register.0) is_q) in
          elim (member_cases q two qs share.2) [
            | inl also ↦ absurd (let e : q.register.0 ≡ l = ap (λ (s : Place). s.register.0) also in omega arith)
            | inr rest ↦ inl (same, sym (ap (λ (s : Place). s.place) is_q), rest)
          ]
      | inr one_in ↦
          let above = rises.0 one one_in in
          elim (member_cases q two qs share.2) [
            | inl is_q ↦ absurd (let e : q.register.0 ≡ l = ap (λ (s : Place). s.register.0) is_q in omega arith)
            | inr two_in ↦ inr ((less, one_in, two_in), above)
          ]
    ]

share_later : (q : Place) (qs : List Place) (k l x : ℕ) → Share qs k l x → Share (q ∷ qs) k l x
share_later q qs k l x share = (share.0, there q _ qs share.1, there q _ qs share.2)

pub pair_first : (qs : List Place) → Rises qs → IsPairChecked qs (pair_of qs)
unfolding HoldsFirst
pair_first [] rises = λ k l x share. no_member _ share.1
pair_first (q ∷ qs) rises = by (holder_of qs q.place) (holds_first qs q.place rises.1) (pair_of qs) (pair_first qs rises.1)
  where
    by : (o : Option Place) → HoldsFirst qs q.place o → (later : Option (Place × Place)) → IsPairChecked qs later → IsPairChecked (q ∷ qs) (pair_or q o later)
    by None none None apart = λ k l x share. elim (share_cases q qs k l x rises share) [
      | inl at_q ↦ none _ at_q.2 at_q.1
      | inr later ↦ apart k l x later.0
    ]
    by None none (Some pair) first = record {
      share = share_later q qs _ _ _ first.share;
      least = λ j m y share. elim (share_cases q qs j m y rises share) [
        | inl at_q ↦ absurd (none _ at_q.2 at_q.1)
        | inr later ↦ first.least j m y later.0
      ];
    }
    by (Some t) holds later checked = record {
      share = (rises.0 t holds.0, here q qs, there q _ qs (subst (λ n. HasPlace qs t.register.0 n) holds.1 holds.0));
      least = λ j m y share. elim (share_cases q qs j m y rises share) [
        | inl at_q ↦ inr (sym at_q.0, holds.2 _ at_q.2 at_q.1)
        | inr after ↦ inl after.1
      ];
    }
