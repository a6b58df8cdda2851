-- Places given one at a time.
use Rattle.std.proofs.Common.{◌≡◌, ◌≢◌, ℕ, zero, suc, ◌+◌, ◌<◌, ◌^◌, ◌/◌, ◌*◌, ◌%◌, ◌↔◌, Bool, true, false, List, [], ◌∷◌, ◌++◌, Option, Some, None, length, get_or, set, take, Contains, refl, sym, subst, ◌∙◌, ap, ◌⊎◌, inl, inr, arith, bit_and}
use Rattle.std.specs.Prelude.{bit_or, nat_eq, is_some, not, slice_get, if◌then◌else◌}
use Rattle.std.specs.Int.{bit_at, w128}
use Rattle.std.specs.List.{IsDistinct, list_any}
use Rattle.std.specs.Cmp.{nat_eq_equiv, unsigned_Decides}
use Rattle.std.proofs.lemmas.Bool.{cases_eq}
use Rattle.std.proofs.lemmas.Bool.Decides.{leb_tells}
use Rattle.std.proofs.lemmas.Map.Keys.{IsDistinct-push, IsDistinct-from_apart}
use Rattle.std.proofs.lemmas.Map.Made.{is_member-Decides, length-le_from_is_member}
use Rattle.std.proofs.lemmas.Map.Steps.{length-le_from_distinct_below}
use Rattle.std.proofs.lemmas.List.Elements.{Contains-push_cases}
use Rattle.std.proofs.lemmas.List.{append_assoc, take_more_set, length-append, length-set, get_or-set_same, get_or-set_other, get_or-replicate}
use Rattle.std.proofs.Math.ListN.{get_or-eq_default}
use Rattle.std.proofs.lemmas.Nat.Bits.{shr_and_one, bit_at-zero, bit_at_set_same, bit_at_set_other}
use Rattle.std.proofs.lemmas.Option.{same_Some, slice_get-get_or}
use Rattle.micro_isa.specs.declared.program.Line.{Line}
use Rattle.micro_isa.specs.declared.program.VReg.{VReg}
use Rattle.micro_isa.specs.Columns.{written_by}
use Rattle.flow_graph.specs.Paths.{IsSmall}
use Rattle.liveness.specs.Sets.{IsSetOf}
use Rattle.liveness.proofs.Sizes.{union}
use Rattle.plan.specs.declared.row.Place.{Place}
use Rattle.plan.proofs.Entries.{here, there, member_cases}
use Rattle.point_walk.specs.Walks.{Table, place_at, place_or_zero, entries, nothing, written_in, put, IsLeastFree, IsPlaceFor, IsWritePlace, WishBelow, WishFree, StepsFrom, Steps}
use Rattle.point_walk.specs.Tables.{IsTable, IsTaken, IsBelow, IsUntaken}

pub untaken_is : (n k : ℕ) → bit_and (n / 2 ^ k) 1 ≡ bit_at n k
untaken_is n k = shr_and_one n k

-- a table with one slot changed

pub set_here : (table : Table) (k : ℕ) (o : Option ℕ) → k < length table → place_at (set table k o) k ≡ o
set_here table k o inside = get_or-set_same table k o None inside

pub set_there : (table : Table) (k j : ℕ) (o : Option ℕ) → j ≢ k → place_at (set table k o) j ≡ place_at table j
set_there table k j o other = get_or-set_other table k j o None other

pub set_is_table : (table : Table) (k : ℕ) (o : Option ℕ) → IsTable table → k < 128 → ((x : ℕ) → o ≡ Some x → x < 128) → IsTable (set table k o)
set_is_table table k o is inside low = record {
  size = length-set table k o ∙ is.size;
  low = λ j x at. elim (cases_eq j k) [
    | inl same ↦ low x (sym (set_here table k o (let e = is.size in omega arith)) ∙ subst (λ n. place_at (set table k o) n ≡ Some x) same at)
    | inr other ↦ is.low j x (sym (set_there table k j o other) ∙ at)
  ];
}

-- the taken places with one more
pub given_taken : (table : Table) (k taken more : ℕ) (o : Option ℕ) → k < 128 → place_at table k ≡ None → ((x : ℕ) → o ≡ Some x → x < 128)
    → IsTaken table taken → IsSetOf (λ x. o ≡ Some x) more → IsTaken (set table k o) (bit_or taken more)
given_taken table k taken more o inside unset low is set_is = record {
  is_table = set_is_table table k o is.is_table inside low;
  bits = λ x.
      let both = all.exact x in (
        λ one. elim (both.0 one) [
          | inl at ↦ (at.0, set_there table k at.0 o (λ same. absurd (let off : None ≡ Some x = sym unset ∙ subst (λ n. place_at table n ≡ Some x) same at.1 in cc)) ∙ at.1)
          | inr new ↦ (k, here ∙ new)
        ],
        λ at. elim (cases_eq at.0 k) [
          | inl same ↦ both.1 (inr (sym here ∙ subst (λ n. place_at (set table k o) n ≡ Some x) same at.1))
          | inr other ↦ both.1 (inl (at.0, sym (set_there table k at.0 o other) ∙ at.1))
        ],
      );
}
  where
    here : place_at (set table k o) k ≡ o
    here = set_here table k o (let e = is.is_table.size in omega arith)

    all : IsSetOf (λ x. ((j : ℕ) × (place_at table j ≡ Some x)) ⊎ (o ≡ Some x)) (bit_or taken more)
    all = union (λ x. (j : ℕ) × (place_at table j ≡ Some x)) (λ x. o ≡ Some x) taken more (record { exact = is.bits }) set_is

-- distinct registers with a property that have the places below x
pub record AreHolders (table : Table) (S : ℕ → Type 0) (x : ℕ) (ks : List ℕ) : Type 0 where
  pub size : length ks ≡ x
  pub distinct : IsDistinct nat_eq ks
  pub each : (k : ℕ) → Contains ks k → S k × ((y : ℕ) × (y < x) × (place_at table k ≡ Some y))

not_true : (b : Bool) → (b ≡ true → ⊥) → b ≡ false
not_true true never = absurd (never refl)
not_true false never = refl

holders : (table : Table) (S : ℕ → Type 0) (x : ℕ) → ((y : ℕ) → y < x → (k : ℕ) × S k × (place_at table k ≡ Some y)) → (ks : List ℕ) × AreHolders table S x ks
holders table S zero all = (
  [],
  record {
    size = refl;
    distinct = IsDistinct-from_apart nat_eq [] (λ i j d less inside. absurd (omega arith));
    each = λ k has. absurd (let inside = has.1 in omega arith);
  },
)
holders table S (suc x) all =
    let on = holders table S x (λ y less. all y (omega arith)) in
    let next = all x (omega arith) in
    let new : list_any (nat_eq next.0) on.0 ≡ false = not_true (list_any (nat_eq next.0) on.0) (λ e.
    let has = (on.1.each next.0 ((is_member-Decides unsigned_Decides on.0 next.0).0 e)).1 in
    let same = same_Some has.0 x (sym has.2 ∙ next.2) in
    let less = has.1 in
    absurd (omega arith)) in (
      on.0 ++ next.0 ∷ [],
      record {
        size = length-append on.0 (next.0 ∷ []) ∙ (let e = on.1.size in omega arith);
        distinct = IsDistinct-push nat_eq_equiv on.0 next.0 on.1.distinct new;
        each = λ k has. elim (Contains-push_cases on.0 next.0 k has) [
          | inl old ↦ let at = on.1.each k old in let less = at.1.1 in (at.0, (at.1.0, omega arith, at.1.2))
          | inr same ↦ (subst S same next.1, (x, omega arith, subst (λ n. place_at table n ≡ Some x) same next.2))
        ];
      },
    )

-- and a register with the property that has no place
more_holders : (table : Table) (S : ℕ → Type 0) (x k0 : ℕ) → S k0 → place_at table k0 ≡ None
    → ((y : ℕ) → y < x → (k : ℕ) × S k × (place_at table k ≡ Some y)) → (ks : List ℕ) × (length ks ≡ x + 1) × IsDistinct nat_eq ks × ((k : ℕ) → Contains ks k → S k)
more_holders table S x k0 in_s unset all =
    let on = holders table S x all in
    let new : list_any (nat_eq k0) on.0 ≡ false = not_true (list_any (nat_eq k0) on.0) (λ e.
    let has = (on.1.each k0 ((is_member-Decides unsigned_Decides on.0 k0).0 e)).1 in
    let off : None ≡ Some has.0 = sym unset ∙ has.2 in
    absurd (cc)) in (
      on.0 ++ k0 ∷ [],
      length-append on.0 (k0 ∷ []) ∙ (let e = on.1.size in omega arith),
      IsDistinct-push nat_eq_equiv on.0 k0 on.1.distinct new,
      λ k has. elim (Contains-push_cases on.0 k0 k has) [
        | inl old ↦ (on.1.each k old).0
        | inr same ↦ subst S same in_s
      ],
    )

-- so among n registers the least free place is below n
pub room : (table : Table) (S : ℕ → Type 0) (x k0 : ℕ) (xs : List ℕ) → ((k : ℕ) → S k → Contains xs k) → S k0 → place_at table k0 ≡ None
    → ((y : ℕ) → y < x → (k : ℕ) × S k × (place_at table k ≡ Some y)) → x < length xs
room table S x k0 xs lists in_s unset all =
    let ks = more_holders table S x k0 in_s unset all in
    let le = length-le_from_is_member nat_eq_equiv ks.0 xs ks.2 (λ q is.
    (is_member-Decides unsigned_Decides xs q).1 (lists q (ks.3 q ((is_member-Decides unsigned_Decides ks.0 q).0 is)))) in
    let e = ks.1 in
    omega arith

pub slot_inside : (table : Table) (k x : ℕ) → IsTable table → place_at table k ≡ Some x → k < 128
slot_inside table k x is at = elim (leb_tells 128 k) [
  | inl past ↦ absurd (let off : None ≡ Some x = sym (get_or-eq_default table None (let e = is.size in let le = past.1 in omega arith)) ∙ at in cc)
  | inr less ↦ less.1
]

-- among all registers it is below 128
pub room_for_all : (table : Table) (x k0 : ℕ) → IsTable table → k0 < 128 → place_at table k0 ≡ None
    → ((y : ℕ) → y < x → (k : ℕ) × (place_at table k ≡ Some y)) → x < 128
room_for_all table x k0 is inside unset all =
    let ks = more_holders table (λ k. k < 128) x k0 inside unset (λ y less. let at = all y less in (at.0, slot_inside table at.0 y is at.1, at.1)) in
    let le = length-le_from_distinct_below ks.0 128 ks.2 (λ q is. ks.3 q ((is_member-Decides unsigned_Decides ks.0 q).0 is)) in
    let e = ks.1 in
    omega arith

-- what is chosen

pub wish_below : (wishes table : Table) (p k : ℕ) (o : Option ℕ) → IsBelow p (place_at wishes k) o → WishBelow p wishes table k o
wish_below wishes table p k None chosen = chosen
wish_below wishes table p k (Some x) chosen = chosen

pub wish_free : (wishes table : Table) (taken k : ℕ) (o : Option ℕ) → IsTaken table taken → IsUntaken taken (place_at wishes k) o → WishFree wishes table k o
wish_free wishes table taken k None is chosen = λ x wish. (is.bits x).0 (chosen x wish)
wish_free wishes table taken k (Some x) is chosen = (chosen.0, λ j at. let one = (is.bits x).1 (j, at) in let off = chosen.1 in absurd (omega arith))

pub least_is_free : (table : Table) (taken x : ℕ) → IsTaken table taken → bit_at taken x ≡ 0 → ((y : ℕ) → y < x → bit_at taken y ≡ 1) → IsLeastFree table x
least_is_free table taken x is off on = record {
  free = λ k at. let one = (is.bits x).1 (k, at) in absurd (omega arith);
  least = λ y less. (is.bits y).0 (on y less);
}

pub below_low : (wishes : Table) (p k : ℕ) (o : Option ℕ) → IsTable wishes → IsBelow p (place_at wishes k) o → (x : ℕ) → o ≡ Some x → x < 128
below_low wishes p k None is chosen x e = absurd (cc)
below_low wishes p k (Some y) is chosen x e = let same = same_Some y x e in let low = is.low k y chosen.0 in omega arith

pub untaken_low : (wishes : Table) (taken k : ℕ) (o : Option ℕ) → IsTable wishes → IsUntaken taken (place_at wishes k) o → (x : ℕ) → o ≡ Some x → x < 128
untaken_low wishes taken k None is chosen x e = absurd (cc)
untaken_low wishes taken k (Some y) is chosen x e = let same = same_Some y x e in let low = is.low k y chosen.0 in omega arith

-- one step, by whether there is a place already
pub step_open : (choice : Table → ℕ → Option ℕ → Type 0) (k : ℕ) (table next : Table) (o : Option ℕ) → place_at table k ≡ None → choice table k o → next ≡ set table k o
    → Steps choice k table next
step_open choice k table next o unset chosen e = subst (StepsFrom choice k table next) (sym unset) (o, chosen, e)

-- a place alone
pub alone_place : (x : ℕ) → x < 128 → IsSetOf (λ y. Some x ≡ Some y) (1 * 2 ^ x % 2 ^ 128)
alone_place x small = record {
  exact = λ y. (
    λ one. elim (cases_eq y x) [
      | inl same ↦ ap Some (sym same)
      | inr other ↦ absurd (omega (arith, bit_at_set_other w128 0 x small y other, bit_at-zero y))
    ],
    λ is. subst (λ j. bit_at (1 * 2 ^ x % 2 ^ 128) j ≡ 1) (same_Some x y is) (bit_at_set_same w128 0 x small),
  );
}

-- a slot that is none
pub none_there : (b : Bool) (o : Option ℕ) → is_some o ≡ not b → b ≡ true → o ≡ None
none_there b None e on = refl
none_there true (Some x) e on = absurd (cc)
none_there false (Some x) e on = absurd (cc)

-- tables

pub none_at : (k : ℕ) → place_at nothing k ≡ None
none_at k = elim (leb_tells 128 k) [
  | inl past ↦ get_or-eq_default nothing None past.1
  | inr less ↦ get_or-replicate 128 k None None less.1
]

pub nothing_has : (k x : ℕ) → place_at nothing k ≡ Some x → ⊥
nothing_has k x at = absurd (let off : None ≡ Some x = sym (none_at k) ∙ at in cc)

pub nothing_is_table : IsTable nothing
nothing_is_table = record { size = refl; low = λ k x at. absurd (nothing_has k x at) }

pub none_taken : (table : Table) → table ≡ nothing → IsTaken table 0
none_taken table e = subst (λ (t : Table). IsTaken t 0) (sym e) (record {
  is_table = nothing_is_table;
  bits = λ x. (
    λ one. absurd (let z = bit_at-zero x in omega arith),
    λ at. absurd (nothing_has at.0 x at.1),
  );
})

pub put_is_table : (written : Option VReg) (write : Option ℕ) (table : Table) → IsSmall written → ((x : ℕ) → write ≡ Some x → x < 128) → IsTable table
    → IsTable (put written write table)
put_is_table None write table small low is = is
put_is_table (Some d) write table small low is = set_is_table table d.0 write is small low

pub left_is_table : (falls : Bool) (written : Option VReg) (write : Option ℕ) (table left : Table) → IsSmall written → ((x : ℕ) → write ≡ Some x → x < 128)
    → IsTable table → left ≡ (if falls then put written write table else nothing) → IsTable left
left_is_table true written write table left small low is e = subst IsTable (sym e) (put_is_table written write table small low is)
left_is_table false written write table left small low is e = subst IsTable (sym e) nothing_is_table

-- what instruction i writes
pub written_is : (code : List Line) (i : ℕ) (d : Line) (written : Option VReg) → i < length code → written ≡ written_by (get_or code i d).instr
    → written ≡ written_in (slice_get code i)
written_is code i d written here e = e ∙ sym (ap written_in (slice_get-get_or code i d here))

-- places of a list's registers

pub places_more : (k set more : ℕ) (rest registers : List ℕ) (table : Table)
    → ((x : ℕ) → ((bit_at set x ≡ 1) ⊎ ((j : ℕ) × Contains (k ∷ rest) j × (place_at table j ≡ Some x))) ↔ ((j : ℕ) × Contains registers j × (place_at table j ≡ Some x)))
    → IsSetOf (λ x. place_at table k ≡ Some x) more
    → (x : ℕ) → ((bit_at (bit_or set more) x ≡ 1) ⊎ ((j : ℕ) × Contains rest j × (place_at table j ≡ Some x))) ↔ ((j : ℕ) × Contains registers j × (place_at table j ≡ Some x))
places_more k set more rest registers table before is x =
    let both = (union (λ y. bit_at set y ≡ 1) (λ y. place_at table k ≡ Some y) set more (record { exact = λ y. ((λ one. one), (λ one. one)) }) is).exact x in (
      λ either. elim either [
        | inl one ↦ elim (both.0 one) [
          | inl old ↦ (before x).0 (inl old)
          | inr new ↦ (before x).0 (inr (k, here k rest, new))
        ]
        | inr later ↦ (before x).0 (inr (later.0, there k later.0 rest later.1, later.2))
      ],
      λ at. elim ((before x).1 at) [
        | inl old ↦ inl (both.1 (inl old))
        | inr left ↦ elim (member_cases k left.0 rest left.1) [
          | inl same ↦ inl (both.1 (inr (subst (λ n. place_at table n ≡ Some x) (sym same) left.2)))
          | inr later ↦ inr (left.0, later, left.2)
        ]
      ],
    )

pub left_as : (f g : Bool) (w v : Option VReg) (write : Option ℕ) (table left : Table) → f ≡ g → w ≡ v → left ≡ (if f then put w write table else nothing)
    → left ≡ (if g then put v write table else nothing)
left_as f g w v write table left falls written e = e ∙ (λ j. if falls j then put (written j) write table else nothing)

-- what is written has a place
pub write_some : (stay : List ℕ) (table : Table) (written : Option VReg) (write : Option ℕ) (d : VReg) → written ≡ Some d → IsWritePlace stay table written write → (x : ℕ) × (write ≡ Some x)
write_some stay table None write d e place = absurd (cc)
write_some stay table (Some v) write d e place = by (place_at table v.0) place
  where
    by : (o : Option ℕ) → IsPlaceFor stay table o write → (x : ℕ) × (write ≡ Some x)
    by (Some x) is = (x, is)
    by None is = (is.0, is.1)

-- one more entry of a row is written
pub entry_more : (line : List Place) (count : ℕ) (k : VReg) (place : ℕ) (table : Table) (ks rest : List ℕ) (all : List Place)
    → count < length line → ks ≡ k.0 ∷ rest → place ≡ place_or_zero (place_at table k.0) → take count line ++ entries table ks ≡ all
    → take (count + 1) (set line count (record { register = k; place = place })) ++ entries table rest ≡ all
entry_more line count k place table ks rest all inside least is written =
    let entry : Place = record { register = k; place = place } in
    ap (λ front. front ++ entries table rest) (take_more_set line count entry inside)
    ∙ append_assoc (take count line) (entry ∷ []) (entries table rest)
    ∙ (λ j. take count line ++ record { register = k; place = is j } ∷ entries table rest)
    ∙ ap (λ xs. take count line ++ entries table xs) (sym least)
    ∙ written
