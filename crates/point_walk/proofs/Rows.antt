-- The table of a row, and the registers that have a place in it.
use Rattle.std.proofs.Common.{◌≡◌, ℕ, ◌<◌, ◌^◌, List, Option, Some, None, length, set, Contains, refl, sym, subst, ◌∙◌, ap, ◌⊎◌, inl, inr, arith, bit_and}
use Rattle.std.specs.Prelude.{bit_or}
use Rattle.std.specs.Int.{bit_at, bit_not, w128}
use Rattle.std.proofs.lemmas.Bool.{cases_eq}
use Rattle.std.proofs.lemmas.List.{length-set, ext_get_or}
use Rattle.std.proofs.lemmas.Nat.Bits.{bit_at-zero}
use Rattle.std.proofs.lemmas.Option.{same_Some}
use Rattle.micro_isa.specs.declared.program.VReg.{VReg}
use Rattle.flow_graph.specs.Paths.{IsSmall}
use Rattle.liveness.specs.Sets.{IsSetOf, members}
use Rattle.liveness.proofs.Sizes.{member_set, set_member, below_width, union, difference}
use Rattle.point_walk.specs.Walks.{Table, nothing, place_at, put, WishBelow, WishFree, LeastFree, Steps, AreGiven}
use Rattle.point_walk.specs.declared.seats.Seats.{Seats}
use Rattle.point_walk.specs.Tables.{IsTable, ArePlacesOf}
use Rattle.point_walk.specs.Keeping.{AreAmong, AreApart, AreBelow, AreFull, AreSeats, cleared}
use Rattle.point_walk.specs.Settling.{AreKept}
use Rattle.point_walk.proofs.Slots.{set_here, set_there, nothing_has, none_at}
use Rattle.point_walk.proofs.Stages.{step_cases, stage_keeps}
use Rattle.point_walk.proofs.Standing.{cleared_size, cleared_none, cleared_gone, cleared_others, stands_given}

-- whether a register is of a set
pub is_member : (set k : ℕ) → set < 2 ^ 128 → Contains (members 128 set) k ⊎ (Contains (members 128 set) k → ⊥)
is_member set k small = elim (cases_eq (bit_at set k) 1) [
  | inl one ↦ inl (set_member 128 set k (below_width set k small one) one)
  | inr off ↦ inr (λ has. off (member_set 128 set k has).1)
]

pub bits_of : (set : ℕ) → IsSetOf (λ k. bit_at set k ≡ 1) set
bits_of set = record { exact = λ k. ((λ one. one), (λ one. one)) }

-- all that is held is taken out
pub cleared_all : (table : Table) (held : ℕ) → IsTable table → AreAmong table (members 128 held) → cleared table (members 128 held) ≡ nothing
cleared_all table held is among = ext_get_or None (cleared table (members 128 held)) nothing (cleared_size (members 128 held) table ∙ is.size) (λ j inside. by j (place_at table j) refl ∙ sym (none_at j))
  where
    low : (k : ℕ) → Contains (members 128 held) k → k < 128
    low k has = (member_set 128 held k has).0

    by : (j : ℕ) (o : Option ℕ) → place_at table j ≡ o → place_at (cleared table (members 128 held)) j ≡ None
    by j None at = cleared_none (members 128 held) table j is.size low at
    by j (Some x) at = cleared_gone (members 128 held) table j is.size low (among.among j x at)

pub none_among : (table : Table) (ks : List ℕ) → table ≡ nothing → AreAmong table ks
none_among table ks e = subst (λ (t : Table). AreAmong t ks) (sym e) (record { among = λ k x at. absurd (nothing_has k x at) })

-- a written register is held too
pub put_among : (table now : Table) (held more : ℕ) (written : Option VReg) (write : Option ℕ) → IsTable table → IsSmall written → held < 2 ^ 128 → more < 2 ^ 128 → AreAmong table (members 128 held)
    → IsSetOf (λ k. written ≡ Some (record { 0 = k })) more → now ≡ put written write table → AreAmong now (members 128 (bit_or held more))
put_among table now held more written write is small low_held low_more among alone e = subst (λ (t : Table). AreAmong t (members 128 (bit_or held more))) (sym e) (record { among = by written small both })
  where
    S : ℕ → Type 0
    S k = (bit_at held k ≡ 1) ⊎ (written ≡ Some (record { 0 = k }))

    both : IsSetOf (λ k. (bit_at held k ≡ 1) ⊎ (written ≡ Some (record { 0 = k }))) (bit_or held more)
    both = union (λ k. bit_at held k ≡ 1) (λ k. written ≡ Some (record { 0 = k })) held more (bits_of held) alone

    by : (w : Option VReg) → IsSmall w → IsSetOf (λ k. (bit_at held k ≡ 1) ⊎ (w ≡ Some (record { 0 = k }))) (bit_or held more) → (k x : ℕ) → place_at (put w write table) k ≡ Some x → Contains (members 128 (bit_or held more)) k
    by None little all k x at = let has = member_set 128 held k (among.among k x at) in set_member 128 (bit_or held more) k has.0 ((all.exact k).1 (inl has.1))
    by (Some d) little all k x at = elim (cases_eq k d.0) [
      | inl same ↦ set_member 128 (bit_or held more) k (omega arith) ((all.exact k).1 (inr (ap (λ n. Some (record { 0 = n })) (sym same))))
      | inr other ↦ let has = member_set 128 held k (among.among k x (sym (set_there table d.0 k write other) ∙ at)) in set_member 128 (bit_or held more) k has.0 ((all.exact k).1 (inl has.1))
    ]

pub register_is : (d : VReg) (k : ℕ) → Some d ≡ Some (record { 0 = k }) → d.0 ≡ k
register_is d k e = ap (λ (v : VReg). v.0) (same_Some d (record { 0 = k }) e)

-- what is held is full, and so is what the next row has besides
pub put_full : (table now : Table) (held more : ℕ) (written : Option VReg) (write : Option ℕ) → IsTable table → IsSmall written → held < 2 ^ 128 → more < 2 ^ 128 → AreFull table (members 128 held)
    → ((d : VReg) → written ≡ Some d → (x : ℕ) × (write ≡ Some x)) → IsSetOf (λ k. written ≡ Some (record { 0 = k })) more → now ≡ put written write table → AreFull now (members 128 (bit_or held more))
put_full table now held more written write is small low_held low_more full writes alone e = subst (λ (t : Table). AreFull t (members 128 (bit_or held more))) (sym e) (record { full = λ k has. by written small writes both k (member_set 128 (bit_or held more) k has) })
  where
    both : IsSetOf (λ k. (bit_at held k ≡ 1) ⊎ (written ≡ Some (record { 0 = k }))) (bit_or held more)
    both = union (λ k. bit_at held k ≡ 1) (λ k. written ≡ Some (record { 0 = k })) held more (bits_of held) alone

    by : (w : Option VReg) → IsSmall w → ((d : VReg) → w ≡ Some d → (x : ℕ) × (write ≡ Some x)) → IsSetOf (λ k. (bit_at held k ≡ 1) ⊎ (w ≡ Some (record { 0 = k }))) (bit_or held more)
        → (k : ℕ) → (k < 128) × (bit_at (bit_or held more) k ≡ 1) → (x : ℕ) × (place_at (put w write table) k ≡ Some x)
    by None little some all k has = elim ((all.exact k).0 has.1) [
      | inl old ↦ full.full k (set_member 128 held k has.0 old)
      | inr new ↦ absurd (cc)
    ]
    by (Some d) little some all k has = elim (cases_eq k d.0) [
      | inl same ↦
          let at = some d refl in
          (at.0, subst (λ n. place_at (set table d.0 write) n ≡ Some at.0) (sym same) (set_here table d.0 write (let size = is.size in let low = has.0 in omega arith) ∙ at.1))
      | inr other ↦ elim ((all.exact k).0 has.1) [
        | inl old ↦ let at = full.full k (set_member 128 held k has.0 old) in (at.0, set_there table d.0 k write other ∙ at.1)
        | inr new ↦ absurd (other (sym (register_is d k new)))
      ]
    ]

pub none_full : (table : Table) → AreFull table (members 128 0)
none_full table = record { full = λ k has. absurd (let one = (member_set 128 0 k has).1 in let z = bit_at-zero k in omega arith) }

-- all of the one set are of the other
pub none_left : (before held : ℕ) → before < 2 ^ 128 → held < 2 ^ 128 → bit_and before (bit_not w128 held) ≡ 0 → (k : ℕ) → Contains (members 128 before) k → Contains (members 128 held) k
none_left before held small_before small_held none k has =
    let one = member_set 128 before k has in
    let both = difference (λ j. bit_at before j ≡ 1) (λ j. bit_at held j ≡ 1) before held small_before small_held (bits_of before) (bits_of held) in
    elim (cases_eq (bit_at held k) 1) [
      | inl yet ↦ set_member 128 held k one.0 yet
      | inr off ↦ absurd (
          let left = (both.exact k).1 (one.1, off) in
          let same = ap (λ n. bit_at n k) none in
          let z = bit_at-zero k in
          omega arith)
    ]

-- whatever the rules give is of what is live in
among_step : (choice : Table → ℕ → Option ℕ → Type 0) (ks : List ℕ) (k : ℕ) (table next : Table) → k < 128 → Contains ks k → (length table ≡ 128) × AreAmong table ks → Steps choice k table next → (length next ≡ 128) × AreAmong next ks
among_step choice ks k table next low has holds steps = elim (step_cases choice k table next steps) [
  | inl placed ↦ subst (λ (t : Table). (length t ≡ 128) × AreAmong t ks) (sym placed.1) holds
  | inr is ↦ subst (λ (t : Table). (length t ≡ 128) × AreAmong t ks) (sym is.is) (
    length-set table k is.o ∙ holds.0,
    record {
      among = λ j x at. elim (cases_eq j k) [
        | inl same ↦ subst (Contains ks) (sym same) has
        | inr other ↦ holds.1.among j x (sym (set_there table k j is.o other) ∙ at)
      ];
    },
  )
]

pub given_among : (p : ℕ) (wishes : Table) (before cross : List ℕ) (table : Table) → ((k : ℕ) → Contains before k → k < 128) → ((k : ℕ) → Contains cross k → Contains before k)
    → AreGiven p wishes before cross table → AreAmong table before
given_among p wishes before cross table low within given =
    let step = λ (choice : Table → ℕ → Option ℕ → Type 0) (k : ℕ) (t n : Table) (has : Contains before k) (holds : (length t ≡ 128) × AreAmong t before) (steps : Steps choice k t n). among_step choice before k t n (low k has) has holds steps in
    let one = stage_keeps (WishBelow p wishes) (λ (t : Table). (length t ≡ 128) × AreAmong t before) (Contains before) (step (WishBelow p wishes)) cross nothing given.wished within (refl, none_among nothing before refl) given.first in
    let two = stage_keeps LeastFree (λ (t : Table). (length t ≡ 128) × AreAmong t before) (Contains before) (step LeastFree) cross given.wished given.crossed within one given.second in
    let three = stage_keeps (WishFree wishes) (λ (t : Table). (length t ≡ 128) × AreAmong t before) (Contains before) (step (WishFree wishes)) before given.crossed given.kept (λ k has. has) two given.third in
    (stage_keeps LeastFree (λ (t : Table). (length t ≡ 128) × AreAmong t before) (Contains before) (step LeastFree) before given.kept table (λ k has. has) three given.fourth).1

-- a row that stands
pub record IsRowTable (p taken : ℕ) (wishes : Table) (before cross : List ℕ) (table : Table) : Type 0 where
  pub given : AreGiven p wishes before cross table
  pub is : IsTable table
  pub among : AreAmong table before
  pub places : ArePlacesOf before table taken
  pub stood : AreKept wishes table before

pub row_stands : (p before cross taken : ℕ) (seats : Seats) (wishes table : Table) → before < 2 ^ 128 → seats.held < 2 ^ 128 → IsTable wishes → AreSeats wishes seats
    → ((k : ℕ) → Contains (members 128 cross) k → Contains (members 128 before) k) → AreBelow p wishes (members 128 cross)
    → ((k : ℕ) → Contains (members 128 before) k → Contains (members 128 seats.own) k) → ArePlacesOf (members 128 before) wishes taken
    → table ≡ cleared wishes (members 128 (bit_and seats.held (bit_not w128 before))) → IsRowTable p taken wishes (members 128 before) (members 128 cross) table
row_stands p before cross taken seats wishes table small_before small_held is seated within below inside places e = subst (IsRowTable p taken wishes (members 128 before) (members 128 cross)) (sym e) (record {
  given = stands_given p wishes (members 128 before) (members 128 cross) is low within full apart below now (cleared_size dead wishes ∙ is.size) kept gone either;
  is = record { size = cleared_size dead wishes ∙ is.size; low = λ k x at. is.low k x (sym (kept k (live k x at)) ∙ at) };
  among = record { among = live };
  places = record {
    bits = λ x. (
      λ one. let at = (places.bits x).0 one in (at.0, at.1, kept at.0 at.1 ∙ at.2),
      λ at. (places.bits x).1 (at.0, at.1, sym (kept at.0 at.1) ∙ at.2),
    );
  };
  stood = record { kept = λ k has. let at = full.full k has in (at.0, kept k has ∙ at.1, at.1) };
})
  where
    full : AreFull wishes (members 128 before)
    full = record { full = λ k has. seated.full.full k (inside k has) }

    apart : AreApart wishes (members 128 before)
    apart = record { apart = λ k l x has_k has_l. seated.apart.apart k l x (inside k has_k) (inside l has_l) }

    dead : List ℕ
    dead = members 128 (bit_and seats.held (bit_not w128 before))

    now : Table
    now = cleared wishes dead

    low : (k : ℕ) → Contains (members 128 before) k → k < 128
    low k has = (member_set 128 before k has).0

    low_dead : (k : ℕ) → Contains dead k → k < 128
    low_dead k has = (member_set 128 (bit_and seats.held (bit_not w128 before)) k has).0

    either : (k : ℕ) → Contains (members 128 before) k ⊎ (Contains (members 128 before) k → ⊥)
    either k = is_member before k small_before

    both : IsSetOf (λ k. (bit_at seats.held k ≡ 1) × (bit_at before k ≡ 1 → ⊥)) (bit_and seats.held (bit_not w128 before))
    both = difference (λ k. bit_at seats.held k ≡ 1) (λ k. bit_at before k ≡ 1) seats.held before small_held small_before (bits_of seats.held) (bits_of before)

    kept : (k : ℕ) → Contains (members 128 before) k → place_at now k ≡ place_at wishes k
    kept k has = cleared_others dead wishes k (λ gone. ((both.exact k).0 (member_set 128 (bit_and seats.held (bit_not w128 before)) k gone).1).1 (member_set 128 before k has).1)

    gone : (k : ℕ) → (Contains (members 128 before) k → ⊥) → place_at now k ≡ None
    gone k off = by (place_at wishes k) refl
      where
        by : (o : Option ℕ) → place_at wishes k ≡ o → place_at now k ≡ None
        by None at = cleared_none dead wishes k is.size low_dead at
        by (Some x) at =
            let has = member_set 128 seats.held k (seated.among.among k x at) in
            cleared_gone dead wishes k is.size low_dead (set_member 128 (bit_and seats.held (bit_not w128 before)) k has.0 ((both.exact k).1 (has.1, λ one. off (set_member 128 before k has.0 one))))

    live : (k x : ℕ) → place_at now k ≡ Some x → Contains (members 128 before) k
    live k x at = elim (either k) [
      | inl has ↦ has
      | inr off ↦ absurd (let none : None ≡ Some x = sym (gone k off) ∙ at in cc)
    ]
