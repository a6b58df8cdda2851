-- Registers with places of their own, and the set of those places.
use Rattle.std.proofs.Common.{◌≡◌, ℕ, ◌<◌, ◌^◌, List, Option, Some, None, length, slice_get, Contains, refl, sym, subst, ◌∙◌, ap, ◌⊎◌, inl, inr, arith, bit_and}
use Rattle.std.specs.Prelude.{bit_or}
use Rattle.std.specs.Int.{bit_at, bit_not, w128}
use Rattle.std.proofs.lemmas.Nat.Bits.{bit_at-zero}
use Rattle.std.proofs.lemmas.Option.{same_Some}
use Rattle.micro_isa.specs.declared.program.Line.{Line}
use Rattle.micro_isa.specs.declared.program.VReg.{VReg}
use Rattle.flow_graph.specs.Paths.{IsClosedCode, IsSmall}
use Rattle.liveness.specs.Liveness.{LiveIn}
use Rattle.liveness.specs.Sets.{IsSetOf, Lists, members}
use Rattle.liveness.specs.Surviving.{WritesAt, Stays, Crosses}
use Rattle.liveness.proofs.Members.{listed}
use Rattle.liveness.proofs.Steps.{stays_live}
use Rattle.liveness.proofs.Visits.{live_small}
use Rattle.liveness.proofs.Sizes.{member_set, set_member, union, difference}
use Rattle.point_walk.specs.declared.seats.Seats.{Seats}
use Rattle.point_walk.specs.Walks.{Table, nothing, place_at, put, written_in, AreGiven, IsPlaceFor, IsWritePlace}
use Rattle.point_walk.specs.Tables.{IsTable, IsTaken, ArePlacesOf}
use Rattle.point_walk.specs.Keeping.{AreAmong, AreApart, AreFull, AreSeats, HasWishes, IsAlone}
use Rattle.point_walk.proofs.Slots.{set_here, set_there, write_some}
use Rattle.point_walk.proofs.Stages.{IsPartial, given_all}
use Rattle.point_walk.proofs.Valid.{writes_at}
use Rattle.point_walk.proofs.Rows.{is_member, bits_of, register_is, none_among, none_full, put_among, put_full}

-- the places of a part are those of all without those of the others
pub places_without : (own taken part out : ℕ) (table : Table) → own < 2 ^ 128 → taken < 2 ^ 128 → part < 2 ^ 128 → out < 2 ^ 128 → AreApart table (members 128 own) → ArePlacesOf (members 128 own) table taken
    → ((k : ℕ) → Contains (members 128 part) k → Contains (members 128 own) k) → ArePlacesOf (members 128 (bit_and own (bit_not w128 part))) table out → ArePlacesOf (members 128 part) table (bit_and taken (bit_not w128 out))
places_without own taken part out table small_own small_taken small_part small_out apart all within gone = record {
  bits = λ x. (
    λ one.
        let left = (places.exact x).0 one in
        let at = (all.bits x).0 left.0 in
        elim (is_member part at.0 small_part) [
          | inl has ↦ (at.0, has, at.2)
          | inr off ↦ absurd (left.1 ((gone.bits x).1 (at.0, other at.0 at.1 off, at.2)))
        ],
    λ at. (places.exact x).1 (
      (all.bits x).1 (at.0, within at.0 at.1, at.2),
      λ one.
          let by = (gone.bits x).0 one in
          let left = (others.exact by.0).0 (member_set 128 (bit_and own (bit_not w128 part)) by.0 by.1).1 in
          let same = apart.apart at.0 by.0 x (within at.0 at.1) (set_member 128 own by.0 (member_set 128 (bit_and own (bit_not w128 part)) by.0 by.1).0 left.0) at.2 by.2 in
          left.1 (member_set 128 part by.0 (subst (Contains (members 128 part)) same at.1)).1,
    ),
  );
}
  where
    places : IsSetOf (λ x. (bit_at taken x ≡ 1) × (bit_at out x ≡ 1 → ⊥)) (bit_and taken (bit_not w128 out))
    places = difference (λ x. bit_at taken x ≡ 1) (λ x. bit_at out x ≡ 1) taken out small_taken small_out (bits_of taken) (bits_of out)

    others : IsSetOf (λ k. (bit_at own k ≡ 1) × (bit_at part k ≡ 1 → ⊥)) (bit_and own (bit_not w128 part))
    others = difference (λ k. bit_at own k ≡ 1) (λ k. bit_at part k ≡ 1) own part small_own small_part (bits_of own) (bits_of part)

    other : (k : ℕ) → Contains (members 128 own) k → (Contains (members 128 part) k → ⊥) → Contains (members 128 (bit_and own (bit_not w128 part))) k
    other k has off =
        let one = member_set 128 own k has in
        set_member 128 (bit_and own (bit_not w128 part)) k one.0 ((others.exact k).1 (one.1, λ bit. off (set_member 128 part k one.0 bit)))

-- all places of a table are those of the registers that have one
pub taken_places : (table : Table) (taken : ℕ) (ks : List ℕ) → IsTaken table taken → AreAmong table ks → ArePlacesOf ks table taken
taken_places table taken ks is among = record {
  bits = λ x. (
    λ one. let at = (is.bits x).0 one in (at.0, among.among at.0 x at.1, at.1),
    λ at. (is.bits x).1 (at.0, at.2),
  );
}

-- nobody has a place
pub no_seats : (table : Table) → table ≡ nothing → AreSeats table (record { held = 0; own = 0; taken = 0 })
no_seats table e = record {
  among = none_among table (members 128 0) e;
  full = none_full table;
  apart = record { apart = λ k l x has. absurd (none k has) };
  places = record { bits = λ x. (λ one. absurd (let z = bit_at-zero x in omega arith), λ at. absurd (none at.0 at.1)) };
}
  where
    none : (k : ℕ) → Contains (members 128 0) k → ⊥
    none k has = let one = (member_set 128 0 k has).1 in let z = bit_at-zero k in absurd (omega arith)

-- after a write

-- a register that has the place of the write is not of the list
written_beside : (table : Table) (ks : List ℕ) (write : Option ℕ) (w : Option VReg) → IsWritePlace ks table w write → IsAlone table ks w
    → (k x : ℕ) → Contains ks k → place_at table k ≡ Some x → write ≡ Some x → ⊥
written_beside table ks write None place is k x has at some = absurd (let off : None ≡ Some x = sym place ∙ some in cc)
written_beside table ks write (Some d) place is k x has at some = by (place_at table d.0) refl place
  where
    by : (o : Option ℕ) → place_at table d.0 ≡ o → IsPlaceFor ks table o write → ⊥
    by (Some y) own e = is.alone d k x refl has at (own ∙ sym e ∙ some)
    by None unset least = least.2.free k has (at ∙ sym some ∙ least.1)

pub seats_put : (table now : Table) (seats : Seats) (more set : ℕ) (written : Option VReg) (write : Option ℕ) → IsTable table → IsSmall written → seats.held < 2 ^ 128 → seats.own < 2 ^ 128 → more < 2 ^ 128
    → AreSeats table seats → IsWritePlace (members 128 seats.own) table written write → IsAlone table (members 128 seats.own) written
    → IsSetOf (λ k. written ≡ Some (record { 0 = k })) more → IsSetOf (λ x. write ≡ Some x) set → now ≡ put written write table
    → AreSeats now (record { held = bit_or seats.held more; own = bit_or seats.own more; taken = bit_or seats.taken set })
seats_put table now seats more set written write is small low_held low_own low_more seated place alone one_register one_place e = record {
  among = put_among table now seats.held more written write is small low_held low_more seated.among one_register e;
  full = put_full table now seats.own more written write is small low_own low_more seated.full some one_register e;
  apart = record {
    apart = λ k l x has_k has_l at_k at_l. elim (either k x has_k at_k) [
      | inl old_k ↦ elim (either l x has_l at_l) [
        | inl old_l ↦ seated.apart.apart k l x old_k.0 old_l.0 old_k.1 old_l.1
        | inr new_l ↦ absurd (beside k x old_k.0 old_k.1 new_l.1)
      ]
      | inr new_k ↦ elim (either l x has_l at_l) [
        | inl old_l ↦ absurd (beside l x old_l.0 old_l.1 new_k.1)
        | inr new_l ↦ ap (λ (v : VReg). v.0) (same_Some (record { 0 = k }) (record { 0 = l }) (sym new_k.0 ∙ new_l.0))
      ]
    ];
  };
  places = record {
    bits = λ x. (
      λ one. elim ((places.exact x).0 one) [
        | inl old ↦
            let at = (seated.places.bits x).0 old in
            let has = member_set 128 seats.own at.0 at.1 in
            (at.0, set_member 128 (bit_or seats.own more) at.0 has.0 ((both.exact at.0).1 (inl has.1)), was at.0 at.1 ∙ at.2)
        | inr new ↦
            let d = writer written place x new in
            (d.0, set_member 128 (bit_or seats.own more) d.0 (inside written small d.0 d.1) ((both.exact d.0).1 (inr d.1)), is_put d.0 d.1 ∙ new)
      ],
      λ at. (places.exact x).1 (elim (either at.0 x at.1 at.2) [
        | inl old ↦ inl ((seated.places.bits x).1 (at.0, old.0, old.1))
        | inr new ↦ inr new.1
      ]),
    );
  };
}
  where
    both : IsSetOf (λ k. (bit_at seats.own k ≡ 1) ⊎ (written ≡ Some (record { 0 = k }))) (bit_or seats.own more)
    both = union (λ k. bit_at seats.own k ≡ 1) (λ k. written ≡ Some (record { 0 = k })) seats.own more (bits_of seats.own) one_register

    places : IsSetOf (λ x. (bit_at seats.taken x ≡ 1) ⊎ (write ≡ Some x)) (bit_or seats.taken set)
    places = union (λ x. bit_at seats.taken x ≡ 1) (λ x. write ≡ Some x) seats.taken set (bits_of seats.taken) one_place

    beside : (k x : ℕ) → Contains (members 128 seats.own) k → place_at table k ≡ Some x → write ≡ Some x → ⊥
    beside = written_beside table (members 128 seats.own) write written place alone

    some : (d : VReg) → written ≡ Some d → (x : ℕ) × (write ≡ Some x)
    some d w = write_some (members 128 seats.own) table written write d w place

    inside : (w : Option VReg) → IsSmall w → (k : ℕ) → w ≡ Some (record { 0 = k }) → k < 128
    inside None little k w = absurd (cc)
    inside (Some d) little k w = subst (λ n. n < 128) (register_is d k w) little

    -- who writes what is written
    writer : (w : Option VReg) → IsWritePlace (members 128 seats.own) table w write → (x : ℕ) → write ≡ Some x → (k : ℕ) × (w ≡ Some (record { 0 = k }))
    writer None none x new = absurd (let off : None ≡ Some x = sym none ∙ new in cc)
    writer (Some d) some_place x new = (d.0, refl)

    unwritten : (k : ℕ) → Contains (members 128 seats.own) k → written ≡ Some (record { 0 = k }) → ⊥
    unwritten k has w = let at = seated.full.full k has in alone.alone (record { 0 = k }) k at.0 w has at.1 at.1

    put_old : (w : Option VReg) (k : ℕ) → (w ≡ Some (record { 0 = k }) → ⊥) → place_at (put w write table) k ≡ place_at table k
    put_old None k other = refl
    put_old (Some d) k other = set_there table d.0 k write (λ same. absurd (other (ap (λ n. Some (record { 0 = n })) (sym same))))

    put_new : (w : Option VReg) (k : ℕ) → IsSmall w → w ≡ Some (record { 0 = k }) → place_at (put w write table) k ≡ write
    put_new None k little w = absurd (cc)
    put_new (Some d) k little w = subst (λ n. place_at (put (Some d) write table) n ≡ write) (register_is d k w) (set_here table d.0 write (let size = is.size in omega arith))

    was : (k : ℕ) → Contains (members 128 seats.own) k → place_at now k ≡ place_at table k
    was k has = ap (λ (t : Table). place_at t k) e ∙ put_old written k (unwritten k has)

    is_put : (k : ℕ) → written ≡ Some (record { 0 = k }) → place_at now k ≡ write
    is_put k w = ap (λ (t : Table). place_at t k) e ∙ put_new written k small w

    either : (k x : ℕ) → Contains (members 128 (bit_or seats.own more)) k → place_at now k ≡ Some x
        → (Contains (members 128 seats.own) k × (place_at table k ≡ Some x)) ⊎ ((written ≡ Some (record { 0 = k })) × (write ≡ Some x))
    either k x has at =
        let one = member_set 128 (bit_or seats.own more) k has in
        elim ((both.exact k).0 one.1) [
          | inl old ↦ let yet = set_member 128 seats.own k one.0 old in inl (yet, sym (was k yet) ∙ at)
          | inr new ↦ inr (new, sym (is_put k new) ∙ at)
        ]

-- a row

pub record IsRowOf (before stay : ℕ) (written : Option VReg) (table : Table) : Type 0 where
  pub full : AreFull table (members 128 before)
  pub apart : AreApart table (members 128 before)
  pub within : (k : ℕ) → Contains (members 128 stay) k → Contains (members 128 before) k
  pub alone : IsAlone table (members 128 stay) written

pub row_of : (code : List Line) (p i before cross stay : ℕ) (written : Option VReg) (wishes table : Table) → IsClosedCode code → i < length code → before < 2 ^ 128 → cross < 2 ^ 128 → stay < 2 ^ 128
    → IsSetOf (LiveIn code i) before → IsSetOf (Crosses code i) cross → IsSetOf (Stays code i) stay → written ≡ written_in (slice_get code i) → HasWishes code p i wishes
    → AreGiven p wishes (members 128 before) (members 128 cross) table → IsRowOf before stay written table
row_of code p i before cross stay written wishes table closed here_i small_before small_cross small_stay before_is cross_is stay_is written_is wish given = record {
  full = record { full = λ k has. all.1 k ((is_before.exact k).0 has) };
  apart = record { apart = λ k l x has_k has_l. all.0.apart k l x };
  within = λ k has. (is_before.exact k).1 (stays_live code i k ((is_stay.exact k).0 has));
  alone = record {
    alone = λ d k x e has at_k at_d.
        let writes = writes_at code i d (slice_get code i) refl (sym written_is ∙ e) in
        ((is_stay.exact k).0 has).1 (subst (WritesAt code i) (all.0.apart d.0 k x at_d at_k) writes);
  };
}
  where
    is_before : Lists (LiveIn code i) (members 128 before)
    is_before = listed (LiveIn code i) before small_before before_is

    is_stay : Lists (Stays code i) (members 128 stay)
    is_stay = listed (Stays code i) stay small_stay stay_is

    all : IsPartial code p wish.r i table × ((k : ℕ) → LiveIn code i k → (x : ℕ) × (place_at table k ≡ Some x))
    all = given_all code p wish.r i wishes (members 128 before) (members 128 cross) wish.order here_i wish.room (λ k live. live_small code closed live.0 i k live.1) wish.are
        is_before (listed (Crosses code i) cross small_cross cross_is) table given
