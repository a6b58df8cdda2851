-- What a visit keeps, and what a fixed point has.
use Rattle.std.proofs.Common.{Bool, true, false, suc, refl, ◌||◌, ◌≡◌, ℕ, ◌*◌, ◌^◌, ◌<◌, ◌≤◌, List, [], ◌∷◌, Some, length, get_or, set, slice_get, sum, ap, sym, subst, ◌∙◌, inl, inr, Fits, arith}
use Rattle.std.proofs.lemmas.Bool.{cases_eq}
use Rattle.std.proofs.lemmas.List.{get_or-set_same, get_or-set_other}
use Rattle.std.proofs.lemmas.List.Sums.{sum_by-set, sum_by-le}
use Rattle.std.proofs.lemmas.Nat.{le_or_l}
use Rattle.std.proofs.lemmas.Nat.Bits.{bit_at_or, bit_at-lt, bit_at_above}
use Rattle.std.proofs.lemmas.Option.{slice_get_within, slice_get_cases, slice_get-get_or, get_or_from_slice_get}
use Rattle.std.proofs.lemmas.List.Elements.{All-from_get_or}
use Rattle.std.specs.Prelude.{bit_or}
use Rattle.std.specs.Int.{bit_at, w128}
use Rattle.micro_isa.specs.declared.program.Line.{Line}
use Rattle.micro_isa.specs.Columns.{next_of}
use Rattle.std.proofs.lemmas.Bool.Decides.{leb_tells}
use Rattle.flow_graph.specs.Paths.{Edge, IsClosedCode, HasSmallRegisters, IsSmall}
use Rattle.liveness.specs.Liveness.{Reads, LiveIn, LiveAlong, LiveOut}
use Rattle.liveness.specs.Sets.{IsSetOf}
use Rattle.liveness.specs.Lives.{IsLiveOf}
use Rattle.liveness.specs.Sweeps.{AreOutSets, in_of, out_of, IsOutSet, IsSound, IsClosed, IsClosedAt, HasGrown, IsLive}
use Rattle.liveness.proofs.Masks.{out_from, out_there, in_from, in_read, in_kept}

-- a register that a visit adds has a path
from_in : (code : List Line) (sets : List ℕ) (line : Line) (i k : ℕ) → k < 128 → HasSmallRegisters line → slice_get code i ≡ Some line
    → IsSound code sets → bit_at (in_of line (out_of sets (next_of line.instr i))) k ≡ 1 → LiveIn code i k
from_in code sets line i k within small is sound one =
    elim (in_from line (out_of sets (next_of line.instr i)) k within small one) [
      | inl reads ↦ ([], (line, is, reads))
      | inr on ↦
          let p = out_from sets (next_of line.instr i) k on.1 in
          let tail : LiveIn code p.0 k = sound.path p.0 k within p.2 in
          (p.0 ∷ tail.0, (line, is, on.0, p.1, tail.1))
    ]

visit_sound : (code : List Line) (sets : List ℕ) (line : Line) (i : ℕ) → HasSmallRegisters line → slice_get code i ≡ Some line
    → i < length sets → IsSound code sets
    → IsSound code (set sets i (bit_or (get_or sets i 0) (in_of line (out_of sets (next_of line.instr i)))))
visit_sound code sets line i small is inside sound =
    let more : ℕ = in_of line (out_of sets (next_of line.instr i)) in
    let old : ℕ = get_or sets i 0 in record {
      path = λ j k within one.
          elim (cases_eq j i) [
            | inl same ↦
                let here : bit_at (bit_or old more) k ≡ 1 =
                (sym (ap (λ n. bit_at n k) (rw same (get_or-set_same sets i (bit_or old more) 0 inside)))) ∙ one in
                let either = bit_at_or old more k in
                elim (cases_eq (bit_at old k) 1) [
                  | inl before ↦ rw same (sound.path i k within before)
                  | inr new ↦
                      let top = bit_at-lt more k in
                      let low = bit_at-lt old k in
                      rw same (from_in code sets line i k within small is sound (omega arith))
                ]
            | inr other ↦ sound.path j k within (sym (ap (λ n. bit_at n k) (get_or-set_other sets i j (bit_or old more) 0 other)) ∙ one)
          ];
    }

-- a visit that changes a set makes the sum greater
pub visit_grows : (sets : List ℕ) (i more : ℕ) → i < length sets → (bit_or (get_or sets i 0) more ≡ get_or sets i 0 → ⊥)
    → sum sets < sum (set sets i (bit_or (get_or sets i 0) more))
visit_grows sets i more inside changed =
    let le = le_or_l (get_or sets i 0) more in
    let total = sum_by-set (λ x. x) sets i (bit_or (get_or sets i 0) more) 0 inside in
    omega arith

has_closed : (old new k : ℕ) → bit_or old new ≡ old → bit_at new k ≡ 1 → bit_at old k ≡ 1
has_closed old new k same one =
    let either = bit_at_or old new k in
    let now = ap (λ n. bit_at n k) same in
    let top = bit_at-lt old k in
    omega arith

-- a fixed point has the start of each path
complete : (code : List Line) (sets : List ℕ) → IsClosedCode code → IsClosed code sets → (rest : List ℕ) (i k : ℕ) → k < 128
    → LiveAlong code k i rest → bit_at (get_or sets i 0) k ≡ 1
complete code sets fits closed [] i k within p =
    let inside = slice_get_within code i p.0 p.1 in
    has_closed _ _ k ((closed.each i inside).closed p.0 p.1) (in_read p.0 _ k within p.2)
complete code sets fits closed (j ∷ rest) i k within p =
    let inside = slice_get_within code i p.0 p.1 in
    let next = complete code sets fits closed rest j k within p.4 in
    has_closed _ _ k ((closed.each i inside).closed p.0 p.1)
    (in_kept p.0 _ k within (fits.registers i p.0 p.1) p.2 (out_there sets (next_of p.0.instr i) k j p.3 next))

read_small : (code : List Line) → IsClosedCode code → (line : Line) (i k : ℕ) → slice_get code i ≡ Some line → Reads line k → k < 128
read_small code closed line i k is reads =
    let small = closed.registers i line is in
    elim reads [ inl e ↦ subst IsSmall e small.first | inr e ↦ subst IsSmall e small.second ]

-- only registers below 128 are live
pub live_small : (code : List Line) → IsClosedCode code → (rest : List ℕ) (i k : ℕ) → LiveAlong code k i rest → k < 128
live_small code closed [] i k p = read_small code closed p.0 i k p.1 p.2
live_small code closed (j ∷ rest) i k p = live_small code closed rest j k p.4

-- the lemmas as the code asks for them
pub grown_sound : (code : List Line) (sets : List ℕ) (i more out : ℕ) (d : Line) → more ≡ in_of (get_or code i d) out → IsOutSet code sets i out
    → i < length code → IsClosedCode code → length sets ≡ length code → IsSound code sets
    → IsSound code (set sets i (bit_or (get_or sets i 0) more))
grown_sound code sets i more out d e is_out inside closed same sound =
    let is = slice_get-get_or code i d inside in
    rw (e, is_out.union _ is) (visit_sound code sets (get_or code i d) i (closed.registers i _ is) is (omega arith) sound)

pub closed_here : (code : List Line) (sets : List ℕ) (i more out : ℕ) (d : Line) → more ≡ in_of (get_or code i d) out → IsOutSet code sets i out
    → bit_or (get_or sets i 0) more ≡ get_or sets i 0 → IsClosedAt code sets i
closed_here code sets i more out d e is_out still = record {
  closed = λ line is.
      let same = get_or_from_slice_get code i line d is in
      let union = is_out.union line is in
      let more_is : more ≡ in_of line (out_of sets (next_of line.instr i)) = rw (e, same, union) in
      rw more_is at still;
}

pub sum_bound : (sets : List ℕ) → ((i : ℕ) → Fits w128 (get_or sets i 0)) → sum sets ≤ length sets * 2 ^ 128
sum_bound sets fits = sum_by-le (λ x. x) (2 ^ 128) sets (All-from_get_or (λ x. x ≤ 2 ^ 128) sets 0 (λ i _. let h = fits i in omega arith))

pub settled : (code : List Line) (sets : List ℕ) → IsClosedCode code → length sets ≡ length code → ((i : ℕ) → Fits w128 (get_or sets i 0))
    → IsSound code sets → IsClosed code sets → IsLive code sets
settled code sets fits same bounded sound closed = record {
  one_each = same;
  each = λ i inside. record {
    exact = λ k. (
      λ one.
          let within : k < 128 =
          elim (cases_eq (bit_at (get_or sets i 0) k) 0) [
            | inl none ↦ absurd (omega arith)
            | inr some ↦ elim (leb_tells 128 k) [
              | inl past ↦ absurd (some (bit_at_above (get_or sets i 0) 128 k (let h = bounded i in omega arith) past.1))
              | inr less ↦ less.1
            ]
          ] in
          sound.path i k within one,
      λ live. complete code sets fits closed live.0 i k (live_small code fits live.0 i k live.1) live.1,
    );
  };
}

-- the union of the successors' live registers
pub outs_live : (code : List Line) (sets : List ℕ) (i out : ℕ) → IsLive code sets → IsOutSet code sets i out → IsClosedCode code → i < length code
    → IsSetOf (LiveOut code i) out
outs_live code sets i out live is_out closed inside =
    let line = slice_get_cases code i in
    elim line.1 [
      | inr past ↦ absurd (let le = past.0 in omega arith)
      | inl here ↦ record {
        exact = λ k. (
          λ one.
              let p = out_from sets (next_of here.0.instr i) k (subst (λ n. bit_at n k ≡ 1) (is_out.union here.0 here.2) one) in
              let edge : Edge code i p.0 = (here.0, here.2, p.1) in
              (p.0, edge, ((live.each p.0 (closed.closed i p.0 edge)).exact k).0 p.2),
          λ out_there_is.
              let edge = out_there_is.1 in
              let bit = ((live.each out_there_is.0 (closed.closed i out_there_is.0 edge)).exact k).1 out_there_is.2 in
              rw (is_out.union edge.0 edge.1) (out_there sets (next_of edge.0.instr i) k out_there_is.0 edge.2 bit),
        );
      }
    ]

pub small_at : (code : List Line) → IsClosedCode code → (i : ℕ) (d : Line) → i < length code → HasSmallRegisters (get_or code i d)
small_at code closed i d inside = closed.registers i _ (slice_get-get_or code i d inside)

step_kept : (before now : List ℕ) (told : Bool) → (told ≡ true → sum before < sum now) → (told ≡ false → now ≡ before) → sum before ≤ sum now
step_kept before now true grown same = let more = grown refl in omega arith
step_kept before now false grown same = rw (same refl) (omega arith)

-- either nothing changed in a sweep and a visit, or a set grew in one of them
pub step_grown : (first before now : List ℕ) (was told : Bool) → (told ≡ true → sum before < sum now) → (told ≡ false → now ≡ before)
    → HasGrown first before was → HasGrown first now (was || told)
step_grown first before now was told grown same so_far = record {
  kept = let le = kept in let before = so_far.kept in omega arith;
  more = go was refl;
}
  where
    kept : sum before ≤ sum now
    kept = step_kept before now told grown same

    go : (b : Bool) → was ≡ b → (b || told) ≡ true → sum first < sum now
    go true is e = let more = so_far.more is in let le = kept in omega arith
    go false is e = let more = grown e in let le = so_far.kept in omega arith

pub step_still : (code : List Line) (before now : List ℕ) (i : ℕ) (was told : Bool)
    → (was ≡ false → (j : ℕ) → suc i ≤ j → j < length code → IsClosedAt code before j)
    → (told ≡ false → now ≡ before) → (told ≡ false → IsClosedAt code now i)
    → (was || told) ≡ false → (j : ℕ) → i ≤ j → j < length code → IsClosedAt code now j
step_still code before now i true told rest same here e j low high = absurd (cc)
step_still code before now i false told rest same here e j low high =
    elim (cases_eq j i) [
      | inl at ↦ rw at (here e)
      | inr other ↦ rw (same e) (rest refl j (omega arith) high)
    ]

pub lives_of : (code : List Line) (sets outs : List ℕ) → IsClosedCode code → IsLive code sets → AreOutSets code sets outs
    → IsLiveOf code (record { ins = sets; outs = outs })
lives_of code sets outs closed live are = record {
  ins = live.one_each;
  outs = are.one_each;
  live_in = live.each;
  live_out = λ i inside. outs_live code sets i (get_or outs i 0) live (are.each i inside) closed inside;
}
