-- Survivors and results of an instruction as sets.
use Rattle.std.proofs.Common.{◌≡◌, ℕ, ◌*◌, ◌%◌, ◌^◌, ◌<◌, List, Option, Some, length, get_or, slice_get, ap, sym, subst, ◌∙◌, inl, inr, arith}
use Rattle.std.specs.Prelude.{slice_index}
use Rattle.std.specs.Int.{bit_at, w128}
use Rattle.std.proofs.lemmas.Bool.{cases_eq}
use Rattle.std.proofs.lemmas.Nat.Bits.{bit_at-zero, bit_at_set_same, bit_at_set_other}
use Rattle.std.proofs.lemmas.Option.{slice_get-get_or, get_or_from_slice_get}
use Rattle.micro_isa.specs.declared.program.Line.{Line}
use Rattle.micro_isa.specs.declared.program.VReg.{VReg}
use Rattle.micro_isa.specs.Columns.{written_by}
use Rattle.flow_graph.specs.Paths.{IsSmall, IsClosedCode}
use Rattle.liveness.specs.declared.live.Live.{Live}
use Rattle.liveness.specs.Liveness.{LiveOut}
use Rattle.liveness.specs.Lives.{out_sets, IsLiveOf}
use Rattle.liveness.specs.Sets.{IsSetOf}
use Rattle.liveness.specs.Surviving.{WritesAt}

pub alone : (register : VReg) → register.0 < 128 → IsSetOf (λ k. Some register ≡ Some (record { 0 = k })) (1 * 2 ^ register.0 % 2 ^ 128)
alone register small =
    let named_so : ℕ → Option VReg = λ n. Some (record { 0 = n }) in record {
      exact = λ k. (
        λ one. elim (cases_eq k register.0) [
          | inl same ↦ ap named_so (sym same)
          | inr other ↦ absurd (omega (arith, bit_at_set_other w128 0 register.0 small k other, bit_at-zero k))
        ],
        λ is. let same : register.0 ≡ k = cc in subst (λ j. bit_at (1 * 2 ^ register.0 % 2 ^ 128) j ≡ 1) same (bit_at_set_same w128 0 register.0 small),
      );
    }

-- what the code reads of the live registers is what is live out
pub out_set : (code : List Line) (live : Live) (i out : ℕ) → IsLiveOf code live → i < length code → out ≡ slice_index (out_sets live) i → IsSetOf (LiveOut code i) out
out_set code live i out is here same = subst (IsSetOf (LiveOut code i)) (sym same) (is.live_out i here)

module _ (code : List Line) (i : ℕ) (d : Line) (written : Option VReg) (is_written : written ≡ written_by (get_or code i d).instr)
    (here : i < length code) where
  is : slice_get code i ≡ Some (get_or code i d)
  is = slice_get-get_or code i d here

  pub written_small : IsClosedCode code → IsSmall written
  written_small closed = rw is_written (closed.registers i _ is).written

  written_at : (k : ℕ) → written ≡ Some (record { 0 = k }) → WritesAt code i k
  written_at k e = (get_or code i d, is, sym is_written ∙ e)

  at_written : (k : ℕ) → WritesAt code i k → written ≡ Some (record { 0 = k })
  at_written k at =
      let same = get_or_from_slice_get code i at.0 d at.1 in
      is_written ∙ ap (λ (y : Line). written_by y.instr) same ∙ at.2

  pub written_set : (one : ℕ) → IsSetOf (λ k. written ≡ Some (record { 0 = k })) one → IsSetOf (WritesAt code i) one
  written_set one is_one = record {
    exact = λ k.
        let both = is_one.exact k in
        (λ bit. written_at k (both.0 bit), λ at. both.1 (at_written k at));
  }
