-- What the live sets tell of their program.
use Rattle.std.specs.Prelude.{ℕ, ◌≡◌, ◌<◌, List, length, slice_index}
use Rattle.micro_isa.specs.declared.program.Line.{Line}
use Rattle.liveness.specs.declared.live.Live.{Live}
use Rattle.liveness.specs.Liveness.{LiveIn, LiveOut}
use Rattle.liveness.specs.Sets.{IsSetOf}

-- the set of each instruction's registers that are live in
abbrev pub in_sets : Live → List ℕ
in_sets live = live.ins

-- the set of each instruction's registers that are live out
abbrev pub out_sets : Live → List ℕ
out_sets live = live.outs

-- the sets are those of this code, by its paths
pub record IsLiveOf (code : List Line) (live : Live) : Type 0 where
  pub ins : length (in_sets live) ≡ length code
  pub outs : length (out_sets live) ≡ length code
  pub live_in : (i : ℕ) → i < length code → IsSetOf (LiveIn code i) (slice_index (in_sets live) i)
  pub live_out : (i : ℕ) → i < length code → IsSetOf (LiveOut code i) (slice_index (out_sets live) i)
