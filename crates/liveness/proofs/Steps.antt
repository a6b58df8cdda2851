-- What is live from an instruction to the next.
use Rattle.std.proofs.Common.{◌≡◌, ℕ, ◌∷◌, [], List, Some, slice_get, subst, sym, inl, inr}
use Rattle.micro_isa.specs.declared.program.Line.{Line}
use Rattle.flow_graph.specs.Paths.{Edge}
use Rattle.liveness.specs.Liveness.{Reads, LiveIn, LiveOut}
use Rattle.liveness.specs.Surviving.{WritesAt, Stays, Crosses}

pub reads_live : (code : List Line) (i k : ℕ) (line : Line) → slice_get code i ≡ Some line → Reads line k → LiveIn code i k
reads_live code i k line is reads = ([], (line, is, reads))

pub goes_out : (code : List Line) (i j k : ℕ) → Edge code i j → LiveIn code j k → LiveOut code i k
goes_out code i j k edge live = (j, edge, live)

pub survives : (code : List Line) (i j k : ℕ) → Edge code i j → LiveIn code j k → (WritesAt code i k → ⊥) → Stays code i k
survives code i j k edge live kept = ((j, edge, live), kept)

-- what survives was live before
pub stays_live : (code : List Line) (i k : ℕ) → Stays code i k → LiveIn code i k
stays_live code i k stays =
    let out = stays.0 in
    let edge = out.1 in
    (out.0 ∷ out.2.0, (edge.0, edge.1, (λ writes. stays.1 (edge.0, edge.1, writes)), edge.2, out.2.1))

pub crosses_live : (code : List Line) (i k : ℕ) → Crosses code i k → LiveIn code i k
crosses_live code i k crosses = elim crosses [
  | inl at ↦ stays_live code i k at.1
  | inr entry ↦ subst (λ n. LiveIn code n k) (sym entry.0) entry.1
]
