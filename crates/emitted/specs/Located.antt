-- Where a context of an emitted image has the registers of its source.
use Rattle.std.specs.Prelude.{ℕ, ◌≡◌, ◌≢◌, ◌+◌, ◌<◌, ◌⊎◌, List, length, Some, None, option_map, slice_index}
use Rattle.micro_isa.specs.declared.program.VReg.{VReg}
use Rattle.micro_isa.specs.declared.program.Line.{Line}
use Rattle.micro_isa.specs.declared.image.PReg.{PReg}
use Rattle.liveness.specs.Liveness.{LiveIn}
use Rattle.semantics.specs.Effects.{SavedContext}
use Rattle.semantics.specs.Source.{SourceContext}
use Rattle.plan.specs.declared.row.Plan.{Plan}
use Rattle.plan.specs.ValidPlans.{place_in}
use Rattle.emitted.specs.Edges.{row_at, place_or_zero}
use Rattle.emitted.specs.Words.{address}

-- the register of the file that has register v at instruction i
abbrev pub register_at : Plan → (ℕ → PReg) → ℕ → VReg → ℕ
register_at plan reg i v = (reg (place_in (row_at plan i).places v.0)).0

-- the context is at the word of its instruction, and its live registers are in the places of that row
pub record StandsAt (code : List Line) (plan : Plan) (reg : ℕ → PReg) (x : SourceContext) (k : SavedContext PReg) (file : List ℕ) : Type 0 where
  pub within : x.kept.at < length code
  pub none : x.kept.pending ≡ None
  pub at : k.at ≡ address code plan x.kept.at
  pub pending : k.pending ≡ None
  pub values : (v : VReg) → LiveIn code x.kept.at v.0 → slice_index file (register_at plan reg x.kept.at v) ≡ x.values v

-- the context is behind the word of instruction i, from which it falls: what waits for a word goes to i's write place, and
-- the other live registers are in the places of row i
pub record StandsBehind (code : List Line) (plan : Plan) (reg : ℕ → PReg) (x : SourceContext) (k : SavedContext PReg) (file : List ℕ) (i : ℕ) : Type 0 where
  pub within : i + 1 < length code
  pub next : x.kept.at ≡ i + 1
  pub at : k.at ≡ address code plan i + 1
  pub pending : k.pending ≡ option_map (λ v. reg (place_or_zero (row_at plan i).write)) x.kept.pending
  pub values : (v : VReg) → LiveIn code (i + 1) v.0 → x.kept.pending ≢ Some v → slice_index file (register_at plan reg i v) ≡ x.values v

-- it is at a word or behind one
abbrev pub IsLocated : List Line → Plan → (ℕ → PReg) → SourceContext → SavedContext PReg → List ℕ → Type 0
IsLocated code plan reg x k file = StandsAt code plan reg x k file ⊎ ((i : ℕ) × StandsBehind code plan reg x k file i)
