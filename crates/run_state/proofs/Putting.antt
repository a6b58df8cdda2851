-- A write to a list of values is a write to the source registers that it stands for.
use Rattle.std.proofs.Common.{◌≡◌, ℕ, ◌<◌, List, length, Bool, true, false, refl, ap, ◌∙◌}
use Rattle.std.specs.Prelude.{nat_lt, slice_set, slice_index, ◌==◌, if◌then◌else◌}
use Rattle.std.proofs.lemmas.Bool.{ltb-true, eqb-true, eqb-false}
use Rattle.std.proofs.lemmas.List.{length-set, get_or-set_same, get_or-set_other}
use Rattle.micro_isa.specs.declared.program.VReg.{VReg}
use Rattle.semantics.specs.Source.{put}
use Rattle.run_state.specs.Running.{values_of}

by_test : (values : List ℕ) (r q : VReg) (v : ℕ) (b : Bool) → (q.0 == r.0) ≡ b → r.0 < length values → slice_index (slice_set values r.0 v) q.0 ≡ (if b then v else slice_index values q.0)
by_test values r q v true e lt = ap (λ n. slice_index (slice_set values r.0 v) n) (eqb-true q.0 r.0 e) ∙ get_or-set_same values r.0 v 0 lt
by_test values r q v false e lt = get_or-set_other values r.0 q.0 v 0 (eqb-false q.0 r.0 e)

pub one_put : (values : List ℕ) (r : VReg) (v : ℕ) → r.0 < length values → values_of (slice_set values r.0 v) ≡ put (values_of values) r v
one_put values r v lt = λ i q. by_test values r q v (q.0 == r.0) refl lt i

-- a write leaves which registers are there
pub same_held : (values : List ℕ) (r v : ℕ) → (let held : VReg → Bool = λ q. nat_lt q.0 (length (slice_set values r v)) in held) ≡ (λ q. nat_lt q.0 (length values))
same_held values r v = λ i q. nat_lt q.0 (length-set values r v i)

pub is_there : (values : List ℕ) (r : ℕ) → nat_lt r (length values) ≡ true → r < length values
is_there values r h = ltb-true r (length values) h
