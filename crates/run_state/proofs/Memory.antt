-- A load finds the word of an address exactly where the address is below the memory size.
use Rattle.std.proofs.Common.{◌≡◌, ℕ, zero, suc, ◌≤◌, List, [], ◌∷◌, length, Bool, true, false, None, refl, ap, arith}
use Rattle.std.specs.Prelude.{slice_get, slice_index, nat_lt, if◌then◌else◌}
use Rattle.std.proofs.lemmas.Bool.{ltb-true, ltb-false}
use Rattle.std.proofs.lemmas.Option.{slice_get-get_or}
use Rattle.world.specs.declared.event.Phase.TheVariants.{Due, Trapped}
use Rattle.world.specs.declared.event.Trap.TheVariants.{Address}
use Rattle.run_state.specs.Sending.{due_phase}

missing : (ws : List ℕ) (at : ℕ) → length ws ≤ at → slice_get ws at ≡ None
missing [] at h = refl
missing (w ∷ ws) zero h = absurd (omega arith)
missing (w ∷ ws) (suc at) h = missing ws at (omega arith)

by_test : (memory : List ℕ) (at line : ℕ) (b : Bool) → nat_lt at (length memory) ≡ b → due_phase line (slice_get memory at) ≡ (if b then Due (slice_index memory at) else Trapped Address line)
by_test memory at line true e = ap (due_phase line) (slice_get-get_or memory at 0 (ltb-true at (length memory) e))
by_test memory at line false e = ap (due_phase line) (missing memory at (ltb-false at (length memory) e))

pub found_phase : (memory : List ℕ) (at line : ℕ) → due_phase line (slice_get memory at) ≡ (if nat_lt at (length memory) then Due (slice_index memory at) else Trapped Address line)
found_phase memory at line = by_test memory at line (nat_lt at (length memory)) refl
