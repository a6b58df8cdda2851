-- How many contexts wait to send, and what a load leaves.
use Rattle.std.specs.Prelude.{ℕ, ◌+◌, List, [], ◌∷◌, Option, Some, None}
use Rattle.world.specs.declared.event.Phase.{Phase}
use Rattle.world.specs.declared.event.Phase.TheVariants.{Due, Sending, Trapped}
use Rattle.world.specs.declared.event.Trap.TheVariants.{Address}

abbrev pub sends : Phase → ℕ
sends (Sending channel word) = 1
sends _ = 0

-- how many of these phases wait to send
abbrev pub sending_in : List Phase → ℕ
sending_in [] = 0
sending_in (p ∷ ps) = sends p + sending_in ps

-- the phase after a load of a word that is there or not
abbrev pub due_phase : ℕ → Option ℕ → Phase
due_phase line None = Trapped Address line
due_phase line (Some word) = Due word
