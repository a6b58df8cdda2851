-- The first word of a line, and whether it has another.
use Rattle.std.specs.Prelude.{ℕ, Bool, true, false, List, [], ◌∷◌, Option, Some, None, option_map}
use Rattle.asm_lines.specs.Cutting.{Words}
use Rattle.asm_lines.specs.declared.cutting.Head.{Head}

pub record WordHead : Type 0 where
  pub first : Option (List ℕ)
  pub more : Bool

abbrev pub has_some : Words → Bool
has_some [] = false
has_some (w ∷ ws) = true

abbrev pub head_of : Words → WordHead
head_of [] = record { first = None; more = false }
head_of (w ∷ ws) = record { first = Some w; more = has_some ws }

abbrev pub seen_head : Head → WordHead
seen_head h = record { first = option_map (λ w. w.now) h.first; more = h.more }
