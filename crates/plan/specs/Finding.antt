-- The first entries of a list of places.
use Rattle.std.specs.Prelude.{ℕ, ◌<◌, ◌==◌, ◌&&◌, Bool, nat_le, nat_lt, List, [], ◌∷◌, Option, Some, None, if◌then◌else◌, ⊤}
use Rattle.std.specs.List.{Contains}
use Rattle.std.specs.Int.{bit_at}
use Rattle.plan.specs.declared.row.Place.{Place}

-- the entry's register is of the set, and its place is not below the bound
abbrev pub is_beyond : ℕ → ℕ → Place → Bool
is_beyond set bound q = (bit_at set q.register.0 == 1) && nat_le bound q.place

-- the entry's register is of the set, and has this place
abbrev pub is_at : ℕ → ℕ → Place → Bool
is_at set place q = (bit_at set q.register.0 == 1) && (q.place == place)

-- the first entry with this place
abbrev pub holder_of : List Place → ℕ → Option Place
holder_of [] x = None
holder_of (q ∷ qs) x = if q.place == x then Some q else holder_of qs x

-- an entry and another of its place, or else a later pair
abbrev pub pair_or : Place → Option Place → Option (Place × Place) → Option (Place × Place)
pair_or q (Some other) later = Some (q, other)
pair_or q None later = later

-- the first entry that has a later one with its place, and the first of these
abbrev pub pair_of : List Place → Option (Place × Place)
pair_of [] = None
pair_of (q ∷ qs) = pair_or q (holder_of qs q.place) (pair_of qs)

-- of a listed place and that of a write the one of the lesser register; the listed one where they're of one register
abbrev pub lesser_place : Option Place → Option Place → Option Place
lesser_place None written = written
lesser_place (Some listed) None = Some listed
lesser_place (Some listed) (Some written) = if nat_lt written.register.0 listed.register.0 then Some written else Some listed

-- the registers of the entries rise
abbrev pub Rises : List Place → Type 0
Rises [] = ⊤
Rises (q ∷ qs) = ((s : Place) → Contains qs s → q.register.0 < s.register.0) × Rises qs
