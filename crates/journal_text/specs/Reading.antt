-- What the words of a line are read as. The clauses of `read_entry` say the same by the lines that entries have.
use Rattle.std.specs.Prelude.{ℕ, ◌==◌, nat_lt, List, ◌∷◌, length, take, drop, Option, Some, None, option_map, option_and_then, codes, nat_eq, if◌then◌else◌}
use Rattle.std.specs.Cmp.Lexicographic.{pointwise}
use Rattle.std.specs.Str.{bytes_eq}
use Rattle.journal_text.specs.Parting.{cut}
use Rattle.micro_kit.specs.Numbers.{number_of}
use Rattle.world.specs.declared.event.Trap.TheVariants.{Divide, Address}
use Rattle.world.specs.declared.event.SegmentEnd.{SegmentEnd}
use Rattle.world.specs.declared.event.SegmentEnd.TheVariants as end
use Rattle.world.specs.declared.event.Entry.{Entry}
use Rattle.world.specs.declared.event.Entry.TheVariants.{Ran, Fed, Unplugged}

-- the number that a word without a leading zero spells
abbrev pub plain_number : List ℕ → Option ℕ
plain_number (c ∷ d ∷ ds) = if c == 48 then None else number_of (c ∷ d ∷ ds)
plain_number word = number_of word

-- the same, where it is below 256
abbrev pub byte_number : List ℕ → Option ℕ
byte_number word = option_and_then (λ n. if nat_lt n 256 then Some n else None) (plain_number word)

-- the end by a trap that a word names
abbrev pub trapped_of : List ℕ → Option SegmentEnd
trapped_of word =
    if bytes_eq word (codes "divide") then Some (end.Trap Divide)
    else (if bytes_eq word (codes "address") then Some (end.Trap Address) else None)

-- the end that a word names
abbrev pub end_of : List ℕ → Option SegmentEnd
end_of word =
    if bytes_eq word (codes "load") then Some end.Load
    else (if bytes_eq word (codes "store") then Some end.Store
    else (if bytes_eq word (codes "yield") then Some end.Yield
    else (if bytes_eq word (codes "recv") then Some end.Recv
    else (if bytes_eq word (codes "send") then Some end.Send
    else (if bytes_eq word (codes "halt") then Some end.Halt
    else (if bytes_eq word (codes "bound") then Some end.Bound else trapped_of word))))))

-- two words, of which each is read
abbrev pub both_of : {A B C : Type 0} → (A → B → C) → Option A → Option B → Option C
both_of f (Some a) (Some b) = Some (f a b)
both_of f (Some a) None = None
both_of f None b = None

-- the steps and the end behind a context
abbrev pub stretch_of : List ℕ → Option (ℕ × SegmentEnd)
stretch_of text = option_and_then (λ p. both_of (λ n end. (n, end)) (plain_number p.0) (end_of p.1)) (cut 32 text)

-- `C N END`
abbrev pub ran_of : List ℕ → Option Entry
ran_of text = option_and_then (λ p. both_of (λ c s. Ran c s.0 s.1) (plain_number p.0) (stretch_of p.1)) (cut 32 text)

-- `K W`
abbrev pub fed_of : List ℕ → Option Entry
fed_of text = option_and_then (λ p. both_of Fed (byte_number p.0) (plain_number p.1)) (cut 32 text)

-- `K`
abbrev pub unplugged_of : List ℕ → Option Entry
unplugged_of text = option_map Unplugged (byte_number text)

-- what follows these bytes, where a text begins with them
abbrev pub after : List ℕ → List ℕ → Option (List ℕ)
after prefix text = if pointwise nat_eq (take (length prefix) text) prefix then Some (drop (length prefix) text) else None

abbrev pub entry_by : Option (List ℕ) → Option (List ℕ) → Option (List ℕ) → Option Entry
entry_by (Some rest) _ _ = ran_of rest
entry_by None (Some rest) _ = fed_of rest
entry_by None None (Some rest) = unplugged_of rest
entry_by None None None = None

-- the entry of a line
abbrev pub entry_of : List ℕ → Option Entry
entry_of line = entry_by (after (codes "run ") line) (after (codes "feed ") line) (after (codes "unplug ") line)
