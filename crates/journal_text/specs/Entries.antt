-- The line of a journal's entry.
use Rattle.std.specs.Prelude.{◌≡◌, ℕ, ◌<◌, ◌^◌, List, ◌++◌, decimal, codes}
use Rattle.micro_kit.specs.Text.{newline}
use Rattle.world.specs.declared.event.Trap.{Trap}
use Rattle.world.specs.declared.event.Trap.TheVariants.{Divide, Address}
use Rattle.world.specs.declared.event.SegmentEnd.{SegmentEnd}
use Rattle.world.specs.declared.event.SegmentEnd.TheVariants as end
use Rattle.world.specs.declared.event.Entry.{Entry}
use Rattle.world.specs.declared.event.Entry.TheVariants.{Ran, Fed, Unplugged}

abbrev pub trap_word : Trap → List ℕ
trap_word Divide = codes "divide"
trap_word Address = codes "address"

abbrev pub end_word : SegmentEnd → List ℕ
end_word end.Load = codes "load"
end_word end.Store = codes "store"
end_word end.Yield = codes "yield"
end_word end.Recv = codes "recv"
end_word end.Send = codes "send"
end_word end.Halt = codes "halt"
end_word (end.Trap trap) = trap_word trap
end_word end.Bound = codes "bound"

-- the numbers of an entry are those that its types hold
abbrev pub IsFitting : Entry → Type 0
IsFitting (Ran c n end) = (c < 2 ^ 32) × (n < 2 ^ 32)
IsFitting (Fed k w) = (k < 2 ^ 8) × (w < 2 ^ 32)
IsFitting (Unplugged k) = k < 2 ^ 8

-- `run C N END`, `feed K W` or `unplug K`
abbrev pub entry_words : Entry → List ℕ
entry_words (Ran c n end) = codes "run " ++ decimal c ++ codes " " ++ decimal n ++ codes " " ++ end_word end
entry_words (Fed k w) = codes "feed " ++ decimal k ++ codes " " ++ decimal w
entry_words (Unplugged k) = codes "unplug " ++ decimal k

-- the words and a newline
abbrev pub entry_line : Entry → List ℕ
entry_line e = entry_words e ++ newline

-- the line of no entry
abbrev pub IsNoEntry : List ℕ → Type 0
IsNoEntry line = (e : Entry) → IsFitting e → line ≡ entry_words e → ⊥
