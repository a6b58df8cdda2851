-- The bytes of an image.
use Rattle.std.specs.Prelude.{◌≡◌, ℕ, ◌<◌, ◌^◌, List, [], ◌∷◌, ◌++◌, length, Some, None}
use Rattle.std.specs.List.{flat_map, AllByRecursion}
use Rattle.byteorder.specs.Endian.{little_bytes}
use Rattle.micro_isa.specs.declared.program.Channel.{Channel}
use Rattle.micro_isa.specs.declared.program.Channel.TheVariants.{Inner, Input, Output}
use Rattle.micro_isa.specs.declared.image.Range.{Range}
use Rattle.micro_isa.specs.declared.image.Code.{Code}
use Rattle.micro_isa.specs.declared.image.Image.{Image}
use Rattle.micro_isa.specs.Formed.{IsFormedImage}
use Rattle.image_load.specs.declared.channels.Part.{Part}
use Rattle.micro_isa.specs.WordBytes.{word_bytes, FitsWord}

-- the numbers at the head of a channel's part; the port 255 is none
abbrev part : ℕ → ℕ → ℕ → ℕ → Part
part kind port capacity count = record { kind = kind; port = port; capacity = capacity; count = count }

abbrev pub part_of : Channel → Part
part_of (Inner capacity) = part 0 255 capacity 0
part_of (Input words None) = part 1 255 0 (length words)
part_of (Input words (Some port)) = part 1 port.number port.capacity (length words)
part_of (Output None) = part 2 255 0 0
part_of (Output (Some port)) = part 2 port 0 0

abbrev pub initial_words : Channel → List ℕ
initial_words (Input words port) = words
initial_words _ = []

abbrev pub part_bytes : Part → List ℕ
part_bytes p = p.kind ∷ p.port ∷ (little_bytes 2 p.capacity ++ little_bytes 4 p.count)

abbrev pub number_bytes : ℕ → List ℕ
number_bytes n = little_bytes 4 n

abbrev pub channel_bytes : Channel → List ℕ
channel_bytes c = part_bytes (part_of c) ++ flat_map number_bytes (initial_words c)

abbrev pub range_bytes : Range → List ℕ
range_bytes r = little_bytes 2 r.start ++ little_bytes 2 r.size

abbrev pub code_bytes : Code → List ℕ
code_bytes code = (range_bytes code.private ++ little_bytes 4 (length code.words)) ++ flat_map word_bytes code.words

-- `UREG`
abbrev pub magic : ℕ
magic = 1195725397

abbrev pub header_bytes : Image → List ℕ
header_bytes m =
    little_bytes 4 magic
    ++ little_bytes 2 1
    ++ little_bytes 2 (length m.contexts)
    ++ little_bytes 2 m.file
    ++ little_bytes 2 (length m.setting.channels)
    ++ little_bytes 4 m.setting.memory
    ++ range_bytes m.shared

unfoldable pub image_bytes : Image → List ℕ
image_bytes m = header_bytes m ++ (flat_map channel_bytes m.setting.channels ++ flat_map code_bytes m.contexts)

-- initial words have the width of their fields
abbrev pub FitsChannel : Channel → Type 0
FitsChannel c = AllByRecursion (λ n. n < 2 ^ 32) (initial_words c)

-- so have the numbers of a context's words
abbrev pub FitsCode : Code → Type 0
FitsCode code = AllByRecursion FitsWord code.words

-- all numbers that have no limit of their own have the widths of their fields
pub record FitsImage (m : Image) : Type 0 where
  pub initial : AllByRecursion FitsChannel m.setting.channels
  pub words : AllByRecursion FitsCode m.contexts

-- bytes are the spelling of an image
pub record Spells (bytes : List ℕ) (m : Image) : Type 0 where
  pub formed : IsFormedImage m
  pub fits : FitsImage m
  pub spelt : bytes ≡ image_bytes m

-- they spell no other image
abbrev pub SpellsAlone : List ℕ → Image → Type 0
SpellsAlone bytes m = (other : Image) → Spells bytes other → other ≡ m
