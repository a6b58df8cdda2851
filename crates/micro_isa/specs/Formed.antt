-- Which programs, settings, bundles and images are formed: what every reader gives and every later call asks for.
use Rattle.std.specs.Prelude.{◌≡◌, ℕ, ◌+◌, ◌-◌, ◌≤◌, List, [], ◌∷◌, ◌++◌, length, map, sum, Bool, true, false, ◌||◌, ◌&&◌, not, nat_lt, nat_le, nat_eq, ◌==◌, if◌then◌else◌, Option, Some, None, slice_get}
use Rattle.std.specs.List.{list_any, list_all, range_with_len, flat_map, filter_map}
use Rattle.std.specs.Str.{bytes_eq}
use Rattle.micro_isa.specs.declared.limits.TheConstants.{MOST_CONTEXTS, MOST_REGISTERS, MOST_FILE, MOST_INSTRUCTIONS, MOST_WORDS, MOST_MEMORY, MOST_CHANNELS, MOST_PORTS, MOST_RING, MOST_INITIAL_WORDS}
use Rattle.micro_isa.specs.declared.arithmetic.AluOp.TheVariants as op
use Rattle.micro_isa.specs.declared.instr.Instr.{Instr}
use Rattle.micro_isa.specs.declared.instr.Instr.TheVariants.{Mov, Alu, Jmp}
use Rattle.micro_isa.specs.declared.program.Line.{Line}
use Rattle.micro_isa.specs.declared.program.Label.{Label}
use Rattle.micro_isa.specs.declared.program.Program.{Program}
use Rattle.micro_isa.specs.declared.program.Channel.{Channel}
use Rattle.micro_isa.specs.declared.program.Channel.TheVariants.{Inner, Input, Output}
use Rattle.micro_isa.specs.declared.program.Setting.{Setting}
use Rattle.micro_isa.specs.declared.program.Bundle.{Bundle}
use Rattle.micro_isa.specs.declared.image.PReg.{PReg}
use Rattle.micro_isa.specs.declared.image.Word.{Word}
use Rattle.micro_isa.specs.declared.image.Range.{Range}
use Rattle.micro_isa.specs.declared.image.Code.{Code}
use Rattle.micro_isa.specs.declared.image.Image.{Image}
use Rattle.micro_isa.specs.declared.operands.Extra.{Extra}
use Rattle.micro_isa.specs.declared.operands.Extra.TheVariants.{Receive}
use Rattle.micro_isa.specs.declared.operands.Extra.TheVariants as extra
use Rattle.micro_isa.specs.Operands.{operands_of}
use Rattle.micro_isa.specs.Columns.{written_by}
pub use Rattle.micro_isa.specs.Columns.{registers_in, target_of, never_falls}

abbrev pub all_below : ℕ → List ℕ → Bool
all_below n xs = list_all (λ x. nat_lt x n) xs

abbrev pub option_below : ℕ → Option ℕ → Bool
option_below n None = true
option_below n (Some x) = nat_lt x n

-- words are received from such a channel, or sent to it
abbrev pub gives_words : Option Channel → Bool
gives_words (Some (Inner capacity)) = true
gives_words (Some (Input words port)) = true
gives_words _ = false

abbrev pub takes_words : Option Channel → Bool
takes_words (Some (Inner capacity)) = true
takes_words (Some (Output port)) = true
takes_words _ = false

-- the channel that an instruction names, if any, is there and of the right kind
abbrev pub fits_extra : List Channel → Extra ℕ ℕ → Bool
fits_extra chs (Receive channel) = gives_words (slice_get chs channel)
fits_extra chs (extra.Send channel) = takes_words (slice_get chs channel)
fits_extra chs _ = true

abbrev pub fits_channels : {R : Type 0} → List Channel → Instr R → Bool
fits_channels chs i = fits_extra chs (operands_of i).extra

abbrev pub is_distinct : {A : Type 0} → (A → A → Bool) → List A → Bool
is_distinct eq [] = true
is_distinct eq (x ∷ xs) = not (list_any (eq x) xs) && is_distinct eq xs

-- no number is below the one before it; each is above the one before it
abbrev pub never_drops : ℕ → List ℕ → Bool
never_drops least [] = true
never_drops least (x ∷ xs) = nat_le least x && never_drops x xs

abbrev pub always_rises : ℕ → List ℕ → Bool
always_rises least [] = true
always_rises least (x ∷ xs) = nat_le least x && always_rises (x + 1) xs

-- the numbers of a list in the order of their first appearance, behind those that were seen before it
abbrev pub firsts_after : List ℕ → List ℕ → List ℕ
firsts_after seen [] = seen
firsts_after seen (x ∷ xs) = firsts_after (if list_any (λ s. s == x) seen then seen else seen ++ x ∷ []) xs

-- all registers that a program's code names, in the order of the text
abbrev pub named_by : List Line → List ℕ
named_by code = flat_map (λ l. map (λ r. r.0) (registers_in l.instr)) code

-- at each place of a list a fact of the item there
abbrev pub Each : {A : Type 0} → List A → (A → Type 0) → Type 0
Each xs P = (i : ℕ) (x : _) → slice_get xs i ≡ Some x → P x

-- an instruction of a program with so many registers and instructions
abbrev pub names_below : {R : Type 0} → (R → ℕ) → ℕ → ℕ → Instr R → Bool
names_below number registers places i =
    all_below registers (map number (registers_in i)) && option_below places (target_of i)

abbrev pub last_never_falls : {R : Type 0} → Option (Instr R) → Bool
last_never_falls None = false
last_never_falls (Some i) = never_falls i

-- a label's target is one of these
abbrev pub is_labelled : List Label → Option ℕ → Bool
is_labelled labels None = true
is_labelled labels (Some target) = list_any (λ l. l.target == target) labels

pub record IsFormedProgram (p : Program) : Type 0 where
  pub some : 1 ≤ length p.code
  pub few : length p.code ≤ MOST_INSTRUCTIONS
  pub registers : length p.registers ≤ MOST_REGISTERS
  -- registers and targets exist
  pub named : Each p.code (λ l. names_below (λ r. r.0) (length p.registers) (length p.code) l.instr ≡ true)
  -- registers are numbered by their first appearance, and each appears
  pub numbered : firsts_after [] (named_by p.code) ≡ range_with_len 0 (length p.registers)
  pub distinct : is_distinct bytes_eq p.registers ≡ true
  -- each target has a label; labels have names of their own, exist, and stand in order
  pub labelled : Each p.code (λ l. is_labelled p.labels (target_of l.instr) ≡ true)
  pub label_names : is_distinct bytes_eq (map (λ l. l.name) p.labels) ≡ true
  pub label_targets : all_below (length p.code) (map (λ l. l.target) p.labels) ≡ true
  pub label_order : never_drops 0 (map (λ l. l.target) p.labels) ≡ true
  pub lines : always_rises 1 (map (λ l. l.line) p.code) ≡ true
  pub ends : (last : Line) → slice_get p.code (length p.code - 1) ≡ Some last → never_falls last.instr ≡ true

abbrev pub port_of : Channel → Option ℕ
port_of (Inner capacity) = None
port_of (Input words None) = None
port_of (Input words (Some port)) = Some port.number
port_of (Output port) = port

abbrev pub initial_count : Channel → ℕ
initial_count (Input words port) = length words
initial_count _ = 0

abbrev pub is_ring_size : ℕ → Bool
is_ring_size capacity = nat_le 1 capacity && nat_le capacity MOST_RING

abbrev pub has_formed_ring : Channel → Bool
has_formed_ring (Inner capacity) = is_ring_size capacity
has_formed_ring (Input words None) = true
has_formed_ring (Input words (Some port)) = is_ring_size port.capacity
has_formed_ring (Output port) = true

pub record IsFormedSetting (s : Setting) : Type 0 where
  pub memory : s.memory ≤ MOST_MEMORY
  pub few : length s.channels ≤ MOST_CHANNELS
  pub rings : list_all has_formed_ring s.channels ≡ true
  pub ports : all_below MOST_PORTS (filter_map port_of s.channels) ≡ true
  pub distinct : is_distinct nat_eq (filter_map port_of s.channels) ≡ true
  pub words : sum (map initial_count s.channels) ≤ MOST_INITIAL_WORDS

pub record IsFormedBundle (b : Bundle) : Type 0 where
  pub file : 1 ≤ b.file
  pub small : b.file ≤ MOST_FILE
  pub setting : IsFormedSetting b.setting
  pub some : 1 ≤ length b.programs
  pub few : length b.programs ≤ MOST_CONTEXTS
  pub programs : Each b.programs IsFormedProgram
  pub names : length b.names ≡ length b.setting.channels
  pub distinct : is_distinct bytes_eq b.names ≡ true
  pub contexts : is_distinct bytes_eq (map (λ p. p.name) b.programs) ≡ true
  pub channels : Each b.programs (λ p. Each p.code (λ l. fits_channels b.setting.channels l.instr ≡ true))

-- a register lies in a range
abbrev pub lies_in : Range → ℕ → Bool
lies_in range q = nat_le range.start q && nat_lt q (range.start + range.size)

-- two ranges have no register in common; an empty one meets none
abbrev pub are_apart : Range → Range → Bool
are_apart a b =
    (a.size == 0) || (b.size == 0) || nat_le (a.start + a.size) b.start || nat_le (b.start + b.size) a.start

abbrev pub all_apart : List Range → Bool
all_apart [] = true
all_apart (r ∷ rs) = list_all (are_apart r) rs && all_apart rs

abbrev pub is_glue : Instr PReg → Bool
is_glue (Mov to from) = true
is_glue (Alu op.Xor to a b) = true
is_glue (Jmp target) = true
is_glue _ = false

abbrev pub is_counted_at : List Word → Option ℕ → Bool
is_counted_at words None = true
is_counted_at words (Some target) = counted (slice_get words target)
  where
    counted : Option Word → Bool
    counted None = false
    counted (Some w) = w.counted

abbrev pub goes_to_counted : List Word → Instr PReg → Bool
goes_to_counted words (Jmp target) = is_counted_at words (Some target)
goes_to_counted words _ = true

-- a word that is not counted moves, exchanges, or jumps to a counted word
abbrev pub glue_fits : List Word → Word → Bool
glue_fits words w = if w.counted then true else is_glue w.instr && goes_to_counted words w.instr

abbrev pub writes_within : Range → Range → Option PReg → Bool
writes_within own shared None = true
writes_within own shared (Some r) = lies_in own r.0 || lies_in shared r.0

pub record IsFormedCode (m : Image) (code : Code) : Type 0 where
  pub some : 1 ≤ length code.words
  pub few : length code.words ≤ MOST_WORDS
  pub within : code.private.start + code.private.size ≤ m.file
  pub named : Each code.words (λ w. names_below (λ r. r.0) m.file (length code.words) w.instr ≡ true)
  -- it writes its private range and the shared one alone
  pub written : Each code.words (λ w. writes_within code.private m.shared (written_by w.instr) ≡ true)
  pub glue : Each code.words (λ w. glue_fits code.words w ≡ true)
  pub channels : Each code.words (λ w. fits_channels m.setting.channels w.instr ≡ true)
  pub ends : (last : Word) → slice_get code.words (length code.words - 1) ≡ Some last → never_falls last.instr ≡ true

pub record IsFormedImage (m : Image) : Type 0 where
  pub file : 1 ≤ m.file
  pub small : m.file ≤ MOST_FILE
  pub setting : IsFormedSetting m.setting
  pub some : 1 ≤ length m.contexts
  pub few : length m.contexts ≤ MOST_CONTEXTS
  pub shared : m.shared.start + m.shared.size ≤ m.file
  pub apart : all_apart (m.shared ∷ map (λ code. code.private) m.contexts) ≡ true
  pub contexts : Each m.contexts (IsFormedCode m)
