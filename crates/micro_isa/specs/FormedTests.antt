-- The tests by which the code decides what is formed. That they decide it is proved in `proofs/Deciding.antt`.
use Rattle.std.specs.Prelude.{ℕ, ◌+◌, ◌-◌, List, [], ◌∷◌, length, map, sum, Bool, true, false, ◌&&◌, nat_lt, nat_le, nat_eq, ◌==◌, if◌then◌else◌, Option, Some, None, slice_get}
use Rattle.std.specs.List.{list_all, cons_option, filter_map, fold}
use Rattle.std.specs.Option.{option_map}
use Rattle.std.specs.Str.{bytes_eq}
use Rattle.micro_isa.specs.declared.limits.TheConstants.{MOST_CONTEXTS, MOST_REGISTERS, MOST_FILE, MOST_INSTRUCTIONS, MOST_WORDS, MOST_MEMORY, MOST_CHANNELS, MOST_PORTS, MOST_INITIAL_WORDS}
use Rattle.micro_isa.specs.declared.numbers.Numbers.{Numbers}
use Rattle.micro_isa.specs.declared.program.Line.{Line}
use Rattle.micro_isa.specs.declared.program.Program.{Program}
use Rattle.micro_isa.specs.declared.program.Channel.{Channel}
use Rattle.micro_isa.specs.declared.program.Setting.{Setting}
use Rattle.micro_isa.specs.declared.program.Bundle.{Bundle}
use Rattle.micro_isa.specs.declared.image.Word.{Word}
use Rattle.micro_isa.specs.declared.image.Code.{Code}
use Rattle.micro_isa.specs.declared.image.Image.{Image}
use Rattle.micro_isa.specs.Columns.{written_by}
use Rattle.micro_isa.specs.Formed.{last_never_falls, all_below, is_distinct, never_drops, always_rises, named_by, names_below, is_labelled, fits_channels, port_of, initial_count, has_formed_ring, are_apart, glue_fits, writes_within}
use Rattle.micro_isa.specs.Columns.{target_of}

-- the numbers that are there, in their order
abbrev pub listed : Numbers → List ℕ
listed n = cons_option n.first (cons_option n.second (cons_option n.third []))

-- how many registers have appeared once this one has, if each new one has the next number
abbrev pub appear : Option ℕ → ℕ → Option ℕ
appear None x = None
appear (Some n) x = if nat_lt x n then Some n else if x == n then Some (n + 1) else None

abbrev pub is_count : Option ℕ → ℕ → Bool
is_count None k = false
is_count (Some n) k = n == k

abbrev pub size_test : Program → Bool
size_test p = nat_le 1 (length p.code) && nat_le (length p.code) MOST_INSTRUCTIONS && nat_le (length p.registers) MOST_REGISTERS

abbrev pub register_test : Program → Bool
register_test p =
    list_all (λ l. names_below (λ r. r.0) (length p.registers) (length p.code) l.instr) p.code
    && is_count (fold appear (Some 0) (named_by p.code)) (length p.registers)
    && is_distinct bytes_eq p.registers

abbrev pub label_test : Program → Bool
label_test p =
    is_distinct (λ a b. bytes_eq a.name b.name) p.labels
    && list_all (λ l. nat_lt l.target (length p.code)) p.labels
    && never_drops 0 (map (λ l. l.target) p.labels)
    && list_all (λ l. is_labelled p.labels (target_of l.instr)) p.code

abbrev pub line_test : List Line → Bool
line_test code =
    always_rises 1 (map (λ l. l.line) code)
    && last_never_falls (option_map (λ l. l.instr) (slice_get code (length code - 1)))

abbrev pub program_test : Program → Bool
program_test p = size_test p && register_test p && label_test p && line_test p.code

abbrev pub setting_size_test : Setting → Bool
setting_size_test s =
    nat_le s.memory MOST_MEMORY && nat_le (length s.channels) MOST_CHANNELS && nat_le (sum (map initial_count s.channels)) MOST_INITIAL_WORDS

abbrev pub channel_test : List Channel → Bool
channel_test chs =
    list_all has_formed_ring chs
    && all_below MOST_PORTS (filter_map port_of chs)
    && is_distinct nat_eq (filter_map port_of chs)

abbrev pub setting_test : Setting → Bool
setting_test s = setting_size_test s && channel_test s.channels

abbrev pub bundle_size_test : Bundle → Bool
bundle_size_test b =
    nat_le 1 b.file && nat_le b.file MOST_FILE && nat_le 1 (length b.programs) && nat_le (length b.programs) MOST_CONTEXTS

abbrev pub bundle_name_test : Bundle → Bool
bundle_name_test b =
    (length b.names == length b.setting.channels)
    && is_distinct bytes_eq b.names
    && is_distinct (λ p q. bytes_eq p.name q.name) b.programs

abbrev pub programs_test : List Channel → List Program → Bool
programs_test chs ps =
    list_all program_test ps && list_all (λ p. list_all (λ l. fits_channels chs l.instr) p.code) ps

abbrev pub bundle_test : Bundle → Bool
bundle_test b =
    bundle_size_test b
    && bundle_name_test b
    && setting_test b.setting
    && programs_test b.setting.channels b.programs

-- what is asked of each word of a context
abbrev pub word_test : Image → Code → Word → Bool
word_test m code w =
    names_below (λ r. r.0) m.file (length code.words) w.instr
    && writes_within code.private m.shared (written_by w.instr)
    && glue_fits code.words w
    && fits_channels m.setting.channels w.instr

abbrev pub code_size_test : Image → Code → Bool
code_size_test m code =
    nat_le 1 (length code.words) && nat_le (length code.words) MOST_WORDS
    && nat_le (code.private.start + code.private.size) m.file

abbrev pub code_test : Image → Code → Bool
code_test m code =
    code_size_test m code
    && list_all (word_test m code) code.words
    && last_never_falls (option_map (λ w. w.instr) (slice_get code.words (length code.words - 1)))

abbrev pub image_size_test : Image → Bool
image_size_test m =
    nat_le 1 m.file && nat_le m.file MOST_FILE && nat_le 1 (length m.contexts) && nat_le (length m.contexts) MOST_CONTEXTS

-- no two of these have a register of their own in common
abbrev pub codes_apart : List Code → Bool
codes_apart [] = true
codes_apart (c ∷ cs) = list_all (λ d. are_apart c.private d.private) cs && codes_apart cs

abbrev pub range_test : Image → Bool
range_test m =
    nat_le (m.shared.start + m.shared.size) m.file
    && list_all (λ code. are_apart m.shared code.private) m.contexts
    && codes_apart m.contexts

abbrev pub image_test : Image → Bool
image_test m =
    image_size_test m && range_test m && setting_test m.setting && list_all (code_test m) m.contexts
