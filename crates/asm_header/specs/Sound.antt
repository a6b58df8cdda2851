-- What holds of a header whose lines have no fault.
use Rattle.std.specs.Prelude.{ℕ, ◌≡◌, ◌≤◌, true, Some, length, map, sum, nat_eq}
use Rattle.std.specs.List.{list_all, filter_map}
use Rattle.std.specs.Str.{bytes_eq}
use Rattle.micro_isa.specs.Names.{name_test}
use Rattle.micro_isa.specs.Formed.{is_distinct, all_below, has_formed_ring, port_of, initial_count}
use Rattle.micro_isa.specs.declared.limits.TheConstants.{MOST_CHANNELS, MOST_INITIAL_WORDS, MOST_FILE, MOST_MEMORY, MOST_PORTS}
use Rattle.asm_header.specs.Headers.{Header}

pub record IsSound (h : Header) : Type 0 where
  pub file : (n : ℕ) → h.file ≡ Some n → (1 ≤ n) × (n ≤ MOST_FILE)
  pub memory : (n : ℕ) → h.memory ≡ Some n → n ≤ MOST_MEMORY
  pub few : length h.names ≤ MOST_CHANNELS
  pub same : length h.names ≡ length h.channels
  pub named : list_all name_test h.names ≡ true
  pub distinct : is_distinct bytes_eq h.names ≡ true
  pub rings : list_all has_formed_ring h.channels ≡ true
  pub ports : all_below MOST_PORTS (filter_map port_of h.channels) ≡ true
  pub apart : is_distinct nat_eq (filter_map port_of h.channels) ≡ true
  pub counted : h.words ≡ sum (map initial_count h.channels)
  pub words : h.words ≤ MOST_INITIAL_WORDS
