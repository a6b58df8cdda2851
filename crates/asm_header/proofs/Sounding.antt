-- A header whose lines have no fault is sound.
use Rattle.std.proofs.Common.{◌≡◌, ◌||◌, ◌&&◌, ◌++◌, ◌≤◌, ◌<◌, ℕ, ◌+◌, Bool, true, false, not, List, [], ◌∷◌, Option, Some, None, length, map, fold, append-nil, refl, sym, ap, ◌∙◌, arith, subst, nat_eq, nat_lt}
use Rattle.std.specs.Prelude.{nat_le, sum, slice_get}
use Rattle.std.specs.List.{list_any, list_all, filter_map}
use Rattle.std.proofs.lemmas.Bool.{true≢false, and_parts, and_from, leb-true, leb-false, ltb-false, lt-ltb}
use Rattle.std.proofs.lemmas.Option.{same_Some}
use Rattle.std.proofs.lemmas.List.{length-append, length-map, map-append}
use Rattle.std.proofs.lemmas.List.Elements.{filter_map-append}
use Rattle.std.proofs.lemmas.List.Folds.{list_all-append}
use Rattle.micro_isa.specs.declared.program.Channel.{Channel}
use Rattle.micro_isa.specs.declared.program.Channel.TheVariants as channel
use Rattle.micro_isa.specs.Names.{name_test}
use Rattle.micro_isa.specs.Formed.{is_distinct, all_below, has_formed_ring, port_of, initial_count}
use Rattle.asm_lines.specs.declared.fault.BundleKind.TheVariants as kind
use Rattle.asm_lines.specs.Cutting.{TextLine}
use Rattle.micro_isa.specs.declared.limits.TheConstants.{MOST_CHANNELS, MOST_INITIAL_WORDS, MOST_FILE, MOST_MEMORY, MOST_RING, MOST_PORTS}
use Rattle.asm_lines.specs.Numbers.{number_or}
use Rattle.asm_lines.specs.Tables.{knows, place_of, declare}
use Rattle.asm_lines.proofs.First.{none_met}
use Rattle.asm_lines.proofs.Verdicts.{none_at}
use Rattle.asm_lines.proofs.Known.{distinct_snoc, distinct_declare, named_declare, declare_new, other_number}
use Rattle.asm_header.specs.Forms.{HeaderForm, Blank, File, Memory, Inner, Input, PortInput, Output, PortOutput, Initial, Miscounted, Unknown, header_form}
use Rattle.asm_header.specs.Headers.{Header, no_header, header_of, with_form, with_line, PortFits}
use Rattle.asm_header.specs.Faults.{is_from, is_bad_port, is_input, form_test, form_fault, line_fault, faults_after, header_fault}
use Rattle.asm_header.specs.Sound.{IsSound}
use Rattle.asm_header.proofs.Filling.{filled_length, filled_ports, filled_rings, filled_count, sum_cons}

pub sound_none : IsSound no_header
sound_none = record {
  file = λ n e. absurd (cc);
  memory = λ n e. absurd (cc);
  few = omega arith;
  same = refl;
  named = refl;
  distinct = refl;
  rings = refl;
  ports = refl;
  apart = refl;
  counted = refl;
  words = omega arith;
}

not_false : (b : Bool) → not b ≡ false → b ≡ true
not_false true e = refl
not_false false e = absurd (true≢false e)

-- a channel that is added under a new name
record IsAdded (h : Header) (name : List ℕ) (c : Channel) : Type 0 where
  is_name : name_test name ≡ true
  is_new : knows h.names name ≡ false
  room : length h.names < MOST_CHANNELS
  ring : has_formed_ring c ≡ true
  none : initial_count c ≡ 0
  port : (p : ℕ) → port_of c ≡ Some p → (p < MOST_PORTS) × (list_any (nat_eq p) (filter_map port_of h.channels) ≡ false)

sum_snoc : (xs : List ℕ) (x : ℕ) → sum (xs ++ x ∷ []) ≡ sum xs + x
sum_snoc [] x = omega (arith, sum_cons x [])
sum_snoc (y ∷ ys) x = omega (arith, sum_snoc ys x, sum_cons y (ys ++ x ∷ []), sum_cons y ys)

no_port : (c : Channel) → port_of c ≡ None → filter_map port_of (c ∷ []) ≡ []
no_port c e = rw e refl

a_port : (c : Channel) (p : ℕ) → port_of c ≡ Some p → filter_map port_of (c ∷ []) ≡ p ∷ []
a_port c p e = rw e refl

-- the ports with that of one more channel
ports_snoc : (chs : List Channel) (c : Channel) (o : Option ℕ) → port_of c ≡ o → ((p : ℕ) → o ≡ Some p → (p < MOST_PORTS) × (list_any (nat_eq p) (filter_map port_of chs) ≡ false)) → all_below MOST_PORTS (filter_map port_of chs) ≡ true → is_distinct nat_eq (filter_map port_of chs) ≡ true → (all_below MOST_PORTS (filter_map port_of (chs ++ c ∷ [])) ≡ true) × (is_distinct nat_eq (filter_map port_of (chs ++ c ∷ [])) ≡ true)
ports_snoc chs c None e free below apart =
    let same : filter_map port_of (chs ++ c ∷ []) ≡ filter_map port_of chs = filter_map-append port_of chs (c ∷ []) ∙ ap (λ l. filter_map port_of chs ++ l) (no_port c e) ∙ append-nil (filter_map port_of chs) in
    (ap (all_below MOST_PORTS) same ∙ below, ap (is_distinct nat_eq) same ∙ apart)
ports_snoc chs c (Some p) e free below apart =
    let same : filter_map port_of (chs ++ c ∷ []) ≡ filter_map port_of chs ++ p ∷ [] = filter_map-append port_of chs (c ∷ []) ∙ ap (λ l. filter_map port_of chs ++ l) (a_port c p e) in
    let ok = free p refl in (
      ap (all_below MOST_PORTS) same ∙ list_all-append (λ x. nat_lt x MOST_PORTS) (filter_map port_of chs) (p ∷ []) ∙ and_from (all_below MOST_PORTS (filter_map port_of chs)) (nat_lt p MOST_PORTS && true) below (and_from (nat_lt p MOST_PORTS) true (lt-ltb p MOST_PORTS ok.0) refl),
      ap (is_distinct nat_eq) same ∙ distinct_snoc nat_eq other_number (filter_map port_of chs) p apart ok.1,
    )

abbrev with_channel : Header → List ℕ → Channel → Header
with_channel h name c = record { file = h.file; memory = h.memory; names = declare h.names name; channels = h.channels ++ c ∷ []; words = h.words }

sound_added : (h : Header) (name : List ℕ) (c : Channel) → IsSound h → IsAdded h name c → IsSound (with_channel h name c)
sound_added h name c s a =
    let longer = ap length (declare_new h.names name a.is_new) ∙ length-append h.names (name ∷ []) in
    let more = length-append h.channels (c ∷ []) in
    let p = ports_snoc h.channels c (port_of c) refl a.port s.ports s.apart in
    let counts = ap sum (map-append initial_count h.channels (c ∷ [])) ∙ sum_snoc (map initial_count h.channels) (initial_count c) in
    record {
      file = s.file;
      memory = s.memory;
      few = omega (arith, longer, a.room);
      same = omega (arith, longer, more, s.same);
      named = named_declare h.names name s.named a.is_name;
      distinct = distinct_declare h.names name s.distinct;
      rings = list_all-append has_formed_ring h.channels (c ∷ []) ∙ and_from (list_all has_formed_ring h.channels) (has_formed_ring c && true) s.rings (and_from (has_formed_ring c) true a.ring refl);
      ports = p.0;
      apart = p.1;
      counted = omega (arith, counts, s.counted, a.none);
      words = s.words;
    }

-- a header with other sizes
sound_sized : (h : Header) (file memory : Option ℕ) → IsSound h → ((n : ℕ) → file ≡ Some n → (1 ≤ n) × (n ≤ MOST_FILE)) → ((n : ℕ) → memory ≡ Some n → n ≤ MOST_MEMORY) → IsSound (record { file = file; memory = memory; names = h.names; channels = h.channels; words = h.words })
sound_sized h file memory s f m = record {
  file = f;
  memory = m;
  few = s.few;
  same = s.same;
  named = s.named;
  distinct = s.distinct;
  rings = s.rings;
  ports = s.ports;
  apart = s.apart;
  counted = s.counted;
  words = s.words;
}

-- what the tests of a line say where they are not met

first_of : (a : Bool) → (a || false) ≡ false → a ≡ false
first_of true e = e
first_of false e = refl

name_part : (a : Bool) → ((not a || false) || false) ≡ false → a ≡ true
name_part true e = refl
name_part false e = absurd (true≢false e)

size_part : (a : Bool) → (not a || false) ≡ false → a ≡ true
size_part true e = refl
size_part false e = absurd (true≢false e)

ring_part : (ring full : Bool) → ((not ring || false) || (full || false)) ≡ false → (ring ≡ true) × (full ≡ false)
ring_part true true e = absurd (true≢false e)
ring_part true false e = (refl, refl)
ring_part false full e = absurd (true≢false e)

port_part : (a b : Bool) → ((a || b) || false) ≡ false → (a ≡ false) × (b ≡ false)
port_part true b e = absurd (true≢false e)
port_part false true e = absurd (true≢false e)
port_part false false e = (refl, refl)

-- a line that makes a channel and meets no test of its name and of their number
sound_new : (h : Header) (name : List ℕ) (c : Channel) → IsSound h → ((not (name_test name) || false) || false) ≡ false → (knows h.names name || false) ≡ false → nat_le MOST_CHANNELS (length h.names) ≡ false
    → has_formed_ring c ≡ true → initial_count c ≡ 0 → ((p : ℕ) → port_of c ≡ Some p → (p < MOST_PORTS) × (list_any (nat_eq p) (filter_map port_of h.channels) ≡ false)) → IsSound (with_channel h name c)
sound_new h name c s is_name is_new room ring none port =
    sound_added h name c s (record {
      is_name = name_part (name_test name) is_name;
      is_new = first_of (knows h.names name) is_new;
      room = leb-false MOST_CHANNELS (length h.names) room;
      ring = ring;
      none = none;
      port = port;
    })

-- a port that is free
free_port : (h : Header) (port : List ℕ) → (is_bad_port h.channels (number_or port) || false) ≡ false → (p : ℕ) → Some (number_or port) ≡ Some p → (p < MOST_PORTS) × (list_any (nat_eq p) (filter_map port_of h.channels) ≡ false)
free_port h port e p same =
    let parts = port_part (nat_le MOST_PORTS (number_or port)) (list_any (nat_eq (number_or port)) (filter_map port_of h.channels)) e in
    subst (λ p. (p < MOST_PORTS) × (list_any (nat_eq p) (filter_map port_of h.channels) ≡ false)) (same_Some (number_or port) p same) (leb-false MOST_PORTS (number_or port) parts.0, parts.1)

pub port_fits : (h : Header) (fair : Bool) (form : HeaderForm) → form_fault h fair form ≡ None → PortFits form
port_fits h fair (PortInput name port capacity) e = (free_port h port (none_met (form_test h fair (PortInput name port capacity)) e kind.Port) (number_or port) refl).0
port_fits h fair (PortOutput name port) e = (free_port h port (none_met (form_test h fair (PortOutput name port)) e kind.Port) (number_or port) refl).0
port_fits h fair _ e = tt

no_port_at : {A : Type 0} (p : ℕ) → None ≡ Some p → A
no_port_at p e = absurd (cc)

pub sound_form : (h : Header) (fair : Bool) (form : HeaderForm) → IsSound h → form_fault h fair form ≡ None → IsSound (with_form h form)
sound_form h fair (File size) s e =
    let t = none_met (form_test h fair (File size)) e in
    let range = and_parts (nat_le 1 (number_or size)) (nat_le (number_or size) MOST_FILE) (size_part (is_from 1 MOST_FILE size) (t kind.Limit)) in
    let is : (1 ≤ number_or size) × (number_or size ≤ MOST_FILE) = (leb-true 1 (number_or size) range.0, leb-true (number_or size) MOST_FILE range.1) in
    sound_sized h (Some (number_or size)) h.memory s (λ n same. subst (λ n. (1 ≤ n) × (n ≤ MOST_FILE)) (same_Some (number_or size) n same) is) s.memory
sound_form h fair (Memory size) s e =
    let t = none_met (form_test h fair (Memory size)) e in
    let range = and_parts (nat_le 0 (number_or size)) (nat_le (number_or size) MOST_MEMORY) (size_part (is_from 0 MOST_MEMORY size) (t kind.Limit)) in
    sound_sized h h.file (Some (number_or size)) s s.file (λ n same. subst (λ n. n ≤ MOST_MEMORY) (same_Some (number_or size) n same) (leb-true (number_or size) MOST_MEMORY range.1))
sound_form h fair (Inner name capacity) s e =
    let t = none_met (form_test h fair (Inner name capacity)) e in
    let limits = ring_part (is_from 1 MOST_RING capacity) (nat_le MOST_CHANNELS (length h.names)) (t kind.Limit) in
    sound_new h name (channel.Inner (number_or capacity)) s (t kind.Name) (t kind.Repeated) limits.1 limits.0 refl (λ p same. no_port_at p same)
sound_form h fair (Input name) s e =
    let t = none_met (form_test h fair (Input name)) e in
    sound_new h name (channel.Input [] None) s (t kind.Name) (t kind.Repeated) (first_of (nat_le MOST_CHANNELS (length h.names)) (t kind.Limit)) refl refl (λ p same. no_port_at p same)
sound_form h fair (PortInput name port capacity) s e =
    let t = none_met (form_test h fair (PortInput name port capacity)) e in
    let limits = ring_part (is_from 1 MOST_RING capacity) (nat_le MOST_CHANNELS (length h.names)) (t kind.Limit) in
    sound_new h name (channel.Input [] (Some (record { number = number_or port; capacity = number_or capacity }))) s (t kind.Name) (t kind.Repeated) limits.1 limits.0 refl (free_port h port (t kind.Port))
sound_form h fair (Output name) s e =
    let t = none_met (form_test h fair (Output name)) e in
    sound_new h name (channel.Output None) s (t kind.Name) (t kind.Repeated) (first_of (nat_le MOST_CHANNELS (length h.names)) (t kind.Limit)) refl refl (λ p same. no_port_at p same)
sound_form h fair (PortOutput name port) s e =
    let t = none_met (form_test h fair (PortOutput name port)) e in
    sound_new h name (channel.Output (Some (number_or port))) s (t kind.Name) (t kind.Repeated) (first_of (nat_le MOST_CHANNELS (length h.names)) (t kind.Limit)) refl refl (free_port h port (t kind.Port))
sound_form h fair (Initial name numbers) s e =
    let t = none_met (form_test h fair (Initial name numbers)) e in
    let at = place_of h.names name in
    let more = map number_or numbers in
    let is = size_part (is_input (slice_get h.channels at)) (t kind.ChannelKind) in
    let fits = ltb-false MOST_INITIAL_WORDS (h.words + length numbers) (first_of (nat_lt MOST_INITIAL_WORDS (h.words + length numbers)) (t kind.Limit)) in
    record {
      file = s.file;
      memory = s.memory;
      few = s.few;
      same = s.same ∙ sym (filled_length h.channels at more);
      named = s.named;
      distinct = s.distinct;
      rings = filled_rings h.channels at more ∙ s.rings;
      ports = ap (all_below MOST_PORTS) (filled_ports h.channels at more) ∙ s.ports;
      apart = ap (is_distinct nat_eq) (filled_ports h.channels at more) ∙ s.apart;
      counted = omega (arith, filled_count h.channels at more is, s.counted, length-map numbers number_or);
      words = fits;
    }
sound_form h fair Blank s e = s
sound_form h fair Miscounted s e = s
sound_form h fair Unknown s e = s

pub sound_line : (h : Header) (line : TextLine) → IsSound h → line_fault h line ≡ None → IsSound (with_line h line)
sound_line h line s e = sound_form h line.fair (header_form line.words) s e

sound_after : (h : Header) (lines : List TextLine) → IsSound h → faults_after h lines ≡ None → IsSound (fold with_line h lines)
sound_after h [] s e = s
sound_after h (line ∷ lines) s e =
    let both = none_at line.number (line_fault h line) (faults_after (with_line h line) lines) e in
    sound_after (with_line h line) lines (sound_line h line s both.0) both.1

-- what lines without a fault say
pub sound_header : (lines : List TextLine) → header_fault lines ≡ None → IsSound (header_of lines)
sound_header lines e = sound_after no_header lines sound_none e
