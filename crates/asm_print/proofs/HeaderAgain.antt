-- The canonical lines before the contexts have no fault, and say the header.
use Rattle.std.proofs.Common.{◌≡◌, ◌++◌, ◌<◌, ◌≤◌, ◌^◌, ◌||◌, ℕ, ◌+◌, Bool, true, false, List, [], ◌∷◌, Option, Some, None, refl, sym, ap, ◌∙◌, arith, length, map, sum, decimal, codes, nat_lt, nat_eq, append_assoc, append-nil, subst}
use Rattle.std.proofs.lemmas.Bool.{and_parts, ltb-true}
use Rattle.std.proofs.lemmas.List.Sums.{sum_by-cons}
use Rattle.std.proofs.lemmas.List.Folds.{list_all-append}
use Rattle.std.proofs.lemmas.List.Elements.{filter_map-append}
use Rattle.std.proofs.lemmas.List.{length-append}
use Rattle.std.specs.List.{list_all, filter_map, AllByRecursion}
use Rattle.std.specs.Str.{bytes_eq}
use Rattle.micro_isa.specs.declared.limits.TheConstants.{MOST_FILE, MOST_MEMORY, MOST_CHANNELS, MOST_PORTS, MOST_INITIAL_WORDS}
use Rattle.micro_isa.specs.declared.program.PortUse.{PortUse}
use Rattle.micro_isa.specs.declared.program.Channel.{Channel}
use Rattle.micro_isa.specs.declared.program.Channel.TheVariants as channel
use Rattle.micro_isa.specs.Names.{name_test}
use Rattle.micro_isa.specs.Formed.{is_distinct, all_below, port_of, has_formed_ring, initial_count, IsFormedBundle}
use Rattle.micro_isa.specs.declared.program.Bundle.{Bundle}
use Rattle.asm_lines.specs.Cutting.{Words, TextLine}
use Rattle.asm_header.specs.Forms as form
use Rattle.asm_header.specs.Headers.{Header, no_header}
use Rattle.asm_print.specs.Canonical.{words_rows, input_row, channel_rows, channels_rows, header_rows}
use Rattle.asm_print.proofs.Plain.{row_words, lines_with}
use Rattle.asm_print.specs.Typed.{WordsFit, IsTyped}
use Rattle.asm_lines.specs.declared.fault.BundleKind.{BundleKind}
use Rattle.asm_lines.specs.declared.fault.BundleKind.TheVariants as kind
use Rattle.asm_lines.proofs.First.{no_kind}
use Rattle.asm_header.specs.Faults.{form_test}
use Rattle.asm_print.proofs.Lines.{lines-append}
use Rattle.asm_print.proofs.Tables.{fresh, distinct_front}
use Rattle.asm_print.proofs.Words.{number_is}
use Rattle.asm_print.proofs.HeaderLines.{Leads, line, no_line, one_line, then_lines, so_far, within, one_number, Room, initial_line, inner_line, input_line, port_input_line, output_line, port_output_line}

-- ---- all channels

retold : (h g k : Header) (ls : List TextLine) → g ≡ k → Leads h ls g → Leads h ls k
retold h g k ls e a = record { free = a.free; said = a.said ∙ e }

-- channels that may follow those that are made
pub record Follow (before : Words) (made : List Channel) (words : ℕ) (names : Words) (channels : List Channel) : Type 0 where
  pub distinct : is_distinct bytes_eq (before ++ names) ≡ true
  pub same : length before ≡ length made
  pub rest : length names ≡ length channels
  pub few : length before + length names ≤ MOST_CHANNELS
  pub named : list_all name_test names ≡ true
  pub rings : list_all has_formed_ring channels ≡ true
  pub ports : all_below MOST_PORTS (filter_map port_of channels) ≡ true
  pub apart : is_distinct nat_eq (filter_map port_of made ++ filter_map port_of channels) ≡ true
  pub counted : words + sum (map initial_count channels) ≤ MOST_INITIAL_WORDS
  pub fits : AllByRecursion WordsFit channels

moved_over : {A : Type 0} (xs : List A) (y : A) (ys : List A) → (xs ++ y ∷ []) ++ ys ≡ xs ++ y ∷ ys
moved_over xs y ys = append_assoc xs (y ∷ []) ys

ports_moved : (made : List Channel) (c : Channel) (cs : List Channel) → filter_map port_of (made ++ c ∷ []) ++ filter_map port_of cs ≡ filter_map port_of made ++ filter_map port_of (c ∷ cs)
ports_moved made c cs =
    ap (λ ps. ps ++ filter_map port_of cs) (filter_map-append port_of made (c ∷ []))
    ∙ append_assoc (filter_map port_of made) (filter_map port_of (c ∷ [])) (filter_map port_of cs)
    ∙ ap (λ ps. filter_map port_of made ++ ps) (sym (filter_map-append port_of (c ∷ []) cs))

later_ports : (c : Channel) (cs : List Channel) → all_below MOST_PORTS (filter_map port_of (c ∷ cs)) ≡ true → all_below MOST_PORTS (filter_map port_of cs) ≡ true
later_ports c cs e =
    let both = sym (list_all-append (λ p. nat_lt p MOST_PORTS) (filter_map port_of (c ∷ [])) (filter_map port_of cs)) ∙ ap (all_below MOST_PORTS) (sym (filter_map-append port_of (c ∷ []) cs)) ∙ e in
    (and_parts (all_below MOST_PORTS (filter_map port_of (c ∷ []))) (all_below MOST_PORTS (filter_map port_of cs)) both).1

counted_on : (c : Channel) (cs : List Channel) → sum (map initial_count (c ∷ cs)) ≡ initial_count c + sum (map initial_count cs)
counted_on c cs = sum_by-cons (λ n. n) (initial_count c) (map initial_count cs)

follow_on : (before : Words) (made : List Channel) (words : ℕ) (name : List ℕ) (c : Channel) (names : Words) (channels : List Channel) → Follow before made words (name ∷ names) (c ∷ channels) → Follow (before ++ name ∷ []) (made ++ c ∷ []) (words + initial_count c) names channels
follow_on before made words name c names channels f = record {
  distinct = ap (is_distinct bytes_eq) (moved_over before name names) ∙ f.distinct;
  same = omega (arith, f.same, length-append before (name ∷ []), length-append made (c ∷ []));
  rest = omega (arith, f.rest);
  few = omega (arith, f.few, length-append before (name ∷ []));
  named = (and_parts (name_test name) (list_all name_test names) f.named).1;
  rings = (and_parts (has_formed_ring c) (list_all has_formed_ring channels) f.rings).1;
  ports = later_ports c channels f.ports;
  apart = ap (is_distinct nat_eq) (ports_moved made c channels) ∙ f.apart;
  counted = omega (arith, f.counted, counted_on c channels);
  fits = f.fits.1;
}

room : (before : Words) (made : List Channel) (words : ℕ) (name : List ℕ) (c : Channel) (names : Words) (channels : List Channel) → Follow before made words (name ∷ names) (c ∷ channels) → Room before made name
room before made words name c names channels f = record {
  few = omega (arith, f.few);
  same = f.same;
  named = (and_parts (name_test name) (list_all name_test names) f.named).0;
  new = fresh before name names f.distinct;
}

module _ (file memory : ℕ) where
  filled_lead : (n words : ℕ) (before : Words) (made : List Channel) (name : List ℕ) (names : Words) (port : Option PortUse) (ns : List ℕ) → Room before made name → is_distinct bytes_eq (before ++ name ∷ names) ≡ true → words + length ns ≤ MOST_INITIAL_WORDS → AllByRecursion (λ n. n < 2 ^ 32) ns
      → Leads (so_far file memory before made words) (line n (row_words (input_row name port)) ∷ []) (so_far file memory (before ++ name ∷ []) (made ++ channel.Input [] port ∷ []) words)
      → Leads (so_far file memory before made words) (lines_with n (input_row name port ∷ words_rows name ns)) (so_far file memory (before ++ name ∷ []) (made ++ channel.Input ns port ∷ []) (words + length ns))
  filled_lead n words before made name names port [] r d few fits first =
      retold _ _ _ _ (ap (λ (k : ℕ). so_far file memory (before ++ name ∷ []) (made ++ channel.Input [] port ∷ []) k) (omega arith)) first
  filled_lead n words before made name names port (x ∷ xs) r d few fits first =
      then_lines _ _ _ (line n (row_words (input_row name port)) ∷ []) (line (n + 1) (codes "words" ∷ name ∷ map decimal (x ∷ xs)) ∷ []) first
      (initial_line file memory (n + 1) words before made name port x xs r.named r.same (distinct_front (before ++ name ∷ []) names (ap (is_distinct bytes_eq) (moved_over before name names) ∙ d)) few fits)

  channel_leads : (n words : ℕ) (before : Words) (made : List Channel) (name : List ℕ) (c : Channel) (names : Words) (channels : List Channel) → Follow before made words (name ∷ names) (c ∷ channels)
      → Leads (so_far file memory before made words) (lines_with n (channel_rows name c)) (so_far file memory (before ++ name ∷ []) (made ++ c ∷ []) (words + initial_count c))
  channel_leads n words before made name (channel.Inner size) names channels f =
      let r = room before made words name (channel.Inner size) names channels f in
      let e = (and_parts (has_formed_ring (channel.Inner size)) (list_all has_formed_ring channels) f.rings).0 in
      retold _ _ _ _ (ap (λ (k : ℕ). so_far file memory (before ++ name ∷ []) (made ++ channel.Inner size ∷ []) k) (omega arith)) (inner_line file memory n words before made name r size e)
  channel_leads n words before made name (channel.Input ns None) names channels f =
      let r = room before made words name (channel.Input ns None) names channels f in
      filled_lead n words before made name names None ns r f.distinct (omega (arith, f.counted, counted_on (channel.Input ns None) channels)) f.fits.0 (input_line file memory n words before made name r)
  channel_leads n words before made name (channel.Input ns (Some port)) names channels f =
      let r = room before made words name (channel.Input ns (Some port)) names channels f in
      let e = (and_parts (has_formed_ring (channel.Input ns (Some port))) (list_all has_formed_ring channels) f.rings).0 in
      let p = ltb-true port.number MOST_PORTS (and_parts (nat_lt port.number MOST_PORTS) (all_below MOST_PORTS (filter_map port_of channels)) f.ports).0 in
      filled_lead n words before made name names (Some port) ns r f.distinct (omega (arith, f.counted, counted_on (channel.Input ns (Some port)) channels)) f.fits.0 (port_input_line file memory n words before made name r port (filter_map port_of channels) e p f.apart)
  channel_leads n words before made name (channel.Output None) names channels f =
      let r = room before made words name (channel.Output None) names channels f in
      retold _ _ _ _ (ap (λ (k : ℕ). so_far file memory (before ++ name ∷ []) (made ++ channel.Output None ∷ []) k) (omega arith)) (output_line file memory n words before made name r)
  channel_leads n words before made name (channel.Output (Some port)) names channels f =
      let r = room before made words name (channel.Output (Some port)) names channels f in
      let p = ltb-true port MOST_PORTS (and_parts (nat_lt port MOST_PORTS) (all_below MOST_PORTS (filter_map port_of channels)) f.ports).0 in
      retold _ _ _ _ (ap (λ (k : ℕ). so_far file memory (before ++ name ∷ []) (made ++ channel.Output (Some port) ∷ []) k) (omega arith)) (port_output_line file memory n words before made name r port (filter_map port_of channels) p f.apart)

  channels_lead : (n words : ℕ) (before : Words) (made : List Channel) (names : Words) (channels : List Channel) → Follow before made words names channels
      → Leads (so_far file memory before made words) (lines_with n (channels_rows names channels)) (so_far file memory (before ++ names) (made ++ channels) (words + sum (map initial_count channels)))
  channels_lead n words before made [] [] f =
      retold _ _ _ _ (ap (λ (k : ℕ). so_far file memory before made k) (omega arith) ∙ ap (λ (ns : Words). so_far file memory ns made (words + 0)) (sym (append-nil before)) ∙ ap (λ (cs : List Channel). so_far file memory (before ++ []) cs (words + 0)) (sym (append-nil made))) (no_line (so_far file memory before made words))
  channels_lead n words before made [] (c ∷ cs) f = absurd (omega (arith, f.rest))
  channels_lead n words before made (name ∷ names) [] f = absurd (omega (arith, f.rest))
  channels_lead n words before made (name ∷ names) (c ∷ cs) f =
      let first = channel_leads n words before made name c names cs f in
      let rest = channels_lead (n + length (channel_rows name c)) (words + initial_count c) (before ++ name ∷ []) (made ++ c ∷ []) names cs (follow_on before made words name c names cs f) in
      let whole = then_lines _ _ _ _ _ first rest in
      let told = retold _ _ _ _ (ap (λ (ns : Words). so_far file memory ns ((made ++ c ∷ []) ++ cs) (words + initial_count c + sum (map initial_count cs))) (moved_over before name names)
      ∙ ap (λ (ks : List Channel). so_far file memory (before ++ name ∷ names) ks (words + initial_count c + sum (map initial_count cs))) (moved_over made c cs)
      ∙ ap (λ (k : ℕ). so_far file memory (before ++ name ∷ names) (made ++ c ∷ cs) k) (omega (arith, counted_on c cs))) whole in
      subst (λ (ls : List TextLine). Leads (so_far file memory before made words) ls (so_far file memory (before ++ name ∷ names) (made ++ c ∷ cs) (words + sum (map initial_count (c ∷ cs))))) (sym (lines-append n (channel_rows name c) (channels_rows names cs))) told

-- ---- the whole header

-- a header with a size of the file alone
abbrev sized : ℕ → Header
sized file = record { file = Some file; memory = None; names = []; channels = []; words = 0 }

file_free : (file : ℕ) → file < 2 ^ 32 → 1 ≤ file → file ≤ MOST_FILE → (k : BundleKind) → form_test no_header true (form.File (decimal file)) k ≡ false
file_free file s some few kind.Number = one_number file s
file_free file s some few kind.Limit = ap (λ (b : Bool). b || (false || false)) (within 1 MOST_FILE file s some few)
file_free file s some few _ = refl

file_line : (n file : ℕ) → 1 ≤ file → file ≤ MOST_FILE → Leads no_header (line n (codes "file" ∷ decimal file ∷ []) ∷ []) (sized file)
file_line n file some few =
    let s : file < 2 ^ 32 = omega arith in
    one_line _ _ _ (no_kind (form_test no_header true (form.File (decimal file))) (file_free file s some few)) (ap sized (number_is file s))

memory_free : (file memory : ℕ) → memory < 2 ^ 32 → memory ≤ MOST_MEMORY → (k : BundleKind) → form_test (sized file) true (form.Memory (decimal memory)) k ≡ false
memory_free file memory s few kind.Number = one_number memory s
memory_free file memory s few kind.Limit = ap (λ (b : Bool). b || (false || false)) (within 0 MOST_MEMORY memory s (omega arith) few)
memory_free file memory s few _ = refl

memory_line : (n file memory : ℕ) → memory ≤ MOST_MEMORY → Leads (sized file) (line n (codes "memory" ∷ decimal memory ∷ []) ∷ []) (so_far file memory [] [] 0)
memory_line n file memory few =
    let s : memory < 2 ^ 32 = omega arith in
    one_line _ _ _ (no_kind (form_test (sized file) true (form.Memory (decimal memory))) (memory_free file memory s few)) (ap (λ (k : ℕ). so_far file k [] [] 0) (number_is memory s))

pub header_leads : (b : Bundle) → IsFormedBundle b → IsTyped b
    → Leads no_header (lines_with 1 (header_rows b)) (so_far b.file b.setting.memory b.names b.setting.channels (0 + sum (map initial_count b.setting.channels)))
header_leads b formed typed =
    let f : Follow [] [] 0 b.names b.setting.channels = record {
      distinct = formed.distinct;
      same = refl;
      rest = formed.names;
      few = omega (arith, formed.names, formed.setting.few);
      named = typed.names;
      rings = formed.setting.rings;
      ports = formed.setting.ports;
      apart = formed.setting.distinct;
      counted = omega (arith, formed.setting.words);
      fits = typed.words;
    } in
    then_lines _ _ _ (line 1 (codes "file" ∷ decimal b.file ∷ []) ∷ []) _ (file_line 1 b.file formed.file formed.small)
    (then_lines _ _ _ (line 2 (codes "memory" ∷ decimal b.setting.memory ∷ []) ∷ []) _ (memory_line 2 b.file b.setting.memory formed.setting.memory)
    (channels_lead b.file b.setting.memory 3 0 [] [] b.names b.setting.channels f))
