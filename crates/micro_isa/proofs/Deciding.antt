-- The tests of the code decide what is formed.
use Rattle.std.proofs.Common.{◌≡◌, ◌≤◌, ℕ, suc, ◌+◌, ◌-◌, Bool, true, not, ◌&&◌, List, [], ◌∷◌, length, map, sum, Option, Some, None, refl, sym, ap, ◌∙◌, arith, rules}
use Rattle.std.specs.Prelude.{nat_lt, nat_le, nat_eq, slice_get}
use Rattle.std.specs.List.{list_any, list_all, filter_map}
use Rattle.std.specs.Bool.{Decides}
use Rattle.std.specs.Option.{option_map}
use Rattle.std.specs.Str.{bytes_eq}
use Rattle.std.proofs.lemmas.Bool.{leb-true, le-leb, and_parts, and_from}
use Rattle.std.proofs.lemmas.Bool.Decides.{Decides-and, Decides-eqb}
use Rattle.std.proofs.lemmas.Option.{same_Some}
use Rattle.micro_isa.specs.declared.limits.TheConstants.{MOST_CONTEXTS, MOST_REGISTERS, MOST_FILE, MOST_INSTRUCTIONS, MOST_WORDS, MOST_MEMORY, MOST_CHANNELS, MOST_PORTS, MOST_INITIAL_WORDS}
use Rattle.micro_isa.specs.declared.instr.Instr.{Instr}
use Rattle.micro_isa.specs.declared.program.Line.{Line}
use Rattle.micro_isa.specs.declared.program.Label.{Label}
use Rattle.micro_isa.specs.declared.program.Program.{Program}
use Rattle.micro_isa.specs.declared.program.Setting.{Setting}
use Rattle.micro_isa.specs.declared.program.Bundle.{Bundle}
use Rattle.micro_isa.specs.declared.image.Word.{Word}
use Rattle.micro_isa.specs.declared.image.Range.{Range}
use Rattle.micro_isa.specs.declared.image.Code.{Code}
use Rattle.micro_isa.specs.declared.image.Image.{Image}
use Rattle.micro_isa.specs.Columns.{written_by}
use Rattle.micro_isa.specs.Formed.{Each, names_below, named_by, is_distinct, all_below, never_drops, always_rises, last_never_falls, is_labelled, fits_channels, has_formed_ring, port_of, initial_count, are_apart, all_apart, glue_fits, writes_within, IsFormedProgram, IsFormedSetting, IsFormedBundle, IsFormedCode, IsFormedImage}
use Rattle.micro_isa.specs.Columns.{never_falls, target_of}
use Rattle.micro_isa.specs.FormedTests.{size_test, program_test, setting_test, bundle_test, word_test, code_test, codes_apart, image_test}
use Rattle.micro_isa.proofs.Mapped.{Decides-each, all_mapped, any_mapped}
use Rattle.micro_isa.proofs.Appearing.{Decides-numbered}

at_most : (a b : ℕ) → Decides (nat_le a b) (a ≤ b)
at_most a b = (leb-true a b, le-leb a b)

passes : (b : Bool) → Decides b (b ≡ true)
passes b = (λ h. h, λ h. h)

each_passes : {A : Type 0} (test : A → Bool) (xs : List A) → Decides (list_all test xs) (Each xs (λ a. test a ≡ true))
each_passes test xs = Decides-each test (λ a. test a ≡ true) (λ a. passes (test a)) xs

-- names are distinct as such, and among the items that have them

distinct_by : {A B : Type 0} (eq : B → B → Bool) (f : A → B) (xs : List A) → is_distinct eq (map f xs) ≡ is_distinct (λ a b. eq (f a) (f b)) xs
distinct_by eq f [] = refl
distinct_by eq f (x ∷ xs) =
    ap (λ b. not b && is_distinct eq (map f xs)) (sym (any_mapped (eq (f x)) f xs))
    ∙ ap (λ b. not (list_any (λ y. eq (f x) (f y)) xs) && b) (distinct_by eq f xs)

has_names : {A : Type 0} (f : A → List ℕ) (xs : List A) → Decides (is_distinct (λ a b. bytes_eq (f a) (f b)) xs) (is_distinct bytes_eq (map f xs) ≡ true)
has_names f xs = (λ h. distinct_by bytes_eq f xs ∙ h, λ h. sym (distinct_by bytes_eq f xs) ∙ h)

-- the last item of a list that has one

last_is : {A R : Type 0} (instr : A → Instr R) (o : Option A) → last_never_falls (option_map instr o) ≡ true → (last : A) → o ≡ Some last → never_falls (instr last) ≡ true
last_is instr None h last e = absurd (cc)
last_is instr (Some x) h last e = ap (λ y. never_falls (instr y)) (sym (same_Some x last e)) ∙ h

last_was : {A R : Type 0} (instr : A → Instr R) (o : Option A) (d : A) → o ≡ Some d → ((last : A) → o ≡ Some last → never_falls (instr last) ≡ true) → last_never_falls (option_map instr o) ≡ true
last_was instr o d e h = ap (λ p. last_never_falls (option_map instr p)) e ∙ h d e

has_last : {A : Type 0} (xs : List A) → 1 ≤ length xs → (d : A) × (slice_get xs (length xs - 1) ≡ Some d)
has_last [] le = absurd (omega arith)
has_last (x ∷ []) le = let at : length (x ∷ []) - 1 ≡ 0 = omega arith in (x, ap (λ i. slice_get (x ∷ []) i) at)
has_last (x ∷ y ∷ ys) le =
    let ih = has_last (y ∷ ys) (omega arith) in
    let at : length (x ∷ y ∷ ys) - 1 ≡ suc (length (y ∷ ys) - 1) = omega arith in
    (ih.0, ap (λ i. slice_get (x ∷ y ∷ ys) i) at ∙ ih.1)

-- programs

targets_below : (places : ℕ) (labels : List Label) → Decides (list_all (λ l. nat_lt l.target places) labels) (all_below places (map (λ l. l.target) labels) ≡ true)
targets_below places labels =
    let same = all_mapped (λ target. nat_lt target places) (λ (l : Label). l.target) labels in
    (λ h. sym same ∙ h, λ h. same ∙ h)

sizes : (p : Program) → Decides (size_test p) ((1 ≤ length p.code) × (length p.code ≤ MOST_INSTRUCTIONS) × (length p.registers ≤ MOST_REGISTERS))
sizes p =
    let all = Decides-and _ _ (Decides-and _ _ (at_most 1 (length p.code)) (at_most (length p.code) MOST_INSTRUCTIONS)) (at_most (length p.registers) MOST_REGISTERS) in
    (λ h. let f = all.0 h in search rules, λ f. all.1 (search rules))

pub Decides-program : (p : Program) → Decides (program_test p) (IsFormedProgram p)
Decides-program p =
    let registers = Decides-and _ _ (Decides-and _ _ (each_passes (λ (l : Line). names_below (λ r. r.0) (length p.registers) (length p.code) l.instr) p.code) (Decides-numbered (named_by p.code) (length p.registers))) (passes (is_distinct bytes_eq p.registers)) in
    let labels = Decides-and _ _ (Decides-and _ _ (Decides-and _ _ (has_names (λ (l : Label). l.name) p.labels) (targets_below (length p.code) p.labels)) (passes (never_drops 0 (map (λ l. l.target) p.labels)))) (each_passes (λ (l : Line). is_labelled p.labels (target_of l.instr)) p.code) in
    let lines = Decides-and _ _ (passes (always_rises 1 (map (λ l. l.line) p.code))) (passes (last_never_falls (option_map (λ l. l.instr) (slice_get p.code (length p.code - 1))))) in
    let all = Decides-and _ _ (Decides-and _ _ (Decides-and _ _ (sizes p) registers) labels) lines in
    let last = slice_get p.code (length p.code - 1) in (
      λ h.
          let f = all.0 h in
          let ends = last_is (λ (l : Line). l.instr) last f.1.1 in
          search rules,
      λ f.
          let there = has_last p.code f.some in
          let stops = last_was (λ (l : Line). l.instr) last there.0 there.1 f.ends in
          all.1 (search rules),
    )

-- settings

pub Decides-setting : (s : Setting) → Decides (setting_test s) (IsFormedSetting s)
Decides-setting s =
    let sizes = Decides-and _ _ (Decides-and _ _ (at_most s.memory MOST_MEMORY) (at_most (length s.channels) MOST_CHANNELS)) (at_most (sum (map initial_count s.channels)) MOST_INITIAL_WORDS) in
    let channels = Decides-and _ _ (Decides-and _ _ (passes (list_all has_formed_ring s.channels)) (passes (all_below MOST_PORTS (filter_map port_of s.channels)))) (passes (is_distinct nat_eq (filter_map port_of s.channels))) in
    let all = Decides-and _ _ sizes channels in
    (λ h. let f = all.0 h in search rules, λ f. all.1 (search rules))

-- bundles

pub Decides-bundle : (b : Bundle) → Decides (bundle_test b) (IsFormedBundle b)
Decides-bundle b =
    let sizes = Decides-and _ _ (Decides-and _ _ (Decides-and _ _ (at_most 1 b.file) (at_most b.file MOST_FILE)) (at_most 1 (length b.programs))) (at_most (length b.programs) MOST_CONTEXTS) in
    let names = Decides-and _ _ (Decides-and _ _ (Decides-eqb (length b.names) (length b.setting.channels)) (passes (is_distinct bytes_eq b.names))) (has_names (λ (p : Program). p.name) b.programs) in
    let programs = Decides-each program_test IsFormedProgram Decides-program b.programs in
    let fits = λ (p : Program). list_all (λ (l : Line). fits_channels b.setting.channels l.instr) p.code in
    let channels = Decides-each fits (λ (p : Program). Each p.code (λ (l : Line). fits_channels b.setting.channels l.instr ≡ true)) (λ p. each_passes (λ (l : Line). fits_channels b.setting.channels l.instr) p.code) b.programs in
    let all = Decides-and _ _ (Decides-and _ _ (Decides-and _ _ sizes names) (Decides-setting b.setting)) (Decides-and _ _ programs channels) in
    (λ h. let f = all.0 h in search rules, λ f. all.1 (search rules))

-- images

record Worded (m : Image) (code : Code) (w : Word) : Type 0 where
  named : names_below (λ r. r.0) m.file (length code.words) w.instr ≡ true
  written : writes_within code.private m.shared (written_by w.instr) ≡ true
  glue : glue_fits code.words w ≡ true
  channels : fits_channels m.setting.channels w.instr ≡ true

decides_word : (m : Image) (code : Code) (w : Word) → Decides (word_test m code w) (Worded m code w)
decides_word m code w =
    let all = Decides-and _ _ (Decides-and _ _ (Decides-and _ _ (passes (names_below (λ r. r.0) m.file (length code.words) w.instr)) (passes (writes_within code.private m.shared (written_by w.instr)))) (passes (glue_fits code.words w))) (passes (fits_channels m.setting.channels w.instr)) in
    (λ h. let f = all.0 h in search rules, λ f. all.1 (search rules))

decides_code : (m : Image) (code : Code) → Decides (code_test m code) (IsFormedCode m code)
decides_code m code =
    let size = Decides-and _ _ (Decides-and _ _ (at_most 1 (length code.words)) (at_most (length code.words) MOST_WORDS)) (at_most (code.private.start + code.private.size) m.file) in
    let words = Decides-each (word_test m code) (Worded m code) (decides_word m code) code.words in
    let all = Decides-and _ _ (Decides-and _ _ size words) (passes (last_never_falls (option_map (λ w. w.instr) (slice_get code.words (length code.words - 1))))) in (
      λ h.
          let f = all.0 h in
          record {
            some = f.0.0.0.0;
            few = f.0.0.0.1;
            within = f.0.0.1;
            named = λ i w e. (f.0.1 i w e).named;
            written = λ i w e. (f.0.1 i w e).written;
            glue = λ i w e. (f.0.1 i w e).glue;
            channels = λ i w e. (f.0.1 i w e).channels;
            ends = last_is (λ (w : Word). w.instr) (slice_get code.words (length code.words - 1)) f.1;
          },
      λ f.
          let last = has_last code.words f.some in
          all.1 ((((f.some, f.few), f.within), λ i w e. record { named = f.named i w e; written = f.written i w e; glue = f.glue i w e; channels = f.channels i w e }), last_was (λ (w : Word). w.instr) (slice_get code.words (length code.words - 1)) last.0 last.1 f.ends),
    )

apart_from : (r : Range) (codes : List Code) → Decides (list_all (λ code. are_apart r code.private) codes) (list_all (are_apart r) (map (λ code. code.private) codes) ≡ true)
apart_from r codes =
    let same = all_mapped (are_apart r) (λ (code : Code). code.private) codes in
    (λ h. sym same ∙ h, λ h. same ∙ h)

ranges_apart : (codes : List Code) → codes_apart codes ≡ all_apart (map (λ code. code.private) codes)
ranges_apart [] = refl
ranges_apart (c ∷ cs) =
    ap (λ b. b && codes_apart cs) (all_mapped (are_apart c.private) (λ (code : Code). code.private) cs)
    ∙ ap (λ b. list_all (are_apart c.private) (map (λ code. code.private) cs) && b) (ranges_apart cs)

apart : (codes : List Code) → Decides (codes_apart codes) (all_apart (map (λ code. code.private) codes) ≡ true)
apart codes = (λ h. sym (ranges_apart codes) ∙ h, λ h. ranges_apart codes ∙ h)

pub Decides-image : (m : Image) → Decides (image_test m) (IsFormedImage m)
Decides-image m =
    let sizes = Decides-and _ _ (Decides-and _ _ (Decides-and _ _ (at_most 1 m.file) (at_most m.file MOST_FILE)) (at_most 1 (length m.contexts))) (at_most (length m.contexts) MOST_CONTEXTS) in
    let ranges = Decides-and _ _ (Decides-and _ _ (at_most (m.shared.start + m.shared.size) m.file) (apart_from m.shared m.contexts)) (apart m.contexts) in
    let contexts = Decides-each (code_test m) (IsFormedCode m) (decides_code m) m.contexts in
    let all = Decides-and _ _ (Decides-and _ _ (Decides-and _ _ sizes ranges) (Decides-setting m.setting)) contexts in
    let shared = list_all (are_apart m.shared) (map (λ code. code.private) m.contexts) in
    let own = all_apart (map (λ code. code.private) m.contexts) in (
      λ h.
          let f = all.0 h in
          let apart = and_from shared own f.0.0.1.0.1 f.0.0.1.1 in
          search rules,
      λ f.
          let parts = and_parts shared own f.apart in
          all.1 (search rules),
    )
