-- A context that is read is spelled so and keeps the ranges apart, and what is spelled so is read.
use Rattle.std.proofs.Common.{◌≡◌, ◌<◌, ◌≤◌, ◌+◌, ◌-◌, ◌*◌, ℕ, true, false, ◌&&◌, not, List, [], ◌∷◌, ◌++◌, length, map, Result, Ok, Err, refl, sym, ap, ◌∙◌, subst, arith, if◌then◌else◌, drop, take, length-append, inl, inr}
use Rattle.std.specs.Prelude.{get_or, nat_lt, nat_le}
use Rattle.std.specs.List.{flat_map, AllByRecursion, list_all}
use Rattle.std.proofs.lemmas.Bool.{and_parts, and_from, ltb-false, le-ltb, leb-true, le-leb, cases_lt}
use Rattle.std.proofs.lemmas.List.{map-append, take-append-drop, length-take, take_at, drop_at, get_or-take, get_or_past, at_drop_more}
use Rattle.std.proofs.lemmas.List.Concat.{flat_map-cons}
use Rattle.byteorder.specs.Endian.{little_bytes, little_number}
use Rattle.byteorder.specs.Numbers.{little_number-reads_back}
use Rattle.micro_isa.specs.declared.image.Word.{Word}
use Rattle.micro_isa.specs.declared.image.Range.{Range}
use Rattle.micro_isa.specs.declared.image.Code.{Code}
use Rattle.micro_isa.specs.Formed.{are_apart, all_apart}
use Rattle.micro_isa.specs.declared.codec.WordFault.{WordFault}
use Rattle.micro_isa.specs.declared.codec.WordFault.TheVariants as refused
use Rattle.micro_isa.specs.WordBytes.{word_bytes, word_in, FitsWord}
use Rattle.micro_isa.proofs.Words.{bytes_back_2, bytes_back_4, word_again, word_spelled}
use Rattle.micro_isa.specs.declared.limits.TheConstants.{MOST_FILE, MOST_WORDS}
use Rattle.image_load.specs.declared.fault.ImageKind.TheVariants.{Short}
use Rattle.image_load.specs.declared.fault.At.{At}
use Rattle.image_load.specs.declared.header.Header.{Header}
use Rattle.image_load.specs.Faults.{fault_at, first_of, unless, ◌>>=◌}
use Rattle.image_load.specs.Spelling.{range_bytes, code_bytes}
use Rattle.image_load.specs.Loading.{range_in, outside, is_apart, ranges_of, context_tests, word_or_fault, word_at, coded_at, context_at, many_at}
use Rattle.image_load.proofs.Several.{not_false, IsBytes, bytes_drop, none_met, met_none, unless_ok, if_ok, bind_ok, done, ok_is, Takes, many_takes, many_again, all_alone, all_at}
use Rattle.image_load.proofs.Apart.{apart_snoc, apart_front}
use Rattle.image_load.proofs.WordTests.{IsSized}

pub not_outside : (least most n : ℕ) → outside least most n ≡ false → (least ≤ n) × (n ≤ most)
not_outside least most n e =
    let both = and_parts (nat_le least n) (nat_le n most) (not_false _ e) in
    (leb-true least n both.0, leb-true n most both.1)

pub is_inside : (least most n : ℕ) → least ≤ n → n ≤ most → outside least most n ≡ false
is_inside least most n low high = ap not (and_from (nat_le least n) (nat_le n most) (le-leb least n low) (le-leb n most high))

pub all_ranges : (before : List Code) (r : Range) → list_all (λ other. are_apart other r) (map (λ code. code.private) before) ≡ list_all (λ code. are_apart code.private r) before
all_ranges [] r = refl
all_ranges (code ∷ codes) r = ap (λ b. are_apart code.private r && b) (all_ranges codes r)

-- words

bytes_take : (n : ℕ) (bytes : List ℕ) → IsBytes bytes → IsBytes (take n bytes)
bytes_take n bytes h i =
    elim (cases_lt i n) [
      | inl lt ↦ rw (get_or-take n bytes i 0 lt) (h i)
      | inr le ↦ rw (get_or_past (take n bytes) i 0 (omega (arith, length-take n bytes))) (omega arith)
    ]

pub word_or : (place : ℕ) (r : Result Word WordFault) (w : Word) → word_or_fault place r ≡ Ok w → r ≡ Ok w
word_or place (Ok v) w e = let same : v ≡ w = cc in ap (λ x. Ok x) same
word_or place (Err refused.Opcode) w e = absurd (cc)
word_or place (Err refused.Field) w e = absurd (cc)

pub length_word : (w : Word) → length (word_bytes w) ≡ 12
unfolding word_bytes
length_word w = refl

word_takes : (size : ℕ) (before : List Word) (bytes : List ℕ) (x : Word × List ℕ) → Unit {0} → IsBytes bytes → word_at size bytes ≡ Ok x → Takes word_bytes bytes x × FitsWord x.0 × Unit {0}
unfolding word_at
word_takes size before bytes x u is e =
    let place = size - length bytes in
    let g = if_ok (nat_lt (length bytes) 12) (fault_at size Short) (word_or_fault place (word_in (take 12 bytes)) >>= λ w. done (w, drop 12 bytes)) x e in
    let long = ltb-false (length bytes) 12 g.0 in
    let b = bind_ok (word_or_fault place (word_in (take 12 bytes))) (λ w. done (w, drop 12 bytes)) x g.1 in
    let w = b.0 in
    let spelled = word_spelled (take 12 bytes) w (bytes_take 12 bytes is) (omega (arith, length-take 12 bytes, long)) (word_or place (word_in (take 12 bytes)) w b.1) in
    let parts : bytes ≡ word_bytes w ++ drop 12 bytes = sym (take-append-drop 12 bytes) ∙ ap (λ t. t ++ drop 12 bytes) (sym spelled.0) in
    subst (λ (y : Word × List ℕ). Takes word_bytes bytes y × FitsWord y.0 × Unit {0}) (ok_is (w, drop 12 bytes) x b.2) (record { parts = parts; rest_fits = bytes_drop 12 bytes is }, spelled.1, tt)

word_reads : (size : ℕ) (before : List Word) (w : Word) (rest : List ℕ) → FitsWord w → word_at size (word_bytes w ++ rest) ≡ Ok (w, rest)
unfolding word_at
word_reads size before w rest fits =
    let bytes = word_bytes w ++ rest in
    let place = size - length bytes in
    let len = length_word w in
    let long : nat_lt (length bytes) 12 ≡ false = le-ltb _ _ (omega (arith, length-append (word_bytes w) rest, len)) in
    let front : take 12 bytes ≡ word_bytes w = take_at (word_bytes w) rest 12 len in
    let behind : drop 12 bytes ≡ rest = drop_at (word_bytes w) rest 12 len in
    ap (λ b. if b then Err (fault_at size Short) else (word_or_fault place (word_in (take 12 bytes)) >>= λ v. done (v, drop 12 bytes))) long
    ∙ ap (λ r. word_or_fault place r >>= λ v. done (v, drop 12 bytes)) (ap word_in front ∙ word_again w fits)
    ∙ ap (λ r. done (w, r)) behind

-- parts

range_back : (bytes : List ℕ) → IsBytes bytes → 8 ≤ length bytes → bytes ≡ (range_bytes (range_in bytes) ++ little_bytes 4 (little_number 4 (drop 4 bytes))) ++ drop 8 bytes
range_back (a ∷ b ∷ c ∷ d ∷ e ∷ f ∷ g ∷ h ∷ r) is long =
    let first = bytes_back_2 a b (c ∷ d ∷ e ∷ f ∷ g ∷ h ∷ r) (is 0) (is 1) in
    let second = bytes_back_2 c d (e ∷ f ∷ g ∷ h ∷ r) (is 2) (is 3) in
    let four = bytes_back_4 e f g h r (is 4) (is 5) (is 6) (is 7) in
    sym (ap (λ t. ((t ++ little_bytes 2 (little_number 2 (c ∷ d ∷ e ∷ f ∷ g ∷ h ∷ r))) ++ little_bytes 4 (little_number 4 (e ∷ f ∷ g ∷ h ∷ r))) ++ r) first
    ∙ ap (λ t. a ∷ b ∷ (t ++ little_bytes 4 (little_number 4 (e ∷ f ∷ g ∷ h ∷ r))) ++ r) second
    ∙ ap (λ t. a ∷ b ∷ c ∷ d ∷ t ++ r) four)
range_back _ is long = absurd (omega arith)

abbrev of_range : ℕ → ℕ → Range
of_range start size = record { start = start; size = size }

pub range_again : (r : Range) (rest : List ℕ) → r.start < 65536 → r.size < 65536 → range_in (range_bytes r ++ rest) ≡ r
range_again r rest start size =
    let first = little_number-reads_back 2 r.start (little_bytes 2 r.size ++ rest) start in
    let second = little_number-reads_back 2 r.size rest size in
    ap (λ n. of_range n (little_number 2 (little_bytes 2 r.size ++ rest))) first ∙ ap (of_range r.start) second

-- contexts

abbrev pub AreApart : Header → List Code → Type 0
AreApart h codes = all_apart (ranges_of h.shared codes) ≡ true

coded_takes : (size : ℕ) (private : Range) (count : ℕ) (bytes : List ℕ) (x : Code × List ℕ) → IsBytes bytes → coded_at size private count bytes ≡ Ok x
    → (bytes ≡ flat_map word_bytes x.0.words ++ x.1) × IsBytes x.1 × (x.0.private ≡ private) × (length x.0.words ≡ count) × AllByRecursion FitsWord x.0.words
unfolding coded_at
coded_takes size private count bytes x is e =
    let a = bind_ok (many_at (λ before. word_at size) count [] bytes) (λ y. done (record { private = private; words = y.0 }, y.1)) x e in
    let t = (many_takes word_bytes FitsWord (λ words. Unit {0}) (λ before. word_at size) (word_takes size) count [] bytes a.0 tt is a.1).0 in
    let same : t.added ≡ a.0.0 = sym t.all in
    let parts : bytes ≡ flat_map word_bytes a.0.0 ++ a.0.1 = t.parts ∙ ap (λ ws. flat_map word_bytes ws ++ a.0.1) same in
    subst (λ (y : Code × List ℕ). (bytes ≡ flat_map word_bytes y.0.words ++ y.1) × IsBytes y.1 × (y.0.private ≡ private) × (length y.0.words ≡ count) × AllByRecursion FitsWord y.0.words) (ok_is (record { private = private; words = a.0.0 }, a.0.1) x a.2) (parts, t.rest_fits, refl, ap length (sym same) ∙ t.count, subst (AllByRecursion FitsWord) same t.fit)

apart_more : (h : Header) (before : List Code) (code : Code) → AreApart h before → list_all (λ other. are_apart other code.private) (ranges_of h.shared before) ≡ true → AreApart h (before ++ code ∷ [])
apart_more h before code were new =
    ap (λ rs. all_apart (h.shared ∷ rs)) (map-append (λ (c : Code). c.private) before (code ∷ [])) ∙ apart_snoc (ranges_of h.shared before) code.private were new

pub context_takes : (size : ℕ) (h : Header) (before : List Code) (bytes : List ℕ) (x : Code × List ℕ) → AreApart h before → IsBytes bytes → context_at size h before bytes ≡ Ok x → Takes code_bytes bytes x × IsSized h.file x.0 × AreApart h (before ++ x.0 ∷ [])
unfolding context_at
context_takes size h before bytes x were is e =
    let place = size - length bytes in
    let private = range_in bytes in
    let count = little_number 4 (drop 4 bytes) in
    let tests = first_of (context_tests place h before bytes) in
    let g = if_ok (nat_lt (length bytes) 8) (fault_at size Short) (unless tests (coded_at size private count (drop 8 bytes))) x e in
    let u = unless_ok tests (coded_at size private count (drop 8 bytes)) x g.1 in
    let met = none_met (context_tests place h before bytes) u.0 in
    let apart = and_parts (nat_le (private.start + private.size) h.file) (list_all (λ other. are_apart other private) (ranges_of h.shared before)) (not_false _ met.0) in
    let counted = not_outside 1 MOST_WORDS count met.1.0 in
    let f = coded_takes size private count (drop 8 bytes) x (bytes_drop 8 bytes is) u.1 in
    let parts : bytes ≡ code_bytes x.0 ++ x.1 =
    range_back bytes is (ltb-false (length bytes) 8 g.0)
    ∙ ap (λ r. (range_bytes private ++ little_bytes 4 count) ++ r) f.0
    ∙ ap (λ r. (range_bytes r ++ little_bytes 4 count) ++ (flat_map word_bytes x.0.words ++ x.1)) (sym f.2)
    ∙ ap (λ n. (range_bytes x.0.private ++ little_bytes 4 n) ++ (flat_map word_bytes x.0.words ++ x.1)) (sym f.3) in
    let len = f.3 in
    let sized : IsSized h.file x.0 = record {
      some = subst (λ n. 1 ≤ n) (sym len) counted.0;
      few = subst (λ n. n ≤ MOST_WORDS) (sym len) counted.1;
      within = subst (λ (r : Range). r.start + r.size ≤ h.file) (sym f.2) (leb-true (private.start + private.size) h.file apart.0);
      fits = f.4;
    } in
    (record { parts = parts; rest_fits = f.1 }, sized, apart_more h before x.0 were (ap (λ r. list_all (λ other. are_apart other r) (ranges_of h.shared before)) f.2 ∙ apart.1))

-- what a context must be behind those before it
pub record IsNextCode (h : Header) (before : List Code) (code : Code) : Type 0 where
  pub apart : list_all (λ other. are_apart other code.private) (ranges_of h.shared before) ≡ true
  pub sized : IsSized h.file code
  pub small : h.file ≤ MOST_FILE

coded_again : (size : ℕ) (code : Code) (rest : List ℕ) → AllByRecursion FitsWord code.words → coded_at size code.private (length code.words) (flat_map word_bytes code.words ++ rest) ≡ Ok (code, rest)
unfolding coded_at
coded_again size code rest fits =
    let make : List Word × List ℕ → Result (Code × List ℕ) At = λ y. done (record { private = code.private; words = y.0 }, y.1) in
    ap (λ r. r >>= make) (many_again word_bytes (λ before w. FitsWord w) (λ before. word_at size) (word_reads size) code.words [] rest (all_alone FitsWord code.words [] fits))

pub context_again : (size : ℕ) (h : Header) (before : List Code) (code : Code) (rest : List ℕ) → IsNextCode h before code → context_at size h before (code_bytes code ++ rest) ≡ Ok (code, rest)
unfolding context_at
context_again size h before code rest n =
    let behind = flat_map word_bytes code.words ++ rest in
    let bytes = code_bytes code ++ rest in
    let place = size - length bytes in
    let count = length code.words in
    let long : nat_lt (length bytes) 8 ≡ false = le-ltb _ _ (omega arith) in
    let within = n.sized.within in
    let small = n.small in
    let few = n.sized.few in
    let range : range_in bytes ≡ code.private = range_again code.private (little_bytes 4 count ++ behind) (omega (arith, within, small)) (omega (arith, within, small)) in
    let number : little_number 4 (drop 4 bytes) ≡ count = little_number-reads_back 4 count behind (omega (arith, few)) in
    let first = ap not (ap (is_apart h.file (ranges_of h.shared before)) range ∙ and_from (nat_le (code.private.start + code.private.size) h.file) (list_all (λ other. are_apart other code.private) (ranges_of h.shared before)) (le-leb _ _ within) n.apart) in
    let second = ap (outside 1 MOST_WORDS) number ∙ is_inside 1 MOST_WORDS count n.sized.some few in
    let tests = met_none (context_tests place h before bytes) (first, (second, tt)) in
    ap (λ b. if b then Err (fault_at size Short) else unless (first_of (context_tests place h before bytes)) (coded_at size (range_in bytes) (little_number 4 (drop 4 bytes)) behind)) long
    ∙ ap (λ o. unless o (coded_at size (range_in bytes) (little_number 4 (drop 4 bytes)) behind)) tests
    ∙ ap (λ r. coded_at size r (little_number 4 (drop 4 bytes)) behind) range
    ∙ ap (λ k. coded_at size code.private k behind) number
    ∙ coded_again size code rest n.sized.fits

-- contexts whose ranges are apart follow one another so
pub code_in : (h : Header) → h.file ≤ MOST_FILE → (before : List Code) (code : Code) (codes : List Code) → AreApart h (before ++ code ∷ codes) × AllByRecursion (IsSized h.file) (before ++ code ∷ codes) → IsNextCode h before code
code_in h small before code codes all =
    let apart : all_apart (ranges_of h.shared before ++ code.private ∷ map (λ c. c.private) codes) ≡ true = sym (ap (λ rs. all_apart (h.shared ∷ rs)) (map-append (λ (c : Code). c.private) before (code ∷ codes))) ∙ all.0 in record {
      apart = apart_front (ranges_of h.shared before) code.private (map (λ c. c.private) codes) apart;
      sized = all_at (IsSized h.file) before code codes all.1;
      small = small;
    }

-- how long contexts are

pub length_code : (code : Code) → length (code_bytes code) ≡ 8 + 12 * length code.words
length_code code = let e = length_words code.words in omega (arith, e)
  where
    length_words : (ws : List Word) → length (flat_map word_bytes ws) ≡ 12 * length ws
    length_words [] = refl
    length_words (w ∷ ws) = omega (arith, ap length (flat_map-cons word_bytes w ws), length-append (word_bytes w) (flat_map word_bytes ws), length_word w, length_words ws)

pub length_codes : (code : Code) (codes : List Code) → length (flat_map code_bytes (code ∷ codes)) ≡ (8 + 12 * length code.words) + length (flat_map code_bytes codes)
length_codes code codes = ap length (flat_map-cons code_bytes code codes) ∙ length-append (code_bytes code) (flat_map code_bytes codes) ∙ ap (λ n. n + length (flat_map code_bytes codes)) (length_code code)

pub first_left : (codes : List Code) (k : ℕ) (code : Code) → k < length codes → code ≡ get_or codes k code → drop k codes ≡ code ∷ drop (k + 1) codes
first_left codes k code lt e = at_drop_more (λ l. l) codes k code lt ∙ ap (λ c. c ∷ drop (k + 1) codes) (sym e)

pub room_left : (codes : List Code) (k : ℕ) (code : Code) → k < length codes → code ≡ get_or codes k code → length (flat_map code_bytes (drop k codes)) ≡ (8 + 12 * length code.words) + length (flat_map code_bytes (drop (k + 1) codes))
room_left codes k code lt e = ap (λ l. length (flat_map code_bytes l)) (first_left codes k code lt e) ∙ length_codes code (drop (k + 1) codes)
