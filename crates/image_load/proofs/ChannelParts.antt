-- A channel that is read is spelled so and keeps the setting sound, and what is spelled so is read.
use Rattle.std.proofs.Common.{◌≡◌, ◌<◌, ◌≤◌, ◌^◌, ◌+◌, ◌-◌, ℕ, zero, suc, Bool, true, false, ◌&&◌, not, List, [], ◌∷◌, ◌++◌, length, map, Option, Some, None, Result, Ok, Err, refl, sym, ap, ◌∙◌, subst, arith, if◌then◌else◌, drop}
use Rattle.std.specs.Prelude.{nat_lt, nat_eq, sum}
use Rattle.std.specs.List.{flat_map, AllByRecursion, list_any, list_all, filter_map}
use Rattle.std.proofs.lemmas.Bool.{and_parts, and_from, eqb-true, ltb-true, ltb-false, le-ltb, true≢false, false_from_ne_true}
use Rattle.std.proofs.lemmas.List.{map-append, nil_from_length}
use Rattle.std.proofs.lemmas.List.Folds.{list_all-append}
use Rattle.byteorder.specs.Endian.{little_bytes, little_number}
use Rattle.byteorder.specs.Numbers.{little_number-reads_back}
use Rattle.micro_isa.specs.declared.program.Channel.{Channel}
use Rattle.micro_isa.specs.declared.program.Channel.TheVariants.{Inner, Input, Output}
use Rattle.micro_isa.specs.Formed.{all_below, is_distinct, port_of, initial_count, has_formed_ring, is_ring_size}
use Rattle.micro_isa.proofs.Words.{bytes_back_2, bytes_back_4}
use Rattle.micro_isa.specs.declared.limits.TheConstants.{MOST_INITIAL_WORDS, MOST_PORTS}
use Rattle.image_load.specs.declared.fault.ImageKind.TheVariants.{Short}
use Rattle.image_load.specs.declared.fault.At.{At}
use Rattle.image_load.specs.declared.channels.Part.{Part}
use Rattle.image_load.specs.Faults.{fault_at, first_of, unless, ◌>>=◌}
use Rattle.image_load.specs.Spelling.{part_of, part_bytes, number_bytes, channel_bytes, initial_words, FitsChannel}
use Rattle.image_load.specs.Loading.{part_in, port_in, is_free, fits_kind, has_ring, part_tests, channel_of, number_at, filled_at, channel_at, many_at}
use Rattle.image_load.proofs.Several.{not_false, front_4, IsBytes, bytes_drop, none_met, met_none, unless_ok, if_ok, bind_ok, done, ok_is, Takes, many_takes, many_again, all_alone, all_at}
use Rattle.image_load.proofs.Apart.{ports_snoc, free_front, sum_front}
use Rattle.image_load.proofs.Formed.{small_ring}

-- initial words

number_takes : (size : ℕ) (before : List ℕ) (bytes : List ℕ) (x : ℕ × List ℕ) → Unit {0} → IsBytes bytes → number_at size bytes ≡ Ok x → Takes number_bytes bytes x × (x.0 < 2 ^ 32) × Unit {0}
unfolding number_at
number_takes size before bytes x u is e =
    let g = if_ok (nat_lt (length bytes) 4) (fault_at size Short) (Ok (little_number 4 bytes, drop 4 bytes)) x e in
    let front = front_4 bytes is (ltb-false (length bytes) 4 g.0) in
    subst (λ y. Takes number_bytes bytes y × (y.0 < 2 ^ 32) × Unit {0}) (ok_is (little_number 4 bytes, drop 4 bytes) x g.1) (record { parts = front.0; rest_fits = bytes_drop 4 bytes is }, front.1, tt)

number_again : (size : ℕ) (before : List ℕ) (n : ℕ) (rest : List ℕ) → n < 2 ^ 32 → number_at size (number_bytes n ++ rest) ≡ Ok (n, rest)
unfolding number_at
number_again size before n rest lt =
    let long : nat_lt (length (number_bytes n ++ rest)) 4 ≡ false = le-ltb _ _ (omega arith) in
    let back = little_number-reads_back 4 n rest lt in
    ap (λ b. if b then Err (fault_at size Short) else Ok (little_number 4 (number_bytes n ++ rest), rest)) long ∙ ap (λ k. Ok (k, rest)) back

-- parts

part_back : (bytes : List ℕ) → IsBytes bytes → 8 ≤ length bytes → bytes ≡ part_bytes (part_in bytes) ++ drop 8 bytes
part_back (a ∷ b ∷ c ∷ d ∷ e ∷ f ∷ g ∷ h ∷ r) is long =
    let two = bytes_back_2 c d (e ∷ f ∷ g ∷ h ∷ r) (is 2) (is 3) in
    let four = bytes_back_4 e f g h r (is 4) (is 5) (is 6) (is 7) in
    sym (ap (λ t. a ∷ b ∷ (t ++ little_bytes 4 (little_number 4 (e ∷ f ∷ g ∷ h ∷ r))) ++ r) two ∙ ap (λ t. a ∷ b ∷ c ∷ d ∷ t ++ r) four)
part_back _ is long = absurd (omega arith)

abbrev with_numbers : Part → ℕ → ℕ → Part
with_numbers p capacity count = record { kind = p.kind; port = p.port; capacity = capacity; count = count }

part_again : (p : Part) (rest : List ℕ) → p.capacity < 65536 → p.count < 2 ^ 32 → part_in (part_bytes p ++ rest) ≡ p
part_again p rest capacity count =
    let two = little_number-reads_back 2 p.capacity (little_bytes 4 p.count ++ rest) capacity in
    let four = little_number-reads_back 4 p.count rest count in
    ap (λ n. with_numbers p n (little_number 4 (little_bytes 4 p.count ++ rest))) two ∙ ap (with_numbers p p.capacity) four

port_none : (n : ℕ) → port_in n ≡ None → n ≡ 255
port_none n e =
    let go : (b : Bool) → nat_eq n 255 ≡ b → (if b then None else Some n) ≡ None → n ≡ 255 = λ b. elim b as (λ b. nat_eq n 255 ≡ b → (if b then None else Some n) ≡ None → n ≡ 255) [
      | true ↦ λ is e. eqb-true n 255 is
      | false ↦ λ is e. absurd (cc)
    ]
    in go (nat_eq n 255) refl e

port_some : (n p : ℕ) → port_in n ≡ Some p → n ≡ p
port_some n p e =
    let go : (b : Bool) → (if b then None else Some n) ≡ Some p → n ≡ p = λ b. elim b as (λ b. (if b then None else Some n) ≡ Some p → n ≡ p) [
      | true ↦ λ e. absurd (cc)
      | false ↦ λ e. cc
    ]
    in go (nat_eq n 255) e

port_low : (p : ℕ) → p < MOST_PORTS → port_in p ≡ Some p
port_low p lt =
    let other : nat_eq p 255 ≡ false = false_from_ne_true (nat_eq p 255) (λ same. let e = eqb-true p 255 same in omega arith) in
    ap (λ b. if b then None else Some p) other

-- the channel of a part that meets no test
record Made (p : Part) (o : Option ℕ) (words : List ℕ) (c : Channel) : Type 0 where
  part : part_of c ≡ p
  initial : initial_words c ≡ words
  ring : has_formed_ring c ≡ true
  port : port_of c ≡ o
  count : initial_count c ≡ length words

ring_from : (ring : Bool) → (true && not ring) ≡ false → ring ≡ true
ring_from true e = refl
ring_from false e = absurd (cc)

made : (kind n capacity count : ℕ) (o : Option ℕ) (words : List ℕ) → port_in n ≡ o → fits_kind kind o (nat_eq capacity 0) (nat_eq count 0) ≡ true → (has_ring kind o && not (is_ring_size capacity)) ≡ false → length words ≡ count
    → Made (record { kind = kind; port = n; capacity = capacity; count = count }) o words (channel_of kind o capacity words)
made zero n capacity count None words is fits ring len =
    let none : count ≡ 0 = eqb-true count 0 fits in
    let no_words : [] ≡ words = sym (nil_from_length words (len ∙ none)) in
    let port = port_none n is in record {
      part = rw (port, none) refl;
      initial = no_words;
      ring = ring_from (is_ring_size capacity) ring;
      port = refl;
      count = sym (len ∙ none);
    }
made zero n capacity count (Some p) words is fits ring len = absurd (true≢false (sym fits))
made (suc zero) n capacity count None words is fits ring len =
    let none : capacity ≡ 0 = eqb-true capacity 0 fits in
    let port = port_none n is in record {
      part = rw (port, none, len) refl;
      initial = refl;
      ring = refl;
      port = refl;
      count = refl;
    }
made (suc zero) n capacity count (Some p) words is fits ring len =
    let port = port_some n p is in record {
      part = rw (port, len) refl;
      initial = refl;
      ring = ring_from (is_ring_size capacity) ring;
      port = refl;
      count = refl;
    }
made (suc (suc zero)) n capacity count None words is fits ring len =
    let both = and_parts (nat_eq capacity 0) (nat_eq count 0) fits in
    let none : count ≡ 0 = eqb-true count 0 both.1 in
    let no_words : [] ≡ words = sym (nil_from_length words (len ∙ none)) in
    let port = port_none n is in record {
      part = rw (port, none, eqb-true capacity 0 both.0) refl;
      initial = no_words;
      ring = refl;
      port = refl;
      count = sym (len ∙ none);
    }
made (suc (suc zero)) n capacity count (Some p) words is fits ring len =
    let both = and_parts (nat_eq capacity 0) (nat_eq count 0) fits in
    let none : count ≡ 0 = eqb-true count 0 both.1 in
    let no_words : [] ≡ words = sym (nil_from_length words (len ∙ none)) in
    let port = port_some n p is in record {
      part = rw (port, none, eqb-true capacity 0 both.0) refl;
      initial = no_words;
      ring = refl;
      port = refl;
      count = sym (len ∙ none);
    }
made (suc (suc (suc k))) n capacity count o words is fits ring len = absurd (true≢false (sym fits))

-- the part of a channel that is formed
record Unmade (c : Channel) (p : Part) : Type 0 where
  port : port_in p.port ≡ port_of c
  fits : fits_kind p.kind (port_of c) (nat_eq p.capacity 0) (nat_eq p.count 0) ≡ true
  ring : (has_ring p.kind (port_of c) && not (is_ring_size p.capacity)) ≡ false
  count : p.count ≡ length (initial_words c)
  counted : p.count ≡ initial_count c
  again : channel_of p.kind (port_of c) p.capacity (initial_words c) ≡ c
  capacity : p.capacity < 65536

ring_is : (n : ℕ) → is_ring_size n ≡ true → (true && not (is_ring_size n)) ≡ false
ring_is n e = ap not e

unmade : (c : Channel) → ((p : ℕ) → port_of c ≡ Some p → p < MOST_PORTS) → has_formed_ring c ≡ true → Unmade c (part_of c)
unmade (Inner capacity) low ring = record { port = refl; fits = refl; ring = ring_is capacity ring; count = refl; counted = refl; again = refl; capacity = small_ring capacity ring }
unmade (Input words None) low ring = record { port = refl; fits = refl; ring = refl; count = refl; counted = refl; again = refl; capacity = omega arith }
unmade (Input words (Some port)) low ring = record { port = port_low port.number (low port.number refl); fits = refl; ring = ring_is port.capacity ring; count = refl; counted = refl; again = refl; capacity = small_ring port.capacity ring }
unmade (Output None) low ring = record { port = refl; fits = refl; ring = refl; count = refl; counted = refl; again = refl; capacity = omega arith }
unmade (Output (Some port)) low ring = record { port = port_low port (low port refl); fits = refl; ring = refl; count = refl; counted = refl; again = refl; capacity = omega arith }

-- the channels before are as a formed setting asks
pub record IsSound (chs : List Channel) : Type 0 where
  pub rings : list_all has_formed_ring chs ≡ true
  pub ports : all_below 16 (filter_map port_of chs) ≡ true
  pub distinct : is_distinct nat_eq (filter_map port_of chs) ≡ true
  pub words : sum (map initial_count chs) ≤ MOST_INITIAL_WORDS

pub sound_none : IsSound []
sound_none = record { rings = refl; ports = refl; distinct = refl; words = omega arith }

sound_more : (before : List Channel) (c : Channel) → IsSound before → has_formed_ring c ≡ true → is_free before (port_of c) ≡ true → sum (map initial_count before) + initial_count c ≤ MOST_INITIAL_WORDS → IsSound (before ++ c ∷ [])
sound_more before c s ring free few =
    let ports = ports_snoc before c (port_of c) refl free s.ports s.distinct in
    let counts = ap sum (map-append initial_count before (c ∷ [])) ∙ sum_front (map initial_count before) (initial_count c) [] in record {
      rings = list_all-append has_formed_ring before (c ∷ []) ∙ and_from (list_all has_formed_ring before) (has_formed_ring c && true) s.rings (and_from (has_formed_ring c) true ring refl);
      ports = ports.0;
      distinct = ports.1;
      words = omega (arith, counts, few);
    }

filled_takes : (size place : ℕ) (before : List Channel) (p : Part) (bytes : List ℕ) (x : Channel × List ℕ) → IsSound before → IsBytes bytes → first_of (part_tests place before p) ≡ None → filled_at size p bytes ≡ Ok x
    → (bytes ≡ flat_map number_bytes (initial_words x.0) ++ x.1) × IsBytes x.1 × (part_of x.0 ≡ p) × FitsChannel x.0 × IsSound (before ++ x.0 ∷ [])
unfolding filled_at
filled_takes size place before p bytes x s is tests e =
    let a = bind_ok (many_at (λ before. number_at size) p.count [] bytes) (λ y. Ok (channel_of p.kind (port_in p.port) p.capacity y.0, y.1)) x e in
    let t = (many_takes number_bytes (λ n. n < 2 ^ 32) (λ words. Unit {0}) (λ before. number_at size) (number_takes size) p.count [] bytes a.0 tt is a.1).0 in
    let words = a.0.0 in
    let len : length words ≡ p.count = ap length t.all ∙ t.count in
    let met = none_met (part_tests place before p) tests in
    let both = and_parts (is_free before (port_in p.port)) (fits_kind p.kind (port_in p.port) (nat_eq p.capacity 0) (nat_eq p.count 0)) (not_false _ met.0) in
    let few : sum (map initial_count before) + p.count ≤ MOST_INITIAL_WORDS = ltb-false MOST_INITIAL_WORDS (sum (map initial_count before) + p.count) met.1.1.0 in
    let c = channel_of p.kind (port_in p.port) p.capacity words in
    let m : Made p (port_in p.port) words c = made p.kind p.port p.capacity p.count (port_in p.port) words refl both.1 met.1.0 len in
    let same : initial_words c ≡ t.added = m.initial ∙ t.all in
    let parts : bytes ≡ flat_map number_bytes (initial_words c) ++ a.0.1 = t.parts ∙ ap (λ ws. flat_map number_bytes ws ++ a.0.1) (sym same) in
    let small : FitsChannel c = subst (AllByRecursion (λ n. n < 2 ^ 32)) (sym same) t.fit in
    let sound = sound_more before c s m.ring (ap (is_free before) m.port ∙ both.0) (let n = m.count in omega (arith, n, len, few)) in
    subst (λ (y : Channel × List ℕ). (bytes ≡ flat_map number_bytes (initial_words y.0) ++ y.1) × IsBytes y.1 × (part_of y.0 ≡ p) × FitsChannel y.0 × IsSound (before ++ y.0 ∷ [])) (ok_is (c, a.0.1) x a.2) (parts, t.rest_fits, m.part, small, sound)

pub channel_takes : (size : ℕ) (before : List Channel) (bytes : List ℕ) (x : Channel × List ℕ) → IsSound before → IsBytes bytes → channel_at size before bytes ≡ Ok x → Takes channel_bytes bytes x × FitsChannel x.0 × IsSound (before ++ x.0 ∷ [])
unfolding channel_at
channel_takes size before bytes x s is e =
    let p = part_in bytes in
    let tests = first_of (part_tests (size - length bytes) before p) in
    let g = if_ok (nat_lt (length bytes) 8) (fault_at size Short) (unless tests (filled_at size p (drop 8 bytes))) x e in
    let u = unless_ok tests (filled_at size p (drop 8 bytes)) x g.1 in
    let f = filled_takes size (size - length bytes) before p (drop 8 bytes) x s (bytes_drop 8 bytes is) u.0 u.1 in
    let parts : bytes ≡ channel_bytes x.0 ++ x.1 =
    part_back bytes is (ltb-false (length bytes) 8 g.0)
    ∙ ap (λ r. part_bytes p ++ r) f.0
    ∙ ap (λ q. part_bytes q ++ (flat_map number_bytes (initial_words x.0) ++ x.1)) (sym f.2) in
    (record { parts = parts; rest_fits = f.1 }, f.3, f.4)

-- what a channel must be behind those before it
pub record IsNext (before : List Channel) (c : Channel) : Type 0 where
  pub ring : has_formed_ring c ≡ true
  pub free : is_free before (port_of c) ≡ true
  pub few : sum (map initial_count before) + initial_count c ≤ MOST_INITIAL_WORDS
  pub small : FitsChannel c

low_port : (before : List Channel) (o : Option ℕ) → is_free before o ≡ true → (p : ℕ) → o ≡ Some p → p < MOST_PORTS
low_port before None free p e = absurd (cc)
low_port before (Some q) free p e =
    let both = and_parts (nat_lt q MOST_PORTS) (not (list_any (nat_eq q) (filter_map port_of before))) free in
    let same : q ≡ p = cc in
    subst (λ n. n < MOST_PORTS) same (ltb-true q MOST_PORTS both.0)

filled_again : (size : ℕ) (c : Channel) (rest : List ℕ) → FitsChannel c → Unmade c (part_of c) → filled_at size (part_of c) (flat_map number_bytes (initial_words c) ++ rest) ≡ Ok (c, rest)
unfolding filled_at
filled_again size c rest small u =
    let p = part_of c in
    let words = initial_words c in
    let bytes = flat_map number_bytes words ++ rest in
    let make : List ℕ × List ℕ → Result (Channel × List ℕ) At = λ y. Ok (channel_of p.kind (port_in p.port) p.capacity y.0, y.1) in
    ap (λ k. many_at (λ before. number_at size) k [] bytes >>= make) u.count
    ∙ ap (λ r. r >>= make) (many_again number_bytes (λ before n. n < 2 ^ 32) (λ before. number_at size) (number_again size) words [] rest (all_alone (λ n. n < 2 ^ 32) words [] small))
    ∙ ap (λ o. done (channel_of p.kind o p.capacity words, rest)) u.port
    ∙ ap (λ d. done (d, rest)) u.again

pub channel_again : (size : ℕ) (before : List Channel) (c : Channel) (rest : List ℕ) → IsNext before c → channel_at size before (channel_bytes c ++ rest) ≡ Ok (c, rest)
unfolding channel_at
channel_again size before c rest n =
    let p = part_of c in
    let behind = flat_map number_bytes (initial_words c) ++ rest in
    let bytes = channel_bytes c ++ rest in
    let place = size - length bytes in
    let u = unmade c (low_port before (port_of c) n.free) n.ring in
    let long : nat_lt (length bytes) 8 ≡ false = le-ltb _ _ (omega arith) in
    let few = n.few in
    let counted = u.counted in
    let same : part_in bytes ≡ p = part_again p behind u.capacity (omega (arith, few, counted)) in
    let free : is_free before (port_in p.port) ≡ true = ap (is_free before) u.port ∙ n.free in
    let fits : fits_kind p.kind (port_in p.port) (nat_eq p.capacity 0) (nat_eq p.count 0) ≡ true = ap (λ o. fits_kind p.kind o (nat_eq p.capacity 0) (nat_eq p.count 0)) u.port ∙ u.fits in
    let first = ap not (and_from (is_free before (port_in p.port)) (fits_kind p.kind (port_in p.port) (nat_eq p.capacity 0) (nat_eq p.count 0)) free fits) in
    let second : (has_ring p.kind (port_in p.port) && not (is_ring_size p.capacity)) ≡ false = ap (λ o. has_ring p.kind o && not (is_ring_size p.capacity)) u.port ∙ u.ring in
    let third : nat_lt MOST_INITIAL_WORDS (sum (map initial_count before) + p.count) ≡ false = le-ltb _ _ (omega (arith, few, counted)) in
    let tests = met_none (part_tests place before p) (first, (second, (third, tt))) in
    ap (λ b. if b then Err (fault_at size Short) else unless (first_of (part_tests place before (part_in bytes))) (filled_at size (part_in bytes) behind)) long
    ∙ ap (λ q. unless (first_of (part_tests place before q)) (filled_at size q behind)) same
    ∙ ap (λ o. unless o (filled_at size p behind)) tests
    ∙ filled_again size c rest n.small u

-- the channels of a formed setting follow one another so
pub next_in : (before : List Channel) (c : Channel) (cs : List Channel) → IsSound (before ++ c ∷ cs) × AllByRecursion FitsChannel (before ++ c ∷ cs) → IsNext before c
next_in before c cs h =
    let s = h.0 in
    let rings = and_parts (list_all has_formed_ring before) (has_formed_ring c && list_all has_formed_ring cs) (sym (list_all-append has_formed_ring before (c ∷ cs)) ∙ s.rings) in
    let ring = and_parts (has_formed_ring c) (list_all has_formed_ring cs) rings.1 in
    let counts = ap sum (map-append initial_count before (c ∷ cs)) ∙ sum_front (map initial_count before) (initial_count c) (map initial_count cs) in
    let few = s.words in record {
      ring = ring.0;
      free = free_front before c cs s.ports s.distinct (port_of c) refl;
      few = omega (arith, counts, few);
      small = all_at FitsChannel before c cs h.1;
    }
