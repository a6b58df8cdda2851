-- A canonical line before the first context has no fault, and says what it was written for.
use Rattle.std.proofs.Common.{◌≡◌, ◌++◌, ◌<◌, ◌≤◌, ◌^◌, ◌&&◌, ◌||◌, ℕ, ◌+◌, Bool, true, false, not, List, [], ◌∷◌, Option, Some, None, refl, sym, ap, ◌∙◌, arith, length, map, fold, decimal, codes, slice_get, nat_le, nat_eq, get_or}
use Rattle.std.proofs.lemmas.Bool.{and_parts, or_from, le-ltb, lt-leb, le-leb, leb-true}
use Rattle.std.proofs.lemmas.List.Sums.{fold-append}
use Rattle.std.proofs.lemmas.List.{length-map}
use Rattle.std.proofs.Math.Seq.{set-append_seam}
use Rattle.std.specs.List.{list_any, filter_map, AllByRecursion}
use Rattle.std.specs.Str.{bytes_eq}
use Rattle.micro_isa.specs.declared.limits.TheConstants.{MOST_CHANNELS, MOST_PORTS, MOST_RING, MOST_INITIAL_WORDS}
use Rattle.micro_isa.specs.declared.program.PortUse.{PortUse}
use Rattle.micro_isa.specs.declared.program.Channel.{Channel}
use Rattle.micro_isa.specs.declared.program.Channel.TheVariants as channel
use Rattle.micro_isa.specs.Names.{name_test}
use Rattle.micro_isa.specs.Formed.{is_distinct, port_of, is_ring_size}
use Rattle.asm_lines.specs.Cutting.{Words, TextLine}
use Rattle.asm_lines.specs.declared.fault.BundleKind.{BundleKind}
use Rattle.asm_lines.specs.declared.fault.BundleKind.TheVariants as kind
use Rattle.asm_lines.specs.Verdicts.{at_or, first_fault}
use Rattle.asm_lines.specs.Numbers.{number_or, is_no_number}
use Rattle.asm_lines.specs.Tables.{knows, place_of, declare, misnamed}
use Rattle.asm_header.specs.Forms as form
use Rattle.asm_header.specs.Headers.{Header, with_line, filled, replaced, filled_at}
use Rattle.asm_header.specs.Faults.{is_from, is_bad_port, is_input, form_test, line_fault, verdicts_after, faults_after}
use Rattle.asm_lines.proofs.First.{no_kind}
use Rattle.asm_lines.proofs.Verdicts.{free_in}
use Rattle.asm_print.proofs.Tables.{fresh_number, declare_new, place_is, known_at}
use Rattle.asm_print.proofs.Words.{number_is, number_there}

-- lines without a fault lead from one header to another
pub record Leads (h : Header) (lines : List TextLine) (g : Header) : Type 0 where
  pub free : faults_after h lines ≡ None
  pub said : fold with_line h lines ≡ g

abbrev pub line : ℕ → Words → TextLine
line n words = record { number = n; fair = true; words = words }

pub no_line : (h : Header) → Leads h [] h
no_line h = record { free = refl; said = refl }

then_line : (h g k : Header) (l : TextLine) (ls : List TextLine) → line_fault h l ≡ None → with_line h l ≡ g → Leads g ls k → Leads h (l ∷ ls) k
then_line h g k l ls f e rest = record {
  free = ap (λ o. at_or l.number o (faults_after (with_line h l) ls)) f ∙ ap (λ x. faults_after x ls) e ∙ rest.free;
  said = ap (λ x. fold with_line x ls) e ∙ rest.said;
}

pub one_line : (h g : Header) (l : TextLine) → line_fault h l ≡ None → with_line h l ≡ g → Leads h (l ∷ []) g
one_line h g l f e = then_line h g g l [] f e (no_line g)

verdicts-append : (h : Header) (xs ys : List TextLine) → verdicts_after h (xs ++ ys) ≡ verdicts_after h xs ++ verdicts_after (fold with_line h xs) ys
verdicts-append h [] ys = refl
verdicts-append h (x ∷ xs) ys = ap (λ vs. (x.number, line_fault h x) ∷ vs) (verdicts-append (with_line h x) xs ys)

pub then_lines : (h g k : Header) (xs ys : List TextLine) → Leads h xs g → Leads g ys k → Leads h (xs ++ ys) k
then_lines h g k xs ys a b = record {
  free = ap first_fault (verdicts-append h xs ys) ∙ free_in (verdicts_after h xs) (verdicts_after (fold with_line h xs) ys) a.free ∙ ap (λ x. faults_after x ys) a.said ∙ b.free;
  said = fold-append with_line h xs ys ∙ ap (λ x. fold with_line x ys) a.said ∙ b.said;
}

-- ---- the header that was written so far

abbrev pub so_far : ℕ → ℕ → Words → List Channel → ℕ → Header
so_far file memory names channels words = record { file = Some file; memory = Some memory; names = names; channels = channels; words = words }

-- ---- the tests

named_one : (name : List ℕ) → name_test name ≡ true → (misnamed (name ∷ []) || misnamed []) ≡ false
named_one name e = ap (λ (b : Bool). (not b || false) || false) e

named_other : (name : List ℕ) → name_test name ≡ true → (misnamed [] || misnamed (name ∷ [])) ≡ false
named_other name e = ap (λ (b : Bool). not b || false) e

pub within : (least most n : ℕ) → n < 2 ^ 32 → least ≤ n → n ≤ most → not (is_from least most (decimal n)) ≡ false
within least most n s l m =
    ap (λ k. not (nat_le least k && nat_le k most)) (number_is n s)
    ∙ ap (λ (b : Bool). not (b && nat_le n most)) (le-leb least n l)
    ∙ ap (λ (b : Bool). not b) (le-leb n most m)

ring_bounds : (n : ℕ) → is_ring_size n ≡ true → (1 ≤ n) × (n ≤ MOST_RING)
ring_bounds n e = let a = and_parts (nat_le 1 n) (nat_le n MOST_RING) e in (leb-true 1 n a.0, leb-true n MOST_RING a.1)

ring_small : (n : ℕ) → is_ring_size n ≡ true → n < 2 ^ 32
ring_small n e = let a = ring_bounds n e in omega arith

port_small : (n : ℕ) → n < MOST_PORTS → n < 2 ^ 32
port_small n h = omega arith

-- a ring's capacity that is in range, and one channel more
ring_fits : (n k : ℕ) → is_ring_size n ≡ true → k < MOST_CHANNELS → (false || ((not (is_from 1 MOST_RING (decimal n)) || false) || (nat_le MOST_CHANNELS k || false))) ≡ false
ring_fits n k e h =
    let a = ring_bounds n e in
    ap (λ (b : Bool). (b || false) || (nat_le MOST_CHANNELS k || false)) (within 1 MOST_RING n (omega arith) a.0 a.1)
    ∙ ap (λ (b : Bool). b || false) (lt-leb MOST_CHANNELS k h)

no_ring_fits : (k : ℕ) → k < MOST_CHANNELS → (false || (false || (nat_le MOST_CHANNELS k || false))) ≡ false
no_ring_fits k h = ap (λ (b : Bool). b || false) (lt-leb MOST_CHANNELS k h)

pub one_number : (n : ℕ) → n < 2 ^ 32 → list_any is_no_number (decimal n ∷ []) ≡ false
one_number n s = ap (λ (b : Bool). b || false) (number_there n s)

two_numbers : (m n : ℕ) → m < 2 ^ 32 → n < 2 ^ 32 → list_any is_no_number (decimal m ∷ decimal n ∷ []) ≡ false
two_numbers m n r s = ap (λ (b : Bool). b || (is_no_number (decimal n) || false)) (number_there m r) ∙ one_number n s

port_fits : (channels : List Channel) (p : ℕ) (later : List ℕ) → p < MOST_PORTS → is_distinct nat_eq (filter_map port_of channels ++ p ∷ later) ≡ true → (is_bad_port channels (number_or (decimal p)) || false) ≡ false
port_fits channels p later h d =
    ap (λ k. is_bad_port channels k || false) (number_is p (omega arith))
    ∙ ap (λ (b : Bool). (b || list_any (nat_eq p) (filter_map port_of channels)) || false) (lt-leb MOST_PORTS p h)
    ∙ ap (λ (b : Bool). b || false) (fresh_number (filter_map port_of channels) p later d)

new_name : (names : Words) (name : List ℕ) → knows names name ≡ false → list_any (knows names) (name ∷ []) ≡ false
new_name names name e = ap (λ (b : Bool). b || false) e

-- ---- the line that makes a channel

-- a channel of this name may be made
pub record Room (names : Words) (channels : List Channel) (name : List ℕ) : Type 0 where
  pub few : length names < MOST_CHANNELS
  pub same : length names ≡ length channels
  pub named : name_test name ≡ true
  pub new : knows names name ≡ false

module _ (file memory n words : ℕ) (names : Words) (channels : List Channel) (name : List ℕ) (room : Room names channels name) where
  named_so : (c : Channel) → ◌≡◌ {A = Header} (so_far file memory (declare names name) (channels ++ c ∷ []) words) (so_far file memory (names ++ name ∷ []) (channels ++ c ∷ []) words)
  named_so c = ap (λ (ns : Words). so_far file memory ns (channels ++ c ∷ []) words) (declare_new names name room.new)

  named_here : (misnamed (name ∷ []) || misnamed []) ≡ false
  named_here = named_one name room.named

  new_here : list_any (knows names) (name ∷ []) ≡ false
  new_here = new_name names name room.new

  inner_free : (size : ℕ) → is_ring_size size ≡ true → (k : BundleKind) → form_test (so_far file memory names channels words) true (form.Inner name (decimal size)) k ≡ false
  inner_free size e kind.Name = named_here
  inner_free size e kind.Number = one_number size (ring_small size e)
  inner_free size e kind.Limit = ring_fits size (length names) e room.few
  inner_free size e kind.Repeated = new_here
  inner_free size e _ = refl

  pub inner_line : (size : ℕ) → is_ring_size size ≡ true → Leads (so_far file memory names channels words) (line n (codes "inner" ∷ name ∷ decimal size ∷ []) ∷ []) (so_far file memory (names ++ name ∷ []) (channels ++ channel.Inner size ∷ []) words)
  inner_line size e =
      one_line _ _ _ (no_kind (form_test (so_far file memory names channels words) true (form.Inner name (decimal size))) (inner_free size e))
      (ap (λ (k : ℕ). so_far file memory (declare names name) (channels ++ channel.Inner k ∷ []) words) (number_is size (ring_small size e)) ∙ named_so (channel.Inner size))

  input_free : (k : BundleKind) → form_test (so_far file memory names channels words) true (form.Input name) k ≡ false
  input_free kind.Name = named_here
  input_free kind.Limit = no_ring_fits (length names) room.few
  input_free kind.Repeated = new_here
  input_free _ = refl

  pub input_line : Leads (so_far file memory names channels words) (line n (codes "input" ∷ name ∷ []) ∷ []) (so_far file memory (names ++ name ∷ []) (channels ++ channel.Input [] None ∷ []) words)
  input_line = one_line _ _ _ (no_kind (form_test (so_far file memory names channels words) true (form.Input name)) input_free) (named_so (channel.Input [] None))

  port_input_free : (port : PortUse) (later : List ℕ) → is_ring_size port.capacity ≡ true → port.number < MOST_PORTS → is_distinct nat_eq (filter_map port_of channels ++ port.number ∷ later) ≡ true
      → (k : BundleKind) → form_test (so_far file memory names channels words) true (form.PortInput name (decimal port.number) (decimal port.capacity)) k ≡ false
  port_input_free port later e h d kind.Name = named_here
  port_input_free port later e h d kind.Number = two_numbers port.number port.capacity (port_small port.number h) (ring_small port.capacity e)
  port_input_free port later e h d kind.Limit = ring_fits port.capacity (length names) e room.few
  port_input_free port later e h d kind.Port = port_fits channels port.number later h d
  port_input_free port later e h d kind.Repeated = new_here
  port_input_free port later e h d _ = refl

  pub port_input_line : (port : PortUse) (later : List ℕ) → is_ring_size port.capacity ≡ true → port.number < MOST_PORTS → is_distinct nat_eq (filter_map port_of channels ++ port.number ∷ later) ≡ true
      → Leads (so_far file memory names channels words) (line n (codes "input" ∷ name ∷ codes "port" ∷ decimal port.number ∷ decimal port.capacity ∷ []) ∷ []) (so_far file memory (names ++ name ∷ []) (channels ++ channel.Input [] (Some port) ∷ []) words)
  port_input_line port later e h d =
      one_line _ _ _ (no_kind (form_test (so_far file memory names channels words) true (form.PortInput name (decimal port.number) (decimal port.capacity))) (port_input_free port later e h d))
      (ap (λ (k : ℕ). so_far file memory (declare names name) (channels ++ channel.Input [] (Some (record { number = k; capacity = number_or (decimal port.capacity) })) ∷ []) words) (number_is port.number (port_small port.number h))
      ∙ ap (λ (k : ℕ). so_far file memory (declare names name) (channels ++ channel.Input [] (Some (record { number = port.number; capacity = k })) ∷ []) words) (number_is port.capacity (ring_small port.capacity e))
      ∙ named_so (channel.Input [] (Some port)))

  output_free : (k : BundleKind) → form_test (so_far file memory names channels words) true (form.Output name) k ≡ false
  output_free kind.Name = named_here
  output_free kind.Limit = no_ring_fits (length names) room.few
  output_free kind.Repeated = new_here
  output_free _ = refl

  pub output_line : Leads (so_far file memory names channels words) (line n (codes "output" ∷ name ∷ []) ∷ []) (so_far file memory (names ++ name ∷ []) (channels ++ channel.Output None ∷ []) words)
  output_line = one_line _ _ _ (no_kind (form_test (so_far file memory names channels words) true (form.Output name)) output_free) (named_so (channel.Output None))

  port_output_free : (port : ℕ) (later : List ℕ) → port < MOST_PORTS → is_distinct nat_eq (filter_map port_of channels ++ port ∷ later) ≡ true → (k : BundleKind) → form_test (so_far file memory names channels words) true (form.PortOutput name (decimal port)) k ≡ false
  port_output_free port later h d kind.Name = named_here
  port_output_free port later h d kind.Number = one_number port (port_small port h)
  port_output_free port later h d kind.Limit = no_ring_fits (length names) room.few
  port_output_free port later h d kind.Port = port_fits channels port later h d
  port_output_free port later h d kind.Repeated = new_here
  port_output_free port later h d _ = refl

  pub port_output_line : (port : ℕ) (later : List ℕ) → port < MOST_PORTS → is_distinct nat_eq (filter_map port_of channels ++ port ∷ later) ≡ true
      → Leads (so_far file memory names channels words) (line n (codes "output" ∷ name ∷ codes "port" ∷ decimal port ∷ []) ∷ []) (so_far file memory (names ++ name ∷ []) (channels ++ channel.Output (Some port) ∷ []) words)
  port_output_line port later h d =
      one_line _ _ _ (no_kind (form_test (so_far file memory names channels words) true (form.PortOutput name (decimal port))) (port_output_free port later h d))
      (ap (λ (k : ℕ). so_far file memory (declare names name) (channels ++ channel.Output (Some k) ∷ []) words) (number_is port (port_small port h)) ∙ named_so (channel.Output (Some port)))

-- ---- the line of a channel's initial words

all_numbers : (ns : List ℕ) → AllByRecursion (λ n. n < 2 ^ 32) ns → list_any is_no_number (map decimal ns) ≡ false
all_numbers [] a = refl
all_numbers (n ∷ ns) a = or_from (is_no_number (decimal n)) (list_any is_no_number (map decimal ns)) (number_there n a.0) (all_numbers ns a.1)

numbers_again : (ns : List ℕ) → AllByRecursion (λ n. n < 2 ^ 32) ns → map number_or (map decimal ns) ≡ ns
numbers_again [] a = refl
numbers_again (n ∷ ns) a = ap (λ k. k ∷ map number_or (map decimal ns)) (number_is n a.0) ∙ ap (λ ks. n ∷ ks) (numbers_again ns a.1)

last_of : {A : Type 0} (xs : List A) (x : A) → slice_get (xs ++ x ∷ []) (length xs) ≡ Some x
last_of [] x = refl
last_of (y ∷ ys) x = last_of ys x

last_name : (xs : Words) (x d : List ℕ) → get_or (xs ++ x ∷ []) (length xs) d ≡ x
last_name [] x d = refl
last_name (y ∷ ys) x d = last_name ys x d

length_last : (xs : Words) (x : List ℕ) → length xs < length (xs ++ x ∷ [])
length_last [] x = omega arith
length_last (y ∷ ys) x = let ih = length_last ys x in omega arith

place_last : (xs : Words) (x : List ℕ) → is_distinct bytes_eq (xs ++ x ∷ []) ≡ true → place_of (xs ++ x ∷ []) x ≡ length xs
place_last xs x e =
    ap (place_of (xs ++ x ∷ [])) (sym (last_name xs x [])) ∙ place_is (xs ++ x ∷ []) (length xs) [] e (length_last xs x)

knows_last : (xs : Words) (x : List ℕ) → knows (xs ++ x ∷ []) x ≡ true
knows_last xs x = ap (knows (xs ++ x ∷ [])) (sym (last_name xs x [])) ∙ known_at (xs ++ x ∷ []) (length xs) [] (length_last xs x)

filled_last : (cs : List Channel) (c : Channel) (more : List ℕ) → filled_at (cs ++ c ∷ []) (length cs) more ≡ cs ++ filled more c ∷ []
filled_last cs c more =
    ap (replaced (cs ++ c ∷ []) (length cs) more) (last_of cs c) ∙ set-append_seam cs c [] (filled more c)

input_last : (cs : List Channel) (c : Channel) → is_input (Some c) ≡ true → (not (is_input (slice_get (cs ++ c ∷ []) (length cs))) || false) ≡ false
input_last cs c e = ap (λ (o : Option Channel). not (is_input o) || false) (last_of cs c) ∙ ap (λ (b : Bool). not b || false) e

initial_free : (file memory words : ℕ) (names : Words) (channels : List Channel) (name : List ℕ) (port : Option PortUse) (x : ℕ) (xs : List ℕ)
    → name_test name ≡ true → words + length (x ∷ xs) ≤ MOST_INITIAL_WORDS → AllByRecursion (λ n. n < 2 ^ 32) (x ∷ xs) → place_of (names ++ name ∷ []) name ≡ length channels
    → (k : BundleKind) → form_test (so_far file memory (names ++ name ∷ []) (channels ++ channel.Input [] port ∷ []) words) true (form.Initial name (map decimal (x ∷ xs))) k ≡ false
initial_free file memory words names channels name port x xs named few fits at kind.Name = named_other name named
initial_free file memory words names channels name port x xs named few fits at kind.Number = all_numbers (x ∷ xs) fits
initial_free file memory words names channels name port x xs named few fits at kind.Limit =
    ap (λ (b : Bool). b || false) (le-ltb MOST_INITIAL_WORDS (words + length (map decimal (x ∷ xs))) (omega (arith, length-map (x ∷ xs) decimal)))
initial_free file memory words names channels name port x xs named few fits at kind.ChannelUnknown = ap (λ (b : Bool). not b || false) (knows_last names name)
initial_free file memory words names channels name port x xs named few fits at kind.ChannelKind =
    ap (λ (k : ℕ). not (is_input (slice_get (channels ++ channel.Input [] port ∷ []) k)) || false) at ∙ input_last channels (channel.Input [] port) refl
initial_free file memory words names channels name port x xs named few fits at _ = refl

pub initial_line : (file memory n words : ℕ) (names : Words) (channels : List Channel) (name : List ℕ) (port : Option PortUse) (x : ℕ) (xs : List ℕ)
    → name_test name ≡ true → length names ≡ length channels → is_distinct bytes_eq (names ++ name ∷ []) ≡ true
    → words + length (x ∷ xs) ≤ MOST_INITIAL_WORDS → AllByRecursion (λ n. n < 2 ^ 32) (x ∷ xs)
    → Leads (so_far file memory (names ++ name ∷ []) (channels ++ channel.Input [] port ∷ []) words) (line n (codes "words" ∷ name ∷ map decimal (x ∷ xs)) ∷ [])
    (so_far file memory (names ++ name ∷ []) (channels ++ channel.Input (x ∷ xs) port ∷ []) (words + length (x ∷ xs)))
initial_line file memory n words names channels name port x xs named same distinct few fits =
    let at : place_of (names ++ name ∷ []) name ≡ length channels = place_last names name distinct ∙ same in
    let h = so_far file memory (names ++ name ∷ []) (channels ++ channel.Input [] port ∷ []) words in
    let long : length (map decimal (x ∷ xs)) ≡ length (x ∷ xs) = length-map (x ∷ xs) decimal in
    one_line _ _ _
    (no_kind (form_test h true (form.Initial name (map decimal (x ∷ xs)))) (initial_free file memory words names channels name port x xs named few fits at))
    (ap (λ (k : ℕ). so_far file memory (names ++ name ∷ []) (filled_at (channels ++ channel.Input [] port ∷ []) k (map number_or (map decimal (x ∷ xs)))) (words + length (map decimal (x ∷ xs)))) at
    ∙ ap (λ (ns : List ℕ). so_far file memory (names ++ name ∷ []) (filled_at (channels ++ channel.Input [] port ∷ []) (length channels) ns) (words + length (map decimal (x ∷ xs)))) (numbers_again (x ∷ xs) fits)
    ∙ ap (λ (cs : List Channel). so_far file memory (names ++ name ∷ []) cs (words + length (map decimal (x ∷ xs)))) (filled_last channels (channel.Input [] port) (x ∷ xs))
    ∙ ap (λ (k : ℕ). so_far file memory (names ++ name ∷ []) (channels ++ channel.Input (x ∷ xs) port ∷ []) (words + k)) long)
