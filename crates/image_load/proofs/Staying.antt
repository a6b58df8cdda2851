-- A fault that is found from front to back stays whatever follows.
use Rattle.std.proofs.Common.{◌≡◌, ◌+◌, ◌-◌, ◌*◌, ℕ, zero, suc, Bool, true, false, List, [], ◌∷◌, ◌++◌, length, Option, Some, None, Result, Ok, Err, refl, sym, ap, ◌∙◌, subst, arith, if◌then◌else◌, length-append, append-nil, drop, inl, inr, ◌⊎◌}
use Rattle.std.specs.Prelude.{nat_eq, nat_lt}
use Rattle.std.proofs.lemmas.Bool.{cases_lt, lt-ltb, le-ltb, eqb-true, false_from_ne_true}
use Rattle.std.proofs.lemmas.List.{drop-append-le, length-drop}
use Rattle.std.proofs.lemmas.Option.{same_Some}
use Rattle.byteorder.specs.Endian.{little_number}
use Rattle.byteorder.specs.Numbers.{little_from-append}
use Rattle.micro_isa.specs.declared.image.Image.{Image}
use Rattle.micro_isa.specs.declared.program.Channel.{Channel}
use Rattle.micro_isa.specs.declared.image.Word.{Word}
use Rattle.micro_isa.specs.declared.image.Range.{Range}
use Rattle.micro_isa.specs.declared.image.Code.{Code}
use Rattle.micro_isa.specs.declared.codec.WordFault.{WordFault}
use Rattle.micro_isa.specs.declared.codec.WordFault.TheVariants as refused
use Rattle.micro_isa.specs.WordBytes.{word_in}
use Rattle.micro_isa.specs.declared.limits.TheConstants.{MOST_CONTEXTS, MOST_FILE, MOST_CHANNELS, MOST_MEMORY}
use Rattle.image_load.specs.declared.fault.At.{At}
use Rattle.image_load.specs.declared.fault.ImageKind.{ImageKind}
use Rattle.image_load.specs.declared.fault.ImageKind.TheVariants.{Short, Trailing}
use Rattle.image_load.specs.declared.fault.ImageKind.TheVariants as wrong
use Rattle.image_load.specs.declared.channels.Part.{Part}
use Rattle.image_load.specs.declared.header.Header.{Header}
use Rattle.image_load.specs.Faults.{fault_at, first_of, or_else, unless, ◌>>=◌}
use Rattle.image_load.specs.Spelling.{magic}
use Rattle.image_load.specs.Loading.{many_at, number_at, word_at, word_or_fault, filled_at, channel_at, coded_at, context_at, part_in, port_in, channel_of, part_tests, context_tests, range_in, outside, header_in, field_tests, shared_tests, header_fault, image_of, front_at, word_tests, words_fault, codes_fault, image_read, image_fault, fault_in}
use Rattle.image_load.specs.Laws.{IsOfAWord, IsFoundAgain}
use Rattle.image_load.proofs.Several.{done}
use Rattle.image_load.proofs.Fronts.{remade, header_same, long_header}

-- with `b` behind it, an item is read as before, with `b` behind what is left; and a fault, but that bytes are short, is found as
-- before
abbrev Stays : {A : Type 0} → List ℕ → Result (A × List ℕ) At → Result (A × List ℕ) At → Type 0
Stays b (Ok x) more = more ≡ done (x.0, x.1 ++ b)
Stays b (Err found) more = (found.kind ≡ Short) ⊎ (more ≡ Err found)

stays_then : {A B : Type 0} (b : List ℕ) (r more : Result (A × List ℕ) At) (f g : A × List ℕ → Result (B × List ℕ) At) → Stays b r more → ((x : A) (left : List ℕ) → Stays b (f (x, left)) (g (x, left ++ b))) → Stays b (r >>= f) (more >>= g)
stays_then b (Ok x) more f g e next = subst (λ m. Stays b (f x) (m >>= g)) (sym e) (next x.0 x.1)
stays_then b (Err found) more f g (inl short) next = inl short
stays_then b (Err found) more f g (inr same) next = inr (ap (λ m. m >>= g) same)

made_stays : {A B : Type 0} (b : List ℕ) (make : A → B) (r more : Result (A × List ℕ) At) → Stays b r more → Stays b (r >>= remade make) (more >>= remade make)
made_stays b make r more s = stays_then b r more (remade make) (remade make) s (λ x left. refl)

many_stay : {A : Type 0} (b : List ℕ) (full read : List A → List ℕ → Result (A × List ℕ) At) → ((before : List A) (a : List ℕ) → Stays b (read before a) (full before (a ++ b))) → (n : ℕ) (before : List A) (a : List ℕ) → Stays b (many_at read n before a) (many_at full n before (a ++ b))
many_stay b full read one zero before a = refl
many_stay b full read one (suc n) before a =
    stays_then b (read before a) (full before (a ++ b)) (λ x. many_at read n (before ++ x.0 ∷ []) x.1) (λ x. many_at full n (before ++ x.0 ∷ []) x.1) (one before a)
    (λ x left. many_stay b full read one n (before ++ x ∷ []) left)

unless_stays : {A : Type 0} (b : List ℕ) (o : Option At) (r more : Result (A × List ℕ) At) → Stays b r more → Stays b (unless o r) (unless o more)
unless_stays b None r more s = s
unless_stays b (Some found) r more s = inr refl

-- bytes that are long enough stay so
long_stays : {A : Type 0} (b : List ℕ) (s t : Bool) (f g : At) (r more : Result (A × List ℕ) At) → s ≡ false → t ≡ false → Stays b r more → Stays b (if s then Err f else r) (if t then Err g else more)
long_stays b s t f g r more is also stays =
    subst (λ x. Stays b (if x then Err f else r) (if t then Err g else more)) (sym is) (subst (λ x. Stays b r (if x then Err g else more)) (sym also) stays)

-- the same place in all bytes
same_place : (size full : ℕ) (a b : List ℕ) → full ≡ size + length b → full - length (a ++ b) ≡ size - length a
same_place size full a b is = let e = length-append a b in omega (arith, e, is)

number_stays : (size full : ℕ) (b before a : List ℕ) → Stays b (number_at size a) (number_at full (a ++ b))
unfolding number_at
number_stays size full b before (c0 ∷ c1 ∷ c2 ∷ c3 ∷ r) =
    let bytes = c0 ∷ c1 ∷ c2 ∷ c3 ∷ r in
    let short : nat_lt (length bytes) 4 ≡ false = le-ltb _ _ (omega arith) in
    let also : nat_lt (length (bytes ++ b)) 4 ≡ false = le-ltb _ _ (omega arith) in
    long_stays b (nat_lt (length bytes) 4) (nat_lt (length (bytes ++ b)) 4) (fault_at size Short) (fault_at full Short) (done (little_number 4 bytes, r)) (done (little_number 4 bytes, r ++ b)) short also refl
number_stays size full b before _ = inl refl

abbrev word_from : ℕ → Result Word WordFault → List ℕ → Result (Word × List ℕ) At
word_from place found rest = word_or_fault place found >>= λ w. done (w, rest)

found_stays : (b r : List ℕ) (place : ℕ) (found : Result Word WordFault) → Stays b (word_from place found r) (word_from place found (r ++ b))
found_stays b r place (Ok w) = refl
found_stays b r place (Err refused.Opcode) = inr refl
found_stays b r place (Err refused.Field) = inr refl

word_stays : (size full : ℕ) (b : List ℕ) → full ≡ size + length b → (before : List Word) (a : List ℕ) → Stays b (word_at size a) (word_at full (a ++ b))
unfolding word_at
word_stays size full b is before (c0 ∷ c1 ∷ c2 ∷ c3 ∷ c4 ∷ c5 ∷ c6 ∷ c7 ∷ c8 ∷ c9 ∷ c10 ∷ c11 ∷ r) =
    let front = c0 ∷ c1 ∷ c2 ∷ c3 ∷ c4 ∷ c5 ∷ c6 ∷ c7 ∷ c8 ∷ c9 ∷ c10 ∷ c11 ∷ [] in
    let bytes = c0 ∷ c1 ∷ c2 ∷ c3 ∷ c4 ∷ c5 ∷ c6 ∷ c7 ∷ c8 ∷ c9 ∷ c10 ∷ c11 ∷ r in
    let place = size - length bytes in
    let short : nat_lt (length bytes) 12 ≡ false = le-ltb _ _ (omega arith) in
    let also : nat_lt (length (bytes ++ b)) 12 ≡ false = le-ltb _ _ (omega arith) in
    let there = full - length (bytes ++ b) in
    let found = subst (λ p. Stays b (word_from place (word_in front) r) (word_from p (word_in front) (r ++ b))) (sym (same_place size full bytes b is)) (found_stays b r place (word_in front)) in
    long_stays b (nat_lt (length bytes) 12) (nat_lt (length (bytes ++ b)) 12) (fault_at size Short) (fault_at full Short) (word_from place (word_in front) r) (word_from there (word_in front) (r ++ b)) short also found
word_stays size full b is before _ = inl refl

filled_stays : (size full : ℕ) (b : List ℕ) (p : Part) (a : List ℕ) → Stays b (filled_at size p a) (filled_at full p (a ++ b))
unfolding filled_at
filled_stays size full b p a =
    made_stays b (channel_of p.kind (port_in p.port) p.capacity) (many_at (λ before. number_at size) p.count [] a) (many_at (λ before. number_at full) p.count [] (a ++ b))
    (many_stay b (λ before. number_at full) (λ before. number_at size) (number_stays size full b) p.count [] a)

channel_stays : (size full : ℕ) (b : List ℕ) → full ≡ size + length b → (before : List Channel) (a : List ℕ) → Stays b (channel_at size before a) (channel_at full before (a ++ b))
unfolding channel_at
channel_stays size full b is before (c0 ∷ c1 ∷ c2 ∷ c3 ∷ c4 ∷ c5 ∷ c6 ∷ c7 ∷ r) =
    let bytes = c0 ∷ c1 ∷ c2 ∷ c3 ∷ c4 ∷ c5 ∷ c6 ∷ c7 ∷ r in
    let p = part_in bytes in
    let short : nat_lt (length bytes) 8 ≡ false = le-ltb _ _ (omega arith) in
    let also : nat_lt (length (bytes ++ b)) 8 ≡ false = le-ltb _ _ (omega arith) in
    let tests : ℕ → Option At = λ place. first_of (part_tests place before p) in
    let here = unless (tests (size - length bytes)) (filled_at size p r) in
    let there : ℕ → Result (Channel × List ℕ) At = λ place. unless (tests place) (filled_at full p (r ++ b)) in
    let found = subst (λ place. Stays b here (there place)) (sym (same_place size full bytes b is)) (unless_stays b (tests (size - length bytes)) (filled_at size p r) (filled_at full p (r ++ b)) (filled_stays size full b p r)) in
    long_stays b (nat_lt (length bytes) 8) (nat_lt (length (bytes ++ b)) 8) (fault_at size Short) (fault_at full Short) here (there (full - length (bytes ++ b))) short also found
channel_stays size full b is before _ = inl refl

coded_stays : (size full : ℕ) (b : List ℕ) → full ≡ size + length b → (private : Range) (count : ℕ) (a : List ℕ) → Stays b (coded_at size private count a) (coded_at full private count (a ++ b))
unfolding coded_at
coded_stays size full b is private count a =
    made_stays b (λ (ws : List Word). record { private = private; words = ws }) (many_at (λ before. word_at size) count [] a) (many_at (λ before. word_at full) count [] (a ++ b))
    (many_stay b (λ before. word_at full) (λ before. word_at size) (word_stays size full b is) count [] a)

context_stays : (size full : ℕ) (h : Header) (b : List ℕ) → full ≡ size + length b → (before : List Code) (a : List ℕ) → Stays b (context_at size h before a) (context_at full h before (a ++ b))
unfolding context_at
context_stays size full h b is before (c0 ∷ c1 ∷ c2 ∷ c3 ∷ c4 ∷ c5 ∷ c6 ∷ c7 ∷ r) =
    let bytes = c0 ∷ c1 ∷ c2 ∷ c3 ∷ c4 ∷ c5 ∷ c6 ∷ c7 ∷ r in
    let private = range_in bytes in
    let count = little_number 4 (drop 4 bytes) in
    let short : nat_lt (length bytes) 8 ≡ false = le-ltb _ _ (omega arith) in
    let also : nat_lt (length (bytes ++ b)) 8 ≡ false = le-ltb _ _ (omega arith) in
    let tests : ℕ → Option At = λ place. first_of (context_tests place h before bytes) in
    let here = unless (tests (size - length bytes)) (coded_at size private count r) in
    let there : ℕ → Result (Code × List ℕ) At = λ place. unless (tests place) (coded_at full private count (r ++ b)) in
    let found = subst (λ place. Stays b here (there place)) (sym (same_place size full bytes b is)) (unless_stays b (tests (size - length bytes)) (coded_at size private count r) (coded_at full private count (r ++ b)) (coded_stays size full b is private count r)) in
    long_stays b (nat_lt (length bytes) 8) (nat_lt (length (bytes ++ b)) 8) (fault_at size Short) (fault_at full Short) here (there (full - length (bytes ++ b))) short also found
context_stays size full h b is before _ = inl refl

-- headers

abbrev StaysFound : Option At → Option At → Type 0
StaysFound None more = more ≡ None
StaysFound (Some found) more = (found.kind ≡ Short) ⊎ (more ≡ Some found)

else_stays : (o p later more : Option At) → StaysFound o p → StaysFound later more → StaysFound (or_else o later) (or_else p more)
else_stays None p later more e next = subst (λ x. StaysFound later (or_else x more)) (sym e) next
else_stays (Some found) p later more (inl short) next = inl short
else_stays (Some found) p later more (inr same) next = inr (ap (λ x. or_else x more) same)

test_stays : (t : Bool) (f : At) → StaysFound (if t then Some f else None) (if t then Some f else None)
test_stays true f = inr refl
test_stays false f = refl

-- bytes end too soon; or they and more are long enough, and a test of them stays
field_or : (a : List ℕ) (short also : Bool) (s t : Bool) (f g : At) → short ≡ false → also ≡ false → s ≡ t → StaysFound (if short then Some g else (if s then Some f else None)) (if also then Some (fault_at (length a) Short) else (if t then Some f else None))
field_or a short also s t f g is too same =
    subst (λ x. StaysFound (if x then Some g else (if s then Some f else None)) (if also then Some (fault_at (length a) Short) else (if t then Some f else None))) (sym is)
    (subst (λ x. StaysFound (if s then Some f else None) (if x then Some (fault_at (length a) Short) else (if t then Some f else None))) (sym too)
    (subst (λ x. StaysFound (if s then Some f else None) (if x then Some f else None)) same (test_stays s f)))

cut_stays : (n : ℕ) (short : Bool) (later more : Option At) → short ≡ true → StaysFound (if short then Some (fault_at n Short) else later) more
cut_stays n short later more is = subst (λ x. StaysFound (if x then Some (fault_at n Short) else later) more) (sym is) (inl refl)

field_stays : (a b : List ℕ) (place width : ℕ) (kind : ImageKind) (least most : ℕ) → StaysFound (first_of (field_tests a place width kind least most)) (first_of (field_tests (a ++ b) place width kind least most))
field_stays a b place width kind least most =
    elim (cases_lt (length a) (place + width)) [
      | inl lt ↦ cut_stays (length a) (nat_lt (length a) (place + width)) (if outside least most (little_number width (drop place a)) then Some (fault_at place kind) else None) (first_of (field_tests (a ++ b) place width kind least most)) (lt-ltb _ _ lt)
      | inr le ↦
          let len = length-append a b in
          let same : little_number width (drop place (a ++ b)) ≡ little_number width (drop place a) = ap (little_number width) (drop-append-le place a b (omega (arith, le))) ∙ little_from-append width (drop place a) b (omega (arith, le, length-drop place a)) in
          field_or (a ++ b) (nat_lt (length a) (place + width)) (nat_lt (length (a ++ b)) (place + width)) (outside least most (little_number width (drop place a))) (outside least most (little_number width (drop place (a ++ b)))) (fault_at place kind) (fault_at (length a) Short) (le-ltb _ _ le) (le-ltb _ _ (omega (arith, le, len))) (ap (outside least most) (sym same))
    ]

abbrev is_past : Header → Bool
is_past h = nat_lt h.file (h.shared.start + h.shared.size)

shared_stays : (a b : List ℕ) → StaysFound (first_of (shared_tests a)) (first_of (shared_tests (a ++ b)))
shared_stays a b =
    elim (cases_lt (length a) 20) [
      | inl lt ↦ cut_stays (length a) (nat_lt (length a) 20) (if is_past (header_in a) then Some (fault_at 16 wrong.Overlap) else None) (first_of (shared_tests (a ++ b))) (lt-ltb _ _ lt)
      | inr le ↦
          let len = length-append a b in
          field_or (a ++ b) (nat_lt (length a) 20) (nat_lt (length (a ++ b)) 20) (is_past (header_in a)) (is_past (header_in (a ++ b))) (fault_at 16 wrong.Overlap) (fault_at (length a) Short) (le-ltb _ _ le) (le-ltb _ _ (omega (arith, le, len))) (ap is_past (sym (header_same a b le).0))
    ]

header_stays : (a b : List ℕ) → StaysFound (header_fault a) (header_fault (a ++ b))
unfolding header_fault
header_stays a b =
    else_stays _ _ _ _ (field_stays a b 0 4 wrong.Magic magic magic) (
    else_stays _ _ _ _ (field_stays a b 4 2 wrong.Version 1 1) (
    else_stays _ _ _ _ (field_stays a b 6 2 wrong.Count 1 MOST_CONTEXTS) (
    else_stays _ _ _ _ (field_stays a b 8 2 wrong.Count 1 MOST_FILE) (
    else_stays _ _ _ _ (field_stays a b 10 2 wrong.Count 0 MOST_CHANNELS) (
    else_stays _ _ _ _ (field_stays a b 12 4 wrong.Count 0 MOST_MEMORY) (shared_stays a b))))))

-- the first pass: what it reads gives way to what stands behind it, and its fault, but that bytes are short, is found as before
abbrev StaysFront : {A : Type 0} → List ℕ → ℕ → Result A At → Result A At → Type 0
StaysFront b size (Ok x) more = (b ≡ [] → ⊥) → more ≡ Err (fault_at size Trailing)
StaysFront b size (Err found) more = (found.kind ≡ Short) ⊎ (more ≡ Err found)

front_then : {A B : Type 0} (b : List ℕ) (size : ℕ) (r more : Result (A × List ℕ) At) (f g : A × List ℕ → Result B At) → Stays b r more → ((x : A) (left : List ℕ) → StaysFront b size (f (x, left)) (g (x, left ++ b))) → StaysFront b size (r >>= f) (more >>= g)
front_then b size (Ok x) more f g e next = subst (λ m. StaysFront b size (f x) (m >>= g)) (sym e) (next x.0 x.1)
front_then b size (Err found) more f g (inl short) next = inl short
front_then b size (Err found) more f g (inr same) next = inr (ap (λ m. m >>= g) same)

front_unless : {A : Type 0} (b : List ℕ) (size : ℕ) (o p : Option At) (r more : Result A At) → StaysFound o p → (o ≡ None → StaysFront b size r more) → StaysFront b size (unless o r) (unless p more)
front_unless b size None p r more e next = subst (λ x. StaysFront b size r (unless x more)) (sym e) (next refl)
front_unless b size (Some found) p r more (inl short) next = inl short
front_unless b size (Some found) p r more (inr same) next = inr (ap (λ x. unless x more) same)

some_left : (l : List ℕ) → (l ≡ [] → ⊥) → nat_eq (length l) 0 ≡ false
some_left [] some = absurd (some refl)
some_left (c ∷ cs) some = false_from_ne_true (nat_eq (length (c ∷ cs)) 0) (λ none. let e = eqb-true (length (c ∷ cs)) 0 none in omega (arith, e))

-- nothing is left, or the first byte of what is left is told
abbrev ended : {A : Type 0} → ℕ → List ℕ → A → Result A At
ended size left x = if nat_eq (length left) 0 then Ok x else Err (fault_at (size - length left) Trailing)

ended_at : {A : Type 0} (size : ℕ) (left : List ℕ) (x : A) → (left ≡ [] → ⊥) → ended size left x ≡ Err (fault_at (size - length left) Trailing)
ended_at size left x some = ap (λ t. if t then Ok x else Err (fault_at (size - length left) Trailing)) (some_left left some)

ended_stays : {A : Type 0} (b : List ℕ) (size full : ℕ) (left : List ℕ) (x y : A) → full ≡ size + length b → StaysFront b size (ended size left x) (ended full (left ++ b) y)
ended_stays b size full [] x y is = λ some. ended_at full b y some ∙ ap (λ n. Err (fault_at n Trailing)) (omega (arith, is))
ended_stays b size full (c ∷ cs) x y is =
    let left = c ∷ cs in
    let here = ended_at size left x (λ none. absurd (cc)) in
    let there = ended_at full (left ++ b) y (λ none. absurd (cc)) in
    subst (λ r. StaysFront b size r (ended full (left ++ b) y)) (sym here) (inr (there ∙ ap (λ n. Err (fault_at n Trailing)) (same_place size full left b is)))

front_stays : (a b : List ℕ) → StaysFront b (length a) (front_at a) (front_at (a ++ b))
unfolding front_at
front_stays a b =
    let size = length a in
    let full = length (a ++ b) in
    let is : full ≡ size + length b = length-append a b in
    let finish : ℕ → Header → List Channel × List ℕ → List Code × List ℕ → Result (Image × ℕ) At = λ n h c d. ended n d.1 (image_of h c.0 d.0, n - length c.1) in
    let second : ℕ → Header → List Channel × List ℕ → Result (Image × ℕ) At = λ n h c. many_at (context_at n h) h.contexts [] c.1 >>= λ d. finish n h c d in
    let first : ℕ → Header → List ℕ → Result (Image × ℕ) At = λ n h rest. many_at (channel_at n) h.channels [] rest >>= λ c. second n h c in
    let h = header_in a in
    let contexts : (chs : List Channel) (left : List ℕ) → StaysFront b size (second size h (chs, left)) (second full h (chs, left ++ b)) = λ chs left.
    front_then b size (many_at (context_at size h) h.contexts [] left) (many_at (context_at full h) h.contexts [] (left ++ b)) (finish size h (chs, left)) (finish full h (chs, left ++ b))
    (many_stay b (context_at full h) (context_at size h) (context_stays size full h b is) h.contexts [] left)
    (λ codes end. ended_stays b size full end (image_of h chs codes, size - length left) (image_of h chs codes, full - length (left ++ b)) is) in
    let channels : StaysFront b size (first size h (drop 20 a)) (first full h (drop 20 a ++ b)) =
    front_then b size (many_at (channel_at size) h.channels [] (drop 20 a)) (many_at (channel_at full) h.channels [] (drop 20 a ++ b)) (second size h) (second full h)
    (many_stay b (channel_at full) (channel_at size) (channel_stays size full b is) h.channels [] (drop 20 a)) contexts in
    front_unless b size (header_fault a) (header_fault (a ++ b)) (first size h (drop 20 a)) (first full (header_in (a ++ b)) (drop 20 (a ++ b))) (header_stays a b)
    (λ none.
    let same = header_same a b (long_header a none) in
    subst (λ g. StaysFront b size (first size h (drop 20 a)) (first full g (drop 20 (a ++ b)))) (sym same.0)
    (subst (λ rest. StaysFront b size (first size h (drop 20 a)) (first full h rest)) (sym same.1) channels))

-- the second pass tells of words alone

abbrev AllOfAWord : List (Bool × At) → Type 0
AllOfAWord [] = Unit {0}
AllOfAWord (row ∷ rows) = IsOfAWord row.1.kind × AllOfAWord rows

row_kind : (t : Bool) (found : At) (later : Option At) (at : At) → IsOfAWord found.kind → (later ≡ Some at → IsOfAWord at.kind) → (if t then Some found else later) ≡ Some at → IsOfAWord at.kind
row_kind true found later at is next e = subst (λ (x : At). IsOfAWord x.kind) (same_Some _ _ e) is
row_kind false found later at is next e = next e

first_kind : (rows : List (Bool × At)) (at : At) → AllOfAWord rows → first_of rows ≡ Some at → IsOfAWord at.kind
first_kind [] at all e = absurd (cc)
first_kind (row ∷ rows) at all e = row_kind row.0 row.1 (first_of rows) at all.0 (first_kind rows at all.1) e

else_kind : (o later : Option At) (at : At) → (o ≡ Some at → IsOfAWord at.kind) → (later ≡ Some at → IsOfAWord at.kind) → or_else o later ≡ Some at → IsOfAWord at.kind
else_kind None later at first next e = next e
else_kind (Some found) later at first next e = first e

words_kind : (m : Image) (code : Code) (place i : ℕ) (ws : List Word) (at : At) → words_fault m code place i ws ≡ Some at → IsOfAWord at.kind
words_kind m code place i [] at e = absurd (cc)
words_kind m code place i (w ∷ ws) at e =
    else_kind (first_of (word_tests m code place i w)) (words_fault m code (place + 12) (i + 1) ws) at (first_kind (word_tests m code place i w) at (tt, (tt, (tt, (tt, (tt, (tt, tt))))))) (words_kind m code (place + 12) (i + 1) ws at) e

codes_kind : (m : Image) (place : ℕ) (codes : List Code) (at : At) → codes_fault m place codes ≡ Some at → IsOfAWord at.kind
codes_kind m place [] at e = absurd (cc)
codes_kind m place (code ∷ codes) at e =
    else_kind (words_fault m code (place + 8) 0 code.words) (codes_fault m ((place + 8) + 12 * length code.words) codes) at (words_kind m code (place + 8) 0 code.words at) (codes_kind m ((place + 8) + 12 * length code.words) codes at) e

-- all bytes

abbrev second_pass : Image × ℕ → Result Image At
second_pass x = unless (codes_fault x.0 x.1 x.0.contexts) (done x.0)

unless_kind : (o : Option At) (m : Image) (at : At) → fault_in (unless o (done m)) ≡ Some at → o ≡ Some at
unless_kind None m at e = absurd (cc)
unless_kind (Some found) m at e = e

-- with something behind it
found_again : (b : List ℕ) (size : ℕ) (r more : Result (Image × ℕ) At) (at : At) → (b ≡ [] → ⊥) → StaysFront b size r more → fault_in (r >>= second_pass) ≡ Some at → (at.kind ≡ Short → ⊥) → (fault_in (more >>= second_pass) ≡ Some at) ⊎ (IsOfAWord at.kind × (fault_in (more >>= second_pass) ≡ Some (fault_at size Trailing)))
found_again b size (Ok x) more at some stays e long =
    inr (codes_kind x.0 x.1 x.0.contexts at (unless_kind (codes_fault x.0 x.1 x.0.contexts) x.0 at e), ap (λ m. fault_in (m >>= second_pass)) (stays some))
found_again b size (Err found) more at some (inl short) e long = absurd (long (subst (λ (x : At). x.kind ≡ Short) (same_Some _ _ e) short))
found_again b size (Err found) more at some (inr same) e long = inl (ap (λ m. fault_in (m >>= second_pass)) same ∙ e)

pub stays_told : (a b : List ℕ) (at : At) → image_fault a ≡ Some at → (at.kind ≡ Short → ⊥) → IsFoundAgain (a ++ b) (length a) at
unfolding image_read
stays_told a [] at e long = inl (ap image_fault (append-nil a) ∙ e)
stays_told a (c ∷ cs) at e long = found_again (c ∷ cs) (length a) (front_at a) (front_at (a ++ (c ∷ cs))) at (λ none. absurd (cc)) (front_stays a (c ∷ cs)) e long
