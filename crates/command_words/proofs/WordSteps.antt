-- The walk of the command over one word.
use Rattle.std.proofs.Common.{◌≡◌, ℕ, ◌++◌, ◌&&◌, ◌==◌, ◌⊎◌, Bool, true, false, List, [], ◌∷◌, Option, Some, None, if◌then◌else◌, refl, sym, ap, ◌∙◌, subst, codes, ⊎_elim}
use Rattle.std.proofs.lemmas.Bool.{true≢false}
use Rattle.std.proofs.lemmas.Bool.Decides.{Decides-eqb}
use Rattle.std.proofs.lemmas.Slice.Eq.{bytes_eq-Decides}
use Rattle.std.specs.Str.{bytes_eq}
use Rattle.std.specs.List.{before_first}
use Rattle.clap.specs.Lexer.{long_of, short_of, name_and_value}
use Rattle.clap.specs.Walk.{Held, Walk, Waiting, idle, option, positional, arg_by_long, walked, word_met, has_row, is_pending}
use Rattle.clap.specs.Takes.{turn_passes, settle_passes, react_passes}
use Rattle.clap.specs.Faults.{turn_fault, settle_fault, step_fault, long_fault, react_fault}
use Rattle.clap.specs.Kinds.{or_else, Kinds}
use Rattle.clap.specs.declared.error.kind.ErrorKind.{ErrorKind}
use Rattle.command_words.specs.Texts.{Text, OptionName, steps, order, Word, plain, names, sets, stray, begins_with_hyphen, after, hyphened, word_of, sets_one_of}
use Rattle.command_words.specs.Spellings.{spelt, attached}
use Rattle.command_words.specs.Hyphens.{is_double, is_fit}
use Rattle.command_words.proofs.Rows.{two_sides}
use Rattle.command_words.proofs.Spelling.{named, after_only, none_some, and_false}
use Rattle.command_words.proofs.Slots.{shape, rules, first, second, valued, id_of, option_built, rule_at, rows_of, with_pending, with_used}

-- the walk between two words
abbrev pub at : Held → ℕ → Walk
at h n = record { held = h; waiting = idle; position = n; is_trailing = false; stopped = None }

-- an option waits for its value
abbrev pub waits : Held → OptionName → ℕ → Walk
waits h n k = record (at (with_pending h (id_of (valued n)) []) k) { waiting = option (id_of (valued n)) }

-- ---- texts

plain_long : (w : Text) → begins_with_hyphen w ≡ false → long_of w ≡ None
plain_long [] e = refl
plain_long (c ∷ cs) e = rw e refl

plain_short : (w : Text) → begins_with_hyphen w ≡ false → short_of w ≡ None
plain_short [] e = refl
plain_short (c ∷ cs) e = rw e refl

plain_dashes : (w : Text) → begins_with_hyphen w ≡ false → bytes_eq w (45 ∷ 45 ∷ []) ≡ false
plain_dashes [] e = refl
plain_dashes (c ∷ cs) e = rw e refl

-- ---- a plain word that no option waits for

pub walked_first : (h : Held) (w : Text) → begins_with_hyphen w ≡ false → walked rules [] (at h 1) w ≡ at (with_pending h (id_of first) (w ∷ [])) 2
unfolding walked
walked_first h w e = rw (plain_dashes w e, plain_long w e, plain_short w e, and_false (is_pending (rule_at first) h.pending)) refl

pub walked_second : (h : Held) (w : Text) → begins_with_hyphen w ≡ false → walked rules [] (at h 2) w ≡ at (with_pending h (id_of second) (w ∷ [])) 3
unfolding walked
walked_second h w e = rw (plain_dashes w e, plain_long w e, plain_short w e, and_false (is_pending (rule_at second) h.pending)) refl

pub passes_first : (h : Held) (w : Text) → begins_with_hyphen w ≡ false → turn_passes shape [] (at h 1) w ≡ settle_passes rules false h
passes_first h w e = rw (plain_dashes w e, plain_long w e, plain_short w e, and_false (is_pending (rule_at first) h.pending)) refl

pub passes_second : (h : Held) (w : Text) → begins_with_hyphen w ≡ false → turn_passes shape [] (at h 2) w ≡ settle_passes rules false h
passes_second h w e = rw (plain_dashes w e, plain_long w e, plain_short w e, and_false (is_pending (rule_at second) h.pending)) refl

pub fault_first : (h : Held) (w : Text) → begins_with_hyphen w ≡ false → turn_fault shape [] (at h 1) w ≡ settle_fault rules false h
fault_first h w e = rw (plain_dashes w e, plain_long w e, plain_short w e, and_false (is_pending (rule_at first) h.pending)) refl

pub fault_second : (h : Held) (w : Text) → begins_with_hyphen w ≡ false → turn_fault shape [] (at h 2) w ≡ settle_fault rules false h
fault_second h w e = rw (plain_dashes w e, plain_long w e, plain_short w e, and_false (is_pending (rule_at second) h.pending)) refl

-- ---- an option's name

pub walked_name : (n : OptionName) (h : Held) (k : ℕ) → walked rules [] (at h k) (spelt n) ≡ waits h n k
unfolding walked
walked_name steps h k = refl
walked_name order h k = refl

pub passes_name : (n : OptionName) (h : Held) (k : ℕ) → turn_passes shape [] (at h k) (spelt n) ≡ (settle_passes rules false h && true)
passes_name steps h k = refl
passes_name order h k = refl

pub fault_name : (n : OptionName) (h : Held) (k : ℕ) → turn_fault shape [] (at h k) (spelt n) ≡ or_else (settle_fault rules false h) []
fault_name steps h k = refl
fault_name order h k = refl

-- ---- its value, in the next word

pub walked_value : (n : OptionName) (h : Held) (k : ℕ) (v : Text) → begins_with_hyphen v ≡ false → walked rules [] (waits h n k) v ≡ at (with_pending h (id_of (valued n)) (v ∷ [])) k
unfolding walked
walked_value steps h k v e = rw (plain_dashes v e, plain_long v e, plain_short v e) refl
walked_value order h k v e = rw (plain_dashes v e, plain_long v e, plain_short v e) refl

pub passes_value : (n : OptionName) (h : Held) (k : ℕ) (v : Text) → begins_with_hyphen v ≡ false → turn_passes shape [] (waits h n k) v ≡ true
passes_value steps h k v e = rw (plain_dashes v e, plain_long v e, plain_short v e) refl
passes_value order h k v e = rw (plain_dashes v e, plain_long v e, plain_short v e) refl

pub fault_value : (n : OptionName) (h : Held) (k : ℕ) (v : Text) → begins_with_hyphen v ≡ false → turn_fault shape [] (waits h n k) v ≡ []
fault_value steps h k v e = rw (plain_dashes v e, plain_long v e, plain_short v e) refl
fault_value order h k v e = rw (plain_dashes v e, plain_long v e, plain_short v e) refl

-- ---- its value, attached

pub walked_attached : (n : OptionName) (h : Held) (k : ℕ) (v : Text) → walked rules [] (at h k) (attached n ++ v) ≡ at (with_used h n v) k
unfolding walked
walked_attached steps h k v = refl
walked_attached order h k v = refl

pub passes_attached : (n : OptionName) (h : Held) (k : ℕ) (v : Text) → turn_passes shape [] (at h k) (attached n ++ v) ≡ (react_passes rules false (option_built n) (v ∷ []) h && true)
passes_attached steps h k v = refl
passes_attached order h k v = refl

pub fault_attached : (n : OptionName) (h : Held) (k : ℕ) (v : Text) → turn_fault shape [] (at h k) (attached n ++ v) ≡ or_else (react_fault rules false (option_built n) (v ∷ []) h) []
fault_attached steps h k v = refl
fault_attached order h k v = refl

-- ---- faults

abbrev pub Fails : Kinds → Type 0
Fails k = k ≡ [] → ⊥

abbrev pub is_cons : {X : Type 0} → List X → Bool
is_cons [] = false
is_cons (x ∷ xs) = true

pub fails_cons : (x : ErrorKind) (k : Kinds) → Fails (x ∷ k)
fails_cons x k e = true≢false (ap is_cons e)

pub fails_left : (a b : Kinds) → Fails a → Fails (or_else a b)
fails_left [] b f e = f refl
fails_left (x ∷ a) b f e = fails_cons x a e

-- a third plain word
pub fault_third : (h : Held) (w : Text) → begins_with_hyphen w ≡ false → Fails (turn_fault shape [] (at h 3) w)
fault_third h w e = rw (plain_dashes w e, plain_long w e, plain_short w e) (fails_cons _ _)

-- an option that was given
pub twice_pending : (n : OptionName) (h : Held) (v : Text) → has_row (id_of (valued n)) (rows_of h) ≡ true → Fails (settle_fault rules false (with_pending h (id_of (valued n)) (v ∷ [])))
twice_pending steps h v has = rw has (fails_cons _ _)
twice_pending order h v has = rw has (fails_cons _ _)

pub twice_attached : (n : OptionName) (h : Held) (k : ℕ) (v : Text) → has_row (id_of (valued n)) (rows_of h) ≡ true → settle_fault rules false h ≡ [] → Fails (turn_fault shape [] (at h k) (attached n ++ v))
twice_attached steps h k v has none = rw (none, has) (fails_cons _ _)
twice_attached order h k v has none = rw (none, has) (fails_cons _ _)

-- an option that waits for its value
pub waits_bad : (n : OptionName) (h : Held) → Fails (settle_fault rules false (with_pending h (id_of (valued n)) []))
waits_bad steps h = fails_cons _ _
waits_bad order h = fails_cons _ _

no_long : (name : Text) → bytes_eq (codes "steps") name ≡ false → bytes_eq (codes "order") name ≡ false → arg_by_long rules name ≡ None
no_long name e f = rw (e, f) refl

-- a word that names no option
pub fault_other : (h : Held) (k x : ℕ) (xs : Text) → bytes_eq (codes "steps") (before_first (λ x. x == 61) (x ∷ xs)) ≡ false → bytes_eq (codes "order") (before_first (λ x. x == 61) (x ∷ xs)) ≡ false → Fails (turn_fault shape [] (at h k) (45 ∷ 45 ∷ x ∷ xs))
fault_other h k x xs e f = rw (no_long _ e f) (fails_cons _ _)

known_bad : (n : OptionName) (given : Option Text) (h : Held) → Fails (settle_fault rules false h) → Fails (long_fault rules false (Some (option_built n)) given h)
known_bad steps None h f = f
known_bad steps (Some v) h f = fails_left (settle_fault rules false h) _ f
known_bad order None h f = f
known_bad order (Some v) h f = fails_left (settle_fault rules false h) _ f

long_bad : (name : Text) (given : Option Text) (h : Held) → Fails (settle_fault rules false h) → Fails (long_fault rules false (arg_by_long rules name) given h)
long_bad name given h f =
    let second_name : (b : Bool) → bytes_eq (codes "order") name ≡ b → bytes_eq (codes "steps") name ≡ false → Fails (long_fault rules false (arg_by_long rules name) given h) = elim [
      | true ↦ λ is not_first.
          let same : codes "order" ≡ name = (bytes_eq-Decides (codes "order") name).0 is in
          subst (λ (t : Text). Fails (long_fault rules false (arg_by_long rules t) given h)) same (known_bad order given h f)
      | false ↦ λ is not_first. rw (no_long name not_first is) (fails_cons _ _)
    ] in
    let first_name : (b : Bool) → bytes_eq (codes "steps") name ≡ b → Fails (long_fault rules false (arg_by_long rules name) given h) = elim [
      | true ↦ λ is.
          let same : codes "steps" ≡ name = (bytes_eq-Decides (codes "steps") name).0 is in
          subst (λ (t : Text). Fails (long_fault rules false (arg_by_long rules t) given h)) same (known_bad steps given h f)
      | false ↦ λ is. second_name (bytes_eq (codes "order") name) refl is
    ] in first_name (bytes_eq (codes "steps") name) refl

-- any word with hyphens, where what is held can't be settled
pub fault_hyphens : (h : Held) (k : ℕ) (waiting : Waiting) (x : ℕ) (xs : Text) → Fails (settle_fault rules false h) → Fails (turn_fault shape [] (record (at h k) { waiting = waiting }) (45 ∷ 45 ∷ x ∷ xs))
fault_hyphens h k waiting x xs f =
    let p = name_and_value (x ∷ xs) in
    let w : Text = 45 ∷ 45 ∷ x ∷ xs in
    let more : Waiting → Kinds = λ m. step_fault shape k (word_met rules [] false m k w h).0 (word_met rules [] false m k w h).1 in
    elim waiting as (λ m. Fails (turn_fault shape [] (record (at h k) { waiting = m }) (45 ∷ 45 ∷ x ∷ xs))) [
      | idle ↦ fails_left _ (more idle) (long_bad p.0 p.1 h f)
      | option id ↦ fails_left _ (more (option id)) (long_bad p.0 p.1 h f)
      | positional ↦ fails_left _ (more positional) (long_bad p.0 p.1 h f)
    ]

pub fault_plain : (h : Held) (k : ℕ) (w : Text) → begins_with_hyphen w ≡ false → Fails (settle_fault rules false h) → (k ≡ 1) ⊎ (k ≡ 2) ⊎ (k ≡ 3) → Fails (turn_fault shape [] (at h k) w)
fault_plain h k w e f which = ⊎_elim
    (λ (is : k ≡ 1). subst (λ (n : ℕ). Fails (turn_fault shape [] (at h n) w)) (sym is) (rw (fault_first h w e) f))
    (λ (rest : (k ≡ 2) ⊎ (k ≡ 3)). ⊎_elim
    (λ (is : k ≡ 2). subst (λ (n : ℕ). Fails (turn_fault shape [] (at h n) w)) (sym is) (rw (fault_second h w e) f))
    (λ (is : k ≡ 3). subst (λ (n : ℕ). Fails (turn_fault shape [] (at h n) w)) (sym is) (fault_third h w e))
    rest)
    which

-- ---- what kind of word it is

fit_rest : (a : ℕ) (rest : Text) → begins_with_hyphen (a ∷ rest) ≡ true → is_fit (a ∷ rest) ≡ true → is_double rest ≡ true
fit_rest a rest e f = sym (ap (λ b. if b then is_double rest else true) e) ∙ f

pub hyphens_shape : (w : Text) → begins_with_hyphen w ≡ true → is_fit w ≡ true → (x : ℕ) × (xs : Text) × (w ≡ 45 ∷ 45 ∷ x ∷ xs)
hyphens_shape [] e f = absurd (true≢false (sym e))
hyphens_shape (a ∷ []) e f = absurd (true≢false (sym (fit_rest a [] e f)))
hyphens_shape (a ∷ b ∷ []) e f = absurd (true≢false (sym (fit_rest a (b ∷ []) e f)))
hyphens_shape (a ∷ b ∷ x ∷ xs) e f =
    let is_a : a ≡ 45 = (Decides-eqb a 45).0 e in
    let is_b : b ≡ 45 = (Decides-eqb b 45).0 (fit_rest a (b ∷ x ∷ xs) e f) in
    (x, xs, λ i. is_a i ∷ is_b i ∷ x ∷ xs)

-- what is known of a word by its kind
abbrev pub Reads : Text → Word → Type 0
Reads w (plain v) = (w ≡ v) × (begins_with_hyphen w ≡ false)
Reads w (names n) = w ≡ spelt n
Reads w (sets n v) = w ≡ attached n ++ v
Reads w stray = (h : Held) (k : ℕ) → Fails (turn_fault shape [] (at h k) w)

spelt_is : (n : OptionName) → spelt n ≡ 45 ∷ 45 ∷ id_of (valued n)
spelt_is steps = refl
spelt_is order = refl

attached_is : (n : OptionName) (v : Text) → after (attached n) (45 ∷ 45 ∷ (id_of (valued n) ++ 61 ∷ v)) ≡ Some v
attached_is steps v = refl
attached_is order v = refl

no_name : (n : OptionName) (x : ℕ) (xs : Text) (w : Text) → w ≡ 45 ∷ 45 ∷ x ∷ xs → bytes_eq w (spelt n) ≡ false → after (attached n) w ≡ None → bytes_eq (id_of (valued n)) (before_first (λ x. x == 61) (x ∷ xs)) ≡ false
no_name n x xs w s other none =
    let go : (b : Bool) → bytes_eq (id_of (valued n)) (before_first (λ x. x == 61) (x ∷ xs)) ≡ b → b ≡ false = elim [
      | true ↦ λ t. absurd (⊎_elim
          (λ (m : (x ∷ xs) ≡ id_of (valued n)). two_sides (bytes_eq w (spelt n)) ((bytes_eq-Decides w (spelt n)).1 (s ∙ ap (λ u. 45 ∷ 45 ∷ u) m ∙ sym (spelt_is n))) other)
          (λ (m : (v : Text) × ((x ∷ xs) ≡ id_of (valued n) ++ 61 ∷ v)). none_some m.0 (sym none ∙ ap (after (attached n)) (s ∙ ap (λ u. 45 ∷ 45 ∷ u) m.1) ∙ attached_is n m.0))
          (named (id_of (valued n)) (x ∷ xs) t))
      | false ↦ λ t. refl
    ] in go (bytes_eq (id_of (valued n)) (before_first (λ x. x == 61) (x ∷ xs))) refl

stray_fault : (w : Text) (x : ℕ) (xs : Text) → w ≡ 45 ∷ 45 ∷ x ∷ xs → bytes_eq w (spelt steps) ≡ false → bytes_eq w (spelt order) ≡ false → after (attached steps) w ≡ None → after (attached order) w ≡ None → Reads w stray
stray_fault w x xs s e f a b h k =
    subst (λ (u : Text). Fails (turn_fault shape [] (at h k) u)) (sym s) (fault_other h k x xs (no_name steps x xs w s e a) (no_name order x xs w s f b))

reads_setting : (w : Text) (x : ℕ) (xs : Text) → w ≡ 45 ∷ 45 ∷ x ∷ xs → bytes_eq w (spelt steps) ≡ false → bytes_eq w (spelt order) ≡ false → Reads w (sets_one_of (after (attached steps) w) (after (attached order) w))
reads_setting w x xs s e f =
    let second_one : (o : Option Text) → after (attached order) w ≡ o → after (attached steps) w ≡ None → Reads w (sets_one_of None o) = elim [
      | None ↦ λ is none. stray_fault w x xs s e f none is
      | Some v ↦ λ is none. after_only (attached order) w v is
    ] in
    let first_one : (o : Option Text) → after (attached steps) w ≡ o → Reads w (sets_one_of o (after (attached order) w)) = elim [
      | None ↦ λ is. second_one (after (attached order) w) refl is
      | Some v ↦ λ is. after_only (attached steps) w v is
    ] in first_one (after (attached steps) w) refl

pub reads_hyphened : (w : Text) (x : ℕ) (xs : Text) → w ≡ 45 ∷ 45 ∷ x ∷ xs → Reads w (hyphened w)
reads_hyphened w x xs s =
    let second_one : (b : Bool) → bytes_eq w (spelt order) ≡ b → bytes_eq w (spelt steps) ≡ false → Reads w (if b then names order else sets_one_of (after (attached steps) w) (after (attached order) w)) = elim [
      | true ↦ λ is e. (bytes_eq-Decides w (spelt order)).0 is
      | false ↦ λ is e. reads_setting w x xs s e is
    ] in
    let first_one : (b : Bool) → bytes_eq w (spelt steps) ≡ b → Reads w (if b then names steps else (if bytes_eq w (spelt order) then names order else sets_one_of (after (attached steps) w) (after (attached order) w))) = elim [
      | true ↦ λ is. (bytes_eq-Decides w (spelt steps)).0 is
      | false ↦ λ is. second_one (bytes_eq w (spelt order)) refl is
    ] in first_one (bytes_eq w (spelt steps)) refl

pub reads : (w : Text) → is_fit w ≡ true → Reads w (word_of w)
reads w fit =
    let go : (b : Bool) → begins_with_hyphen w ≡ b → Reads w (if b then hyphened w else plain w) = elim [
      | true ↦ λ e. let s = hyphens_shape w e fit in reads_hyphened w s.0 s.1 s.2
      | false ↦ λ e. (refl, e)
    ] in go (begins_with_hyphen w) refl
