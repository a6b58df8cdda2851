-- The walk of the command over all words gives just the parts that the words have.
use Rattle.std.proofs.Common.{◌≡◌, ℕ, ◌++◌, ◌⊎◌, inl, inr, Bool, true, false, List, [], ◌∷◌, map, Option, Some, None, if◌then◌else◌, refl, sym, ap, ◌∙◌, subst, fold}
use Rattle.std.proofs.lemmas.Bool.{true≢false, and_parts}
use Rattle.std.specs.List.{list_all}
use Rattle.std.specs.Str.{bytes_eq}
use Rattle.std.specs.Option.{MatchOption}
use Rattle.clap.specs.Walk.{Held, Walk, idle, option, walked, first_of}
use Rattle.clap.specs.Takes.{walk_passes, turn_passes, settle_passes}
use Rattle.clap.specs.Faults.{walk_fault, turn_fault, settle_fault}
use Rattle.clap.specs.Kinds.{or_else}
use Rattle.command_words.specs.Texts.{Text, OptionName, steps, order, Word, plain, names, sets, stray, Texts, Parts, begins_with_hyphen, hyphened, sets_one_of, after, word_of, texts_of}
use Rattle.command_words.specs.Hyphens.{is_fit}
use Rattle.command_words.proofs.Slots.{shape, rules, Slot, first, second, valued, id_of, part, put, rows_of, with_pending, with_used}
use Rattle.command_words.specs.Spellings.{spelt, attached}
use Rattle.command_words.proofs.WordSteps.{at, waits, Reads, reads, Fails, fails_left, hyphens_shape, walked_first, walked_second, passes_first, passes_second, fault_first, fault_second, fault_third, walked_name, passes_name, fault_name, walked_value, passes_value, fault_value, walked_attached, passes_attached, fault_attached, twice_pending, twice_attached, waits_bad, fault_hyphens, fault_plain}
use Rattle.command_words.proofs.Held.{Stands, stands_pending, stands_used, use_once, no_fault_once, is_free}
use Rattle.command_words.proofs.States.{Plains, nothing, one, two, State, parts, position, plain_next, value_next, parts_with, reading, on, plain_reading, value_reading, all_read}

pub record Good (w : Walk) (ws : List Text) (p : Parts) : Type 0 where
  pub passes : walk_passes shape [] w ws ≡ true
  pub last : settle_passes rules false (fold (walked rules []) w ws).held ≡ true
  pub text : (i : Slot) → first_of (id_of i) (rows_of (fold (walked rules []) w ws).held) ≡ part p i

abbrev pub Bad : Walk → List Text → Type 0
Bad w ws = Fails (or_else (walk_fault shape [] w ws) (settle_fault rules false (fold (walked rules []) w ws).held))

abbrev pub Reaches : Walk → List Text → Option Parts → Type 0
Reaches w ws o = MatchOption o (Bad w ws) (λ p. Good w ws p)

-- ---- one more word

step_good : (w w' : Walk) (word : Text) (ws : List Text) (o : Option Parts) → turn_passes shape [] w word ≡ true → turn_fault shape [] w word ≡ [] → walked rules [] w word ≡ w' → Reaches w' ws o → Reaches w (word ∷ ws) o
unfolding walk_passes walk_fault
step_good w w' word ws None p f is b = let b' : Bad (walked rules [] w word) ws = subst (λ (x : Walk). Bad x ws) (sym is) b in rw f b'
step_good w w' word ws (Some q) p f is g =
    let g' : Good (walked rules [] w word) ws q = subst (λ (x : Walk). Good x ws q) (sym is) g in
    record { passes = rw p g'.passes; last = g'.last; text = g'.text }

step_bad : (w : Walk) (word : Text) (ws : List Text) → Fails (turn_fault shape [] w word) → Bad w (word ∷ ws)
unfolding walk_fault
step_bad w word ws f = fails_left _ (settle_fault rules false (fold (walked rules []) w (word ∷ ws)).held) (fails_left (turn_fault shape [] w word) (walk_fault shape [] (walked rules [] w word) ws) f)

abbrev state : Plains → Option Text → Option Text → State
state p s o = record { plains = p; steps = s; order = o }

-- what a word leads to
record Next (w : Walk) (word : Text) (q : State) : Type 0 where
  pub held : Held
  pub stands : Stands held (parts q)
  pub walks : walked rules [] w word ≡ at held (position q.plains)
  pub passes : turn_passes shape [] w word ≡ true
  pub faults : turn_fault shape [] w word ≡ []

abbrev Leads : Walk → Text → Option State → Type 0
Leads w word o = MatchOption o (Fails (turn_fault shape [] w word)) (λ q. Next w word q)

plain_leads : (h : Held) (p : Plains) (s o : Option Text) (w : Text) → Stands h (parts (state p s o)) → begins_with_hyphen w ≡ false → Leads (at h (position p)) w (plain_next (state p s o) w)
plain_leads h nothing s o w r e = record {
  held = with_pending h (id_of first) (w ∷ []);
  stands = stands_pending h (parts (state nothing s o)) first w r refl;
  walks = walked_first h w e;
  passes = passes_first h w e ∙ r.passes;
  faults = fault_first h w e ∙ r.faults;
}
plain_leads h (one v) s o w r e = record {
  held = with_pending h (id_of second) (w ∷ []);
  stands = stands_pending h (parts (state (one v) s o)) second w r refl;
  walks = walked_second h w e;
  passes = passes_second h w e ∙ r.passes;
  faults = fault_second h w e ∙ r.faults;
}
plain_leads h (two v u) s o w r e = fault_third h w e

-- a value that is attached to an option which was not given yet
attached_next : (n : OptionName) (h : Held) (q next : State) (v : Text) → Stands h (parts q) → part (parts q) (valued n) ≡ None → put (valued n) v (parts q) ≡ parts next → position q.plains ≡ position next.plains → Next (at h (position q.plains)) (attached n ++ v) next
attached_next n h q next v r free given same = record {
  held = with_used h n v;
  stands = subst (Stands (with_used h n v)) given (stands_used h (parts q) n v r free);
  walks = walked_attached n h (position q.plains) v ∙ ap (at (with_used h n v)) same;
  passes = passes_attached n h (position q.plains) v ∙ rw (r.passes, use_once n v (rows_of h) (is_free h _ (valued n) r free)) refl;
  faults = fault_attached n h (position q.plains) v ∙ no_fault_once n h v r.faults (is_free h _ (valued n) r free);
}

attached_leads : (n : OptionName) (h : Held) (p : Plains) (s o : Option Text) (v : Text) → Stands h (parts (state p s o)) → Leads (at h (position p)) (attached n ++ v) (value_next n (state p s o) v)
attached_leads steps h p None o v r = attached_next steps h (state p None o) (state p (Some v) o) v r refl refl refl
attached_leads steps h p (Some u) o v r = twice_attached steps h (position p) v (r.given (valued steps)) r.faults
attached_leads order h p s None v r = attached_next order h (state p s None) (state p s (Some v)) v r refl refl refl
attached_leads order h p s (Some u) v r = twice_attached order h (position p) v (r.given (valued order)) r.faults

-- ---- what the words that follow come to

-- from a state on, these words come to what is read of them
abbrev Goes : List Text → Type 0
Goes ws = (q : State) (h : Held) → Stands h (parts q) → Reaches (at h (position q.plains)) ws (reading q ws)

leads_then : (w : Walk) (word : Text) (ws : List Text) (o : Option State) → Leads w word o → Goes ws → Reaches w (word ∷ ws) (on o (λ r. reading r ws))
leads_then w word ws None l next = step_bad w word ws l
leads_then w word ws (Some q) l next = step_good w (at l.held (position q.plains)) word ws (reading q ws) l.passes l.faults l.walks (next q l.held l.stands)

which_position : (p : Plains) → (position p ≡ 1) ⊎ (position p ≡ 2) ⊎ (position p ≡ 3)
which_position nothing = inl refl
which_position (one v) = inr (inl refl)
which_position (two v u) = inr (inr refl)

-- what is held can't be settled, so no words are taken
held_bad : (h : Held) (p : Plains) (ws : List Text) → Fails (settle_fault rules false h) → list_all is_fit ws ≡ true → Bad (at h (position p)) ws
unfolding walk_fault
held_bad h p [] f fit = f
held_bad h p (x ∷ xs) f fit =
    let fit_x : is_fit x ≡ true = (and_parts (is_fit x) (list_all is_fit xs) fit).0 in
    let go : (b : Bool) → begins_with_hyphen x ≡ b → Fails (turn_fault shape [] (at h (position p)) x) = elim [
      | true ↦ λ e. let s = hyphens_shape x e fit_x in subst (λ (u : Text). Fails (turn_fault shape [] (at h (position p)) u)) (sym s.2) (fault_hyphens h (position p) idle s.0 s.1 f)
      | false ↦ λ e. fault_plain h (position p) x e f (which_position p)
    ] in step_bad (at h (position p)) x xs (go (begins_with_hyphen x) refl)

-- ---- an option that waits for its value

abbrev is_plain : Word → Bool
is_plain (plain v) = true
is_plain (names n) = false
is_plain (sets n v) = false
is_plain stray = false

sets_no_plain : (a b : Option Text) → is_plain (sets_one_of a b) ≡ false
sets_no_plain (Some v) b = refl
sets_no_plain None (Some v) = refl
sets_no_plain None None = refl

hyphened_no_plain : (w : Text) → is_plain (hyphened w) ≡ false
hyphened_no_plain w =
    elim (bytes_eq w (spelt steps)) as (λ b. is_plain (if b then names steps else (if bytes_eq w (spelt order) then names order else sets_one_of (after (attached steps) w) (after (attached order) w))) ≡ false) [
      | true ↦ refl
      | false ↦ elim (bytes_eq w (spelt order)) as (λ b. is_plain (if b then names order else sets_one_of (after (attached steps) w) (after (attached order) w)) ≡ false) [
        | true ↦ refl
        | false ↦ sets_no_plain (after (attached steps) w) (after (attached order) w)
      ]
    ]

no_value : (n : OptionName) (x : Word) (rest : List Word) → is_plain x ≡ false → None ≡ texts_of (names n ∷ x ∷ rest)
no_value n (plain v) rest e = absurd (true≢false e)
no_value n (names m) rest e = refl
no_value n (sets m v) rest e = refl
no_value n stray rest e = refl

value_plain : (n : OptionName) (h : Held) (p : Plains) (s o : Option Text) (v : Text) (ws : List Text) → Stands h (parts (state p s o)) → begins_with_hyphen v ≡ false → list_all is_fit ws ≡ true → Goes ws → Reaches (waits h n (position p)) (v ∷ ws) (on (value_next n (state p s o) v) (λ r. reading r ws))
value_plain steps h p None o v ws r e fit next =
    step_good (waits h steps (position p)) (at (with_pending h (id_of (valued steps)) (v ∷ [])) (position p)) v ws _ (passes_value steps h (position p) v e) (fault_value steps h (position p) v e) (walked_value steps h (position p) v e)
    (next (state p (Some v) o) _ (stands_pending h (parts (state p None o)) (valued steps) v r refl))
value_plain steps h p (Some u) o v ws r e fit next =
    step_good (waits h steps (position p)) (at (with_pending h (id_of (valued steps)) (v ∷ [])) (position p)) v ws None (passes_value steps h (position p) v e) (fault_value steps h (position p) v e) (walked_value steps h (position p) v e)
    (held_bad (with_pending h (id_of (valued steps)) (v ∷ [])) p ws (twice_pending steps h v (r.given (valued steps))) fit)
value_plain order h p s None v ws r e fit next =
    step_good (waits h order (position p)) (at (with_pending h (id_of (valued order)) (v ∷ [])) (position p)) v ws _ (passes_value order h (position p) v e) (fault_value order h (position p) v e) (walked_value order h (position p) v e)
    (next (state p s (Some v)) _ (stands_pending h (parts (state p s None)) (valued order) v r refl))
value_plain order h p s (Some u) v ws r e fit next =
    step_good (waits h order (position p)) (at (with_pending h (id_of (valued order)) (v ∷ [])) (position p)) v ws None (passes_value order h (position p) v e) (fault_value order h (position p) v e) (walked_value order h (position p) v e)
    (held_bad (with_pending h (id_of (valued order)) (v ∷ [])) p ws (twice_pending order h v (r.given (valued order))) fit)

value_leads : (n : OptionName) (h : Held) (q : State) (v : Text) (ws : List Text) → Stands h (parts q) → is_fit v ≡ true → list_all is_fit ws ≡ true → Goes ws → Reaches (waits h n (position q.plains)) (v ∷ ws) (parts_with q (texts_of (names n ∷ word_of v ∷ map word_of ws)))
value_leads n h q v ws r fit_v fit_ws next =
    let w = waits h n (position q.plains) in
    let go : (b : Bool) → begins_with_hyphen v ≡ b → Reaches w (v ∷ ws) (parts_with q (texts_of (names n ∷ (if b then hyphened v else plain v) ∷ map word_of ws))) = elim [
      | true ↦ λ e.
          let s = hyphens_shape v e fit_v in
          let bad : Bad w (v ∷ ws) = step_bad w v ws (subst (λ (u : Text). Fails (turn_fault shape [] w u)) (sym s.2) (fault_hyphens (with_pending h (id_of (valued n)) []) (position q.plains) (option (id_of (valued n))) s.0 s.1 (waits_bad n h))) in
          subst (λ (o : Option Texts). Reaches w (v ∷ ws) (parts_with q o)) (no_value n (hyphened v) (map word_of ws) (hyphened_no_plain v)) bad
      | false ↦ λ e.
          subst (λ (o : Option Parts). Reaches w (v ∷ ws) o) (sym (value_reading n q v (texts_of (map word_of ws)))) (value_plain n h q.plains q.steps q.order v ws r e fit_ws next)
    ] in go (begins_with_hyphen v) refl

-- ---- all words

word_leads : (h : Held) (q : State) (w : Text) (ws : List Text) → Stands h (parts q) → is_fit w ≡ true → Goes ws → ((n : OptionName) → Reaches (waits h n (position q.plains)) ws (parts_with q (texts_of (names n ∷ map word_of ws)))) → Reaches (at h (position q.plains)) (w ∷ ws) (reading q (w ∷ ws))
word_leads h q w ws r fit next value =
    let k = position q.plains in
    let rest = texts_of (map word_of ws) in
    let go : (x : Word) → Reads w x → Reaches (at h k) (w ∷ ws) (parts_with q (texts_of (x ∷ map word_of ws))) = elim [
      | plain v ↦ λ is.
          let leads : Leads (at h k) w (plain_next q v) = subst (λ (u : Text). Leads (at h k) w (plain_next q u)) is.0 (plain_leads h q.plains q.steps q.order w r is.1) in
          subst (λ (o : Option Parts). Reaches (at h k) (w ∷ ws) o) (sym (plain_reading q v rest)) (leads_then (at h k) w ws (plain_next q v) leads next)
      | names n ↦ λ is.
          subst (λ (u : Text). Reaches (at h k) (u ∷ ws) (parts_with q (texts_of (names n ∷ map word_of ws)))) (sym is)
          (step_good (at h k) (waits h n k) (spelt n) ws _ (passes_name n h k ∙ rw r.passes refl) (fault_name n h k ∙ rw r.faults refl) (walked_name n h k) (value n))
      | sets n v ↦ λ is.
          let leads : Leads (at h k) w (value_next n q v) = subst (λ (u : Text). Leads (at h k) u (value_next n q v)) (sym is) (attached_leads n h q.plains q.steps q.order v r) in
          subst (λ (o : Option Parts). Reaches (at h k) (w ∷ ws) o) (sym (value_reading n q v rest)) (leads_then (at h k) w ws (value_next n q v) leads next)
      | stray ↦ λ bad. step_bad (at h k) w ws (bad h k)
    ] in go (word_of w) (reads w fit)

ends : (q : State) (h : Held) → Stands h (parts q) → Reaches (at h (position q.plains)) [] (reading q [])
unfolding walk_passes
ends q h r = subst (λ (o : Option Parts). Reaches (at h (position q.plains)) [] o) (sym (all_read q)) (record { passes = refl; last = r.passes; text = r.text })

value_missing : (n : OptionName) (h : Held) (k : ℕ) → Bad (waits h n k) []
unfolding walk_fault
value_missing n h k = waits_bad n h

pub all_words : (ws : List Text) (q : State) (h : Held) → Stands h (parts q) → list_all is_fit ws ≡ true → Reaches (at h (position q.plains)) ws (reading q ws)
all_words [] q h r fit = ends q h r
all_words (w ∷ []) q h r fit = word_leads h q w [] r (and_parts (is_fit w) true fit).0 ends (λ n. value_missing n h (position q.plains))
all_words (w ∷ v ∷ ws) q h r fit =
    let fit_w = and_parts (is_fit w) (list_all is_fit (v ∷ ws)) fit in
    let fit_v = and_parts (is_fit v) (list_all is_fit ws) fit_w.1 in
    word_leads h q w (v ∷ ws) r fit_w.0 (λ q' h' r'. all_words (v ∷ ws) q' h' r' fit_w.1)
    (λ n. value_leads n h q v ws r fit_v.0 fit_v.1 (λ q' h' r'. all_words ws q' h' r' fit_v.1))
