-- Laws of the meaning of words: where an option stands does not matter, both its spellings are the same, twice is too
-- often, and a stray word leaves no meaning.
use Rattle.std.proofs.Common.{◌≡◌, ◌++◌, ◌&&◌, Bool, true, false, List, [], ◌∷◌, map, Option, Some, None, Result, Ok, Err, IfOk, if◌then◌else◌, refl, sym, ap, ◌∙◌, option_map, option_and_then}
use Rattle.std.proofs.lemmas.List.{map-append}
use Rattle.std.specs.List.{list_any}
use Rattle.command_words.specs.Texts.{Text, OptionName, steps, order, Word, plain, names, sets, stray, Texts, Parts, begins_with_hyphen, word_of, with_plain, with_value, texts_of, is_at_most_one, is_at_most_two, parts_of}
use Rattle.command_words.specs.Meaning.{meaning_of, words_meaning}
use Rattle.command_words.proofs.Spelling.{none_some, some_same}
use Rattle.command_words.specs.declared.meaning.Meaning.{Meaning}
use Rattle.command_words.specs.Spellings.{spelt, attached, is_stray, HasStray, MovesToFront, Attaches, GivesTwice}
use Rattle.command_words.proofs.Strays.{stray_no_texts}

-- the texts of words are those of their first part and then those of the rest
abbrev pub joined : Texts → Texts → Texts
joined t u = record { plains = t.plains ++ u.plains; steps = t.steps ++ u.steps; orders = t.orders ++ u.orders }

abbrev Joins : List Word → List Word → Texts → Type 0
Joins xs ys t = texts_of (xs ++ ys) ≡ option_map (joined t) (texts_of ys)

joins_plain : (w : Text) (rest ys : List Word) (o : Option Texts) (t : Texts) → ((u : Texts) → o ≡ Some u → Joins rest ys u) → option_map (with_plain w) o ≡ Some t → option_map (with_plain w) (texts_of (rest ++ ys)) ≡ option_map (joined t) (texts_of ys)
joins_plain w rest ys None t next e = absurd (none_some t e)
joins_plain w rest ys (Some u) t next e =
    let both : (o : Option Texts) → option_map (with_plain w) (option_map (joined u) o) ≡ option_map (joined (with_plain w u)) o = elim [ None ↦ refl | Some x ↦ refl ] in
    ap (option_map (with_plain w)) (next u refl) ∙ both (texts_of ys) ∙ ap (λ s. option_map (joined s) (texts_of ys)) (some_same (with_plain w u) t e)

joins_value : (n : OptionName) (v : Text) (rest ys : List Word) (o : Option Texts) (t : Texts) → ((u : Texts) → o ≡ Some u → Joins rest ys u) → option_map (with_value n v) o ≡ Some t → option_map (with_value n v) (texts_of (rest ++ ys)) ≡ option_map (joined t) (texts_of ys)
joins_value n v rest ys None t next e = absurd (none_some t e)
joins_value n v rest ys (Some u) t next e =
    let each : (m : OptionName) (x : Texts) → with_value m v (joined u x) ≡ joined (with_value m v u) x = elim [ steps ↦ λ x. refl | order ↦ λ x. refl ] in
    let both : (o : Option Texts) → option_map (with_value n v) (option_map (joined u) o) ≡ option_map (joined (with_value n v u)) o = elim [ None ↦ refl | Some x ↦ ap (λ s. Some s) (each n x) ] in
    ap (option_map (with_value n v)) (next u refl) ∙ both (texts_of ys) ∙ ap (λ s. option_map (joined s) (texts_of ys)) (some_same (with_value n v u) t e)

same_texts : (o : Option Texts) → o ≡ option_map (joined (record { plains = []; steps = []; orders = [] })) o
same_texts None = refl
same_texts (Some t) = refl

joins : (xs ys : List Word) (t : Texts) → texts_of xs ≡ Some t → Joins xs ys t
joins [] ys t e = same_texts (texts_of ys) ∙ ap (λ s. option_map (joined s) (texts_of ys)) (some_same _ t e)
joins (plain w ∷ rest) ys t e = joins_plain w rest ys (texts_of rest) t (λ u is. joins rest ys u is) e
joins (sets n v ∷ rest) ys t e = joins_value n v rest ys (texts_of rest) t (λ u is. joins rest ys u is) e
joins (names n ∷ plain v ∷ rest) ys t e = joins_value n v rest ys (texts_of rest) t (λ u is. joins rest ys u is) e
joins (names n ∷ []) ys t e = absurd (none_some t e)
joins (names n ∷ names m ∷ rest) ys t e = absurd (none_some t e)
joins (names n ∷ sets m v ∷ rest) ys t e = absurd (none_some t e)
joins (names n ∷ stray ∷ rest) ys t e = absurd (none_some t e)
joins (stray ∷ rest) ys t e = absurd (none_some t e)

-- ---- the parts of joined texts

later_is_more : (xs : List Text) (v : Text) (ys : List Text) (x : Text) → is_at_most_one (x ∷ (xs ++ v ∷ ys)) ≡ false
later_is_more [] v ys x = refl
later_is_more (y ∷ xs) v ys x = refl

bad_steps : (a c : Bool) (p : Parts) → (if a && (false && c) then Some p else None) ≡ None
bad_steps true c p = refl
bad_steps false c p = refl

bad_orders : (a b : Bool) (p : Parts) → (if a && (b && false) then Some p else None) ≡ None
bad_orders true true p = refl
bad_orders true false p = refl
bad_orders false b p = refl

many_steps : (t : Texts) → is_at_most_one t.steps ≡ false → parts_of t ≡ None
many_steps t e = rw e (bad_steps (is_at_most_two t.plains) (is_at_most_one t.orders) _)

many_orders : (t : Texts) → is_at_most_one t.orders ≡ false → parts_of t ≡ None
many_orders t e = rw e (bad_orders (is_at_most_two t.plains) (is_at_most_one t.steps) _)

moved_steps : (xs : List Text) (v : Text) (t u : Texts) → parts_of (joined (record t { steps = xs }) (with_value steps v u)) ≡ parts_of (with_value steps v (joined (record t { steps = xs }) u))
moved_steps [] v t u = refl
moved_steps (x ∷ xs) v t u = many_steps (joined (record t { steps = x ∷ xs }) (with_value steps v u)) (later_is_more xs v u.steps x) ∙ sym (many_steps (with_value steps v (joined (record t { steps = x ∷ xs }) u)) refl)

moved_orders : (xs : List Text) (v : Text) (t u : Texts) → parts_of (joined (record t { orders = xs }) (with_value order v u)) ≡ parts_of (with_value order v (joined (record t { orders = xs }) u))
moved_orders [] v t u = refl
moved_orders (x ∷ xs) v t u = many_orders (joined (record t { orders = x ∷ xs }) (with_value order v u)) (later_is_more xs v u.orders x) ∙ sym (many_orders (with_value order v (joined (record t { orders = x ∷ xs }) u)) refl)

moved : (n : OptionName) (v : Text) (t u : Texts) → parts_of (joined t (with_value n v u)) ≡ parts_of (with_value n v (joined t u))
moved steps v t u = moved_steps t.steps v t u
moved order v t u = moved_orders t.orders v t u

two_values : (xs ys : List Text) (v w : Text) (zs : List Text) → is_at_most_one (xs ++ v ∷ (ys ++ w ∷ zs)) ≡ false
two_values [] ys v w zs = later_is_more ys w zs v
two_values (x ∷ xs) ys v w zs = later_is_more xs v (ys ++ w ∷ zs) x

twice_bad : (n : OptionName) (v w : Text) (t u x : Texts) → parts_of (joined t (with_value n v (joined u (with_value n w x)))) ≡ None
twice_bad steps v w t u x = many_steps _ (two_values t.steps u.steps v w x.steps)
twice_bad order v w t u x = many_orders _ (two_values t.orders u.orders v w x.orders)

-- ---- words of each kind

setting_word : (n : OptionName) (v : Text) → word_of (attached n ++ v) ≡ sets n v
setting_word steps v = refl
setting_word order v = refl

name_word : (n : OptionName) → word_of (spelt n) ≡ names n
name_word steps = refl
name_word order = refl

plain_word : (v : Text) → begins_with_hyphen v ≡ false → word_of v ≡ plain v
plain_word v e = rw e refl

with_setting : (n : OptionName) (v : Text) (before after : List Text) → map word_of (before ++ (attached n ++ v) ∷ after) ≡ map word_of before ++ sets n v ∷ map word_of after
with_setting n v before after = map-append word_of before ((attached n ++ v) ∷ after) ∙ ap (λ x. map word_of before ++ x ∷ map word_of after) (setting_word n v)

with_name : (n : OptionName) (v : Text) (before after : List Text) → begins_with_hyphen v ≡ false → map word_of (before ++ spelt n ∷ v ∷ after) ≡ map word_of before ++ names n ∷ plain v ∷ map word_of after
with_name n v before after e =
    map-append word_of before (spelt n ∷ v ∷ after)
    ∙ ap (λ x. map word_of before ++ x ∷ word_of v ∷ map word_of after) (name_word n)
    ∙ ap (λ x. map word_of before ++ names n ∷ x ∷ map word_of after) (plain_word v e)

abbrev parts_in : List Word → Option Parts
parts_in ws = option_and_then parts_of (texts_of ws)

placed : (n : OptionName) (v : Text) (before after : List Word) (t : Texts) → texts_of before ≡ Some t → parts_in (before ++ sets n v ∷ after) ≡ parts_in (sets n v ∷ before ++ after)
placed n v before after t e =
    let both : (o : Option Texts) → option_and_then parts_of (option_map (joined t) (option_map (with_value n v) o)) ≡ option_and_then parts_of (option_map (with_value n v) (option_map (joined t) o)) = elim [ None ↦ refl | Some u ↦ moved n v t u ] in
    ap (option_and_then parts_of) (joins before (sets n v ∷ after) t e)
    ∙ both (texts_of after)
    ∙ sym (ap (λ o. option_and_then parts_of (option_map (with_value n v) o)) (joins before after t e))

given_twice : (n : OptionName) (v w : Text) (before middle after : List Word) (t u : Texts) → texts_of before ≡ Some t → texts_of middle ≡ Some u → parts_in (before ++ sets n v ∷ (middle ++ sets n w ∷ after)) ≡ None
given_twice n v w before middle after t u e f =
    let both : (o : Option Texts) → option_and_then parts_of (option_map (joined t) (option_map (with_value n v) (option_map (joined u) (option_map (with_value n w) o)))) ≡ None = elim [ None ↦ refl | Some x ↦ twice_bad n v w t u x ] in
    ap (option_and_then parts_of) (joins before (sets n v ∷ (middle ++ sets n w ∷ after)) t e)
    ∙ ap (λ o. option_and_then parts_of (option_map (joined t) (option_map (with_value n v) o))) (joins middle (sets n w ∷ after) u f)
    ∙ both (texts_of after)

-- ---- the laws; the words before an option are whole where they have texts of their own

-- an option may stand anywhere: it means there what it means in front
pub place_is_free : (n : OptionName) (v : Text) (before after : List Text) (t : Texts) → texts_of (map word_of before) ≡ Some t → words_meaning (before ++ (attached n ++ v) ∷ after) ≡ words_meaning ((attached n ++ v) ∷ before ++ after)
place_is_free n v before after t e =
    ap (λ ws. option_and_then meaning_of (parts_in ws)) (with_setting n v before after)
    ∙ ap (option_and_then meaning_of) (placed n v (map word_of before) (map word_of after) t e)
    ∙ sym (ap (λ ws. option_and_then meaning_of (parts_in ws)) (ap (λ x. x ∷ map word_of (before ++ after)) (setting_word n v) ∙ ap (λ x. sets n v ∷ x) (map-append word_of before after)))

-- `--steps V` is `--steps=V`
pub spellings_agree : (n : OptionName) (v : Text) (before after : List Text) (t : Texts) → texts_of (map word_of before) ≡ Some t → begins_with_hyphen v ≡ false → words_meaning (before ++ spelt n ∷ v ∷ after) ≡ words_meaning (before ++ (attached n ++ v) ∷ after)
spellings_agree n v before after t e plain_value =
    ap (λ ws. option_and_then meaning_of (parts_in ws)) (with_name n v before after plain_value)
    ∙ ap (λ o. option_and_then meaning_of (option_and_then parts_of o)) (joins (map word_of before) (names n ∷ plain v ∷ map word_of after) t e ∙ sym (joins (map word_of before) (sets n v ∷ map word_of after) t e))
    ∙ sym (ap (λ ws. option_and_then meaning_of (parts_in ws)) (with_setting n v before after))

-- an option that is given twice leaves no meaning
pub twice_is_usage : (n : OptionName) (v w : Text) (before middle after : List Text) (t u : Texts) → texts_of (map word_of before) ≡ Some t → texts_of (map word_of middle) ≡ Some u → words_meaning (before ++ (attached n ++ v) ∷ (middle ++ (attached n ++ w) ∷ after)) ≡ None
twice_is_usage n v w before middle after t u e f =
    ap (λ ws. option_and_then meaning_of (parts_in ws)) (with_setting n v before (middle ++ (attached n ++ w) ∷ after))
    ∙ ap (λ ws. option_and_then meaning_of (parts_in (map word_of before ++ sets n v ∷ ws))) (with_setting n w middle after)
    ∙ ap (option_and_then meaning_of) (given_twice n v w (map word_of before) (map word_of middle) (map word_of after) t u e f)

-- a stray word, as `--` or `-h`, leaves no meaning
pub stray_is_usage : (ws : List Text) → list_any is_stray (map word_of ws) ≡ true → words_meaning ws ≡ None
stray_is_usage ws e = ap (λ o. option_and_then meaning_of (option_and_then parts_of o)) (stray_no_texts (map word_of ws) e)

-- ---- the laws on what is read

pub read_placed : {E : Type 0} (r : Result (Option Meaning) E) (words : List Text) → IfOk r (λ m. m ≡ words_meaning words) → IfOk r (λ m. (others : List Text) → MovesToFront words others → m ≡ words_meaning others)
read_placed (Err e) words is = tt
read_placed (Ok m) words is =
    λ others moves. is ∙ ap words_meaning moves.here ∙ place_is_free moves.name moves.value moves.before moves.after moves.whole.0 moves.whole.1 ∙ sym (ap words_meaning moves.there)

pub read_spelt : {E : Type 0} (r : Result (Option Meaning) E) (words : List Text) → IfOk r (λ m. m ≡ words_meaning words) → IfOk r (λ m. (others : List Text) → Attaches words others → m ≡ words_meaning others)
read_spelt (Err e) words is = tt
read_spelt (Ok m) words is =
    λ others spells. is ∙ ap words_meaning spells.here ∙ spellings_agree spells.name spells.value spells.before spells.after spells.whole.0 spells.whole.1 spells.unhyphened ∙ sym (ap words_meaning spells.there)

pub read_once : {E : Type 0} (r : Result (Option Meaning) E) (words : List Text) → IfOk r (λ m. m ≡ words_meaning words) → IfOk r (λ m. GivesTwice words → m ≡ None)
read_once (Err e) words is = tt
read_once (Ok m) words is =
    λ twice. is ∙ ap words_meaning twice.here ∙ twice_is_usage twice.name twice.value twice.again twice.before twice.between twice.after twice.whole.0 twice.whole_between.0 twice.whole.1 twice.whole_between.1

pub read_strays : {E : Type 0} (r : Result (Option Meaning) E) (words : List Text) → IfOk r (λ m. m ≡ words_meaning words) → IfOk r (λ m. HasStray words → m ≡ None)
read_strays (Err e) words is = tt
read_strays (Ok m) words is = λ has. is ∙ stray_is_usage words has
