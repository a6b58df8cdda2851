-- The texts that were met so far, and the parts that they give together with those that follow.
use Rattle.std.proofs.Common.{◌≡◌, ℕ, ◌++◌, ◌&&◌, Bool, true, false, List, [], ◌∷◌, map, Option, Some, None, if◌then◌else◌, refl, ◌∙◌, option_map, option_and_then}
use Rattle.command_words.specs.Texts.{Text, OptionName, steps, order, Texts, Parts, with_plain, with_value, texts_of, parts_of, is_at_most_one, is_at_most_two, word_of}

pub data Plains : Type 0 where
  nothing : Plains
  one : Text → Plains
  two : Text → Text → Plains

pub record State : Type 0 where
  pub plains : Plains
  pub steps : Option Text
  pub order : Option Text

abbrev pub start : State
start = record { plains = nothing; steps = None; order = None }

abbrev pub command_of : Plains → Option Text
command_of nothing = None
command_of (one v) = Some v
command_of (two v w) = Some v

abbrev pub number_of : Plains → Option Text
number_of nothing = None
number_of (one v) = None
number_of (two v w) = Some w

abbrev pub position : Plains → ℕ
position nothing = 1
position (one v) = 2
position (two v w) = 3

abbrev pub parts : State → Parts
parts q = record { command = command_of q.plains; number = number_of q.plains; steps = q.steps; order = q.order }

abbrev pub value_of : OptionName → State → Option Text
value_of steps q = q.steps
value_of order q = q.order

-- one more text, where there is room for it
abbrev pub more_plains : Plains → Text → Option Plains
more_plains nothing w = Some (one w)
more_plains (one v) w = Some (two v w)
more_plains (two v u) w = None

abbrev pub plain_next : State → Text → Option State
plain_next q w = option_map (λ p. record q { plains = p }) (more_plains q.plains w)

abbrev pub with_option : OptionName → Text → State → State
with_option steps v q = record q { steps = Some v }
with_option order v q = record q { order = Some v }

abbrev pub if_free : Option Text → State → Option State
if_free None q = Some q
if_free (Some u) q = None

abbrev pub value_next : OptionName → State → Text → Option State
value_next n q v = if_free (value_of n q) (with_option n v q)

-- ---- the parts of what was met and what follows

abbrev pub listed : Option Text → List Text
listed None = []
listed (Some v) = v ∷ []

abbrev pub plain_list : Plains → List Text
plain_list nothing = []
plain_list (one v) = v ∷ []
plain_list (two v w) = v ∷ w ∷ []

abbrev pub together : State → Texts → Texts
together q t = record { plains = plain_list q.plains ++ t.plains; steps = listed q.steps ++ t.steps; orders = listed q.order ++ t.orders }

abbrev pub parts_with : State → Option Texts → Option Parts
parts_with q o = option_and_then (λ t. parts_of (together q t)) o

-- the parts of what was met and these words
abbrev pub reading : State → List Text → Option Parts
reading q ws = parts_with q (texts_of (map word_of ws))

abbrev pub on : {X Y : Type 0} → Option X → (X → Option Y) → Option Y
on o f = option_and_then f o

map_then : {X Y : Type 0} (f : X → Option Y) (g : X → X) (o : Option X) → option_and_then f (option_map g o) ≡ option_and_then (λ x. f (g x)) o
map_then f g None = refl
map_then f g (Some x) = refl

never : {X Y : Type 0} (f : X → Option Y) (o : Option X) → ((x : X) → f x ≡ None) → option_and_then f o ≡ None
never f None e = refl
never f (Some x) e = e x

first_bad : (a b c : Bool) (p : Parts) → b ≡ false → (if a && (b && c) then Some p else None) ≡ None
first_bad true b c p e = rw e refl
first_bad false b c p e = refl

second_bad : (a b c : Bool) (p : Parts) → c ≡ false → (if a && (b && c) then Some p else None) ≡ None
second_bad true true c p e = rw e refl
second_bad true false c p e = refl
second_bad false b c p e = refl

pub plain_reading : (q : State) (w : Text) (o : Option Texts) → parts_with q (option_map (with_plain w) o) ≡ on (plain_next q w) (λ r. parts_with r o)
plain_reading q w o =
    let go : (p : Plains) → parts_with (record q { plains = p }) (option_map (with_plain w) o) ≡ on (plain_next (record q { plains = p }) w) (λ r. parts_with r o) = elim [
      | nothing ↦ map_then (λ t. parts_of (together (record q { plains = nothing }) t)) (with_plain w) o
      | one v ↦ map_then (λ t. parts_of (together (record q { plains = one v }) t)) (with_plain w) o
      | two v u ↦ map_then (λ t. parts_of (together (record q { plains = two v u }) t)) (with_plain w) o ∙ never _ o (λ t. refl)
    ] in go q.plains

pub value_reading : (n : OptionName) (q : State) (v : Text) (o : Option Texts) → parts_with q (option_map (with_value n v) o) ≡ on (value_next n q v) (λ r. parts_with r o)
value_reading steps q v o =
    let go : (s : Option Text) → parts_with (record q { steps = s }) (option_map (with_value steps v) o) ≡ on (value_next steps (record q { steps = s }) v) (λ r. parts_with r o) = elim [
      | None ↦ map_then (λ t. parts_of (together (record q { steps = None }) t)) (with_value steps v) o
      | Some u ↦ map_then (λ t. parts_of (together (record q { steps = Some u }) t)) (with_value steps v) o ∙ never _ o (λ t. first_bad (is_at_most_two (plain_list q.plains ++ t.plains)) _ (is_at_most_one (listed q.order ++ t.orders)) _ refl)
    ] in go q.steps
value_reading order q v o =
    let go : (s : Option Text) → parts_with (record q { order = s }) (option_map (with_value order v) o) ≡ on (value_next order (record q { order = s }) v) (λ r. parts_with r o) = elim [
      | None ↦ map_then (λ t. parts_of (together (record q { order = None }) t)) (with_value order v) o
      | Some u ↦ map_then (λ t. parts_of (together (record q { order = Some u }) t)) (with_value order v) o ∙ never _ o (λ t. second_bad (is_at_most_two (plain_list q.plains ++ t.plains)) (is_at_most_one (listed q.steps ++ t.steps)) _ _ refl)
    ] in go q.order

read_to_the_end : (p : Plains) (s o : Option Text) → reading (record { plains = p; steps = s; order = o }) [] ≡ Some (parts (record { plains = p; steps = s; order = o }))
read_to_the_end nothing None None = refl
read_to_the_end nothing None (Some v) = refl
read_to_the_end nothing (Some v) None = refl
read_to_the_end nothing (Some v) (Some u) = refl
read_to_the_end (one w) None None = refl
read_to_the_end (one w) None (Some v) = refl
read_to_the_end (one w) (Some v) None = refl
read_to_the_end (one w) (Some v) (Some u) = refl
read_to_the_end (two w x) None None = refl
read_to_the_end (two w x) None (Some v) = refl
read_to_the_end (two w x) (Some v) None = refl
read_to_the_end (two w x) (Some v) (Some u) = refl

-- nothing follows
pub all_read : (q : State) → reading q [] ≡ Some (parts q)
all_read q = read_to_the_end q.plains q.steps q.order
