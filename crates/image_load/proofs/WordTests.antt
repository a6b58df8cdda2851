-- The tests of the second pass are met by no word of a formed context, and of no other.
use Rattle.std.proofs.Common.{◌≡◌, ◌≤◌, ◌+◌, ◌-◌, ◌*◌, ℕ, zero, suc, Bool, true, false, ◌&&◌, not, List, [], ◌∷◌, length, map, Some, None, refl, ap, ◌∙◌, subst, arith, if◌then◌else◌}
use Rattle.std.specs.List.{AllByRecursion}
use Rattle.micro_isa.specs.WordBytes.{FitsWord}
use Rattle.std.specs.Prelude.{slice_get, nat_eq}
use Rattle.std.proofs.lemmas.Bool.{and_parts, and_from, eqb-true, eq-eqb}
use Rattle.micro_isa.specs.declared.image.Word.{Word}
use Rattle.micro_isa.specs.declared.image.Code.{Code}
use Rattle.micro_isa.specs.declared.image.Image.{Image}
use Rattle.micro_isa.specs.Columns.{written_by}
use Rattle.micro_isa.specs.Formed.{Each, names_below, registers_in, target_of, never_falls, all_below, option_below, fits_channels, is_glue, goes_to_counted, glue_fits, writes_within, IsFormedCode}
use Rattle.micro_isa.specs.declared.limits.TheConstants.{MOST_WORDS}
use Rattle.image_load.specs.Faults.{first_of}
use Rattle.image_load.specs.Loading.{word_tests, words_fault, codes_fault}
use Rattle.image_load.proofs.Several.{not_false, none_met, met_none, none_else, else_none}

-- what is asked of the word i
pub record Passes (m : Image) (code : Code) (i : ℕ) (w : Word) : Type 0 where
  pub named : names_below (λ r. r.0) m.file (length code.words) w.instr ≡ true
  pub written : writes_within code.private m.shared (written_by w.instr) ≡ true
  pub glue : glue_fits code.words w ≡ true
  pub channels : fits_channels m.setting.channels w.instr ≡ true
  pub ends : i + 1 ≡ length code.words → never_falls w.instr ≡ true

false_not : (a : Bool) → a ≡ true → not a ≡ false
false_not a e = ap not e

-- a word that is not counted meets neither test of glue
glue_from : (counted glue goes : Bool) → (not counted && not glue) ≡ false → (not counted && not goes) ≡ false → (if counted then true else glue && goes) ≡ true
glue_from true glue goes a b = refl
glue_from false true true a b = refl
glue_from false true false a b = absurd (cc)
glue_from false false goes a b = absurd (cc)

glue_is : (counted glue goes : Bool) → (if counted then true else glue && goes) ≡ true → ((not counted && not glue) ≡ false) × ((not counted && not goes) ≡ false)
glue_is true glue goes e = (refl, refl)
glue_is false true true e = (refl, refl)
glue_is false true false e = absurd (cc)
glue_is false false goes e = absurd (cc)

ends_from : (at_end never : Bool) → (at_end && not never) ≡ false → at_end ≡ true → never ≡ true
ends_from true true e h = refl
ends_from true false e h = absurd (cc)
ends_from false never e h = absurd (cc)

ends_is : (at_end never : Bool) → (at_end ≡ true → never ≡ true) → (at_end && not never) ≡ false
ends_is true never h = ap not (h refl)
ends_is false never h = refl

pub passes_from : (m : Image) (code : Code) (place i : ℕ) (w : Word) → first_of (word_tests m code place i w) ≡ None → Passes m code i w
passes_from m code place i w e =
    let t = none_met (word_tests m code place i w) e in
    let register = and_parts (all_below m.file (map (λ r. r.0) (registers_in w.instr))) (writes_within code.private m.shared (written_by w.instr)) (not_false _ t.1.0) in record {
      named = and_from (all_below m.file (map (λ r. r.0) (registers_in w.instr))) (option_below (length code.words) (target_of w.instr)) register.0 (not_false _ t.1.1.0);
      written = register.1;
      glue = glue_from w.counted (is_glue w.instr) (goes_to_counted code.words w.instr) t.0 t.1.1.1.0;
      channels = not_false _ t.1.1.1.1.0;
      ends = λ last. ends_from (nat_eq (i + 1) (length code.words)) (never_falls w.instr) t.1.1.1.1.1.0 (eq-eqb (i + 1) (length code.words) last);
    }

pub passes_is : (m : Image) (code : Code) (place i : ℕ) (w : Word) → Passes m code i w → first_of (word_tests m code place i w) ≡ None
passes_is m code place i w p =
    let named = and_parts (all_below m.file (map (λ r. r.0) (registers_in w.instr))) (option_below (length code.words) (target_of w.instr)) p.named in
    let glue = glue_is w.counted (is_glue w.instr) (goes_to_counted code.words w.instr) p.glue in
    let register = and_from (all_below m.file (map (λ r. r.0) (registers_in w.instr))) (writes_within code.private m.shared (written_by w.instr)) named.0 p.written in
    met_none (word_tests m code place i w) (glue.0, (false_not _ register, (false_not _ named.1, (glue.1, (false_not _ p.channels, (ends_is (nat_eq (i + 1) (length code.words)) (never_falls w.instr) (λ last. p.ends (eqb-true (i + 1) (length code.words) last)), tt))))))

pub words_from : (m : Image) (code : Code) (ws : List Word) (place i : ℕ) → words_fault m code place i ws ≡ None → (k : ℕ) (w : Word) → slice_get ws k ≡ Some w → Passes m code (i + k) w
words_from m code [] place i e k w is = absurd (cc)
words_from m code (x ∷ xs) place i e zero w is =
    let both = none_else (first_of (word_tests m code place i x)) (words_fault m code (place + 12) (i + 1) xs) e in
    let same : x ≡ w = cc in
    let at_i : i ≡ i + 0 = omega arith in
    subst (λ j. Passes m code j w) at_i (subst (λ y. Passes m code i y) same (passes_from m code place i x both.0))
words_from m code (x ∷ xs) place i e (suc k) w is =
    let both = none_else (first_of (word_tests m code place i x)) (words_fault m code (place + 12) (i + 1) xs) e in
    let at_k : (i + 1) + k ≡ i + suc k = omega arith in
    subst (λ j. Passes m code j w) at_k (words_from m code xs (place + 12) (i + 1) both.1 k w is)

pub words_are : (m : Image) (code : Code) (ws : List Word) (place i : ℕ) → ((k : ℕ) (w : Word) → slice_get ws k ≡ Some w → Passes m code (i + k) w) → words_fault m code place i ws ≡ None
words_are m code [] place i h = refl
words_are m code (x ∷ xs) place i h =
    let at_i : i + 0 ≡ i = omega arith in
    let first : Passes m code i x = subst (λ j. Passes m code j x) at_i (h 0 x refl) in
    let later = words_are m code xs (place + 12) (i + 1) (λ k w is. let at_k : i + suc k ≡ (i + 1) + k = omega arith in subst (λ j. Passes m code j w) at_k (h (suc k) w is)) in
    else_none (first_of (word_tests m code place i x)) (words_fault m code (place + 12) (i + 1) xs) (passes_is m code place i x first) later

-- contexts

-- what the first pass knows of a context
pub record IsSized (file : ℕ) (code : Code) : Type 0 where
  pub some : 1 ≤ length code.words
  pub few : length code.words ≤ MOST_WORDS
  pub within : code.private.start + code.private.size ≤ file
  pub fits : AllByRecursion FitsWord code.words

formed_from : (m : Image) (code : Code) → IsSized m.file code → ((k : ℕ) (w : Word) → slice_get code.words k ≡ Some w → Passes m code k w) → IsFormedCode m code
formed_from m code size h = record {
  some = size.some;
  few = size.few;
  within = size.within;
  named = λ i w e. (h i w e).named;
  written = λ i w e. (h i w e).written;
  glue = λ i w e. (h i w e).glue;
  channels = λ i w e. (h i w e).channels;
  ends = λ last e. (h (length code.words - 1) last e).ends (let some = size.some in omega arith);
}

formed_is : (m : Image) (code : Code) → IsFormedCode m code → (k : ℕ) (w : Word) → slice_get code.words k ≡ Some w → Passes m code k w
formed_is m code f k w e = record {
  named = f.named k w e;
  written = f.written k w e;
  glue = f.glue k w e;
  channels = f.channels k w e;
  ends = λ last. f.ends w (let at_last : length code.words - 1 ≡ k = omega arith in ap (slice_get code.words) at_last ∙ e);
}

-- a fact of each item, one by one
pub each_from : {A : Type 0} (P : A → Type 0) (xs : List A) → AllByRecursion P xs → Each xs P
each_from P [] all i x e = absurd (cc)
each_from P (y ∷ ys) all zero x e = let same : y ≡ x = cc in subst P same all.0
each_from P (y ∷ ys) all (suc i) x e = each_from P ys all.1 i x e

pub each_is : {A : Type 0} (P : A → Type 0) (xs : List A) → Each xs P → AllByRecursion P xs
each_is P [] each = tt
each_is P (y ∷ ys) each = (each 0 y refl, each_is P ys (λ i x e. each (suc i) x e))

pub codes_from : (m : Image) (codes : List Code) (place : ℕ) → codes_fault m place codes ≡ None → AllByRecursion (IsSized m.file) codes → AllByRecursion (IsFormedCode m) codes
codes_from m [] place e sized = tt
codes_from m (code ∷ codes) place e sized =
    let both = none_else (words_fault m code (place + 8) 0 code.words) (codes_fault m ((place + 8) + 12 * length code.words) codes) e in
    let passes = λ (k : ℕ) (w : Word) (is : slice_get code.words k ≡ Some w). let same : 0 + k ≡ k = omega arith in subst (λ j. Passes m code j w) same (words_from m code code.words (place + 8) 0 both.0 k w is) in
    (formed_from m code sized.0 passes, codes_from m codes ((place + 8) + 12 * length code.words) both.1 sized.1)

pub codes_are : (m : Image) (codes : List Code) (place : ℕ) → AllByRecursion (IsFormedCode m) codes → codes_fault m place codes ≡ None
codes_are m [] place all = refl
codes_are m (code ∷ codes) place all =
    let passes = λ (k : ℕ) (w : Word) (is : slice_get code.words k ≡ Some w). let same : k ≡ 0 + k = omega arith in subst (λ j. Passes m code j w) same (formed_is m code all.0 k w is) in
    else_none (words_fault m code (place + 8) 0 code.words) (codes_fault m ((place + 8) + 12 * length code.words) codes) (words_are m code code.words (place + 8) 0 passes) (codes_are m codes ((place + 8) + 12 * length code.words) all.1)
