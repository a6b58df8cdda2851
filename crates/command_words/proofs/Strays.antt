-- Words that have no meaning wherever they stand.
use Rattle.std.proofs.Common.{◌≡◌, ℕ, ◌||◌, ◌&&◌, ◌==◌, Bool, true, false, List, [], ◌∷◌, map, None, if◌then◌else◌, refl, sym, codes, arith}
use Rattle.std.proofs.lemmas.Bool.{true≢false}
use Rattle.std.proofs.lemmas.Bool.Decides.{Decides-eqb, nat_tests}
use Rattle.std.specs.Str.{bytes_eq}
use Rattle.std.specs.List.{list_all, list_any}
use Rattle.command_words.specs.Texts.{Text, Word, plain, names, sets, stray, after, word_of, hyphened, texts_of}
use Rattle.command_words.specs.Spellings.{is_stray}
use Rattle.command_words.specs.Hyphens.{is_double, is_fit}
use Rattle.command_words.proofs.Spelling.{and_false, same_if}

-- a stray word anywhere leaves no texts
pub stray_no_texts : (ws : List Word) → list_any is_stray ws ≡ true → texts_of ws ≡ None
stray_no_texts [] e = absurd (true≢false (sym e))
stray_no_texts (stray ∷ rest) e = refl
stray_no_texts (plain w ∷ rest) e = rw (stray_no_texts rest e) refl
stray_no_texts (sets n v ∷ rest) e = rw (stray_no_texts rest e) refl
stray_no_texts (names n ∷ []) e = refl
stray_no_texts (names n ∷ plain v ∷ rest) e = rw (stray_no_texts rest e) refl
stray_no_texts (names n ∷ names m ∷ rest) e = refl
stray_no_texts (names n ∷ sets m v ∷ rest) e = refl
stray_no_texts (names n ∷ stray ∷ rest) e = refl

-- ---- a word that is refused at once is stray

eq_flip : (a b : ℕ) → (a == b) ≡ (b == a)
eq_flip a b = grind (arith, nat_tests)

no_option : (c : ℕ) (p rest : Text) → is_double rest ≡ false → (after (45 ∷ c ∷ p) rest ≡ None) × (bytes_eq rest (45 ∷ c ∷ p) ≡ false)
no_option c p [] f = (refl, refl)
no_option c p (b ∷ []) f = (same_if (45 == b) (λ o. o) None, and_false (b == 45))
no_option c p (b ∷ x ∷ xs) f = (rw (eq_flip 45 b, f) refl, rw f refl)

hyphened_stray : (rest : Text) → is_double rest ≡ false → hyphened (45 ∷ rest) ≡ stray
hyphened_stray rest f =
    let a = no_option 115 (codes "teps=") rest f in
    let b = no_option 115 (codes "teps") rest f in
    let c = no_option 111 (codes "rder=") rest f in
    let d = no_option 111 (codes "rder") rest f in
    rw (a.0, b.1, c.0, d.1) refl

unfit_stray : (w : Text) → is_fit w ≡ false → word_of w ≡ stray
unfit_stray [] f = absurd (true≢false f)
unfit_stray (a ∷ rest) f =
    let go : (b : Bool) → (a == 45) ≡ b → (if b then is_double rest else true) ≡ false → word_of (a ∷ rest) ≡ stray = elim [
      | true ↦ λ is f. let same : a ≡ 45 = (Decides-eqb a 45).0 is in rw same (hyphened_stray rest f)
      | false ↦ λ is f. absurd (true≢false f)
    ] in go (a == 45) refl f

or_true : (b : Bool) → (b || true) ≡ true
or_true true = refl
or_true false = refl

unfit_strays : (ws : List Text) → list_all is_fit ws ≡ false → list_any is_stray (map word_of ws) ≡ true
unfit_strays [] f = absurd (true≢false f)
unfit_strays (w ∷ ws) f =
    let go : (b : Bool) → is_fit w ≡ b → (b && list_all is_fit ws) ≡ false → list_any is_stray (map word_of (w ∷ ws)) ≡ true = elim [
      | true ↦ λ is f. rw (unfit_strays ws f) (or_true (is_stray (word_of w)))
      | false ↦ λ is f. rw (unfit_stray w is) refl
    ] in go (is_fit w) refl f

pub unfit_no_texts : (ws : List Text) → list_all is_fit ws ≡ false → texts_of (map word_of ws) ≡ None
unfit_no_texts ws f = stray_no_texts (map word_of ws) (unfit_strays ws f)
