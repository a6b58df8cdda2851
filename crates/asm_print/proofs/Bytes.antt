-- The lines and words of written rows are those that were written.
use Rattle.std.proofs.Common.{◌≡◌, ◌++◌, ◌||◌, ◌==◌, ℕ, ◌+◌, Bool, true, false, List, [], ◌∷◌, refl, sym, ap, ◌∙◌, append_assoc, append-nil, if◌then◌else◌, codes, arith, map}
use Rattle.std.proofs.lemmas.Bool.{and_parts, and_from}
use Rattle.std.proofs.lemmas.Bool.Decides.{nat_tests}
use Rattle.std.proofs.lemmas.List.Folds.{list_all-append}
use Rattle.std.specs.List.{list_all}
use Rattle.asm_lines.specs.Cutting.{Words, words_from, lines_from, told, is_gap, is_allowed, piece, line_of, numbered, text_lines}
use Rattle.asm_print.specs.Rows.{Row, Flush, Indented, led_by, spaced, operands_text, row_text, rows_text}
use Rattle.asm_print.proofs.Plain.{is_plain, is_plain_word, row_words, is_plain_row, lines_with}

-- ---- bytes

-- a byte of a written line
abbrev is_shown : ℕ → Bool
is_shown c = is_plain c || ((c == 32) || (c == 44))

plain_no_gap : (c : ℕ) → is_plain c ≡ true → is_gap c ≡ false
plain_no_gap c e = grind (arith, nat_tests)

plain_shown : (c : ℕ) → is_plain c ≡ true → is_shown c ≡ true
plain_shown c e = ap (λ b. b || ((c == 32) || (c == 44))) e

shown_allowed : (c : ℕ) → is_shown c ≡ true → is_allowed c ≡ true
shown_allowed c e = grind (arith, nat_tests)

shown_no_hash : (c : ℕ) → is_shown c ≡ true → (c == 35) ≡ false
shown_no_hash c e = grind (arith, nat_tests)

shown_no_newline : (c : ℕ) → is_shown c ≡ true → (c == 10) ≡ false
shown_no_newline c e = grind (arith, nat_tests)

all_more : (p q : ℕ → Bool) → ((c : ℕ) → p c ≡ true → q c ≡ true) → (xs : List ℕ) → list_all p xs ≡ true → list_all q xs ≡ true
all_more p q h [] e = refl
all_more p q h (x ∷ xs) e = let a = and_parts (p x) (list_all p xs) e in and_from (q x) (list_all q xs) (h x a.0) (all_more p q h xs a.1)

all_both : (p : ℕ → Bool) (xs ys : List ℕ) → list_all p xs ≡ true → list_all p ys ≡ true → list_all p (xs ++ ys) ≡ true
all_both p xs ys e f = list_all-append p xs ys ∙ and_from (list_all p xs) (list_all p ys) e f

-- ---- words

word_plain : (w : List ℕ) → is_plain_word w ≡ true → list_all is_plain w ≡ true
word_plain [] e = refl
word_plain (c ∷ cs) e = e

one_piece : (w : List ℕ) → is_plain_word w ≡ true → piece w ≡ w ∷ []
one_piece [] e = absurd (cc)
one_piece (c ∷ cs) e = refl

byte_on : (sofar : List ℕ) (c : ℕ) (cs : List ℕ) (b : Bool) → is_gap c ≡ b → words_from sofar (c ∷ cs) ≡ (if b then piece sofar ++ words_from [] cs else words_from (sofar ++ c ∷ []) cs)
byte_on sofar c cs b e = ap (λ b. if b then piece sofar ++ words_from [] cs else words_from (sofar ++ c ∷ []) cs) e

word_on : (w sofar rest : List ℕ) → list_all is_plain w ≡ true → words_from sofar (w ++ rest) ≡ words_from (sofar ++ w) rest
word_on [] sofar rest e = ap (λ s. words_from s rest) (sym (append-nil sofar))
word_on (c ∷ cs) sofar rest e =
    let a = and_parts (is_plain c) (list_all is_plain cs) e in
    byte_on sofar c (cs ++ rest) false (plain_no_gap c a.0)
    ∙ word_on cs (sofar ++ c ∷ []) rest a.1
    ∙ ap (λ s. words_from s rest) (append_assoc sofar (c ∷ []) cs)

behind_spaces : (ws : Words) (sofar : List ℕ) → list_all is_plain_word ws ≡ true → words_from sofar (led_by (codes " ") ws) ≡ piece sofar ++ ws
behind_spaces [] sofar e = sym (append-nil (piece sofar))
behind_spaces (w ∷ ws) sofar e =
    let a = and_parts (is_plain_word w) (list_all is_plain_word ws) e in
    ap (λ t. piece sofar ++ t) (word_on w [] (led_by (codes " ") ws) (word_plain w a.0) ∙ behind_spaces ws w a.1 ∙ ap (λ p. p ++ ws) (one_piece w a.0))

behind_commas : (ws : Words) (sofar : List ℕ) → list_all is_plain_word ws ≡ true → words_from sofar (led_by (codes ", ") ws) ≡ piece sofar ++ ws
behind_commas [] sofar e = sym (append-nil (piece sofar))
behind_commas (w ∷ ws) sofar e =
    let a = and_parts (is_plain_word w) (list_all is_plain_word ws) e in
    ap (λ t. piece sofar ++ t) (word_on w [] (led_by (codes ", ") ws) (word_plain w a.0) ∙ behind_commas ws w a.1 ∙ ap (λ p. p ++ ws) (one_piece w a.0))

spaced_again : (ws : Words) → list_all is_plain_word ws ≡ true → words_from [] (spaced ws) ≡ ws
spaced_again [] e = refl
spaced_again (w ∷ ws) e =
    let a = and_parts (is_plain_word w) (list_all is_plain_word ws) e in
    word_on w [] (led_by (codes " ") ws) (word_plain w a.0) ∙ behind_spaces ws w a.1 ∙ ap (λ p. p ++ ws) (one_piece w a.0)

operands_again : (ws : Words) (sofar : List ℕ) → list_all is_plain_word ws ≡ true → words_from sofar (operands_text ws) ≡ piece sofar ++ ws
operands_again [] sofar e = sym (append-nil (piece sofar))
operands_again (w ∷ ws) sofar e =
    let a = and_parts (is_plain_word w) (list_all is_plain_word ws) e in
    ap (λ t. piece sofar ++ t) (word_on w [] (led_by (codes ", ") ws) (word_plain w a.0) ∙ behind_commas ws w a.1 ∙ ap (λ p. p ++ ws) (one_piece w a.0))

row_again : (row : Row) → is_plain_row row ≡ true → words_from [] (row_text row) ≡ row_words row
row_again (Flush words) e = spaced_again words e
row_again (Indented mnemonic operands) e =
    let a = and_parts (is_plain_word mnemonic) (list_all is_plain_word operands) e in
    word_on mnemonic [] (operands_text operands) (word_plain mnemonic a.0) ∙ operands_again operands mnemonic a.1 ∙ ap (λ p. p ++ operands) (one_piece mnemonic a.0)

-- ---- all bytes of a row are shown

word_shown : (w : List ℕ) → is_plain_word w ≡ true → list_all is_shown w ≡ true
word_shown w e = all_more is_plain is_shown plain_shown w (word_plain w e)

led_shown : (gap : List ℕ) (ws : Words) → list_all is_shown gap ≡ true → list_all is_plain_word ws ≡ true → list_all is_shown (led_by gap ws) ≡ true
led_shown gap [] g e = refl
led_shown gap (w ∷ ws) g e =
    let a = and_parts (is_plain_word w) (list_all is_plain_word ws) e in
    all_both is_shown (gap ++ w) (led_by gap ws) (all_both is_shown gap w g (word_shown w a.0)) (led_shown gap ws g a.1)

spaced_shown : (ws : Words) → list_all is_plain_word ws ≡ true → list_all is_shown (spaced ws) ≡ true
spaced_shown [] e = refl
spaced_shown (w ∷ ws) e =
    let a = and_parts (is_plain_word w) (list_all is_plain_word ws) e in
    all_both is_shown w (led_by (codes " ") ws) (word_shown w a.0) (led_shown (codes " ") ws refl a.1)

operands_shown : (ws : Words) → list_all is_plain_word ws ≡ true → list_all is_shown (operands_text ws) ≡ true
operands_shown [] e = refl
operands_shown (w ∷ ws) e =
    let a = and_parts (is_plain_word w) (list_all is_plain_word ws) e in
    all_both is_shown w (led_by (codes ", ") ws) (word_shown w a.0) (led_shown (codes ", ") ws refl a.1)

row_shown : (row : Row) → is_plain_row row ≡ true → list_all is_shown (row_text row) ≡ true
row_shown (Flush words) e = spaced_shown words e
row_shown (Indented mnemonic operands) e =
    let a = and_parts (is_plain_word mnemonic) (list_all is_plain_word operands) e in
    all_both is_shown mnemonic (operands_text operands) (word_shown mnemonic a.0) (operands_shown operands a.1)

-- ---- lines

told_on : (c : ℕ) (cs : List ℕ) (b : Bool) → (c == 35) ≡ b → told (c ∷ cs) ≡ (if b then [] else c ∷ told cs)
told_on c cs b e = ap (λ b. if b then [] else c ∷ told cs) e

told_all : (l : List ℕ) → list_all is_shown l ≡ true → told l ≡ l
told_all [] e = refl
told_all (c ∷ cs) e =
    let a = and_parts (is_shown c) (list_all is_shown cs) e in
    told_on c cs false (shown_no_hash c a.0) ∙ ap (λ t. c ∷ t) (told_all cs a.1)

newline_on : (sofar : List ℕ) (c : ℕ) (cs : List ℕ) (b : Bool) → (c == 10) ≡ b → lines_from sofar (c ∷ cs) ≡ (if b then sofar ∷ lines_from [] cs else lines_from (sofar ++ c ∷ []) cs)
newline_on sofar c cs b e = ap (λ b. if b then sofar ∷ lines_from [] cs else lines_from (sofar ++ c ∷ []) cs) e

line_on : (l sofar rest : List ℕ) → list_all is_shown l ≡ true → lines_from sofar (l ++ 10 ∷ rest) ≡ (sofar ++ l) ∷ lines_from [] rest
line_on [] sofar rest e = ap (λ s. s ∷ lines_from [] rest) (sym (append-nil sofar))
line_on (c ∷ cs) sofar rest e =
    let a = and_parts (is_shown c) (list_all is_shown cs) e in
    newline_on sofar c (cs ++ 10 ∷ rest) false (shown_no_newline c a.0)
    ∙ line_on cs (sofar ++ c ∷ []) rest a.1
    ∙ ap (λ s. s ∷ lines_from [] rest) (append_assoc sofar (c ∷ []) cs)

lines_again : (rows : List Row) → list_all is_plain_row rows ≡ true → lines_from [] (rows_text rows) ≡ map row_text rows
lines_again [] e = refl
lines_again (row ∷ rows) e =
    let a = and_parts (is_plain_row row) (list_all is_plain_row rows) e in
    ap (lines_from []) (append_assoc (row_text row) (10 ∷ []) (rows_text rows))
    ∙ line_on (row_text row) [] (rows_text rows) (row_shown row a.0)
    ∙ ap (λ t. row_text row ∷ t) (lines_again rows a.1)

line_again : (n : ℕ) (row : Row) → is_plain_row row ≡ true → line_of n (row_text row) ≡ record { number = n; fair = true; words = row_words row }
line_again n row e =
    let fair = all_more is_shown is_allowed shown_allowed (row_text row) (row_shown row e) in
    let words = ap (words_from []) (told_all (row_text row) (row_shown row e)) ∙ row_again row e in
    ap (λ (b : Bool). record { number = n; fair = b; words = words_from [] (told (row_text row)) }) fair
    ∙ ap (λ (ws : Words). record { number = n; fair = true; words = ws }) words

numbered_again : (n : ℕ) (rows : List Row) → list_all is_plain_row rows ≡ true → numbered n (map row_text rows) ≡ lines_with n rows
numbered_again n [] e = refl
numbered_again n (row ∷ rows) e =
    let a = and_parts (is_plain_row row) (list_all is_plain_row rows) e in
    ap (λ l. l ∷ numbered (n + 1) (map row_text rows)) (line_again n row a.0)
    ∙ ap (λ ls. record { number = n; fair = true; words = row_words row } ∷ ls) (numbered_again (n + 1) rows a.1)

pub rows_again : (rows : List Row) → list_all is_plain_row rows ≡ true → text_lines (rows_text rows) ≡ lines_with 1 rows
rows_again rows e = ap (numbered 1) (lines_again rows e) ∙ numbered_again 1 rows e
