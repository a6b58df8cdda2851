-- A line that is read from front to back.
use Rattle.std.proofs.Common.{◌≡◌, ◌<◌, ◌≤◌, ◌+◌, ◌-◌, ◌^◌, ℕ, ◌++◌, List, [], ◌∷◌, length, sym, ap, ◌∙◌, arith, append_assoc, decimal, codes, slice_index_or, drop, Some}
use Rattle.std.proofs.lemmas.List.{length-append}
use Rattle.std.proofs.lemmas.Fmt.{decimal_digit}
use Rattle.world.specs.declared.event.SegmentEnd.{SegmentEnd}
use Rattle.world.specs.declared.event.Entry.{Entry}
use Rattle.world.specs.declared.event.Entry.TheVariants.{Ran}
use Rattle.journal_text.specs.Entries.{end_word, entry_words, IsFitting, IsNoEntry}
use Rattle.journal_text.specs.Journals.{lines_of}
use Rattle.journal_text.specs.Parting.{cut}
use Rattle.journal_text.specs.Reading.{plain_number, after}
use Rattle.journal_text.specs.Lines.{IsFirstLine}
use Rattle.journal_text.specs.Firsts.{IsFirstEntry, BeginsAstray}
use Rattle.journal_text.proofs.Parting.{cut_is}
use Rattle.journal_text.proofs.Numerals.{plain_is}
use Rattle.journal_text.proofs.FirstLines.{lines_ahead}
use Rattle.journal_text.proofs.Spelling.{run_flat, after_is}
use Rattle.journal_text.proofs.Telling.{words_lack}

-- a number and the space behind it
pub number_front : (text word rest : List ℕ) (n : ℕ) → cut 32 text ≡ Some (word, rest) → plain_number word ≡ Some n → (n < 2 ^ 32) × (text ≡ decimal n ++ (32 ∷ rest))
number_front text word rest n h k =
    let p = plain_is word n k in
    (p.small, (cut_is 32 text word rest h).same ∙ ap (λ w. w ++ (32 ∷ rest)) p.same)

digit_led : (rest : List ℕ) (c : ℕ) → 48 ≤ c → c ≤ 57 → (c - 48 < 2 ^ 32) × (c ∷ 32 ∷ rest ≡ decimal (c - 48) ++ (32 ∷ rest))
digit_led rest c low high =
    let same : c ≡ 48 + (c - 48) = omega arith in
    let d = decimal_digit (c - 48) (omega arith) in
    (omega arith, ap (λ n. n ∷ 32 ∷ rest) same ∙ ap (λ w. w ++ (32 ∷ rest)) (sym d))

-- a digit and the space behind it
pub digit_front : (text rest : List ℕ) → 2 ≤ length text → slice_index_or text 1 0 ≡ 32 → 48 ≤ slice_index_or text 0 0 → slice_index_or text 0 0 ≤ 57 → rest ≡ drop 2 text → (slice_index_or text 0 0 - 48 < 2 ^ 32) × (text ≡ decimal (slice_index_or text 0 0 - 48) ++ (32 ∷ rest))
digit_front [] rest long space low high behind = absurd (omega arith)
digit_front (c ∷ []) rest long space low high behind = absurd (omega arith)
digit_front (c ∷ s ∷ cs) rest long space low high behind =
    let d = digit_led cs c low high in
    (d.0, ap (λ n. c ∷ n ∷ cs) space ∙ d.1 ∙ ap (λ r. decimal (c - 48) ++ (32 ∷ r)) (sym behind))

-- the word of an end and the newline behind it
pub end_front : (text prefix rest : List ℕ) (e : SegmentEnd) → after prefix text ≡ Some rest → prefix ≡ end_word e ++ 10 ∷ [] → text ≡ end_word e ++ (10 ∷ rest)
end_front text prefix rest e h is =
    after_is prefix text rest h ∙ ap (λ p. p ++ rest) is ∙ append_assoc (end_word e) (10 ∷ []) rest

ended : (r c n e rest : List ℕ) → (r ++ (c ++ (32 ∷ (n ++ (32 ∷ e))))) ++ (10 ∷ rest) ≡ r ++ (c ++ (32 ∷ (n ++ (32 ∷ (e ++ (10 ∷ rest))))))
ended r c n e rest = simp append_assoc

-- a text that begins with the line of an entry
front_first : (text behind : List ℕ) (e : Entry) → IsFitting e → text ≡ entry_words e ++ (10 ∷ behind) → IsFirstEntry text e behind
front_first text behind e fit parts = record {
  fitting = fit;
  lines = ap lines_of parts ∙ lines_ahead [] (entry_words e) behind (words_lack e fit);
  shorter = omega (arith, ap length parts, length-append (entry_words e) (10 ∷ behind));
}

-- the line of a segment, part by part
pub ran_front : (text a b d rest : List ℕ) (c n : ℕ) (e : SegmentEnd) → after (codes "run ") text ≡ Some a → (c < 2 ^ 32) × (a ≡ decimal c ++ (32 ∷ b)) → (n < 2 ^ 32) × (b ≡ decimal n ++ (32 ∷ d)) → d ≡ end_word e ++ (10 ∷ rest) → IsFirstEntry text (Ran c n e) rest
ran_front text a b d rest c n e run first second last =
    let t = after_is (codes "run ") text a run
    ∙ ap (λ x. codes "run " ++ x) (first.1 ∙ ap (λ x. decimal c ++ (32 ∷ x)) (second.1 ∙ ap (λ x. decimal n ++ (32 ∷ x)) last)) in
    front_first text rest (Ran c n e) (first.0, second.0)
    (t ∙ sym (ended (codes "run ") (decimal c) (decimal n) (end_word e) rest) ∙ ap (λ x. x ++ (10 ∷ rest)) (sym (run_flat (codes "run ") (decimal c) (decimal n) (end_word e))))

-- a first line that is read as a whole
pub line_first : (text line behind : List ℕ) (e : Entry) → IsFirstLine text line behind → IsFitting e × (line ≡ entry_words e) → IsFirstEntry text e behind
line_first text line behind e first is = record {
  fitting = is.0;
  lines = first.lines ∙ ap (λ l. l ∷ lines_of behind) is.1;
  shorter = first.shorter;
}

pub line_astray : (text line behind : List ℕ) → IsFirstLine text line behind → IsNoEntry line → BeginsAstray text
line_astray text line behind first none = record { line = line; rest = lines_of behind; lines = first.lines; none = none }
