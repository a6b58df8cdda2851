-- A journal read line by line, and a text searched for the line `journal`.
use Rattle.std.proofs.Common.{◌≡◌, ◌≤◌, ℕ, ◌+◌, ◌-◌, ◌==◌, ◌++◌, Bool, true, false, List, [], ◌∷◌, length, map, take, drop, refl, sym, ap, ◌∙◌, subst, arith, append_assoc, append-nil, if◌then◌else◌, codes}
use Rattle.std.specs.List.{AllByRecursion, concat}
use Rattle.std.specs.Str.{bytes_eq}
use Rattle.std.proofs.lemmas.List.{length-append, length-drop, take-append-drop}
use Rattle.std.proofs.Math.ListN.{drop_of_length-le}
use Rattle.std.proofs.Math.Seq.{take-append_seam, drop-append_seam}
use Rattle.asm_lines.specs.Cutting.{piece}
use Rattle.world.specs.declared.event.Entry.{Entry}
use Rattle.journal_text.specs.Entries.{entry_words, IsFitting, IsNoEntry}
use Rattle.journal_text.specs.Journals.{lines_of, IsJournal, IsFirstStray, whole_from, is_mark, before_mark, behind_mark, bundle_part, journal_part}
use Rattle.journal_text.specs.Lines.{IsFirstLine}
use Rattle.journal_text.specs.Firsts.{IsFirstEntry, BeginsAstray, HasEntries}
use Rattle.journal_text.proofs.Progress.{ReadSoFar, Passed, SearchedTo}
use Rattle.journal_text.proofs.Telling.{words_once}

pub read_none : (text : List ℕ) → ReadSoFar text [] text
read_none text = record { fitting = tt; lines = refl; few = omega arith }

all_more : (es : List Entry) (e : Entry) → AllByRecursion IsFitting es → IsFitting e → AllByRecursion IsFitting (es ++ e ∷ [])
all_more [] e all fit = (fit, tt)
all_more (x ∷ xs) e all fit = (all.0, all_more xs e all.1 fit)

words_more : (es : List Entry) (e : Entry) (rest : List (List ℕ)) → map entry_words (es ++ e ∷ []) ++ rest ≡ map entry_words es ++ entry_words e ∷ rest
words_more [] e rest = refl
words_more (x ∷ xs) e rest = ap (λ ls. entry_words x ∷ ls) (words_more xs e rest)

-- one entry more
pub read_more : (text rest behind : List ℕ) (es new : List Entry) (e : Entry) → ReadSoFar text es rest → IsFirstEntry rest e behind → new ≡ es ++ e ∷ [] → ReadSoFar text new behind
read_more text rest behind es new e sofar first n =
    let made : ReadSoFar text (es ++ e ∷ []) behind = record {
      fitting = all_more es e sofar.fitting first.fitting;
      lines = sofar.lines
          ∙ ap (λ ls. map entry_words es ++ ls) first.lines
          ∙ sym (words_more es e (lines_of behind));
      few = omega (arith, sofar.few, first.shorter, length-append es (e ∷ []));
    } in
    subst (λ n. ReadSoFar text n behind) (sym n) made

no_lines : (rest : List ℕ) → length rest ≡ 0 → lines_of rest ≡ []
no_lines [] h = refl
no_lines (c ∷ cs) h = absurd (omega arith)

pub read_all : (text rest : List ℕ) (es : List Entry) → ReadSoFar text es rest → length rest ≡ 0 → IsJournal text es
read_all text rest es sofar h = record {
  lines = sofar.lines ∙ ap (λ ls. map entry_words es ++ ls) (no_lines rest h) ∙ append-nil (map entry_words es);
  fitting = sofar.fitting;
}

pub read_alone : (text : List ℕ) (es : List Entry) → IsJournal text es → (other : List Entry) → IsJournal text other → other ≡ es
read_alone text es is other too = words_once other es too.fitting is.fitting (sym too.lines ∙ is.lines)

pub strays_at : (text rest : List ℕ) (es : List Entry) → ReadSoFar text es rest → BeginsAstray rest → IsFirstStray text (length es + 1)
strays_at text rest es sofar stray = record {
  before = es;
  line = stray.line;
  rest = stray.rest;
  fitting = sofar.fitting;
  lines = sofar.lines ∙ ap (λ ls. map entry_words es ++ ls) stray.lines;
  place = refl;
  none = stray.none;
}

stray_by : (before es : List Entry) (line : List ℕ) (rest : List (List ℕ)) → AllByRecursion IsFitting es → map entry_words es ≡ map entry_words before ++ line ∷ rest → IsNoEntry line → ⊥
stray_by [] [] line rest fit h none = absurd (cc)
stray_by [] (e ∷ es) line rest fit h none = let same : line ≡ entry_words e = cc in none e fit.0 same
stray_by (b ∷ bs) [] line rest fit h none = absurd (cc)
stray_by (b ∷ bs) (e ∷ es) line rest fit h none = stray_by bs es line rest fit.1 (cc) none

-- a text with a line that is no entry is no journal
pub stray_unread : (text : List ℕ) (at : ℕ) → IsFirstStray text at → (es : List Entry) → IsJournal text es → ⊥
stray_unread text at stray es is = stray_by stray.before es stray.line stray.rest is.fitting (sym is.lines ∙ stray.lines) stray.none

-- an entry behind those that were read, and what its rest is

all_joined : (es more : List Entry) (e : Entry) → AllByRecursion IsFitting es → IsFitting e → AllByRecursion IsFitting more → AllByRecursion IsFitting (es ++ e ∷ more)
all_joined [] more e all fit rest = (fit, rest)
all_joined (x ∷ xs) more e all fit rest = (all.0, all_joined xs more e all.1 fit rest)

words_joined : (es more : List Entry) (e : Entry) (rest : List (List ℕ)) → map entry_words (es ++ e ∷ more) ++ rest ≡ map entry_words es ++ entry_words e ∷ (map entry_words more ++ rest)
words_joined [] more e rest = refl
words_joined (x ∷ xs) more e rest = ap (λ ls. entry_words x ∷ ls) (words_joined xs more e rest)

pub journal_joined : (text rest behind : List ℕ) (es more : List Entry) (e : Entry) → ReadSoFar text es rest → IsFirstEntry rest e behind → IsJournal behind more → IsJournal text (es ++ e ∷ more)
journal_joined text rest behind es more e sofar first is = record {
  lines = sofar.lines
      ∙ ap (λ ls. map entry_words es ++ ls) (first.lines ∙ ap (λ ls. entry_words e ∷ ls) (is.lines ∙ sym (append-nil (map entry_words more))))
      ∙ sym (words_joined es more e [])
      ∙ append-nil (map entry_words (es ++ e ∷ more));
  fitting = all_joined es more e sofar.fitting first.fitting is.fitting;
}

pub stray_joined : (text rest behind : List ℕ) (es : List Entry) (e : Entry) (at : ℕ) → ReadSoFar text es rest → IsFirstEntry rest e behind → IsFirstStray behind at → IsFirstStray text ((length es + 1) + at)
stray_joined text rest behind es e at sofar first stray = record {
  before = es ++ e ∷ stray.before;
  line = stray.line;
  rest = stray.rest;
  fitting = all_joined es stray.before e sofar.fitting first.fitting stray.fitting;
  lines = sofar.lines
      ∙ ap (λ ls. map entry_words es ++ ls) (first.lines ∙ ap (λ ls. entry_words e ∷ ls) stray.lines)
      ∙ sym (words_joined es stray.before e (stray.line ∷ stray.rest));
  place = omega (arith, stray.place, length-append es (e ∷ stray.before));
  none = stray.none;
}

-- lines that are counted

pub passed_none : (text : List ℕ) → Passed text 0 text
passed_none text = record { entries = []; sofar = read_none text; many = refl }

pub passed_more : (text rest behind : List ℕ) (n : ℕ) (e : Entry) → Passed text n rest → IsFirstEntry rest e behind → Passed text (n + 1) behind
passed_more text rest behind n e p first = record {
  entries = p.entries ++ e ∷ [];
  sofar = read_more text rest behind p.entries (p.entries ++ e ∷ []) e p.sofar first refl;
  many = omega (arith, p.many, length-append p.entries (e ∷ []));
}

pub strays_after : (text rest : List ℕ) (n : ℕ) → Passed text n rest → BeginsAstray rest → IsFirstStray text (n + 1)
strays_after text rest n p stray = subst (λ k. IsFirstStray text (k + 1)) (sym p.many) (strays_at text rest p.entries p.sofar stray)

pub read_after : (text rest : List ℕ) (n : ℕ) → Passed text n rest → length rest ≡ 0 → HasEntries text
read_after text rest n p none = record { entries = p.entries; read = read_all text rest p.entries p.sofar none }

pub few_passed : (text rest : List ℕ) (n : ℕ) → Passed text n rest → n + length rest ≤ length text
few_passed text rest n p = omega (arith, p.sofar.few, p.many)

pub searched_none : (text : List ℕ) → SearchedTo text 0
searched_none text = record { within = omega arith; bundle = refl; journal = refl }

mark_on : (line : List ℕ) (lines : List (List ℕ)) (b : Bool) → is_mark line ≡ b → before_mark (line ∷ lines) ≡ (if b then [] else line ++ before_mark lines)
mark_on line lines b e = ap (λ b. if b then [] else line ++ before_mark lines) e

mark_behind : (line : List ℕ) (lines : List (List ℕ)) (b : Bool) → is_mark line ≡ b → behind_mark (line ∷ lines) ≡ (if b then concat lines else behind_mark lines)
mark_behind line lines b e = ap (λ b. if b then concat lines else behind_mark lines) e

piece_joined : (sofar : List ℕ) → concat (piece sofar) ≡ sofar
piece_joined [] = refl
piece_joined (c ∷ cs) = append-nil (c ∷ cs)

joined_by : (sofar cs : List ℕ) (c : ℕ) (b : Bool) → concat (whole_from [] cs) ≡ cs → concat (whole_from (sofar ++ c ∷ []) cs) ≡ (sofar ++ c ∷ []) ++ cs → concat (if b then (sofar ++ c ∷ []) ∷ whole_from [] cs else whole_from (sofar ++ c ∷ []) cs) ≡ sofar ++ c ∷ cs
joined_by sofar cs c true h k = ap (λ t. (sofar ++ c ∷ []) ++ t) h ∙ append_assoc sofar (c ∷ []) cs
joined_by sofar cs c false h k = k ∙ append_assoc sofar (c ∷ []) cs

joined : (sofar text : List ℕ) → concat (whole_from sofar text) ≡ sofar ++ text
joined sofar [] = piece_joined sofar ∙ sym (append-nil sofar)
joined sofar (c ∷ cs) = joined_by sofar cs c (c == 10) (joined [] cs) (joined (sofar ++ c ∷ []) cs)

-- the line at this place is `journal`
pub found_bundle : (text line behind : List ℕ) (start : ℕ) → SearchedTo text start → IsFirstLine (drop start text) line behind → bytes_eq line (codes "journal") ≡ true → take start text ≡ bundle_part text
found_bundle text line behind start sofar first is =
    let none = ap before_mark first.wholes ∙ mark_on first.whole (whole_from [] behind) true (first.mark ∙ is) in
    sym (append-nil (take start text)) ∙ ap (λ t. take start text ++ t) (sym none) ∙ sym sofar.bundle

pub found_journal : (text line behind : List ℕ) (start : ℕ) → SearchedTo text start → IsFirstLine (drop start text) line behind → bytes_eq line (codes "journal") ≡ true → behind ≡ journal_part text
found_journal text line behind start sofar first is =
    sym (joined [] behind)
    ∙ sym (ap behind_mark first.wholes ∙ mark_behind first.whole (whole_from [] behind) true (first.mark ∙ is))
    ∙ sym sofar.journal

taken_on : (before whole behind : List ℕ) (n : ℕ) → n ≡ length before + length whole → take n (before ++ (whole ++ behind)) ≡ before ++ whole
taken_on before whole behind n e =
    ap (λ k. take k (before ++ (whole ++ behind))) (e ∙ sym (length-append before whole))
    ∙ ap (take (length (before ++ whole))) (sym (append_assoc before whole behind))
    ∙ take-append_seam (before ++ whole) behind

dropped_on : (before whole behind : List ℕ) (n : ℕ) → n ≡ length before + length whole → drop n (before ++ (whole ++ behind)) ≡ behind
dropped_on before whole behind n e =
    ap (λ k. drop k (before ++ (whole ++ behind))) (e ∙ sym (length-append before whole))
    ∙ ap (drop (length (before ++ whole))) (sym (append_assoc before whole behind))
    ∙ drop-append_seam (before ++ whole) behind

-- another line is passed
pub searched_more : (text line behind : List ℕ) (start : ℕ) → SearchedTo text start → IsFirstLine (drop start text) line behind → bytes_eq line (codes "journal") ≡ false → SearchedTo text (length text - length behind)
searched_more text line behind start sofar first is =
    let whole = first.whole in
    let all : text ≡ take start text ++ (whole ++ behind) = sym (take-append-drop start text) ∙ ap (λ t. take start text ++ t) first.parts in
    let n = ap length first.parts ∙ length-append whole behind in
    let m = ap length all ∙ length-append (take start text) (whole ++ behind) in
    let k : length text - length behind ≡ length (take start text) + length whole = omega (arith, n, m, length-append whole behind, length-drop start text) in
    let t = ap (take (length text - length behind)) all ∙ taken_on (take start text) whole behind (length text - length behind) k in
    let d = ap (drop (length text - length behind)) all ∙ dropped_on (take start text) whole behind (length text - length behind) k in
    record {
      within = omega arith;
      bundle = sofar.bundle
          ∙ ap (λ x. take start text ++ x) (ap before_mark first.wholes ∙ mark_on whole (whole_from [] behind) false (first.mark ∙ is))
          ∙ sym (append_assoc (take start text) whole (bundle_part behind))
          ∙ ap (λ x. x ++ bundle_part behind) (sym t)
          ∙ ap (λ x. take (length text - length behind) text ++ bundle_part x) (sym d);
      journal = sofar.journal
          ∙ ap behind_mark first.wholes
          ∙ mark_behind whole (whole_from [] behind) false (first.mark ∙ is)
          ∙ ap journal_part (sym d);
    }

-- no line is `journal`
pub searched_all : (text : List ℕ) (start : ℕ) → SearchedTo text start → length text ≤ start → text ≡ bundle_part text
searched_all text start sofar h =
    let none = drop_of_length-le text h in
    sym (
    sofar.bundle
    ∙ ap (λ t. take start text ++ bundle_part t) none
    ∙ append-nil (take start text)
    ∙ sym (append-nil (take start text))
    ∙ ap (λ t. take start text ++ t) (sym none)
    ∙ take-append-drop start text
    )

pub searched_empty : (text : List ℕ) (start : ℕ) → SearchedTo text start → length text ≤ start → [] ≡ journal_part text
searched_empty text start sofar h = sym (sofar.journal ∙ ap journal_part (drop_of_length-le text h))
