-- The first line of a text, and the lines behind it.
use Rattle.std.proofs.Common.{◌≡◌, ◌<◌, ℕ, ◌==◌, ◌++◌, Bool, true, false, List, [], ◌∷◌, length, refl, sym, ap, ◌∙◌, arith, append_assoc, append-nil, if◌then◌else◌, codes, Some, None}
use Rattle.std.specs.Str.{bytes_eq}
use Rattle.std.proofs.lemmas.List.{length-append}
use Rattle.asm_lines.specs.Cutting.{piece, lines_from}
use Rattle.journal_text.specs.Journals.{whole_from}
use Rattle.journal_text.specs.Parting.{cut}
use Rattle.journal_text.specs.Lines.{IsFirstLine}
use Rattle.journal_text.proofs.Parting.{lacks, lacks_first, lacks_rest, cut_is, uncut, before_of, before_none}

lines_on : (sofar : List ℕ) (c : ℕ) (cs : List ℕ) (b : Bool) → (c == 10) ≡ b → lines_from sofar (c ∷ cs) ≡ (if b then sofar ∷ lines_from [] cs else lines_from (sofar ++ c ∷ []) cs)
lines_on sofar c cs b e = ap (λ b. if b then sofar ∷ lines_from [] cs else lines_from (sofar ++ c ∷ []) cs) e

whole_on : (sofar : List ℕ) (c : ℕ) (cs : List ℕ) (b : Bool) → (c == 10) ≡ b → whole_from sofar (c ∷ cs) ≡ (if b then (sofar ++ c ∷ []) ∷ whole_from [] cs else whole_from (sofar ++ c ∷ []) cs)
whole_on sofar c cs b e = ap (λ b. if b then (sofar ++ c ∷ []) ∷ whole_from [] cs else whole_from (sofar ++ c ∷ []) cs) e

pub lines_ahead : (sofar line rest : List ℕ) → lacks 10 line ≡ true → lines_from sofar (line ++ (10 ∷ rest)) ≡ (sofar ++ line) ∷ lines_from [] rest
lines_ahead sofar [] rest h = ap (λ l. l ∷ lines_from [] rest) (sym (append-nil sofar))
lines_ahead sofar (c ∷ cs) rest h =
    lines_on sofar c (cs ++ (10 ∷ rest)) false (lacks_first 10 c cs h)
    ∙ lines_ahead (sofar ++ c ∷ []) cs rest (lacks_rest 10 c cs h)
    ∙ ap (λ l. l ∷ lines_from [] rest) (append_assoc sofar (c ∷ []) cs)

lines_last : (sofar line : List ℕ) → lacks 10 line ≡ true → lines_from sofar line ≡ piece (sofar ++ line)
lines_last sofar [] h = ap piece (sym (append-nil sofar))
lines_last sofar (c ∷ cs) h =
    lines_on sofar c cs false (lacks_first 10 c cs h)
    ∙ lines_last (sofar ++ c ∷ []) cs (lacks_rest 10 c cs h)
    ∙ ap piece (append_assoc sofar (c ∷ []) cs)

whole_ahead : (sofar line rest : List ℕ) → lacks 10 line ≡ true → whole_from sofar (line ++ (10 ∷ rest)) ≡ (sofar ++ (line ++ 10 ∷ [])) ∷ whole_from [] rest
whole_ahead sofar [] rest h = refl
whole_ahead sofar (c ∷ cs) rest h =
    whole_on sofar c (cs ++ (10 ∷ rest)) false (lacks_first 10 c cs h)
    ∙ whole_ahead (sofar ++ c ∷ []) cs rest (lacks_rest 10 c cs h)
    ∙ ap (λ l. l ∷ whole_from [] rest) (append_assoc sofar (c ∷ []) (cs ++ 10 ∷ []))

whole_last : (sofar line : List ℕ) → lacks 10 line ≡ true → whole_from sofar line ≡ piece (sofar ++ line)
whole_last sofar [] h = ap piece (sym (append-nil sofar))
whole_last sofar (c ∷ cs) h =
    whole_on sofar c cs false (lacks_first 10 c cs h)
    ∙ whole_last (sofar ++ c ∷ []) cs (lacks_rest 10 c cs h)
    ∙ ap piece (append_assoc sofar (c ∷ []) cs)

-- a line that a newline ends
pub ended_line : (text line behind : List ℕ) → cut 10 text ≡ Some (line, behind) → IsFirstLine text line behind
ended_line text line behind h = let p = cut_is 10 text line behind h in record {
  whole = line ++ 10 ∷ [];
  parts = p.same ∙ sym (append_assoc line (10 ∷ []) behind);
  lines = ap (lines_from []) p.same ∙ lines_ahead [] line behind p.none;
  wholes = ap (whole_from []) p.same ∙ whole_ahead [] line behind p.none;
  mark = ap (λ l. bytes_eq l (codes "journal")) (before_of 10 line [] p.none);
  shorter = omega (arith, ap length p.same ∙ length-append line (10 ∷ behind));
}

-- a last line that no newline ends
pub last_line : (text : List ℕ) → 0 < length text → cut 10 text ≡ None → IsFirstLine text text []
last_line [] some h = absurd (omega arith)
last_line (c ∷ cs) some h = let none = uncut 10 (c ∷ cs) h in record {
  whole = c ∷ cs;
  parts = sym (append-nil (c ∷ cs));
  lines = lines_last [] (c ∷ cs) none;
  wholes = whole_last [] (c ∷ cs) none;
  mark = ap (λ l. bytes_eq l (codes "journal")) (before_none 10 (c ∷ cs) none);
  shorter = some;
}
