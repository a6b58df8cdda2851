-- A line without a word says nothing, and has no fault where all its bytes are allowed.
use Rattle.std.proofs.Common.{◌≡◌, true, not, [], ◌∷◌, None, refl, sym, ap, ◌∙◌}
use Rattle.asm_lines.specs.Cutting.{Words, TextLine}
use Rattle.asm_lines.specs.Heads.{has_some}
use Rattle.asm_header.specs.Faults.{form_fault, line_fault}
use Rattle.asm_header.specs.Forms.{Blank, header_form}
use Rattle.asm_header.specs.Headers.{Header, with_form, with_line}

no_words : (ws : Words) → not (has_some ws) ≡ true → ws ≡ []
no_words [] e = refl
no_words (w ∷ ws) e = absurd (cc)

pub blank_said : (h : Header) (line : TextLine) → not (has_some line.words) ≡ true → h ≡ with_line h line
blank_said h line e = sym (ap (λ ws. with_form h (header_form ws)) (no_words line.words e))

pub blank_free : (h : Header) (line : TextLine) → not (has_some line.words) ≡ true → line.fair ≡ true → line_fault h line ≡ None
blank_free h line e fair = ap (λ ws. form_fault h line.fair (header_form ws)) (no_words line.words e) ∙ ap (λ f. form_fault h f Blank) fair
