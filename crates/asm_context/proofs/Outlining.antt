-- What a walk over the labels alone knows.
use Rattle.std.proofs.Common.{◌≡◌, ◌≤◌, ◌<◌, ◌+◌, true, List, [], ◌∷◌, Option, Some, None, length, fold, refl, ap, sym, ◌∙◌, arith}
use Rattle.micro_isa.specs.declared.operation.Operation.{Operation}
use Rattle.micro_isa.specs.Table.{named, roles_of}
use Rattle.asm_lines.specs.Cutting.{Words, TextLine}
use Rattle.asm_lines.specs.Heads.{has_some, head_of}
use Rattle.asm_context.specs.Spelt.{Spelt, operands_in}
use Rattle.asm_context.specs.Forms.{does, form_of, named_form, counted_form, body_of, labelled, label_in, label_at, does_at, does_after}
use Rattle.asm_context.specs.Said.{Said, nothing, with_body, with_line, line_body, said_by, outline}
use Rattle.asm_context.proofs.Steps.{count_le}

does_counted : (o : Operation) (x : Option Spelt) → does (counted_form o x) ≡ true
does_counted o None = refl
does_counted o (Some x) = refl

does_named : (o : Option Operation) (words : Words) → does (named_form o words) ≡ true
does_named None words = refl
does_named (Some o) words = does_counted o (operands_in (roles_of o) words)

does_more : (words : Words) → does (form_of words) ≡ has_some words
does_more [] = refl
does_more (w ∷ ws) = does_named (named w) ws

-- what the head of a line tells of the line
pub label_head : (words : Words) → label_at (head_of words) ≡ (body_of words).label
label_head [] = refl
label_head (w ∷ ws) = elim (label_in w) as (λ l. l ≡ (labelled l w ws).label) [ None ↦ refl | Some name ↦ refl ]

pub does_head : (words : Words) → does_at (head_of words) ≡ does (body_of words).form
does_head [] = refl
does_head (w ∷ ws) = elim (label_in w) as (λ l. does_after l (has_some ws) ≡ does (labelled l w ws).form) [
  | None ↦ sym (does_named (named w) ws)
  | Some name ↦ sym (does_more ws)
]

-- as far as a walk has come
pub record IsOutlined (all : Said) (left whole : List TextLine) : Type 0 where
  pub said : Said
  pub is : all ≡ outline said
  pub rest : fold with_line said left ≡ said_by whole
  pub few : said.done + length left ≤ length whole

pub outlined_none : (all : Said) (left whole : List TextLine) → all ≡ outline nothing → left ≡ whole → IsOutlined all left whole
outlined_none all left whole n e = record { said = nothing; is = n; rest = ap said_by e; few = omega (arith, ap length e) }

pub outlined_on : (all new : Said) (x : TextLine) (now later whole : List TextLine) → now ≡ x ∷ later → new ≡ outline (with_body all (line_body x)) → IsOutlined all now whole → IsOutlined new later whole
outlined_on all new x now later whole is n o = record {
  said = with_line o.said x;
  is = n ∙ ap (λ s. outline (with_line s x)) o.is;
  rest = sym (ap (fold with_line o.said) is) ∙ o.rest;
  few = omega (arith, count_le (does (line_body x).form), ap length is, o.few);
}

pub outlined_all : (all : Said) (left whole : List TextLine) → left ≡ [] → IsOutlined all left whole → all ≡ outline (said_by whole)
outlined_all all left whole is o = o.is ∙ ap outline (sym (ap (fold with_line o.said) is) ∙ o.rest)

pub outlined_below : (all : Said) (x : TextLine) (left later whole : List TextLine) → left ≡ x ∷ later → IsOutlined all left whole → all.done < length whole
outlined_below all x left later whole is o = omega (arith, ap (λ (s : Said). s.done) o.is, o.few, ap length is)
