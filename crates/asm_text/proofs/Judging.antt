-- There is a verdict on each line, and the first fault is that on the least line that has one.
use Rattle.std.proofs.Common.{◌≡◌, ◌++◌, ℕ, zero, suc, ◌+◌, true, false, List, [], ◌∷◌, length, map, refl, sym, ap, ◌∙◌, arith, if◌then◌else◌, append_assoc}
use Rattle.std.specs.Prelude.{Result, Ok, Err, IfOk, IfErr}
use Rattle.std.specs.List.{range_with_len}
use Rattle.std.proofs.lemmas.List.{map-append}
use Rattle.micro_isa.specs.declared.program.Bundle.{Bundle}
use Rattle.asm_lines.specs.declared.fault.BundleKind.{BundleKind}
use Rattle.asm_lines.specs.declared.fault.BundleFault.{BundleFault}
use Rattle.asm_lines.specs.declared.fault.BundleFault.TheVariants as fault
use Rattle.asm_lines.specs.Cutting.{Words, TextLine, numbered, lines_from, text_lines}
use Rattle.asm_lines.specs.Faults.{Causes}
use Rattle.asm_lines.specs.Verdicts.{Verdict, AreWhole}
use Rattle.asm_lines.proofs.Verdicts.{cut}
use Rattle.asm_header.specs.Headers as header
use Rattle.asm_header.specs.Headers.{Header, no_header}
use Rattle.asm_header.specs.Faults.{verdicts_after, header_verdicts}
use Rattle.asm_context.specs.Faults as context
use Rattle.asm_context.specs.Said.{Said, said_by}
use Rattle.asm_lines.specs.Sections.{starts, ahead, after}
use Rattle.asm_text.specs.Contexts.{context_verdicts, names_with, contexts_verdicts}
use Rattle.asm_text.specs.Texts.{header_in, end_verdict, verdicts, text_fault, Spells, TellsFault, Tells}

-- verdicts stand in the order of the lines

abbrev numbers : List TextLine → List ℕ
numbers lines = map (λ l. l.number) lines

abbrev places : List (Verdict BundleKind) → List ℕ
places vs = map (λ v. v.0) vs

header_places : (h : Header) (lines : List TextLine) → places (verdicts_after h lines) ≡ numbers lines
header_places h [] = refl
header_places h (line ∷ lines) = ap (λ ns. line.number ∷ ns) (header_places (header.with_line h line) lines)

body_places : (chs : context.Channels) (all : Said) (before lines : List TextLine) → places (context.verdicts_after chs all before lines) ≡ numbers lines
body_places chs all before [] = refl
body_places chs all before (line ∷ lines) = ap (λ ns. line.number ∷ ns) (body_places chs all (before ++ line ∷ []) lines)

-- the numbers of the lines before the next context line, and of those from it on
split_numbers : (lines : List TextLine) → numbers (ahead lines) ++ numbers (after lines) ≡ numbers lines
split_numbers [] = refl
split_numbers (line ∷ lines) =
    elim (starts line.words) as (λ b. numbers (if b then [] else line ∷ ahead lines) ++ numbers (if b then line ∷ lines else after lines) ≡ line.number ∷ numbers lines) [
      | true ↦ refl
      | false ↦ ap (λ ns. line.number ∷ ns) (split_numbers lines)
    ]

contexts_places : (h : Header) (names : Words) (lines : List TextLine) → places (contexts_verdicts h names lines) ≡ numbers (after lines)
contexts_places h names [] = refl
contexts_places h names (line ∷ lines) =
    let own = context.body_verdicts (context.channels h.names h.channels) (ahead lines) in
    let later = contexts_verdicts h (names_with names line) lines in
    elim (starts line.words) as (λ b. places (if b then context_verdicts h names line (ahead lines) ++ later else contexts_verdicts h names lines) ≡ numbers (if b then line ∷ lines else after lines)) [
      | true ↦ ap (λ ns. line.number ∷ ns) (map-append (λ (v : Verdict BundleKind). v.0) own later ∙ ap (λ ns. ns ++ places later) (body_places (context.channels h.names h.channels) (said_by (ahead lines)) [] (ahead lines)) ∙ ap (λ ns. numbers (ahead lines) ++ ns) (contexts_places h (names_with names line) lines) ∙ split_numbers lines)
      | false ↦ contexts_places h names lines
    ]

verdict_places : (lines : List TextLine) → places (verdicts lines) ≡ numbers lines ++ (length lines + 1) ∷ []
verdict_places lines =
    let first = header_verdicts (ahead lines) in
    let contexts = contexts_verdicts (header_in lines) [] lines in
    let last = end_verdict lines ∷ [] in
    map-append (λ (v : Verdict BundleKind). v.0) first (contexts ++ last)
    ∙ ap (λ ns. ns ++ places (contexts ++ last)) (header_places no_header (ahead lines))
    ∙ ap (λ ns. numbers (ahead lines) ++ ns) (map-append (λ (v : Verdict BundleKind). v.0) contexts last ∙ ap (λ ns. ns ++ (length lines + 1) ∷ []) (contexts_places (header_in lines) [] lines))
    ∙ sym (append_assoc (numbers (ahead lines)) (numbers (after lines)) ((length lines + 1) ∷ []))
    ∙ ap (λ ns. ns ++ (length lines + 1) ∷ []) (split_numbers lines)

numbered_range : (n : ℕ) (ls : Words) → numbers (numbered n ls) ≡ range_with_len n (length (numbered n ls))
numbered_range n [] = refl
numbered_range n (l ∷ ls) = ap (λ ns. n ∷ ns) (numbered_range (n + 1) ls)

range_snoc : (a n k : ℕ) → k ≡ a + n → range_with_len a n ++ k ∷ [] ≡ range_with_len a (suc n)
range_snoc a zero k e = ap (λ x. x ∷ []) (omega arith)
range_snoc a (suc n) k e = ap (λ l. a ∷ l) (range_snoc (a + 1) n k (omega arith))

text_places : (text : List ℕ) → AreWhole (length (text_lines text)) (verdicts (text_lines text))
text_places text =
    let lines = text_lines text in
    let more : suc (length lines) ≡ length lines + 1 = omega arith in
    verdict_places lines
    ∙ ap (λ ns. ns ++ (length lines + 1) ∷ []) (numbered_range 1 (lines_from [] text))
    ∙ range_snoc 1 (length lines) (length lines + 1) (omega arith)
    ∙ ap (range_with_len 1) more

-- what an answer tells

refused : (why : BundleFault) (text : List ℕ) → Causes why (text_fault text) → TellsFault text why
refused (fault.At line k) text e = (e, cut (verdicts (text_lines text)) (record { line = line; kind = k }) e)
refused fault.NoMemory text e = tt

pub tells : (text : List ℕ) (answer : Result Bundle BundleFault) → IfOk answer (λ b. Spells text b) → IfErr answer (λ why. Causes why (text_fault text)) → Tells text answer
tells text (Ok b) fine cause = (text_places text, fine)
tells text (Err why) fine cause = (text_places text, refused why text cause)
