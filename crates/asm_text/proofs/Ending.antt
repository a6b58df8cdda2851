-- The first fault of all lines, from those of the header, of the contexts and of the end.
use Rattle.std.proofs.Common.{◌≡◌, ◌<◌, ◌+◌, ℕ, Bool, List, [], ◌∷◌, ◌++◌, length, Option, Some, None, sym, ap, ◌∙◌, subst, if◌then◌else◌}
use Rattle.micro_isa.specs.declared.program.Bundle.{Bundle}
use Rattle.micro_isa.specs.declared.program.Program.{Program}
use Rattle.std.specs.Prelude.{unwrap_or}
use Rattle.asm_lines.specs.declared.fault.BundleKind.{BundleKind}
use Rattle.asm_lines.specs.declared.fault.BundleKind.TheVariants.{Missing}
use Rattle.asm_lines.specs.declared.fault.BundleFault.{BundleFault}
use Rattle.asm_lines.specs.Cutting.{TextLine}
use Rattle.asm_lines.specs.Faults.{At, Causes}
use Rattle.asm_lines.specs.Verdicts.{Verdict, first_fault}
use Rattle.asm_lines.specs.Sections.{ahead, after}
use Rattle.asm_lines.proofs.Causing.{caused_first}
use Rattle.asm_lines.proofs.Verdicts.{first_append, free_in}
use Rattle.asm_header.specs.Headers.{Header, setting_of}
use Rattle.asm_header.specs.Faults.{header_verdicts, header_fault}
use Rattle.asm_text.specs.Contexts.{contexts_verdicts, contexts_fault, programs}
use Rattle.asm_text.specs.Texts.{header_in, end_verdict, lines_fault, bundle_said}
use Rattle.asm_text.proofs.Walking.{passed, passed_programs, none_started, some_started}

same_contexts : (h : Header) (lines left : List TextLine) → h ≡ header_in lines → left ≡ after lines → contexts_fault h [] left ≡ contexts_fault (header_in lines) [] lines
same_contexts h lines left is at = ap (λ k. contexts_fault k [] left) is ∙ ap (contexts_fault (header_in lines) []) at ∙ passed (header_in lines) [] lines

same_programs : (h : Header) (lines left : List TextLine) → h ≡ header_in lines → left ≡ after lines → programs h left ≡ programs (header_in lines) lines
same_programs h lines left is at = ap (λ k. programs k left) is ∙ ap (programs (header_in lines)) at ∙ passed_programs (header_in lines) lines

-- the fault of the line after the last
abbrev end_fault : List TextLine → Option At
end_fault lines = first_fault (end_verdict lines ∷ [])

-- on the lines of contexts, and the line after the last
abbrev later_verdicts : List TextLine → List (Verdict BundleKind)
later_verdicts lines = contexts_verdicts (header_in lines) [] lines ++ end_verdict lines ∷ []

-- what is left where the header has no fault
past_header : (lines : List TextLine) → header_fault (ahead lines) ≡ None → lines_fault lines ≡ first_fault (later_verdicts lines)
past_header lines free = free_in (header_verdicts (ahead lines)) (later_verdicts lines) free

-- what is left where the contexts have none either
past_contexts : (h : Header) (lines left : List TextLine) → h ≡ header_in lines → left ≡ after lines → header_fault (ahead lines) ≡ None → contexts_fault h [] left ≡ None → lines_fault lines ≡ end_fault lines
past_contexts h lines left is at free none =
    past_header lines free ∙ free_in (contexts_verdicts (header_in lines) [] lines) (end_verdict lines ∷ []) (sym (same_contexts h lines left is at) ∙ none)

pub caused_header : (why : BundleFault) (lines : List TextLine) → Causes why (header_fault (ahead lines)) → Causes why (lines_fault lines)
caused_header why lines c =
    subst (Causes why) (sym (first_append (header_verdicts (ahead lines)) (later_verdicts lines)))
    (caused_first why (header_fault (ahead lines)) (first_fault (later_verdicts lines)) c)

pub caused_contexts : (why : BundleFault) (h : Header) (lines left : List TextLine) → h ≡ header_in lines → left ≡ after lines → header_fault (ahead lines) ≡ None → Causes why (contexts_fault h [] left) → Causes why (lines_fault lines)
caused_contexts why h lines left is at free c =
    subst (Causes why) (sym (past_header lines free ∙ first_append (contexts_verdicts (header_in lines) [] lines) (end_verdict lines ∷ [])))
    (caused_first why (contexts_fault (header_in lines) [] lines) (end_fault lines) (subst (Causes why) (same_contexts h lines left is at) c))

abbrev missing_at : ℕ → Option At
missing_at n = Some (record { line = n; kind = Missing })

abbrev ended : List TextLine → Bool → Option At
ended lines b = first_fault ((length lines + 1, if b then None else Some Missing) ∷ [])

-- a text without a context
pub caused_missing : (h : Header) (ps : List Program) (lines left : List TextLine) (n : ℕ) → h ≡ header_in lines → left ≡ after lines → header_fault (ahead lines) ≡ None → contexts_fault h [] left ≡ None → ps ≡ programs h left → length ps ≡ 0 → n ≡ length lines + 1 → lines_fault lines ≡ missing_at n
caused_missing h ps lines left n is at free none made zero e =
    past_contexts h lines left is at free none
    ∙ ap (ended lines) (none_started (header_in lines) lines (ap length (sym (made ∙ same_programs h lines left is at)) ∙ zero))
    ∙ ap missing_at (sym e)

-- a text without a fault
pub no_fault : (h : Header) (ps : List Program) (lines left : List TextLine) → h ≡ header_in lines → left ≡ after lines → header_fault (ahead lines) ≡ None → contexts_fault h [] left ≡ None → ps ≡ programs h left → 0 < length ps → lines_fault lines ≡ None
no_fault h ps lines left is at free none made some =
    past_contexts h lines left is at free none
    ∙ ap (ended lines) (some_started (header_in lines) lines (subst (λ (qs : List Program). 0 < length qs) (made ∙ same_programs h lines left is at) some))

-- what a header and programs say together
abbrev pub said_together : Header → List Program → Bundle
said_together h ps = record { file = unwrap_or h.file 0; setting = setting_of h; names = h.names; programs = ps }

pub said_all : (h : Header) (ps : List Program) (lines left : List TextLine) → h ≡ header_in lines → left ≡ after lines → ps ≡ programs h left → said_together h ps ≡ bundle_said lines
said_all h ps lines left is at made = ap (λ k. said_together k ps) is ∙ ap (said_together (header_in lines)) (made ∙ same_programs h lines left is at)
