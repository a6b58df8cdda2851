-- Labels and registers of lines without faults are names.
use Rattle.std.proofs.Common.{◌≡◌, ◌||◌, ◌++◌, Bool, true, false, List, [], ◌∷◌, None, length, refl, sym, subst, append-nil, append_assoc, ◌≤◌, nat_lt}
use Rattle.std.specs.List.{list_all}
use Rattle.std.proofs.lemmas.Bool.{or_parts, ltb-false}
use Rattle.micro_isa.specs.Names.{name_test}
use Rattle.asm_lines.specs.Cutting.{TextLine}
use Rattle.micro_isa.specs.declared.limits.TheConstants.{MOST_REGISTERS, MOST_INSTRUCTIONS}
use Rattle.asm_lines.specs.Tables.{knows, misnamed, one}
use Rattle.std.specs.List.{list_any}
use Rattle.asm_lines.specs.declared.fault.BundleKind.TheVariants as kind
use Rattle.asm_lines.proofs.First.{none_met}
use Rattle.asm_lines.proofs.Verdicts.{none_at}
use Rattle.asm_lines.proofs.Known.{named_fold}
use Rattle.asm_lines.proofs.Rows.{fold-snoc}
use Rattle.asm_context.specs.Forms.{Body, registers_in, goes_to, receives_from, sends_to}
use Rattle.asm_context.specs.Said.{Said, nothing, with_body, with_line, line_body, said_by}
use Rattle.asm_context.specs.Faults.{Channels, body_test, is_misnamed, body_fault, line_fault, faults_after, lines_fault}

pub record IsNamed (s : Said) : Type 0 where
  pub labels : list_all name_test s.labels ≡ true
  pub registers : list_all name_test s.registers ≡ true

named_body : (s : Said) (b : Body) → IsNamed s → is_misnamed b ≡ false → IsNamed (with_body s b)
named_body s b n e =
    let rest = misnamed (one (goes_to b.form)) || (misnamed (one (receives_from b.form)) || misnamed (one (sends_to b.form))) in
    let label = or_parts (misnamed (one b.label)) (misnamed (registers_in b.form) || rest) e in
    let register = or_parts (misnamed (registers_in b.form)) rest label.1 in
    record {
      labels = named_fold (one b.label) s.labels n.labels label.0;
      registers = named_fold (registers_in b.form) s.registers n.registers register.0;
    }

pub named_line : (chs : Channels) (earlier all : Said) (line : TextLine) → IsNamed earlier → line_fault chs earlier all line ≡ None → IsNamed (with_line earlier line)
named_line chs earlier all line n e =
    let t = none_met (body_test chs (list_any (knows earlier.labels) (one (line_body line).label)) (with_line earlier line) all line.fair (line_body line)) e in
    named_body earlier (line_body line) n (t kind.Name)

pub said_snoc : (before : List TextLine) (line : TextLine) → said_by (before ++ line ∷ []) ≡ with_line (said_by before) line
said_snoc before line = fold-snoc with_line nothing before line

named_after : (chs : Channels) (all : Said) (before lines : List TextLine) → IsNamed (said_by before) → faults_after chs all before lines ≡ None → IsNamed (said_by (before ++ lines))
named_after chs all before [] n e = subst (λ ls. IsNamed (said_by ls)) (sym (append-nil before)) n
named_after chs all before (line ∷ lines) n e =
    let both = none_at line.number (line_fault chs (said_by before) all line) (faults_after chs all (before ++ line ∷ []) lines) e in
    let now = subst IsNamed (sym (said_snoc before line)) (named_line chs (said_by before) all line n both.0) in
    subst (λ ls. IsNamed (said_by ls)) (append_assoc before (line ∷ []) lines) (named_after chs all (before ++ line ∷ []) lines now both.1)

pub named : (chs : Channels) (lines : List TextLine) → lines_fault chs lines ≡ None → IsNamed (said_by lines)
named chs lines e = named_after chs (said_by lines) [] lines (record { labels = refl; registers = refl }) e

-- a line without a fault has no register too many
pub few_registers : (chs : Channels) (twice : Bool) (now all : Said) (fair : Bool) (b : Body) → body_fault chs twice now all fair b ≡ None → length now.registers ≤ MOST_REGISTERS
few_registers chs twice now all fair b e =
    let t = none_met (body_test chs twice now all fair b) e in
    ltb-false MOST_REGISTERS (length now.registers) (or_parts (nat_lt MOST_REGISTERS (length now.registers)) (nat_lt MOST_INSTRUCTIONS now.done) (t kind.Limit)).0
