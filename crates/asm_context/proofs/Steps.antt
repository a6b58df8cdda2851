-- One line further in a context.
use Rattle.std.proofs.Common.{◌≡◌, ◌++◌, ◌≤◌, ◌<◌, ◌+◌, List, [], ◌∷◌, length, None, refl, sym, ap, ◌∙◌, subst, Bool, true, false, arith, append_assoc, append-nil}
use Rattle.micro_isa.specs.declared.program.Line.{Line}
use Rattle.asm_lines.specs.declared.fault.BundleFault.{BundleFault}
use Rattle.asm_lines.specs.Cutting.{TextLine}
use Rattle.asm_lines.specs.Faults.{Causes}
use Rattle.asm_lines.specs.Sections.{ahead, after, LinesLeft, TakesInside}
use Rattle.asm_lines.specs.Verdicts.{at_or}
use Rattle.asm_lines.proofs.Causing.{caused}
use Rattle.asm_lines.proofs.Rows.{fold-snoc}
use Rattle.asm_context.specs.Forms.{does}
use Rattle.asm_context.specs.Said.{Said, nothing, with_line, line_body, said_by, outline, count}
use Rattle.asm_context.specs.Faults.{Channels, line_fault, faults_after, lines_fault}
use Rattle.asm_context.specs.Programs.{line_code, code_after, code_of}

pub count_le : (b : Bool) → count b ≤ 1
count_le true = omega arith
count_le false = omega arith

-- as far as the lines of a context were read
pub record IsRead (chs : Channels) (noted : Said) (made : List Line) (left whole : List TextLine) : Type 0 where
  pub before : List TextLine
  pub parts : before ++ left ≡ whole
  pub said : noted ≡ said_by before
  pub few : noted.done + length left ≤ length whole
  pub faults : faults_after chs (said_by whole) before left ≡ lines_fault chs whole
  pub code : made ++ code_after chs.names (said_by whole) before left ≡ code_of chs.names whole

same_fault : (chs : Channels) (whole before : List TextLine) (x : TextLine) (old all : Said) → old ≡ said_by before → all ≡ outline (said_by whole) → line_fault chs (said_by before) (said_by whole) x ≡ line_fault chs old all x
same_fault chs whole before x old all o a = ap (λ s. line_fault chs s (outline (said_by whole)) x) (sym o) ∙ ap (λ s. line_fault chs old s x) (sym a)

same_code : (chs : Channels) (whole before : List TextLine) (x : TextLine) (old all : Said) → old ≡ said_by before → all ≡ outline (said_by whole) → line_code chs.names old all x ≡ line_code chs.names (said_by before) (said_by whole) x
same_code chs whole before x old all o a = ap (λ s. line_code chs.names s all x) o ∙ ap (λ s. line_code chs.names (said_by before) s x) a

-- before the first line
pub unread : (chs : Channels) (now : Said) (code : List Line) (whole : List TextLine) → now ≡ nothing → code ≡ [] → IsRead chs now code whole whole
unread chs now code whole n c = record {
  before = [];
  parts = refl;
  said = n;
  few = omega (arith, ap (λ (s : Said). s.done) n);
  faults = refl;
  code = ap (λ c. c ++ code_of chs.names whole) c;
}

-- a line without a fault
pub read_on : (chs : Channels) (x : TextLine) (old new all : Said) (code more : List Line) (now later whole : List TextLine) → now ≡ x ∷ later → all ≡ outline (said_by whole) → new ≡ with_line old x → line_fault chs old all x ≡ None → more ≡ code ++ line_code chs.names old all x → IsRead chs old code now whole → IsRead chs new more later whole
read_on chs x old new all code more now later whole is a n f m r =
    let here = line_fault chs (said_by r.before) (said_by whole) x in
    let free : here ≡ None = same_fault chs whole r.before x old all r.said a ∙ f in
    let rest = faults_after chs (said_by whole) (r.before ++ x ∷ []) later in
    let coded = code_after chs.names (said_by whole) (r.before ++ x ∷ []) later in
    let own = line_code chs.names (said_by r.before) (said_by whole) x in
    record {
      before = r.before ++ x ∷ [];
      parts = append_assoc r.before (x ∷ []) later ∙ ap (λ ls. r.before ++ ls) (sym is) ∙ r.parts;
      said = n ∙ ap (λ s. with_line s x) r.said ∙ sym (fold-snoc with_line nothing r.before x);
      few = omega (arith, ap (λ (s : Said). s.done) n, count_le (does (line_body x).form), ap length is, r.few);
      faults = sym (ap (λ k. at_or x.number k rest) free) ∙ sym (ap (faults_after chs (said_by whole) r.before) is) ∙ r.faults;
      code = ap (λ c. c ++ coded) (m ∙ ap (λ c. code ++ c) (same_code chs whole r.before x old all r.said a)) ∙ append_assoc code own coded ∙ sym (ap (λ ls. code ++ code_after chs.names (said_by whole) r.before ls) is) ∙ r.code;
    }

-- a line with a fault
pub fault_on : (chs : Channels) (x : TextLine) (old all : Said) (code : List Line) (why : BundleFault) (now later whole : List TextLine) → now ≡ x ∷ later → all ≡ outline (said_by whole) → Causes why (at_or x.number (line_fault chs old all x) None) → IsRead chs old code now whole → Causes why (lines_fault chs whole)
fault_on chs x old all code why now later whole is a c r =
    subst (Causes why) (sym (ap (faults_after chs (said_by whole) r.before) is) ∙ r.faults)
    (caused why x.number _ _ (subst (λ k. Causes why (at_or x.number k None)) (sym (same_fault chs whole r.before x old all r.said a)) c))

-- the same, with the lines of later contexts
abbrev pub IsAlong : Channels → Said → List Line → LinesLeft → LinesLeft → Type 0
IsAlong chs noted made left whole = record {
  read : IsRead chs noted made (ahead left.lines) (ahead whole.lines);
  after : after left.lines ≡ after whole.lines;
  count : left.number + length left.lines ≡ whole.number + length whole.lines;
}

pub along : (chs : Channels) (x : TextLine) (old new all : Said) (code more : List Line) (left next whole : LinesLeft) → TakesInside left x next → all ≡ outline (said_by (ahead whole.lines)) → new ≡ with_line old x → line_fault chs old all x ≡ None → more ≡ code ++ line_code chs.names old all x → IsAlong chs old code left whole → IsAlong chs new more next whole
along chs x old new all code more left next whole t a n f m i = record {
  read = read_on chs x old new all code more (ahead left.lines) (ahead next.lines) (ahead whole.lines) t.ahead a n f m i.read;
  after = sym t.after ∙ i.after;
  count = omega (arith, t.number, ap length t.lines, i.count);
}

-- after the last line

pub read_all : (chs : Channels) (now : Said) (code : List Line) (left whole : List TextLine) → left ≡ [] → IsRead chs now code left whole → now ≡ said_by whole
read_all chs now code left whole is r = r.said ∙ ap said_by (sym (append-nil r.before) ∙ ap (λ ls. r.before ++ ls) (sym is) ∙ r.parts)

pub free_all : (chs : Channels) (now : Said) (code : List Line) (left whole : List TextLine) → left ≡ [] → IsRead chs now code left whole → lines_fault chs whole ≡ None
free_all chs now code left whole is r = sym r.faults ∙ ap (faults_after chs (said_by whole) r.before) is

pub coded_all : (chs : Channels) (now : Said) (code : List Line) (left whole : List TextLine) → left ≡ [] → IsRead chs now code left whole → code ≡ code_of chs.names whole
coded_all chs now code left whole is r = sym (append-nil code) ∙ sym (ap (λ ls. code ++ code_after chs.names (said_by whole) r.before ls) is) ∙ r.code

pub done_below : (chs : Channels) (now : Said) (code : List Line) (x : TextLine) (left later whole : List TextLine) → left ≡ x ∷ later → IsRead chs now code left whole → now.done < length whole
done_below chs now code x left later whole is r = omega (arith, r.few, ap length is)
