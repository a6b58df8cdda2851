-- One line further in the header.
use Rattle.std.proofs.Common.{◌≡◌, ◌+◌, length, fold, None, sym, ap, ◌∙◌, subst, arith}
use Rattle.asm_lines.specs.declared.fault.BundleFault.{BundleFault}
use Rattle.asm_lines.specs.Cutting.{TextLine}
use Rattle.asm_lines.specs.Faults.{Causes}
use Rattle.asm_lines.specs.Sections.{ahead, after, LinesLeft, TakesInside}
use Rattle.asm_lines.specs.Verdicts.{at_or}
use Rattle.asm_lines.proofs.Causing.{caused}
use Rattle.asm_header.specs.Headers.{Header, with_line, header_of}
use Rattle.asm_header.specs.Faults.{line_fault, faults_after, header_fault}
use Rattle.asm_header.specs.Sound.{IsSound}
use Rattle.asm_header.proofs.Sounding.{sound_line}

-- as far as the lines before the next context were read
abbrev pub IsAlong : Header → LinesLeft → LinesLeft → Type 0
IsAlong h left whole = record {
  faults : faults_after h (ahead left.lines) ≡ header_fault (ahead whole.lines);
  said : fold with_line h (ahead left.lines) ≡ header_of (ahead whole.lines);
  sound : IsSound h;
  after : after left.lines ≡ after whole.lines;
  count : left.number + length left.lines ≡ whole.number + length whole.lines;
}

-- a line without a fault
pub read_on : (h new : Header) (x : TextLine) (left next whole : LinesLeft) → TakesInside left x next → new ≡ with_line h x → line_fault h x ≡ None → IsAlong h left whole → IsAlong new next whole
read_on h new x left next whole t n f i =
    let later = ahead next.lines in record {
      faults =
          ap (λ k. faults_after k later) n
          ∙ sym (ap (λ k. at_or x.number k (faults_after (with_line h x) later)) f)
          ∙ sym (ap (faults_after h) t.ahead)
          ∙ i.faults;
      said = ap (λ k. fold with_line k later) n ∙ sym (ap (fold with_line h) t.ahead) ∙ i.said;
      sound = subst IsSound (sym n) (sound_line h x i.sound f);
      after = sym t.after ∙ i.after;
      count = omega (arith, t.number, ap length t.lines, i.count);
    }

-- a line with a fault
pub fault_on : (h : Header) (x : TextLine) (left next whole : LinesLeft) (why : BundleFault) → TakesInside left x next → Causes why (at_or x.number (line_fault h x) None) → IsAlong h left whole → Causes why (header_fault (ahead whole.lines))
fault_on h x left next whole why t c i =
    subst (Causes why) (sym (ap (faults_after h) t.ahead) ∙ i.faults) (caused why x.number (line_fault h x) (faults_after (with_line h x) (ahead next.lines)) c)
