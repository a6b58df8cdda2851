-- The first fault of a context's lines.
use Rattle.std.specs.Prelude.{ℕ, ◌||◌, ◌&&◌, not, nat_lt, nat_eq, Bool, false, List, [], ◌∷◌, ◌++◌, Option, is_some, length, slice_get, if◌then◌else◌}
use Rattle.std.specs.List.{list_any}
use Rattle.micro_isa.specs.declared.program.Channel.{Channel}
use Rattle.micro_isa.specs.Formed.{gives_words, takes_words}
use Rattle.asm_lines.specs.declared.fault.BundleKind.{BundleKind}
use Rattle.asm_lines.specs.declared.fault.BundleKind.TheVariants as kind
use Rattle.asm_lines.specs.Cutting.{Words, TextLine}
use Rattle.asm_lines.specs.Faults.{At, first_kind}
use Rattle.asm_lines.specs.Verdicts.{Verdict, first_fault}
use Rattle.micro_isa.specs.declared.limits.TheConstants.{MOST_REGISTERS, MOST_INSTRUCTIONS}
use Rattle.asm_lines.specs.Numbers.{is_no_number}
use Rattle.asm_lines.specs.Tables.{knows, place_of, misnamed, one}
use Rattle.asm_context.specs.Forms.{Body, is_unknown, is_miscounted, does, ends, registers_in, goes_to, receives_from, sends_to, number_in}
use Rattle.asm_context.specs.Said.{Said, with_body, line_body, said_by}

-- the channels that a text has so far, with their names
pub record Channels : Type 0 where
  pub names : Words
  pub kinds : List Channel

abbrev pub channels : Words → List Channel → Channels
channels names kinds = record { names = names; kinds = kinds }

-- a label, register or channel whose name is none
abbrev pub is_misnamed : Body → Bool
is_misnamed b =
    misnamed (one b.label) || (misnamed (registers_in b.form) || (misnamed (one (goes_to b.form))
    || (misnamed (one (receives_from b.form)) || misnamed (one (sends_to b.form)))))

abbrev pub is_stray : Channels → Option (List ℕ) → Bool
is_stray chs channel = list_any (λ name. not (knows chs.names name)) (one channel)

-- a receive from a channel that gives no words
abbrev pub gives_none : Channels → Option (List ℕ) → Bool
gives_none chs channel = list_any (λ name. not (gives_words (slice_get chs.kinds (place_of chs.names name)))) (one channel)

-- a send to a channel that takes no words
abbrev pub takes_none : Channels → Option (List ℕ) → Bool
takes_none chs channel = list_any (λ name. not (takes_words (slice_get chs.kinds (place_of chs.names name)))) (one channel)

-- an instruction that is neither `jmp` nor `halt`, or a label alone
abbrev pub is_loose : Body → Bool
is_loose b = if does b.form then not (ends b.form) else is_some b.label

-- whether a line has a fault of this kind: `twice` where its label stands earlier, `now` what the lines say as far as
-- this one, `all` what all lines of the context say
abbrev pub body_test : Channels → Bool → Said → Said → Bool → Body → BundleKind → Bool
body_test chs twice now all fair b kind.Byte = not fair
body_test chs twice now all fair b kind.Directive = is_unknown b.form
body_test chs twice now all fair b kind.Operands = is_miscounted b.form
body_test chs twice now all fair b kind.Name = is_misnamed b
body_test chs twice now all fair b kind.Number = list_any is_no_number (one (number_in b.form))
body_test chs twice now all fair b kind.Limit = nat_lt MOST_REGISTERS (length now.registers) || nat_lt MOST_INSTRUCTIONS now.done
body_test chs twice now all fair b kind.LabelTwice = twice
body_test chs twice now all fair b kind.ChannelUnknown = is_stray chs (receives_from b.form) || is_stray chs (sends_to b.form)
body_test chs twice now all fair b kind.ChannelKind = gives_none chs (receives_from b.form) || takes_none chs (sends_to b.form)
body_test chs twice now all fair b kind.LabelUnknown = list_any (λ label. not (knows all.labels label)) (one (goes_to b.form))
body_test chs twice now all fair b kind.FallsOff = nat_eq now.done all.done && is_loose b
body_test chs twice now all fair b _ = false

abbrev pub body_fault : Channels → Bool → Said → Said → Bool → Body → Option BundleKind
body_fault chs twice now all fair b = first_kind (body_test chs twice now all fair b)

-- the fault of a line: `earlier` is what the earlier lines of its context say, `all` what all say
abbrev pub line_fault : Channels → Said → Said → TextLine → Option BundleKind
line_fault chs earlier all line =
    body_fault chs (list_any (knows earlier.labels) (one (line_body line).label)) (with_body earlier (line_body line)) all line.fair (line_body line)

-- on lines, after these lines of their context
abbrev pub verdicts_after : Channels → Said → List TextLine → List TextLine → List (Verdict BundleKind)
verdicts_after chs all before [] = []
verdicts_after chs all before (line ∷ lines) =
    (line.number, line_fault chs (said_by before) all line) ∷ verdicts_after chs all (before ++ line ∷ []) lines

-- on a context's lines
abbrev pub body_verdicts : Channels → List TextLine → List (Verdict BundleKind)
body_verdicts chs lines = verdicts_after chs (said_by lines) [] lines

abbrev pub faults_after : Channels → Said → List TextLine → List TextLine → Option At
faults_after chs all before lines = first_fault (verdicts_after chs all before lines)

-- the first fault of a context's lines
abbrev pub lines_fault : Channels → List TextLine → Option At
lines_fault chs lines = first_fault (body_verdicts chs lines)
