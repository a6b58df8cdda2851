-- The first fault of the lines before the first context.
use Rattle.std.specs.Prelude.{ℕ, ◌+◌, ◌||◌, ◌&&◌, not, nat_le, nat_lt, nat_eq, Bool, true, false, List, [], ◌∷◌, Option, Some, is_some, length, slice_get}
use Rattle.std.specs.List.{list_any, filter_map}
use Rattle.micro_isa.specs.declared.program.Channel.{Channel}
use Rattle.micro_isa.specs.declared.program.Channel.TheVariants as channel
use Rattle.micro_isa.specs.Formed.{port_of}
use Rattle.asm_lines.specs.declared.fault.BundleKind.{BundleKind}
use Rattle.asm_lines.specs.declared.fault.BundleKind.TheVariants as kind
use Rattle.asm_lines.specs.Cutting.{TextLine}
use Rattle.asm_lines.specs.Faults.{At, first_kind}
use Rattle.asm_lines.specs.Verdicts.{Verdict, first_fault}
use Rattle.micro_isa.specs.declared.limits.TheConstants.{MOST_CHANNELS, MOST_INITIAL_WORDS, MOST_FILE, MOST_MEMORY, MOST_RING, MOST_PORTS}
use Rattle.asm_lines.specs.Numbers.{number_or, is_no_number}
use Rattle.asm_lines.specs.Tables.{knows, place_of, misnamed, one}
use Rattle.asm_header.specs.Forms.{HeaderForm, File, Memory, Initial, header_form, is_unknown, is_miscounted, makes, fills, numbers_in, ring_in, port_in}
use Rattle.asm_header.specs.Headers.{Header, no_header, with_line}

abbrev pub is_from : ℕ → ℕ → List ℕ → Bool
is_from least most word = nat_le least (number_or word) && nat_le (number_or word) most

-- a size of the file or of memory outside its range, or too many initial words
abbrev pub is_size_past : Header → HeaderForm → Bool
is_size_past h (File size) = not (is_from 1 MOST_FILE size)
is_size_past h (Memory size) = not (is_from 0 MOST_MEMORY size)
is_size_past h (Initial name numbers) = nat_lt MOST_INITIAL_WORDS (h.words + length numbers)
is_size_past h _ = false

-- a size outside its range, a ring's capacity too, or one channel too many
abbrev pub is_past_limit : Header → HeaderForm → Bool
is_past_limit h form =
    is_size_past h form
    || (list_any (λ capacity. not (is_from 1 MOST_RING capacity)) (ring_in form)
    || list_any (λ name. nat_le MOST_CHANNELS (length h.names)) (one (makes form)))

-- a number that is no port's, or that of an earlier channel's port
abbrev pub is_bad_port : List Channel → ℕ → Bool
is_bad_port channels port = nat_le MOST_PORTS port || list_any (nat_eq port) (filter_map port_of channels)

-- a second size, or a channel of an earlier name
abbrev pub is_repeated : Header → HeaderForm → Bool
is_repeated h (File size) = is_some h.file
is_repeated h (Memory size) = is_some h.memory
is_repeated h form = list_any (knows h.names) (one (makes form))

abbrev pub is_input : Option Channel → Bool
is_input (Some (channel.Input words port)) = true
is_input _ = false

-- whether a line has a fault of this kind, where `h` is what the earlier lines say
abbrev pub form_test : Header → Bool → HeaderForm → BundleKind → Bool
form_test h fair form kind.Byte = not fair
form_test h fair form kind.Directive = is_unknown form
form_test h fair form kind.Operands = is_miscounted form
form_test h fair form kind.Name = misnamed (one (makes form)) || misnamed (one (fills form))
form_test h fair form kind.Number = list_any is_no_number (numbers_in form)
form_test h fair form kind.Limit = is_past_limit h form
form_test h fair form kind.Port = list_any (λ port. is_bad_port h.channels (number_or port)) (port_in form)
form_test h fair form kind.Repeated = is_repeated h form
form_test h fair form kind.ChannelUnknown = list_any (λ name. not (knows h.names name)) (one (fills form))
form_test h fair form kind.ChannelKind = list_any (λ name. not (is_input (slice_get h.channels (place_of h.names name)))) (one (fills form))
form_test h fair form _ = false

abbrev pub form_fault : Header → Bool → HeaderForm → Option BundleKind
form_fault h fair form = first_kind (form_test h fair form)

abbrev pub line_fault : Header → TextLine → Option BundleKind
line_fault h line = form_fault h line.fair (header_form line.words)

-- on lines, where `h` is what the earlier ones say
abbrev pub verdicts_after : Header → List TextLine → List (Verdict BundleKind)
verdicts_after h [] = []
verdicts_after h (line ∷ lines) = (line.number, line_fault h line) ∷ verdicts_after (with_line h line) lines

-- on the lines before the first context
abbrev pub header_verdicts : List TextLine → List (Verdict BundleKind)
header_verdicts lines = verdicts_after no_header lines

abbrev pub faults_after : Header → List TextLine → Option At
faults_after h lines = first_fault (verdicts_after h lines)

-- the first fault of the lines before the first context
abbrev pub header_fault : List TextLine → Option At
header_fault lines = first_fault (header_verdicts lines)
