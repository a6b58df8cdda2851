-- What the lines before the first context say.
use Rattle.std.specs.Prelude.{ℕ, ◌+◌, ◌++◌, List, [], ◌∷◌, Option, Some, None, map, length, fold, slice_get, slice_set, unwrap_or, ◌<◌}
use Rattle.micro_isa.specs.declared.program.Channel.{Channel}
use Rattle.micro_isa.specs.declared.program.Channel.TheVariants as channel
use Rattle.micro_isa.specs.declared.program.Setting.{Setting}
use Rattle.asm_lines.specs.Cutting.{Words, TextLine}
use Rattle.micro_isa.specs.declared.limits.TheConstants.{MOST_PORTS}
use Rattle.asm_lines.specs.Numbers.{number_or}
use Rattle.asm_lines.specs.Tables.{declare, place_of, one}
use Rattle.asm_header.specs.Forms.{HeaderForm, File, Memory, Inner, Input, PortInput, Output, PortOutput, Initial, header_form, makes}

-- the sizes, the channels with their names, and how many initial words there are in all
pub record Header : Type 0 where
  pub file : Option ℕ
  pub memory : Option ℕ
  pub names : Words
  pub channels : List Channel
  pub words : ℕ

-- before any line
abbrev pub no_header : Header
no_header = record { file = None; memory = None; names = []; channels = []; words = 0 }

-- the channel that a line makes
abbrev pub made_by : HeaderForm → Option Channel
made_by (Inner name capacity) = Some (channel.Inner (number_or capacity))
made_by (Input name) = Some (channel.Input [] None)
made_by (PortInput name port capacity) = Some (channel.Input [] (Some (record { number = number_or port; capacity = number_or capacity })))
made_by (Output name) = Some (channel.Output None)
made_by (PortOutput name port) = Some (channel.Output (Some (number_or port)))
made_by _ = None

-- a channel's port number is below 16
abbrev pub PortFits : HeaderForm → Type 0
PortFits (PortInput name port capacity) = number_or port < MOST_PORTS
PortFits (PortOutput name port) = number_or port < MOST_PORTS
PortFits _ = Unit {0}

-- an input with more initial words
abbrev pub filled : List ℕ → Channel → Channel
filled more (channel.Input words port) = channel.Input (words ++ more) port
filled more other = other

abbrev pub replaced : List Channel → ℕ → List ℕ → Option Channel → List Channel
replaced channels at more None = channels
replaced channels at more (Some c) = slice_set channels at (filled more c)

-- the channels, of which the one at this place has more initial words
abbrev pub filled_at : List Channel → ℕ → List ℕ → List Channel
filled_at channels at more = replaced channels at more (slice_get channels at)

-- the channels with one more, where there is one
abbrev pub with_made : List Channel → Option Channel → List Channel
with_made channels None = channels
with_made channels (Some c) = channels ++ c ∷ []

abbrev pub file_after : Option ℕ → HeaderForm → Option ℕ
file_after file (File size) = Some (number_or size)
file_after file _ = file

abbrev pub memory_after : Option ℕ → HeaderForm → Option ℕ
memory_after memory (Memory size) = Some (number_or size)
memory_after memory _ = memory

abbrev pub channels_after : Words → List Channel → HeaderForm → List Channel
channels_after names channels (Initial name numbers) = filled_at channels (place_of names name) (map number_or numbers)
channels_after names channels form = with_made channels (made_by form)

abbrev pub words_after : ℕ → HeaderForm → ℕ
words_after words (Initial name numbers) = words + length numbers
words_after words _ = words

-- what is said with one more line
abbrev pub with_form : Header → HeaderForm → Header
with_form h form = record {
  file = file_after h.file form;
  memory = memory_after h.memory form;
  names = fold declare h.names (one (makes form));
  channels = channels_after h.names h.channels form;
  words = words_after h.words form;
}

abbrev pub with_line : Header → TextLine → Header
with_line h line = with_form h (header_form line.words)

-- what these lines say
abbrev pub header_of : List TextLine → Header
header_of lines = fold with_line no_header lines

-- memory and channels, where no line `memory` says another size than 0
abbrev pub setting_of : Header → Setting
setting_of h = record { memory = unwrap_or h.memory 0; channels = h.channels }
