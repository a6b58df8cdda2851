-- What the words of a line before the first context say.
use Rattle.std.specs.Prelude.{ℕ, Bool, true, false, List, [], ◌∷◌, if◌then◌else◌, codes, Option, Some, None}
use Rattle.std.specs.Str.{bytes_eq}
use Rattle.asm_lines.specs.Cutting.{Words}

-- the form of a line, with its operands as words that are not judged yet
pub data HeaderForm : Type 0 where
  Blank : HeaderForm
  File : (size : List ℕ) → HeaderForm
  Memory : (size : List ℕ) → HeaderForm
  Inner : (name capacity : List ℕ) → HeaderForm
  Input : (name : List ℕ) → HeaderForm
  PortInput : (name port capacity : List ℕ) → HeaderForm
  Output : (name : List ℕ) → HeaderForm
  PortOutput : (name port : List ℕ) → HeaderForm
  Initial : (name : List ℕ) (numbers : Words) → HeaderForm
  Miscounted : HeaderForm
  Unknown : HeaderForm

-- `N`
abbrev pub file_form : Words → HeaderForm
file_form (size ∷ []) = File size
file_form _ = Miscounted

-- `N`
abbrev pub memory_form : Words → HeaderForm
memory_form (size ∷ []) = Memory size
memory_form _ = Miscounted

-- `NAME N`
abbrev pub inner_form : Words → HeaderForm
inner_form (name ∷ capacity ∷ []) = Inner name capacity
inner_form _ = Miscounted

abbrev pub is_port_word : List ℕ → Bool
is_port_word word = bytes_eq word (codes "port")

abbrev pub port_input_form : List ℕ → List ℕ → List ℕ → List ℕ → HeaderForm
port_input_form name word port capacity = if is_port_word word then PortInput name port capacity else Miscounted

-- `NAME`, or `NAME port P N`
abbrev pub input_form : Words → HeaderForm
input_form (name ∷ []) = Input name
input_form (name ∷ word ∷ port ∷ capacity ∷ []) = port_input_form name word port capacity
input_form _ = Miscounted

abbrev pub port_output_form : List ℕ → List ℕ → List ℕ → HeaderForm
port_output_form name word port = if is_port_word word then PortOutput name port else Miscounted

-- `NAME`, or `NAME port P`
abbrev pub output_form : Words → HeaderForm
output_form (name ∷ []) = Output name
output_form (name ∷ word ∷ port ∷ []) = port_output_form name word port
output_form _ = Miscounted

-- `NAME N ..`, with one number or more
abbrev pub words_form : Words → HeaderForm
words_form [] = Miscounted
words_form (name ∷ []) = Miscounted
words_form (name ∷ number ∷ numbers) = Initial name (number ∷ numbers)

abbrev pub directive_form : List ℕ → Words → HeaderForm
directive_form directive operands =
    if bytes_eq directive (codes "file") then file_form operands
    else (if bytes_eq directive (codes "memory") then memory_form operands
    else (if bytes_eq directive (codes "inner") then inner_form operands
    else (if bytes_eq directive (codes "input") then input_form operands
    else (if bytes_eq directive (codes "output") then output_form operands
    else (if bytes_eq directive (codes "words") then words_form operands
    else Unknown)))))

-- the form of a line of these words
abbrev pub header_form : Words → HeaderForm
header_form [] = Blank
header_form (directive ∷ operands) = directive_form directive operands

abbrev pub is_unknown : HeaderForm → Bool
is_unknown Unknown = true
is_unknown _ = false

abbrev pub is_miscounted : HeaderForm → Bool
is_miscounted Miscounted = true
is_miscounted _ = false

-- the channel that a line makes
abbrev pub makes : HeaderForm → Option (List ℕ)
makes (Inner name capacity) = Some name
makes (Input name) = Some name
makes (PortInput name port capacity) = Some name
makes (Output name) = Some name
makes (PortOutput name port) = Some name
makes _ = None

-- the channel that a line gives initial words
abbrev pub fills : HeaderForm → Option (List ℕ)
fills (Initial name numbers) = Some name
fills _ = None

-- the operands that must be numbers
abbrev pub numbers_in : HeaderForm → Words
numbers_in (File size) = size ∷ []
numbers_in (Memory size) = size ∷ []
numbers_in (Inner name capacity) = capacity ∷ []
numbers_in (PortInput name port capacity) = port ∷ capacity ∷ []
numbers_in (PortOutput name port) = port ∷ []
numbers_in (Initial name numbers) = numbers
numbers_in _ = []

-- the capacity of a channel's ring
abbrev pub ring_in : HeaderForm → Words
ring_in (Inner name capacity) = capacity ∷ []
ring_in (PortInput name port capacity) = capacity ∷ []
ring_in _ = []

-- the port of a channel
abbrev pub port_in : HeaderForm → Words
port_in (PortInput name port capacity) = port ∷ []
port_in (PortOutput name port) = port ∷ []
port_in _ = []
