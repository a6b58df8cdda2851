-- The text of a run's report, line by line.
use Rattle.std.specs.Prelude.{◌≡◌, ℕ, ◌%◌, ◌^◌, ◌==◌, List, [], ◌∷◌, ◌++◌, length, map, filter, sum_by, count_by, not, Option, Some, None, slice_get, slice_index, decimal, codes, if◌then◌else◌}
use Rattle.std.specs.List.{flat_map, AllByRecursion}
use Rattle.micro_isa.specs.declared.program.Channel.{Channel}
use Rattle.micro_isa.specs.declared.program.Channel.TheVariants.{Inner, Input, Output}
use Rattle.micro_isa.specs.declared.image.Code.{Code}
use Rattle.micro_isa.specs.declared.image.Image.{Image}
use Rattle.world.specs.declared.event.Entry.{Entry}
use Rattle.world.specs.declared.event.Output.{Output as Put}
use Rattle.world.specs.declared.event.Phase.{Phase}
use Rattle.world.specs.declared.event.Phase.TheVariants.{Ready, Due, Receiving, Sending, Halted, Trapped}
use Rattle.world.specs.declared.event.View.{View}
use Rattle.world.specs.declared.event.End.{End}
use Rattle.world.specs.declared.event.End.TheVariants.{Finished, Stuck, Bound, Idle}
use Rattle.report_run.specs.declared.report.Outcome.{Outcome}
use Rattle.micro_kit.specs.Text.{newline, numbers, number_line, in_order}
use Rattle.journal_text.specs.Entries.{trap_word, entry_line, IsFitting}

abbrev pub need_line : Option ℕ → List ℕ
need_line None = []
need_line (Some need) = number_line (codes "need ") need

abbrev pub private_sizes : List Code → List ℕ
private_sizes contexts = flat_map (λ code. 32 ∷ decimal code.private.size) contexts

abbrev pub private_part : List Code → List ℕ
private_part contexts = codes "budget private" ++ private_sizes contexts

-- the sizes of the private ranges and of the shared one
abbrev pub budget_line : Image → List ℕ
budget_line m = private_part m.contexts ++ number_line (codes " shared ") m.shared.size

-- how many words of an image are not counted
abbrev pub glue_words : Image → ℕ
glue_words m = sum_by (λ code. count_by (λ word. not word.counted) code.words) m.contexts

abbrev pub image_lines : Option Image → List ℕ
image_lines None = []
image_lines (Some m) = budget_line m ++ number_line (codes "glue ") (glue_words m)

-- the words that were put out on a channel
abbrev pub put_on : ℕ → List Put → List ℕ
put_on k outputs = map (λ o. o.word) (filter (λ o. o.channel == k) outputs)

abbrev pub output_words : ℕ → List ℕ → List ℕ
output_words k words = codes "output " ++ decimal k ++ numbers words ++ newline

-- of an output channel, its words, also where there are none
abbrev pub output_line : List Put → ℕ → Option Channel → List ℕ
output_line outputs k (Some (Output port)) = output_words k (put_on k outputs)
output_line outputs k _ = []

abbrev pub held_line : ℕ → List ℕ → List ℕ
held_line k words = if length words == 0 then [] else codes "queue " ++ decimal k ++ numbers words ++ newline

-- of an inner or an input channel that holds words, the initial ones and then those of its ring
abbrev pub queue_line : ℕ → Option Channel → Option (List ℕ) → Option (List ℕ) → List ℕ
queue_line k (Some (Inner capacity)) (Some left) (Some ring) = held_line k (left ++ ring)
queue_line k (Some (Input words port)) (Some left) (Some ring) = held_line k (left ++ ring)
queue_line k _ _ _ = []

-- of a word of memory that is not 0
abbrev pub memory_line : ℕ → ℕ → List ℕ
memory_line address word = if word == 0 then [] else codes "memory " ++ decimal address ++ codes " " ++ decimal word ++ newline

-- what a context waits for
abbrev pub phase_words : Phase → List ℕ
phase_words Ready = codes "ready"
phase_words (Due word) = codes "due " ++ decimal word
phase_words (Receiving k) = codes "receive " ++ decimal k
phase_words (Sending k word) = codes "send " ++ decimal k ++ codes " " ++ decimal word
phase_words Halted = codes "halted"
phase_words (Trapped trap line) = trap_word trap ++ codes " " ++ decimal line

abbrev pub context_line : ℕ → Option Phase → List ℕ
context_line c None = []
context_line c (Some phase) = codes "context " ++ decimal c ++ codes " " ++ phase_words phase ++ newline

abbrev pub file_line : Option (List ℕ) → List ℕ
file_line None = []
file_line (Some file) = codes "file" ++ numbers file ++ newline

-- how a run ended; one that has not is open
abbrev pub ending_word : Option End → List ℕ
ending_word None = codes "open"
ending_word (Some Finished) = codes "finished"
ending_word (Some Stuck) = codes "stuck"
ending_word (Some Bound) = codes "bound"
ending_word (Some Idle) = codes "idle"

abbrev pub end_line : Option End → List ℕ
end_line ending = codes "end " ++ ending_word ending ++ newline

abbrev pub output_lines : List Channel → List Put → List ℕ
output_lines channels outputs = in_order (length channels) (λ k. output_line outputs k (slice_get channels k))

abbrev pub queue_lines : List Channel → View → List ℕ
queue_lines channels v =
    in_order (length channels) (λ k. queue_line k (slice_get channels k) (slice_get v.left k) (slice_get v.rings k))

abbrev pub memory_lines : List ℕ → List ℕ
memory_lines memory = in_order (length memory) (λ address. memory_line address (slice_index memory address))

abbrev pub context_lines : List Phase → List ℕ
context_lines phases = in_order (length phases) (λ c. context_line c (slice_get phases c))

-- channels, memory and contexts
abbrev pub view_lines : List Channel → View → List ℕ
view_lines channels v =
    output_lines channels v.outputs ++ queue_lines channels v ++ memory_lines v.memory ++ context_lines v.phases

-- the whole report, of the need, the image, the channels, the journal, and how the run stands at its end
unfoldable pub report_text : Option ℕ → Option Image → List Channel → List Entry → Outcome → List ℕ
report_text need image channels entries last =
    need_line need
    ++ image_lines image
    ++ flat_map entry_line entries
    ++ view_lines channels last.view
    ++ file_line last.file
    ++ number_line (codes "steps ") last.view.steps
    ++ end_line last.ending

-- no other entries have this text where all else is the same
abbrev pub TellsEntries : List ℕ → Option ℕ → Option Image → List Channel → List Entry → Outcome → Type 0
TellsEntries text need image channels entries last =
    (others : List Entry) → AllByRecursion IsFitting entries → AllByRecursion IsFitting others → text ≡ report_text need image channels others last → others ≡ entries

-- the sum of the words that were put out, modulo 2^32
abbrev pub sum_out : List Put → ℕ
sum_out outputs = sum_by (λ o. o.word) outputs % 2 ^ 32

-- what is told of the run of a generated bundle: its number, its need, its image, how many entries and steps the run had,
-- what it put out, and how it ended
unfoldable pub soak_summary : ℕ → ℕ → Image → ℕ → ℕ → List Put → Option End → List ℕ
soak_summary number need image entries steps outputs ending =
    number_line (codes "soak ") number
    ++ number_line (codes "need ") need
    ++ image_lines (Some image)
    ++ number_line (codes "segments ") entries
    ++ number_line (codes "steps ") steps
    ++ number_line (codes "sum ") (sum_out outputs)
    ++ end_line ending
