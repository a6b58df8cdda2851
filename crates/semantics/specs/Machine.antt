-- What an image means: one file of registers for all contexts, all 0 at first.
use Rattle.std.specs.Prelude.{ℕ, List, [], replicate, Option, Some, None, slice_get, slice_set, slice_index, ◌==◌, if◌then◌else◌, length}
use Rattle.micro_isa.specs.declared.image.PReg.{PReg}
use Rattle.micro_isa.specs.declared.image.Word.{Word}
use Rattle.micro_isa.specs.declared.image.Code.{Code}
use Rattle.micro_isa.specs.declared.image.Image.{Image}
use Rattle.semantics.specs.Core.{opening_core}
use Rattle.semantics.specs.Events.{Semantics, Config}
use Rattle.semantics.specs.Effects.{SavedContext}
use Rattle.semantics.specs.Stretches.{Numbered, Kind, ActiveContext, stretch_in, stretch_of}

abbrev pub read_in : List ℕ → PReg → ℕ
read_in file r = slice_index file r.0

abbrev pub write_in : List ℕ → PReg → ℕ → List ℕ
write_in file r v = slice_set file r.0 v

abbrev pub numbered_word : Word → Numbered PReg
numbered_word w = record { instr = w.instr; line = w.line; counted = w.counted }

abbrev pub machine_kind : Kind Word PReg (List ℕ)
machine_kind = record { numbered = numbered_word; read = read_in; write = write_in }

-- the file, and what each context keeps
pub record Machine : Type 0 where
  pub file : List ℕ
  pub contexts : ℕ → SavedContext PReg

abbrev pub active : Machine → ℕ → ActiveContext PReg (List ℕ)
active x c = record { kept = x.contexts c; values = x.file }

abbrev pub with_active : Machine → ℕ → ActiveContext PReg (List ℕ) → Machine
with_active x c r = record { file = r.values; contexts = λ d. if d == c then r.kept else x.contexts d }

abbrev pub words_in : Option Code → List Word
words_in None = []
words_in (Some code) = code.words

abbrev pub words_of : Image → ℕ → List Word
words_of m c = words_in (slice_get m.contexts c)

-- a stretch of one context of an image
abbrev pub machine_semantics : Image → Semantics Machine
machine_semantics m x c given = stretch_in (with_active x c) (stretch_of machine_kind c (words_of m c) given (active x c))

-- the opening of an image under a bound
abbrev pub machine_open : Image → ℕ → Config Machine
machine_open m bound = record {
  core = opening_core m.setting (length m.contexts) bound;
  state = record { file = replicate m.file 0; contexts = λ c. record { at = 0; pending = None } };
}
