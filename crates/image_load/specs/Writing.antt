-- What a formed image gives each of its parts: numbers that fit their fields.
use Rattle.std.specs.Prelude.{◌<◌, ◌≤◌, length}
use Rattle.micro_isa.specs.declared.program.Channel.{Channel}
use Rattle.micro_isa.specs.declared.image.Code.{Code}
use Rattle.micro_isa.specs.declared.limits.TheConstants.{MOST_FILE, MOST_INITIAL_WORDS, MOST_WORDS}
use Rattle.image_load.specs.Spelling.{part_of, initial_words}

pub record IsSmallPart (c : Channel) : Type 0 where
  pub capacity : (part_of c).capacity < 65536
  pub count : length (initial_words c) ≤ MOST_INITIAL_WORDS

pub record IsSmallCode (code : Code) : Type 0 where
  pub start : code.private.start ≤ MOST_FILE
  pub size : code.private.size ≤ MOST_FILE
  pub count : length code.words ≤ MOST_WORDS
