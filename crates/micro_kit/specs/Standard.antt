-- What a read and a write of the standard ends do to the bytes that the reader and the writer behind them tell.
use Rattle.std.specs.Prelude.{ℕ, List, take, Option}
use Rattle.std.specs.Io.KnownBytes.{Keeps, Appends, Consumes, IsAtEnd}
use Rattle.micro_kit.specs.declared.stream.Got.{Got}
use Rattle.micro_kit.specs.declared.stream.Got.TheVariants as got
use Rattle.micro_kit.specs.declared.stream.Put.{Put}
use Rattle.micro_kit.specs.declared.stream.Put.TheVariants as put

-- one read: what it answers, the reader's bytes before and after it, the buffer
abbrev pub ReadsFrom : Got → Option (List ℕ) → Option (List ℕ) → List ℕ → Type 0
ReadsFrom (got.Bytes n) before after into = Consumes before after (take n into)
ReadsFrom got.End before after into = Keeps before after × IsAtEnd after
ReadsFrom got.Failed before after into = Keeps before after

-- one write: what it answers, the writer's bytes before and after it, the bytes to be written
abbrev pub WritesTo : Put → Option (List ℕ) → Option (List ℕ) → List ℕ → Type 0
WritesTo (put.Took n) before after from = Appends before after (take n from)
WritesTo put.Failed before after from = Keeps before after
