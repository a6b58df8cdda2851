-- What the source and the sink in memory answer to each call.
use Rattle.std.specs.Prelude.{◌==◌, ℕ, zero, suc, ◌+◌, ◌-◌, ◌^◌, min, List, [], ◌++◌, length, take, drop, if◌then◌else◌}
use Rattle.std.specs.List.{list_any}
use Rattle.micro_kit.specs.declared.stream.Got.{Got}
use Rattle.micro_kit.specs.declared.stream.Got.TheVariants as got
use Rattle.micro_kit.specs.declared.stream.Put.{Put}
use Rattle.micro_kit.specs.declared.stream.Put.TheVariants as put

-- a count that stands still at the greatest u64
abbrev pub counted : ℕ → ℕ
counted n = min (n + 1) (2 ^ 64 - 1)

-- a source in memory: the bytes left, the most that a call gives, the calls that fail, and the counts so far
pub record SourceState : Type 0 where
  pub left : List ℕ
  pub piece : ℕ
  pub failing : List ℕ
  pub calls : ℕ
  pub faults : ℕ

-- a source at its beginning
abbrev pub source_of : List ℕ → ℕ → List ℕ → SourceState
source_of bytes piece failing = record { left = bytes; piece = piece; failing = failing; calls = 0; faults = 0 }

abbrev pub got_of : ℕ → Got
got_of zero = got.End
got_of (suc n) = got.Bytes (suc n)

-- what a read into a buffer of this length gives
abbrev pub given : SourceState → ℕ → Got
given s room =
    if list_any (λ call. call == s.calls) s.failing then got.Failed else got_of (min (min s.piece room) (length s.left))

-- the source after a read that gave this
abbrev pub after_read : SourceState → Got → SourceState
after_read s (got.Bytes n) = record s { left = drop n s.left; calls = counted s.calls }
after_read s got.End = record s { calls = counted s.calls }
after_read s got.Failed = record s { calls = counted s.calls; faults = counted s.faults }

-- a sink in memory: the bytes taken, the room left, the most that a call takes, the calls that fail, and the counts so far
pub record SinkState : Type 0 where
  pub wrote : List ℕ
  pub room : ℕ
  pub piece : ℕ
  pub failing : List ℕ
  pub calls : ℕ
  pub faults : ℕ

-- a sink at its beginning
abbrev pub sink_of : ℕ → List ℕ → ℕ → SinkState
sink_of piece failing room = record { wrote = []; room = room; piece = piece; failing = failing; calls = 0; faults = 0 }

abbrev pub put_of : ℕ → Put
put_of zero = put.Failed
put_of (suc n) = put.Took (suc n)

-- what a write of this many bytes does
abbrev pub taken : SinkState → ℕ → Put
taken s len =
    if list_any (λ call. call == s.calls) s.failing then put.Failed else put_of (min (min s.piece len) s.room)

-- the sink after a write of these bytes that did this
abbrev pub after_write : SinkState → Put → List ℕ → SinkState
after_write s (put.Took n) from = record s { wrote = s.wrote ++ take n from; room = s.room - n; calls = counted s.calls }
after_write s put.Failed from = record s { calls = counted s.calls; faults = counted s.faults }
