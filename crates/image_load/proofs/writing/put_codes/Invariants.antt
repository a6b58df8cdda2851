use Rattle.std.proofs.Common.{◌≡◌, ◌++◌, take}
use Rattle.std.specs.List.{flat_map, AllByRecursion}
use Rattle.image_load.specs.Spelling.{code_bytes, FitsCode}
use Rattle.image_load.proofs.writing.put_codes.Given as goal

abbrev pub invariant-loop-code : goal.invariant-loop-code
invariant-loop-code l = (l.out.items ≡ l.fn.out.items ++ flat_map code_bytes (take l.code-index l.codes)) × AllByRecursion FitsCode (take l.code-index l.codes)
