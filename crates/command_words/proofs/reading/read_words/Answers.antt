use Rattle.std.proofs.Common.{map, string_bytes}
use Rattle.command_words.proofs.Laws.{read_strays}
use Rattle.command_words.proofs.reading.read_words.Goals as goal

pub returns-clause-strays : goal.returns-clause-strays
returns-clause-strays c = read_strays c.meaning_in.result (map string_bytes c.args.words.now) c.meaning_in.ensures.meaning
