use Rattle.std.proofs.Common.{◌≡◌, ◌+◌, ◌≤◌, drop, map, sum}
use Rattle.micro_isa.specs.declared.limits.TheConstants.{MOST_INITIAL_WORDS}
use Rattle.micro_isa.specs.Formed.{initial_count}
use Rattle.micro_isa.proofs.formed_setting.have_few_words.Given as goal

abbrev pub invariant-loop-channel : goal.invariant-loop-channel
invariant-loop-channel l = (l.left ≤ MOST_INITIAL_WORDS) × (sum (map initial_count (drop l.channel-index l.channels)) + MOST_INITIAL_WORDS ≡ sum (map initial_count l.channels) + l.left)
