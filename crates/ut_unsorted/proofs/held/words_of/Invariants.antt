use Rattle.std.proofs.Common.{◌≡◌, take}
use Rattle.ut_unsorted.specs.FirstSeen.{first_seen}
use Rattle.ut_unsorted.proofs.held.words_of.Given as goal

abbrev pub invariant-loop-word : goal.invariant-loop-word
invariant-loop-word l = l.set.keys ≡ first_seen (take l.word-index l.words)
