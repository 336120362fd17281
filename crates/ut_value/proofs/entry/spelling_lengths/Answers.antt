use Rattle.ut_value.proofs.SpellingLengths.{op_length, entry_length}
use Rattle.ut_value.proofs.entry.spelling_lengths.Goals as goal

pub returns-clause-ops : goal.returns-clause-ops
returns-clause-ops c = op_length

pub returns-clause-entries : goal.returns-clause-entries
returns-clause-entries c = entry_length
