use Rattle.ut_unsorted.proofs.HeldLemmas.{note-found}
use Rattle.ut_unsorted.proofs.held.intern_text.Goals as goal

pub returns-in-Some-clause-keys : goal.returns-in-Some-clause-keys
returns-in-Some-clause-keys c = note-found c.args.key.now c.args.texts.now.keys c.in-Some.code c.in-Some.ensures
