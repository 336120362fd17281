use Rattle.std.proofs.Common.{[], ◌∷◌, ◌++◌, ap, ◌∙◌}
use Rattle.ut_value.specs.declared.entry.Op.TheVariants.{Insert}
use Rattle.ut_value.specs.declared.entry.Entry.TheVariants.{Txn}
use Rattle.ut_value.specs.Spelling.{spelling}
use Rattle.ut_change.proofs.entering.Entering.note.Goals as goal

pub note_insert-requires-clause-rule : goal.note_insert-requires-clause-rule
note_insert-requires-clause-rule c = rw c.as_slice.ensures c.requires.rule

pub note_insert-requires-clause-room : goal.note_insert-requires-clause-room
note_insert-requires-clause-room c = rw c.as_slice.ensures c.requires.room

pub note_insert-requires-clause-size : goal.note_insert-requires-clause-size
note_insert-requires-clause-size c = rw c.as_slice.ensures c.requires.size

pub returns-clause-grown : goal.returns-clause-grown
returns-clause-grown c = λ ps is.
    c.note_insert.ensures.grown ps is
    ∙ ap (λ vs. spelling (Txn (ps ++ Insert c.args.self.now.table c.args.self.now.id vs ∷ []))) c.as_slice.ensures
