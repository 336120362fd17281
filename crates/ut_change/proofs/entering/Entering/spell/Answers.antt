use Rattle.std.proofs.Common.{[], ◌∷◌, length, ap, ◌∙◌, arith}
use Rattle.ut_value.specs.declared.entry.Op.TheVariants.{Insert}
use Rattle.ut_value.specs.declared.entry.Entry.TheVariants.{Txn}
use Rattle.ut_value.specs.Spelling.{spelling}
use Rattle.ut_change.proofs.entering.Entering.spell.Goals as goal

pub add_insert-requires-clause-rule : goal.add_insert-requires-clause-rule
add_insert-requires-clause-rule c = rw c.as_slice.ensures c.requires.rule

pub add_insert-requires-clause-room : goal.add_insert-requires-clause-room
add_insert-requires-clause-room c = let room = c.in_ok-room.ensures.ok in rw c.as_slice.ensures (omega (arith, room, c.requires.bytes))

pub add_insert-requires-clause-size : goal.add_insert-requires-clause-size
add_insert-requires-clause-size c =
    let empty = ap length (c.in_ok-room.ensures.payload ∙ c.clear.ensures.payload) in rw c.as_slice.ensures (omega (arith, empty, c.requires.bytes, c.requires.short))

pub returns : goal.returns
returns c =
    c.add_insert.ensures.added [] (c.in_ok-room.ensures.payload ∙ c.clear.ensures.payload)
    ∙ ap (λ vs. spelling (Txn (Insert c.args.self.now.table c.args.self.now.id vs ∷ []))) c.as_slice.ensures
