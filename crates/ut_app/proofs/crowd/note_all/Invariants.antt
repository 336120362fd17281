use Rattle.std.proofs.Common.{◌≡◌, ◌++◌, drop}
use Rattle.ut_crowd.specs.Book.{acks_in}
use Rattle.ut_app.proofs.crowd.note_all.Given as goal

abbrev pub invariant-loop-turn : goal.invariant-loop-turn
invariant-loop-turn l = l.acks.items ++ acks_in (drop l.turn-index l.book) ≡ l.fn.acks.items ++ acks_in l.book
