use Rattle.std.proofs.Common.{◌≡◌, ◌++◌, drop}
use Rattle.ut_crowd.specs.Texts.{book_text}
use Rattle.ut_crowd.proofs.text.put_book.Given as goal

abbrev pub invariant-loop-turn : goal.invariant-loop-turn
invariant-loop-turn l = l.out.items ++ book_text (drop l.turn-index l.book) ≡ l.fn.out.items ++ book_text l.book
