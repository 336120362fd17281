use Rattle.ut_txn.specs.Seats.{AreEmpty}
use Rattle.ut_txn.proofs.sessions.Sessions.new.Given as goal

abbrev pub invariant-loop : goal.invariant-loop
invariant-loop l = AreEmpty l.counter l.seats.items
