use Rattle.std.proofs.Common.{◌≡◌, take}
use Rattle.ut_txn.specs.Seats.{snapshots_of}
use Rattle.ut_txn.proofs.sessions.Sessions.snapshots.Given as goal

abbrev pub invariant-loop-seat : goal.invariant-loop-seat
invariant-loop-seat l = l.snapshots.items ≡ snapshots_of (take l.seat-index l.self)
