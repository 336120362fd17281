use Rattle.std.proofs.Common.{◌≡◌, ◌≤◌, ◌+◌, ◌-◌, ◌^◌, ◌++◌, List, drop, take, length}
use Rattle.ut_value.specs.declared.entry.Op.{Op}
use Rattle.ut_value.specs.declared.entry.Entry.TheVariants.{Txn}
use Rattle.ut_value.specs.Spelling.{spelling, ops_len}
use Rattle.ut_txn.specs.Seats.{opened_at, payload_at, spare_at, SeatSet}
use Rattle.ut_change.specs.Bulks.{bulk_ops, CanLoad}
use Rattle.ut_change.proofs.bulk.Bulk.note.Given as goal

abbrev pub invariant-loop-rest : goal.invariant-loop-rest
invariant-loop-rest l = record {
  is : CanLoad l.rest;
  from : l.self.id ≤ l.rest.id;
  left : drop (l.rest.id - l.self.id) (bulk_ops l.self) ≡ bulk_ops l.rest;
  room : ops_len (bulk_ops l.rest) ≤ spare_at l.sessions l.session;
  size : length (payload_at l.sessions l.session) + ops_len (bulk_ops l.rest) ≤ 2 ^ 30;
  grown : (ps : List Op) → payload_at l.fn.sessions l.session ≡ spelling (Txn ps)
      → payload_at l.sessions l.session ≡ spelling (Txn (ps ++ take (l.rest.id - l.self.id) (bulk_ops l.self)));
  set : SeatSet l.fn.sessions l.sessions l.session (opened_at l.fn.sessions l.session) (payload_at l.sessions l.session);
}

abbrev pub decreases-loop-rest : goal.decreases-loop-rest
decreases-loop-rest l = length l.rest.values.now
