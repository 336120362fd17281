use Rattle.std.proofs.Common.{◌≡◌, ◌≤◌, ◌+◌, ◌^◌, ◌++◌, List, IsTrue, drop, take, length}
use Rattle.std.specs.List.{sum_by, list_all}
use Rattle.ut_value.specs.declared.entry.Op.{Op}
use Rattle.ut_value.specs.declared.entry.Entry.TheVariants.{Txn}
use Rattle.ut_value.specs.Spelling.{spelling, op_len, is_op}
use Rattle.ut_txn.specs.Seats.{opened_at, payload_at, spare_at, SeatSet}
use Rattle.ut_change.proofs.write.note_all.Given as goal

abbrev pub invariant-loop-op : goal.invariant-loop-op
invariant-loop-op l = record {
  rule : IsTrue (list_all is_op (drop l.op-index l.ops));
  room : sum_by op_len (drop l.op-index l.ops) ≤ spare_at l.sessions l.session;
  size : length (payload_at l.sessions l.session) + sum_by op_len (drop l.op-index l.ops) ≤ 2 ^ 30;
  grown : (ps : List Op) → payload_at l.fn.sessions l.session ≡ spelling (Txn ps) → payload_at l.sessions l.session ≡ spelling (Txn (ps ++ take l.op-index l.ops));
  set : SeatSet l.fn.sessions l.sessions l.session (opened_at l.fn.sessions l.session) (payload_at l.sessions l.session);
}
