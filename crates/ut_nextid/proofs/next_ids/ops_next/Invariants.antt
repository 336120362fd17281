use Rattle.std.proofs.Common.{◌≡◌, drop}
use Rattle.ut_nextid.specs.NextIds.{ops_next}
use Rattle.ut_nextid.proofs.next_ids.ops_next.Given as goal

abbrev pub invariant-loop-op : goal.invariant-loop-op
invariant-loop-op l = record { so_far : ops_next l.behind (drop l.op-index l.ops) ≡ ops_next l.next l.ops }
