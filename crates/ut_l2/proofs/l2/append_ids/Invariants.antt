use Rattle.std.proofs.Common.{◌≡◌, ◌++◌, ◌≤◌, ◌+◌, ◌-◌, length, map, take, vec_len, vec_capacity}
use Rattle.ut_l2.proofs.l2.append_ids.Given as goal

abbrev pub invariant-loop-row : goal.invariant-loop-row
invariant-loop-row l = record { room : vec_len l.ids + (length l.rows - l.row-index) ≤ vec_capacity l.ids; ids : l.ids.items ≡ l.fn.ids.items ++ map (λ r. r.id) (take l.row-index l.rows) }
