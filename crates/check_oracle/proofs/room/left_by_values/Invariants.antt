use Rattle.std.proofs.Common.{◌≡◌, ◌+◌, take, sum_by}
use Rattle.ut_value.specs.Spelling.{value_len}
use Rattle.check_oracle.proofs.room.left_by_values.Given as goal

abbrev pub invariant-loop-value : goal.invariant-loop-value
invariant-loop-value l = l.left + sum_by value_len (take l.value-index l.values) ≡ l.room
