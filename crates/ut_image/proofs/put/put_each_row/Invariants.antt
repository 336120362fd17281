use Rattle.std.proofs.Common.{◌≡◌, ◌+◌, ◌≤◌, ◌++◌, drop, vec_len, vec_capacity}
use Rattle.std.specs.List.{flat_map, sum_by}
use Rattle.ut_image.specs.Bytes.{row_bytes}
use Rattle.ut_image.specs.Steps.{row_len}
use Rattle.ut_image.proofs.put.put_each_row.Given as goal

abbrev pub invariant-loop-row : goal.invariant-loop-row
invariant-loop-row l = record {
  written : l.out.items ++ flat_map row_bytes (drop l.row-index l.rows) ≡ l.fn.out.items ++ flat_map row_bytes l.rows;
  length : vec_len l.out + sum_by row_len (drop l.row-index l.rows) ≡ vec_len l.fn.out + sum_by row_len l.rows;
  room : vec_capacity l.fn.out ≤ vec_capacity l.out;
}
