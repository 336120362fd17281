use Rattle.std.proofs.Common.{◌≡◌, ◌+◌, ◌≤◌, ◌++◌, drop, vec_len, vec_capacity}
use Rattle.std.specs.List.{flat_map, sum_by}
use Rattle.ut_image.specs.Bytes.{cell_bytes}
use Rattle.ut_image.specs.Steps.{cell_len}
use Rattle.ut_image.proofs.put.put_cells.Given as goal

abbrev pub invariant-loop-value : goal.invariant-loop-value
invariant-loop-value l = record {
  written : l.out.items ++ flat_map cell_bytes (drop l.value-index l.values) ≡ l.fn.out.items ++ flat_map cell_bytes l.values;
  length : vec_len l.out + sum_by cell_len (drop l.value-index l.values) ≡ vec_len l.fn.out + sum_by cell_len l.values;
  room : vec_capacity l.fn.out ≤ vec_capacity l.out;
}
