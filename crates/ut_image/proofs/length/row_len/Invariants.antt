use Rattle.std.proofs.Common.{◌≡◌, ◌+◌, ◌<◌, ◌^◌, drop}
use Rattle.std.specs.List.{sum_by}
use Rattle.ut_image.specs.Steps.{cell_len}
use Rattle.ut_image.proofs.length.row_len.Given as goal

abbrev pub invariant-loop-value : goal.invariant-loop-value
invariant-loop-value l = record {
  sum : l.len + sum_by cell_len (drop l.value-index l.row.values) ≡ sum_by cell_len l.row.values;
  fits : l.len < 2 ^ 64;
}
