use Rattle.std.proofs.Common.{◌≡◌, ◌+◌, ◌<◌, ◌^◌, drop}
use Rattle.std.specs.List.{sum_by}
use Rattle.ut_image.specs.Steps.{row_len}
use Rattle.ut_image.proofs.length.rows_len.Given as goal

abbrev pub invariant-loop-row : goal.invariant-loop-row
invariant-loop-row l = record {
  sum : l.len + sum_by row_len (drop l.row-index l.rows) ≡ sum_by row_len l.rows;
  fits : l.len < 2 ^ 64;
}
