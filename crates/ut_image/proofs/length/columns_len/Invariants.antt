use Rattle.std.proofs.Common.{◌≡◌, ◌+◌, ◌<◌, ◌^◌, drop}
use Rattle.std.specs.List.{sum_by}
use Rattle.ut_value.specs.Spelling.{column_len}
use Rattle.ut_image.proofs.length.columns_len.Given as goal

abbrev pub invariant-loop-column : goal.invariant-loop-column
invariant-loop-column l = record {
  sum : l.len + sum_by column_len (drop l.column-index l.columns) ≡ sum_by column_len l.columns;
  fits : l.len < 2 ^ 64;
}
