-- The inserts of a bulk, whose values stand one row's behind the other's.
use Rattle.std.specs.Prelude.{◌+◌, ◌<◌, ◌^◌, IsTrue, List, length}
use Rattle.std.specs.List.{list_all}
use Rattle.ut_value.specs.declared.value.Row.{Row}
use Rattle.ut_value.specs.declared.entry.Op.{Op}
use Rattle.ut_value.specs.Spelling.{is_op}
use Rattle.ut_plain.specs.Made.{rows_of, inserts}
use Rattle.ut_change.specs.Loads.{numbered}
use Rattle.ut_change.specs.declared.bulk.Bulk.{Bulk}

-- its rows, under their ids
abbrev pub bulk_rows : Bulk → List Row
bulk_rows b = numbered b.id (rows_of b.width b.values.now)

-- the inserts of its rows
abbrev pub bulk_ops : Bulk → List Op
bulk_ops b = inserts b.table b.id (rows_of b.width b.values.now)

-- Its rows have values and ids, and their inserts can be spelled.
pub record CanLoad (b : Bulk) : Type 0 where
  pub width : 0 < b.width
  pub ids : b.id + length (rows_of b.width b.values.now) < 2 ^ 32
  pub rule : IsTrue (list_all is_op (bulk_ops b))
