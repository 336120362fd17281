use Rattle.std.proofs.Common.{length}
use Rattle.ut_plain.specs.Made.{rows_of}
use Rattle.ut_change.specs.Loads.{numbered}
use Rattle.ut_tables.proofs.rows.Rows.load.Given as goal

abbrev pub ghost-load_values : goal.ghost-load_values
ghost-load_values a = numbered a.first_id (rows_of (length a.self.now.stages.columns) a.values.now)
