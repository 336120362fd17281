-- The job of the pending merge.
use Rattle.std.specs.Prelude.{Option}
use Rattle.std.specs.Option.{option_and_then}
use Rattle.ut_plain.specs.declared.stage.PendingMerge.{PendingMerge}
use Rattle.ut_merge.specs.Jobs.{JobValue}
use Rattle.ut_tables.specs.Merging.{job_at}
use Rattle.ut_store.specs.Held.{Held}

-- that of its table
abbrev pub pending_job : Held → Option JobValue
pending_job e = option_and_then (λ (m : PendingMerge). job_at e.rows m.table) e.counts.pending
