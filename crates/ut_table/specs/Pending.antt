-- The pending merge of a table, as the rows of keys that it freezes.
use Rattle.std.specs.Prelude.{[], map, length, Option}
use Rattle.std.specs.Option.{option_map, unwrap_or}
use Rattle.ut_value.specs.KeyBytes.{key_of}
use Rattle.ut_plain.specs.declared.stage.PendingMerge.{PendingMerge}
use Rattle.ut_exact.specs.Places.{StagedRow}
use Rattle.ut_l2.specs.KeyRows.{KeyRow}
use Rattle.ut_staged.specs.Staged.{Staged}
use Rattle.ut_merge.specs.Jobs.{JobValue}

-- the keys of a row with a stamp
abbrev pub key_row : StagedRow → KeyRow
key_row row = record { id = row.id; keys = map key_of row.values }

abbrev pub job_of : Staged → PendingMerge → JobValue
job_of s head = record { head = head; width = length s.columns; parts = map (map key_row) s.parts; closed = map key_row (unwrap_or s.closed []); keep = s.keep }

-- the job of the pending merge, if one is pending
abbrev pub pending_job : Staged → Option JobValue
pending_job s = option_map (job_of s) s.merge
