-- How a column's own dictionary is made, and where its codes of before lead.
use Rattle.std.specs.Prelude.{◌≡◌, ℕ, Bool, List, length, Option}
use Rattle.ut_dictmerge.specs.Merge.{places}
use Rattle.ut_merge.specs.declared.seeking.Sought.{Sought}
use Rattle.ut_merge.specs.Jobs.{JobValue}
use Rattle.ut_merge.specs.Columns.{closed_keys, rebuilt_keys, staying_keys}
use Rattle.ut_merge.specs.Uniting.{entries_of, IsUnited}

-- the used keys of the rebuilt parts' dictionaries united with the closed stage's new ones, and entries that lead to them behind the keys that stay
pub record IsMadeOf (job : JobValue) (column : ℕ) (used : List Bool) (sought : Sought) (keys : List (List ℕ)) (entries : List (Option ℕ)) : Type 0 where
  pub united : IsUnited (rebuilt_keys job column (length job.parts)) used (closed_keys job column) sought.new.items keys (places keys (rebuilt_keys job column (length job.parts)) used) (places keys (closed_keys job column) sought.new.items)
  pub entries_are : entries ≡ entries_of (length (staying_keys job column)) (places keys (rebuilt_keys job column (length job.parts)) used) (places keys (closed_keys job column) sought.new.items) sought.found.items
