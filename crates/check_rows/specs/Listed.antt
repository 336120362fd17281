-- Operations on the list of rows by ascending id.
use Rattle.std.specs.Prelude.{ℕ, not, nat_eq, List, [], ◌∷◌}
use Rattle.std.specs.List.{filter}
use Rattle.std.specs.Ordering.{nat_cmp}
use Rattle.std.specs.FinMap.Entries.{put}
use Rattle.ut_value.specs.declared.entry.Op.{Op}
use Rattle.ut_value.specs.declared.entry.Op.TheVariants as ops
use Rattle.ut_plain.specs.declared.table.Stored.{Stored}

-- the rows after an operation
abbrev pub listed : List (ℕ × Stored) → Op → List (ℕ × Stored)
listed rows (ops.Insert table id values) = put nat_cmp id (record { table = table; values = values }) rows
listed rows (ops.Delete table id) = filter (λ e. not (nat_eq e.0 id)) rows

-- the rows after these operations
abbrev pub listed_all : List (ℕ × Stored) → List Op → List (ℕ × Stored)
listed_all rows [] = rows
listed_all rows (op ∷ ops) = listed_all (listed rows op) ops
