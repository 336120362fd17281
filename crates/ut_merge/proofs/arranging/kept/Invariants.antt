use Rattle.std.proofs.Common.{◌≡◌, ◌<◌, ℕ, [], length, get_or}
use Rattle.ut_prefix.specs.Chain.{shared_dicts}
use Rattle.ut_merge.specs.Jobs.{kept_rows}
use Rattle.ut_merge.specs.Columns.{codes_in, IsColumn}
use Rattle.ut_merge.proofs.arranging.kept.Given as goal

abbrev pub invariant-loop-column : goal.invariant-loop-column
invariant-loop-column g l =
    (length l.dicts.items ≡ l.column) × (length l.codes.items ≡ l.column)
    × ((j : ℕ) → j < l.column → IsColumn l.job j (kept_rows l.job) (get_or (shared_dicts l.dicts.items) j []) (get_or (codes_in l.codes.items) j []))
