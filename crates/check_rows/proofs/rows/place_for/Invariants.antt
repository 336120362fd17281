use Rattle.std.proofs.Common.{◌≡◌, ◌++◌, take, drop}
use Rattle.std.specs.Ordering.{nat_cmp}
use Rattle.std.specs.FinMap.Entries.{put}
use Rattle.ut_plain.specs.declared.table.Stored.{Stored}
use Rattle.check_rows.proofs.rows.place_for.Given as goal

-- the rows so far are before the id
abbrev pub invariant-loop-place : goal.invariant-loop-place
invariant-loop-place l = (v : Stored) → put nat_cmp l.id v l.rows ≡ take l.place l.rows ++ put nat_cmp l.id v (drop l.place l.rows)
