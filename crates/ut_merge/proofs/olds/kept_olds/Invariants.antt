use Rattle.std.proofs.Common.{◌≡◌, ◌++◌, ◌<◌, ◌≤◌, ℕ, drop}
use Rattle.ut_plain.specs.Merges.{flagged_all}
use Rattle.ut_main.specs.Parts.{AreWide}
use Rattle.ut_merge.specs.Jobs.{kept_olds, stay_of}
use Rattle.ut_merge.specs.Places.{list_at, old_lists}
use Rattle.ut_merge.proofs.olds.kept_olds.Given as goal

abbrev pub invariant-loop-list : goal.invariant-loop-list
invariant-loop-list l =
    (l.olds.items ++ flagged_all (drop l.list (old_lists l.job)) (drop l.list l.job.keep) ≡ kept_olds l.job)
    × ((g : ℕ) → stay_of l.job ≤ g → g < l.list → AreWide l.job.width (list_at l.job g))
