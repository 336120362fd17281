use Rattle.std.proofs.Common.{◌≡◌, ◌++◌, drop}
use Rattle.ut_savepoint.specs.Planning.{spelled_all}
use Rattle.ut_savepoint.proofs.directory.spell_parts.Given as goal

abbrev pub invariant-loop-table : goal.invariant-loop-table
invariant-loop-table l = l.spelled ++ spelled_all (drop l.table-index l.tables) ≡ spelled_all l.tables
