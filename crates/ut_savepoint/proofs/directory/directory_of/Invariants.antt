use Rattle.std.proofs.Common.{◌≡◌, ◌++◌, drop}
use Rattle.ut_savepoint.specs.Planning.{spelled_all, tables_bytes, directory_of}
use Rattle.ut_savepoint.proofs.directory.directory_of.Given as goal

abbrev pub invariant-loop-table : goal.invariant-loop-table
invariant-loop-table l = (l.out.items ++ tables_bytes l.left (drop l.table-index l.tables) ≡ directory_of l.pages l.tables) × (l.more ≡ spelled_all (drop l.table-index l.tables))
