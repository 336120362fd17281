use Rattle.std.proofs.Common.{◌≡◌, ◌++◌, drop}
use Rattle.ut_savepoint.specs.Planning.{spelled_in}
use Rattle.ut_savepoint.proofs.directory.add_spelled.Given as goal

abbrev pub invariant-loop-part : goal.invariant-loop-part
invariant-loop-part l = l.spelled ++ spelled_in (drop l.part-index l.parts) ≡ l.fn.spelled ++ spelled_in l.parts
