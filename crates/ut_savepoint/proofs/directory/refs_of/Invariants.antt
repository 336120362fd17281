use Rattle.std.proofs.Common.{◌≡◌, ◌++◌, drop}
use Rattle.ut_savepoint.specs.Planning.{pages_of, refs_of}
use Rattle.ut_savepoint.proofs.directory.refs_of.Given as goal

abbrev pub invariant-loop-i : goal.invariant-loop-i
invariant-loop-i l = (l.refs.items ++ refs_of l.left (drop l.i l.parts) ≡ refs_of l.pages l.parts) × (drop (pages_of (drop l.i l.spelled)) l.left ≡ drop (pages_of l.spelled) l.pages)
