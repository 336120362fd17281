use Rattle.std.proofs.Common.{◌≡◌, ◌<◌, ◌+◌, ◌^◌, drop}
use Rattle.ut_savepoint.specs.Planning.{pages_of}
use Rattle.ut_savepoint.proofs.planning.pages_of.Given as goal

abbrev pub invariant-loop-part : goal.invariant-loop-part
invariant-loop-part l = (l.count < 2 ^ 32) × (l.count + pages_of (drop l.part-index l.parts) ≡ l.more + pages_of l.parts)
