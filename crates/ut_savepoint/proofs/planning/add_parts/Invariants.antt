use Rattle.std.proofs.Common.{◌≡◌, ◌≤◌, ◌++◌, drop, length}
use Rattle.ut_durable.specs.Plans.{planned_of, reached_of}
use Rattle.ut_savepoint.specs.Planning.{pages_of, drafts_of}
use Rattle.ut_savepoint.proofs.planning.add_parts.Given as goal

abbrev pub invariant-loop-part : goal.invariant-loop-part
invariant-loop-part l =
    (pages_of (drop l.part-index l.parts) ≤ length l.left)
    × (record l.savepoint { planned = l.savepoint.planned ++ planned_of (drafts_of l.left (drop l.part-index l.parts)); reached = l.savepoint.reached ++ reached_of (drafts_of l.left (drop l.part-index l.parts)) }
    ≡ record l.fn.savepoint { planned = l.fn.savepoint.planned ++ planned_of (drafts_of l.pages l.parts); reached = l.fn.savepoint.reached ++ reached_of (drafts_of l.pages l.parts) })
