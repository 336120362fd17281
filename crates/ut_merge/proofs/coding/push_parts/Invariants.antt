use Rattle.std.proofs.Common.{◌≡◌, ◌++◌, map, take}
use Rattle.ut_merge.specs.Uniting.{behind}
use Rattle.ut_merge.proofs.coding.push_parts.Given as goal

abbrev pub invariant-loop-place : goal.invariant-loop-place
invariant-loop-place l = l.entries.items ≡ l.fn.entries.items ++ map (behind l.start) (take l.place-index l.places)
