use Rattle.std.proofs.Common.{◌+◌, ◌≤◌, take}
use Rattle.check_rows.specs.Known.{Follows}
use Rattle.check_rows.proofs.known.follow_all.Given as goal

abbrev pub invariant-loop-entry : goal.invariant-loop-entry
invariant-loop-entry l = record {
  known : Follows l.fn.known (take l.entry-index l.entries) l.known;
  commits : l.known.commits ≤ l.fn.known.commits + l.entry-index;
  merges : l.known.merges ≤ l.fn.known.merges + l.entry-index;
}
