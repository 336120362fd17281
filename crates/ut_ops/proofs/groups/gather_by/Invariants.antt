use Rattle.std.proofs.Common.{◌≡◌, map, take}
use Rattle.ut_ops.specs.Noted.{AreNoted}
use Rattle.ut_ops.specs.Tally.{tallies, entry_of}
use Rattle.ut_ops.specs.Gathered.{entry_in, AreFew, AreMarks}
use Rattle.ut_ops.proofs.groups.gather_by.Given as goal

abbrev pub invariant-loop-hit : goal.invariant-loop-hit
invariant-loop-hit l = record {
  noted : AreNoted l.table.stages l.sum l.noted;
  marks : AreMarks l.table.stages l.key l.marks l.gathered.items;
  few : AreFew l.hit-index l.gathered.items;
  sums : tallies (map entry_in l.gathered.items) ≡ tallies (map (entry_of l.table.stages l.key l.sum) (take l.hit-index l.hits));
}
