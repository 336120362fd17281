use Rattle.std.proofs.Common.{◌≡◌, length}
use Rattle.ut_ops.specs.Seen.{AreSeen}
use Rattle.ut_ops.proofs.gather.walked.Given as goal

-- so many codes of main have their marks
abbrev pub invariant-loop-code : goal.invariant-loop-code
invariant-loop-code l = record {
  seen : AreSeen l.table.stages l.column l.values.items l.marks.items;
  marks : length l.marks.items ≡ l.code;
}

abbrev pub invariant-loop : goal.invariant-loop
invariant-loop l = AreSeen l.table.stages l.column l.values.items l.marks.items
