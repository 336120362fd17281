use Rattle.std.proofs.Common.{◌≡◌, ◌+◌, suc, drop, sym, ◌∙◌, ap, subst, arith}
use Rattle.ut_table.specs.Finds.{hits_of}
use Rattle.ut_change.specs.Writes.{AreThere}
use Rattle.ut_change.specs.Conflicts.{first_taken_in}
use Rattle.ut_change.proofs.ConflictLemmas.{there_behind, taken_behind}
use Rattle.ut_change.proofs.conflict.first_taken_in.Goals as goal

pub loop-hit-preserved : goal.loop-hit-preserved
loop-hit-preserved c =
    let at = c.loop-hit in
    let s = c.args.table.now.stages in
    let next : suc at.hit-index ≡ at.hit-index + 1 = omega arith in
    record {
      there = subst (λ i. AreThere s (hits_of (drop i c.args.hits.now))) next (there_behind s c.args.hits.now at.hit-index c.loop-hit-test.true at.invariant.there);
      rest = ap (λ i. first_taken_in s c.args.snapshot.fates.now c.args.snapshot.at c.args.snapshot.own (hits_of (drop i c.args.hits.now))) (sym next)
          ∙ taken_behind s c.args.snapshot.fates.now c.args.snapshot.at c.args.snapshot.own c.args.hits.now at.hit-index _ c.stamp-stamp.result c.loop-hit-test.true at.invariant.there c.stamp-stamp.ensures (sym c.takes.ensures ∙ c.if-takes.false)
          ∙ at.invariant.rest;
    }
