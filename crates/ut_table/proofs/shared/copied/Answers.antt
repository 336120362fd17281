use Rattle.std.proofs.Common.{◌∙◌, ap, length, arith}
use Rattle.std.proofs.lemmas.List.{length-take}
use Rattle.ut_table.proofs.CopyLemmas.{stage-row, copy-wide, copied-more, copied-all}
use Rattle.ut_table.proofs.shared.copied.Goals as goal

pub values_of-requires : goal.values_of-requires
values_of-requires c = stage-row c.requires c.loop-i.i (omega (arith, c.loop-i-test.true, c.len-i-end.ensures.len))

pub append-requires-clause-wide : goal.append-requires-clause-wide
append-requires-clause-wide c =
    copy-wide c.requires c.loop-i.i (omega (arith, c.loop-i-test.true, c.len-i-end.ensures.len)) c.row_id-id.result c.in_ok-values.values c.row_id-id.ensures c.in_ok-values.ensures c.loop-i.copy.width c.loop-i.invariant.0

pub append-requires-clause-count : goal.append-requires-clause-count
append-requires-clause-count c =
    omega (arith, ap length c.loop-i.invariant.1, length-take c.loop-i.i c.args.l2.now.rows, c.loop-i-test.true, c.len-i-end.ensures.len, c.len-i-end.ensures.few)

pub loop-i-preserved : goal.loop-i-preserved
loop-i-preserved c = (
  c.append.ensures.width ∙ c.loop-i.invariant.0,
  copied-more c.requires c.loop-i.i (omega (arith, c.loop-i-test.true, c.len-i-end.ensures.len)) c.row_id-id.result c.in_ok-values.values c.row_id-id.ensures c.in_ok-values.ensures
      c.loop-i.copy.rows c.append.new.self.rows c.loop-i.invariant.1 c.in_ok-append.ensures.ok,
)

pub returns : goal.returns
returns c = copied-all c.args.l2.now c.loop-i.copy c.loop-i.i (omega (arith, c.loop-i-test.false, c.len-i-end.ensures.len)) c.loop-i.invariant.0 c.loop-i.invariant.1
