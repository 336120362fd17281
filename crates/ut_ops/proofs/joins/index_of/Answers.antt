use Rattle.std.proofs.Common.{◌<◌, length, ◌∙◌, arith}
use Rattle.ut_ops.proofs.JoinLemmas.{index-next, value-read}
use Rattle.ut_ops.proofs.joins.index_of.Goals as goal

pub loop-row-preserved : goal.loop-row-preserved
loop-row-preserved c =
    let s = c.args.table.now.stages in
    let lt : c.loop-row.row < length c.args.hits.now = omega arith in
    index-next s c.args.column c.args.hits.now c.loop-row.row _ c.loop-row.index c.list.new.index c.new.result lt
    (c.new.ensures ∙ c.in_ok-value.ensures ∙ value-read s c.args.column c.args.hits.now c.loop-row.row _ c.in_ok-keys.keys c.value.result.now lt c.in_ok-keys.ensures c.value.ensures) c.loop-row.invariant c.in_ok-list.ensures
