use Rattle.std.proofs.Common.{◌≡◌, length, get_or, ap, arith}
use Rattle.std.proofs.lemmas.List.Sums.{sum_by_more_le}
use Rattle.ut_plain.specs.declared.stage.TableStages.{TableStages}
use Rattle.check_oracle.proofs.oracle.parts_of.Goals as goal

pub overflow_add-parts : goal.overflow_add-parts
overflow_add-parts c =
    let parts = λ (t : TableStages). length t.parts in
    let more = sum_by_more_le parts c.args.stages.now c.loop-table.table-index c.table-item.result (omega arith) in
    let here : length c.table-item.result.parts ≡ length (get_or c.args.stages.now c.loop-table.table-index c.table-item.result).parts = ap parts c.table-item.is in
    omega (arith, c.requires, more, here, c.loop-table.invariant)
