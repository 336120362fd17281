use Rattle.std.proofs.Common.{[], ◌∷◌, ◌++◌, ◌∙◌, ap}
use Rattle.ut_plain.specs.declared.table.Table.{Table}
use Rattle.ut_restart.proofs.filling.push_filled.Goals as goal

pub returns-clause-heads : goal.returns-clause-heads
returns-clause-heads c = c.in_ok-push.ensures.items ∙ ap (λ (t : Table). c.args.heads.now.items ++ t ∷ []) c.in_ok-table.ensures.table

pub returns-clause-filled : goal.returns-clause-filled
returns-clause-filled c = (c.in_ok-table.stages, c.in_ok-push-2.ensures.items, c.in_ok-table.ensures.stages)
