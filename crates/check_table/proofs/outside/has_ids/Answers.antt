use Rattle.std.proofs.Common.{sym, subst}
use Rattle.std.specs.Prelude.{IsSome}
use Rattle.ut_staged.specs.Staged.{row_at}
use Rattle.check_table.proofs.OutsideLemmas.{is-there}
use Rattle.check_table.proofs.outside.has_ids.Goals as goal

pub row-requires : goal.row-requires
row-requires g c =
    subst (λ p. IsSome (row_at c.args.table.now.stages p)) (sym c.place.ensures)
    (is-there c.args.stage c.args.table.now.stages c.stamps_in-stamps.result.now c.loop-i.i c.stamps_in-stamps.ensures.stamps c.loop-i-test.true)
