use Rattle.std.proofs.Common.{[], ap, ◌∙◌, sym, subst}
use Rattle.ut_staged.specs.Staged.{no_rows}
use Rattle.ut_change.specs.Writes.{CanWrite}
use Rattle.ut_tables.specs.Rows.{Rows}
use Rattle.check_tables.proofs.TablesLemmas.{can_write, first}
use Rattle.check_tables.proofs.tables.writes.Goals as goal

pub write_all-requires-clause-can : goal.write_all-requires-clause-can
write_all-requires-clause-can g c =
    let s = no_rows c.args.columns.now in
    first c.room.new.self.rows s (λ t. CanWrite t [] c.in_ok-insert.field-0.items) (ap (λ (r : Rows). r.staged) c.room.ensures.rows ∙ c.requires)
    (subst (λ os. CanWrite s [] os) (sym c.in_ok-insert.ensures) (can_write c.args.columns.now c.in_ok-values.values cc))
