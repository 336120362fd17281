use Rattle.std.proofs.Common.{[], sym, ap, subst}
use Rattle.ut_plain.specs.Rows.{inserts_of}
use Rattle.ut_staged.specs.Staged.{no_rows}
use Rattle.ut_change.specs.Writes.{CanWrite}
use Rattle.check_tables.proofs.TablesLemmas.{can_write, first}
use Rattle.check_tables.proofs.tables.writes_alone.Goals as goal

pub works-requires-clause-can : goal.works-requires-clause-can
works-requires-clause-can g c =
    let s = no_rows c.args.columns.now in
    first c.args.rows.now.rows s (λ t. CanWrite t [] c.in_ok-ops.ops.items) c.requires
    (subst (λ os. CanWrite s [] os) (sym c.in_ok-ops.ensures) (can_write c.args.columns.now c.in_ok-values.values cc))

pub works-requires-clause-count : goal.works-requires-clause-count
works-requires-clause-count g c = sym (ap inserts_of c.in_ok-ops.ensures)
