use Rattle.std.proofs.Common.{◌≡◌, ◌∙◌, length, sym, ap, subst, arith}
use Rattle.ut_plain.specs.Made.{rows_of}
use Rattle.ut_plain.proofs.MadeLemmas.{inserts_of-inserts}
use Rattle.ut_staged.specs.Staged.{no_rows}
use Rattle.ut_change.specs.declared.bulk.Bulk.{Bulk}
use Rattle.ut_change.specs.Bulks.{CanLoad}
use Rattle.check_tables.proofs.TablesLemmas.{first}
use Rattle.check_tables.proofs.tables.loads_alone.Goals as goal

pub works-requires-clause-loads : goal.works-requires-clause-loads
works-requires-clause-loads g c = λ b is.
    let same : c.args.bulk ≡ b = cc in
    (subst CanLoad same c.can_take.ensures.load, first c.args.rows.now.rows (no_rows c.args.columns.now) (λ s. b.width ≡ length s.columns) c.requires (sym (ap (λ (x : Bulk). x.width) same) ∙ c.can_take.ensures.wide))

pub works-requires-clause-count : goal.works-requires-clause-count
works-requires-clause-count g c =
    let b = c.args.bulk in
    let all = inserts_of-inserts b.table b.id (rows_of b.width b.values.now) in
    let count = c.rows_in.ensures in
    omega (arith, all, count)
