use Rattle.std.proofs.Common.{None, []}
use Rattle.ut_staged.specs.Staged.{no_rows}
use Rattle.ut_tables.specs.Finds.{CanScan}
use Rattle.check_tables.proofs.TablesLemmas.{can_scan, first}
use Rattle.check_tables.proofs.tables.looks.Goals as goal

pub first_taken-requires : goal.first_taken-requires
first_taken-requires g c = first c.args.rows.now.rows (no_rows c.args.columns.now) _ c.requires tt

pub hits-requires : goal.hits-requires
hits-requires g c =
    let fates = c.args.rows.now.rows.fates in
    first c.args.rows.now.rows (no_rows c.args.columns.now) (CanScan fates 3 None []) c.requires (can_scan fates 3 None c.args.columns.now)
