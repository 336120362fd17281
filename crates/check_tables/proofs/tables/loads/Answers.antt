use Rattle.std.proofs.Common.{[]}
use Rattle.ut_staged.specs.Staged.{no_rows}
use Rattle.ut_tables.specs.Changed.{CanTake}
use Rattle.ut_tables.proofs.LoadLemmas.{can_take}
use Rattle.check_tables.proofs.TablesLemmas.{first}
use Rattle.check_tables.proofs.tables.loads.Goals as goal

pub load-requires-clause-takes : goal.load-requires-clause-takes
load-requires-clause-takes g c =
    let s = no_rows c.args.columns.now in
    first c.args.rows.now.rows s (CanTake c.args.bulk) c.requires (can_take s [] c.args.bulk c.can_take.ensures.write c.can_take.ensures.wide)
