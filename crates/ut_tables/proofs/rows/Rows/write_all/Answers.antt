use Rattle.std.proofs.Common.{refl}
use Rattle.ut_staged.specs.Staging.{written}
use Rattle.ut_table.specs.Finds.{hits_of}
use Rattle.ut_tables.specs.contracts.rows.Rows.{the_view}
use Rattle.ut_tables.proofs.IndexLemmas.{changed_to}
use Rattle.ut_tables.proofs.rows.Rows.write_all.Goals as goal

pub returns : goal.returns
returns c =
    changed_to (the_view c.self.inside) _ c.self.inside.stages.items c.args.place c.index_mut.result.now c.write_all.new.table c.self.view_is refl c.index_mut.ensures.value
    (written c.args.number c.args.ops.items (hits_of c.args.hits.now)) c.write_all.ensures
