use Rattle.std.proofs.Common.{refl}
use Rattle.std.proofs.lemmas.Result.{on_ok_weaker, on_err_weaker}
use Rattle.ut_staged.specs.Staged.{merged_l1}
use Rattle.ut_tables.specs.contracts.rows.Rows.{the_view}
use Rattle.ut_tables.proofs.IndexLemmas.{changed_to, kept_as}
use Rattle.ut_tables.proofs.rows.Rows.merge_l1.Goals as goal

pub returns-clause-ok : goal.returns-clause-ok
returns-clause-ok c =
    on_ok_weaker c.merge_l1.result (changed_to (the_view c.self.inside) _ c.self.inside.stages.items c.args.place c.index_mut.result.now c.merge_l1.new.self c.self.view_is refl c.index_mut.ensures.value (merged_l1 c.args.n)) c.merge_l1.ensures.ok

pub returns-clause-err : goal.returns-clause-err
returns-clause-err c =
    on_err_weaker c.merge_l1.result (kept_as (the_view c.self.inside) _ c.self.inside.stages.items c.args.place c.index_mut.result.now c.merge_l1.new.self c.self.view_is refl c.index_mut.ensures.value) c.merge_l1.ensures.err
