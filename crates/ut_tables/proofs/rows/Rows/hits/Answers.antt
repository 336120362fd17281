use Rattle.std.proofs.Common.{refl, sym, ap, subst}
use Rattle.std.proofs.lemmas.Result.{IfOk-weaker}
use Rattle.ut_plain.specs.Compiled.{Compiles}
use Rattle.ut_staged.specs.Staged.{Staged}
use Rattle.ut_tables.specs.Rows.{RowsValue}
use Rattle.ut_tables.specs.contracts.rows.Rows.{the_view}
use Rattle.ut_tables.proofs.IndexLemmas.{read_is}
use Rattle.ut_tables.proofs.FoundLemmas.{hits_in}
use Rattle.ut_tables.proofs.rows.Rows.hits.Goals as goal

pub returns : goal.returns
returns c =
    IfOk-weaker c.scan.result _ _
    (λ found f s asked at comp.
    let here = read_is (the_view c.self.inside) _ c.self.inside.stages.items c.args.place c.index.result.now c.index.result.now c.self.view_is refl c.index.ensures s at in
    hits_in c.args.self.now.rows c.args.at c.args.own c.args.place asked c.index.result.now.stages s c.self.inside.fates found.items at here (ap (λ (x : RowsValue). x.rows.fates) c.self.view_is)
    (f asked (subst (λ (t : Staged). Compiles t.columns asked c.args.preds.now) (sym here) comp)))
    c.scan.ensures
