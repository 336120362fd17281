use Rattle.std.proofs.Common.{◌∙◌, ℕ, List, Option, sym, ap, subst, slice_get}
use Rattle.std.proofs.lemmas.Result.{IfOk-weaker}
use Rattle.ut_plain.specs.Condition.{meets}
use Rattle.ut_key.specs.declared.comparison.ColumnPred.{ColumnPred}
use Rattle.ut_table.specs.Finds.{hits_of}
use Rattle.ut_plain.specs.Compiled.{Compiles}
use Rattle.ut_look.specs.Look.{Sight}
use Rattle.ut_tables.specs.Finds.{CanScan, Hits}
use Rattle.ut_tables.specs.Rows.{HasTable}
use Rattle.ut_store.specs.Held.{Held}
use Rattle.ut_store.specs.Reads.{looks_at, own_at}
use Rattle.ut_store.proofs.SearchLemmas.{select_look, select_looked}
use Rattle.ut_store.proofs.store.Store.selected.Goals as goal

pub hits-requires : goal.hits-requires
hits-requires c =
    let e = c.args.self.now in
    let n = c.args.rows.now.table in
    subst (λ (ps : List ColumnPred). HasTable c.self.inside.rows.rows n (CanScan c.self.inside.rows.rows.fates c.look-look.result.snapshot.at c.look-look.result.snapshot.own ps)) (sym c.as_slice-preds.ensures.value)
    (subst (λ (k : ℕ). HasTable c.self.inside.rows.rows n (CanScan c.self.inside.rows.rows.fates k c.look-look.result.snapshot.own c.args.rows.now.preds.items)) (sym (ap (λ (l : Sight). l.snapshot) c.look-look.ensures))
    (subst (λ (o : Option ℕ). HasTable c.self.inside.rows.rows n (CanScan c.self.inside.rows.rows.fates (looks_at e c.args.session) o c.args.rows.now.preds.items)) (sym (ap (λ (l : Sight). l.own) c.look-look.ensures))
    (subst (λ (h : Held). HasTable h.rows n (CanScan h.rows.fates (looks_at e c.args.session) (own_at e c.args.session) c.args.rows.now.preds.items)) (sym c.self.view_is)
    (select_look _ _ _ c.requires.seat c.requires.stands c.requires.is))))

pub returns : goal.returns
returns c =
    let e = c.args.self.now in
    let n = c.args.rows.now.table in
    IfOk-weaker c.hits.result _ _
    (λ found f name asked is. select_looked _ _ _ c.requires.seat c.requires.stands (hits_of found.items)
    (λ s wanted at comp.
    subst (λ (h : Held). Hits h.rows (looks_at e c.args.session) (own_at e c.args.session) n (meets s.columns wanted) (hits_of found.items)) c.self.view_is
    (subst (λ (o : Option ℕ). Hits c.self.inside.rows.rows (looks_at e c.args.session) o n (meets s.columns wanted) (hits_of found.items)) (ap (λ (l : Sight). l.own) c.look-look.ensures)
    (subst (λ (k : ℕ). Hits c.self.inside.rows.rows k c.look-look.result.snapshot.own n (meets s.columns wanted) (hits_of found.items)) (ap (λ (l : Sight). l.snapshot) c.look-look.ensures)
    (f s wanted (ap (λ (h : Held). slice_get h.rows.staged n) c.self.view_is ∙ at) (subst (λ (ps : List ColumnPred). Compiles s.columns wanted ps) (sym c.as_slice-preds.ensures.value) comp))))) name asked is)
    c.hits.ensures
