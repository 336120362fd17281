use Rattle.std.proofs.Common.{◌<◌, length, ap, sym, ◌∙◌, subst, slice_get}
use Rattle.ut_names.specs.declared.bound.Task.TheVariants as tasks
use Rattle.ut_store.specs.Executing.{ExecutesFor}
use Rattle.ut_store.specs.Held.{Held}
use Rattle.ut_store.specs.Outcomes.{shape_outcome}
use Rattle.ut_store.specs.contracts.store.Store.{the_view}
use Rattle.ut_store.proofs.AskedTableLemmas.{table_there, place_there, shape_as}
use Rattle.ut_store.proofs.store.Store.shape.Goals as goal

pub shape-requires : goal.shape-requires
shape-requires c = subst (λ (h : Held). c.args.table < length h.rows.staged) (sym c.self.view_is) (place_there c.args.self.now c.args.table c.requires.stands c.requires.there)

pub returns : goal.returns
returns c =
    let e = the_view c.self.inside in
    let t = table_there c.args.self.now c.args.table c.requires.stands c.requires.there in
    subst (λ (x : Held). ExecutesFor x (tasks.Shape c.args.table) (shape_outcome c.shape.result) x) c.self.view_is
    (shape_as e c.args.table t.0 (ap (λ (h : Held). slice_get h.rows.staged c.args.table) c.self.view_is ∙ t.1) c.shape.result c.shape.ensures)
