use Rattle.std.proofs.Common.{◌<◌, length, ap, sym, ◌∙◌, subst, slice_get}
use Rattle.ut_names.specs.declared.bound.Task.TheVariants as tasks
use Rattle.ut_store.specs.Executing.{ExecutesFor}
use Rattle.ut_store.specs.Held.{Held}
use Rattle.ut_store.specs.Outcomes.{moved_outcome}
use Rattle.ut_store.specs.contracts.store.Store.{the_view}
use Rattle.ut_store.proofs.AskedTableLemmas.{table_there, place_there, moved_as}
use Rattle.ut_store.proofs.store.Store.merge_l1.Goals as goal

pub merge_l1-requires : goal.merge_l1-requires
merge_l1-requires c = subst (λ (h : Held). c.args.table < length h.rows.staged) (sym c.self.view_is) (place_there c.args.self.now c.args.table c.requires.stands c.requires.there)

pub returns : goal.returns
returns c =
    let e = the_view c.self.inside in
    let t = table_there c.args.self.now c.args.table c.requires.stands c.requires.there in
    subst (λ (x : Held). ExecutesFor x (tasks.MergeL1 c.args.table c.args.n) (moved_outcome c.merge_l1.result) (record e { rows = c.merge_l1.new.self.rows })) c.self.view_is
    (moved_as e c.args.table c.args.n c.merge_l1.new.self.rows t.0 (ap (λ (h : Held). slice_get h.rows.staged c.args.table) c.self.view_is ∙ t.1) c.merge_l1.result c.merge_l1.ensures.ok c.merge_l1.ensures.count c.merge_l1.ensures.err)
