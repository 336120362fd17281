use Rattle.std.proofs.Common.{◌∙◌, ap, slice_get}
use Rattle.ut_store.specs.Held.{Held}
use Rattle.ut_store.specs.contracts.store.Store.{the_view}
use Rattle.ut_store.proofs.IndexLemmas.{on_err}
use Rattle.ut_store.proofs.LoadLemmas.{changes_are}
use Rattle.ut_store.proofs.SpentLemmas.{framed_by, spent_by}
use Rattle.ut_store.proofs.store.Store.work_alone.Goals as goal

pub spell-requires-clause-are : goal.spell-requires-clause-are
spell-requires-clause-are c = changes_are c.args.self.now.rows c.args.work.place c.args.work.changes c.requires.loads

pub returns-in_err-spell-clause-err : goal.returns-in_err-spell-clause-err
returns-in_err-spell-clause-err c = on_err _ _ (framed_by (the_view c.self.inside) _ c.spell.new.frame.payload c.self.view_is)

pub work_alone-requires-clause-can : goal.work_alone-requires-clause-can
work_alone-requires-clause-can c = record {
  table = c.requires.can.table;
  at = ap (λ (h : Held). slice_get h.rows.staged c.args.work.place) c.self.view_is ∙ c.requires.can.at;
  has = c.requires.can.write;
}

pub returns-in_err-work_alone-clause-err : goal.returns-in_err-work_alone-clause-err
returns-in_err-work_alone-clause-err c = on_err _ _ (spent_by (the_view c.self.inside) _ c.work_alone.new.self.rows c.spell.new.frame.payload c.self.view_is c.in_err-work_alone.ensures.err)
