use Rattle.std.proofs.Common.{◌∙◌, List, ap, map, refl}
use Rattle.std.proofs.lemmas.Result.{on_ok_weaker, on_err_weaker}
use Rattle.ut_value.specs.declared.value.Row.{Row}
use Rattle.ut_change.specs.Bulks.{bulk_rows}
use Rattle.ut_staged.specs.Staged.{begun_row, entered_l2}
use Rattle.ut_tables.specs.contracts.rows.Rows.{the_view}
use Rattle.ut_tables.proofs.IndexLemmas.{changed_to, kept_as, read_is}
use Rattle.ut_tables.proofs.LoadLemmas.{rows_are, are_flat, columns_there, all_fit, ids_there, few_there}
use Rattle.ut_tables.proofs.rows.Rows.load.Goals as goal

pub load_values-requires : goal.load_values-requires
load_values-requires c =
    let t = c.requires.takes in
    let b = c.args.bulk in
    let read = c.index_mut.result.now.stages in
    let here = read_is (the_view c.self.inside) _ c.self.inside.stages.items c.args.place c.index_mut.result.now c.index_mut.result.now c.self.view_is refl c.index_mut.ensures.value t.table t.at in (
      are_flat b t.table read here c.requires.can t.has,
      (
        columns_there b t.table read here c.requires.can t.has,
        (
          all_fit b t.table read here c.requires.can t.has,
          (ids_there b t.table read here c.requires.can t.has, few_there b t.table read here c.requires.can t.has),
        ),
      ),
    )

pub returns-clause-ok : goal.returns-clause-ok
returns-clause-ok c =
    let t = c.requires.takes in
    let b = c.args.bulk in
    let read = c.index_mut.result.now.stages in
    let here = read_is (the_view c.self.inside) _ c.self.inside.stages.items c.args.place c.index_mut.result.now c.index_mut.result.now c.self.view_is refl c.index_mut.ensures.value t.table t.at in
    on_ok_weaker c.load_values.result
    (λ loaded. changed_to (the_view c.self.inside) _ c.self.inside.stages.items c.args.place c.index_mut.result.now c.load_values.new.self c.self.view_is refl c.index_mut.ensures.value
    (entered_l2 (map (begun_row c.args.number) (bulk_rows b)))
    (loaded ∙ ap (λ (rows : List Row). entered_l2 (map (begun_row c.args.number) rows) read) (rows_are b t.table read here c.requires.can t.has)))
    c.load_values.ensures.ok

pub returns-clause-err : goal.returns-clause-err
returns-clause-err c =
    on_err_weaker c.load_values.result (kept_as (the_view c.self.inside) _ c.self.inside.stages.items c.args.place c.index_mut.result.now c.load_values.new.self c.self.view_is refl c.index_mut.ensures.value) c.load_values.ensures.err
