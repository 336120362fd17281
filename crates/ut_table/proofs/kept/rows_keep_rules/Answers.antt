use Rattle.std.proofs.Common.{IsTrue, sym, subst}
use Rattle.std.specs.List.{list_all}
use Rattle.std.proofs.lemmas.List.{take_all}
use Rattle.std.proofs.lemmas.List.Elements.{All-more, All-same}
use Rattle.ut_value.specs.declared.value.Row.{Row}
use Rattle.ut_value.specs.KeyBytes.{is_value}
use Rattle.ut_table.proofs.kept.rows_keep_rules.Goals as goal

pub loop-row-preserved : goal.loop-row-preserved
loop-row-preserved c =
    All-more (λ (r : Row). IsTrue (list_all is_value r.values)) c.args.rows.now c.loop-row.row-index c.row-item.result c.loop-row-test.true c.loop-row.invariant
    (subst (λ (r : Row). IsTrue (list_all is_value r.values)) c.row-item.is (subst (λ (vs : _). IsTrue (list_all is_value vs)) c.as_slice.ensures c.values_keep_rules.ensures))

pub returns : goal.returns
returns c =
    All-same (λ (r : Row). IsTrue (list_all is_value r.values)) c.args.rows.now _ (sym (take_all c.loop-row.row-index c.args.rows.now c.loop-row-test.false)) c.loop-row.invariant
