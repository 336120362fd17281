use Rattle.std.proofs.Common.{ℕ, List, subst}
use Rattle.ut_plain.specs.declared.statement.Pred.{Pred}
use Rattle.ut_names.specs.Resolved.{Hinders, IsSelection, rows_known, rows_fit}
use Rattle.ut_names.proofs.BindingLemmas.{binds_delete}
use Rattle.ut_names.proofs.binding.bind_delete.Goals as goal

pub returns-in-Ok-clause-ok : goal.returns-in-Ok-clause-ok
returns-in-Ok-clause-ok c =
    binds_delete c.args.tables.now c.args.name.now c.args.preds.now c.in-Ok.rows
    (subst (λ (n : List ℕ). IsSelection c.args.tables.now n c.args.preds.now c.in-Ok.rows) c.as_slice.ensures.bytes
    (subst (λ (ps : List Pred). IsSelection c.args.tables.now c.as_slice.result.now ps c.in-Ok.rows) c.as_slice-2.ensures c.in-Ok.ensures.ok))

pub returns-in-Err-clause-err : goal.returns-in-Err-clause-err
returns-in-Err-clause-err c =
    subst (λ (n : List ℕ). Hinders (rows_known c.args.tables.now n c.args.preds.now) (rows_fit c.args.tables.now n c.args.preds.now) c.in-Err.why) c.as_slice.ensures.bytes
    (subst (λ (ps : List Pred). Hinders (rows_known c.args.tables.now c.as_slice.result.now ps) (rows_fit c.args.tables.now c.as_slice.result.now ps) c.in-Err.why) c.as_slice-2.ensures c.in-Err.ensures.err)
