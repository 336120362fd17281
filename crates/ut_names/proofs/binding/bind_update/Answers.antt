use Rattle.std.proofs.Common.{ℕ, List, subst}
use Rattle.ut_plain.specs.declared.statement.Pred.{Pred}
use Rattle.ut_names.specs.Resolved.{Hinders, IsTarget, target_known, target_fits}
use Rattle.ut_names.proofs.BindingLemmas.{binds_update}
use Rattle.ut_names.proofs.binding.bind_update.Goals as goal

pub returns-in-Ok-clause-ok : goal.returns-in-Ok-clause-ok
returns-in-Ok-clause-ok c =
    let ts = c.args.tables.now in
    binds_update ts c.args.name.now c.args.column.now c.args.value c.args.preds.now c.in-Ok.target
    (subst (λ (n : List ℕ). IsTarget ts n c.args.column.now c.args.value c.args.preds.now c.in-Ok.target) c.as_slice.ensures.bytes
    (subst (λ (n : List ℕ). IsTarget ts c.as_slice.result.now n c.args.value c.args.preds.now c.in-Ok.target) c.as_slice-2.ensures.bytes
    (subst (λ (ps : List Pred). IsTarget ts c.as_slice.result.now c.as_slice-2.result.now c.args.value ps c.in-Ok.target) c.as_slice-3.ensures c.in-Ok.ensures.ok)))

pub returns-in-Err-clause-err : goal.returns-in-Err-clause-err
returns-in-Err-clause-err c =
    let ts = c.args.tables.now in
    subst (λ (n : List ℕ). Hinders (target_known ts n c.args.column.now c.args.preds.now) (target_fits ts n c.args.column.now c.args.value c.args.preds.now) c.in-Err.why) c.as_slice.ensures.bytes
    (subst (λ (n : List ℕ). Hinders (target_known ts c.as_slice.result.now n c.args.preds.now) (target_fits ts c.as_slice.result.now n c.args.value c.args.preds.now) c.in-Err.why) c.as_slice-2.ensures.bytes
    (subst (λ (ps : List Pred). Hinders (target_known ts c.as_slice.result.now c.as_slice-2.result.now ps) (target_fits ts c.as_slice.result.now c.as_slice-2.result.now c.args.value ps) c.in-Err.why) c.as_slice-3.ensures c.in-Err.ensures.err))
