use Rattle.std.proofs.Common.{sym, ap, ◌∙◌, Some}
use Rattle.ut_names.specs.Resolved.{beats}
use Rattle.ut_plain.specs.Query.{best}
use Rattle.ut_ops.proofs.ColumnLemmas.{values_some}
use Rattle.ut_ops.proofs.best.extreme.Goals as goal

pub returns-in-None : goal.returns-in-None
returns-in-None c = λ n name at.
    c.in-None.ensures.best ∙ sym (ap (best (beats c.args.end)) (values_some n c.args.table.now.stages name c.args.column c.args.hits.now c.requires.fit at))

pub returns-in_ok-value_at-in-Some : goal.returns-in_ok-value_at-in-Some
returns-in_ok-value_at-in-Some c = λ n name at.
    ap Some c.in_ok-value_at-in-Some.ensures ∙ c.in-Some.ensures.best
    ∙ sym (ap (best (beats c.args.end)) (values_some n c.args.table.now.stages name c.args.column c.args.hits.now c.requires.fit at))
