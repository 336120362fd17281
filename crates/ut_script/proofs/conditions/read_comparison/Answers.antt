use Rattle.std.proofs.Common.{◌∙◌, sym}
use Rattle.ut_script.proofs.ConditionLemmas.{comparison_of-is}
use Rattle.ut_script.proofs.conditions.read_comparison.Goals as goal

pub returns : goal.returns
returns c =
    sym (comparison_of-is c.args.column.now c.args.op.now c.args.value.now _ c.in-Some.op c.in-Some-2.value c.in_ok-column.ensures.says (sym c.operator_of.ensures ∙ c.in-Some.is) (sym c.in_ok-value.ensures ∙ c.in-Some-2.is))
