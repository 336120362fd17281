use Rattle.std.proofs.Common.{sym, ap, subst}
use Rattle.ut_plain.specs.Plain.{no_savepoint}
use Rattle.ut_plain.specs.Reached.{IsPlain}
use Rattle.check_oracle.proofs.MeasureLemmas.{measured}
use Rattle.check_oracle.proofs.OracleLemmas.{selected_new}
use Rattle.check_oracle.proofs.oracle.Oracle.new.Goals as goal

pub invariant_of-result : goal.invariant_of-result
invariant_of-result c = record {
  plain = subst IsPlain (sym c.in_ok-held.ensures) (c.plain_laws.ensures.new no_savepoint.image_pages c.args.rows_limit c.requires);
  selects = selected_new _ _ c.args.rows_limit c.new-selected.ensures c.in_ok-held.ensures;
}

pub returns-clause-made : goal.returns-clause-made
returns-clause-made c = λ f. ap (measured f) c.in_ok-held.ensures
