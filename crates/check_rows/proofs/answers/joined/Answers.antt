use Rattle.std.proofs.Common.{◌++◌, map, arith}
use Rattle.std.specs.List.{filter}
use Rattle.ut_plain.specs.Condition.{value_in}
use Rattle.ut_plain.specs.Query.{same_value}
use Rattle.check_rows.proofs.FilterLemmas.{flat_more}
use Rattle.check_rows.proofs.answers.joined.Goals as goal

pub loop-row-preserved : goal.loop-row-preserved
loop-row-preserved c =
    flat_more (λ l. map (λ r. l.1.values ++ r.1.values) (filter (λ r. same_value (value_in c.args.left.now l.1.values c.args.c.now) (value_in c.args.right.now r.1.values c.args.d.now)) c.args.rights.now)) c.args.lefts.now c.loop-row.row-index c.row-item.result c.loop-row.tuples c.in_ok-more.more _ _ (omega arith) c.row-item.is c.in_ok-more.ensures c.in_ok-append.ensures.ok c.loop-row.invariant
