use Rattle.std.proofs.Common.{IsTrue, ap, ◌∙◌, subst, arith}
use Rattle.std.specs.List.{list_all}
use Rattle.std.proofs.lemmas.List.Sums.{sum_by-cons}
use Rattle.ut_value.specs.declared.entry.Op.TheVariants.{Insert}
use Rattle.ut_value.specs.Spelling.{is_op, op_len, ops_len}
use Rattle.ut_change.specs.Bulks.{bulk_ops}
use Rattle.ut_change.proofs.BulkLemmas.{first-short}
use Rattle.ut_change.proofs.bulk.Bulk.ops_len.Goals as goal

pub insert_len-total-requires : goal.insert_len-total-requires
insert_len-total-requires c =
    let at = c.loop-rest in
    let short = first-short (Insert at.rest.table at.rest.id c.split.result.0.now) (bulk_ops c.split.result.1)
    (subst (λ os. IsTrue (list_all is_op os)) c.split.ensures.ops at.invariant.is.rule) in
    omega (arith, short)

pub overflow_add-total : goal.overflow_add-total
overflow_add-total c =
    let at = c.loop-rest in
    let short = first-short (Insert at.rest.table at.rest.id c.split.result.0.now) (bulk_ops c.split.result.1)
    (subst (λ os. IsTrue (list_all is_op os)) c.split.ensures.ops at.invariant.is.rule) in
    omega (arith, short, at.invariant.few, c.requires.most, c.insert_len-total.ensures)

pub loop-rest-preserved : goal.loop-rest-preserved
loop-rest-preserved c =
    let at = c.loop-rest in
    let op = Insert at.rest.table at.rest.id c.split.result.0.now in
    let first = ap ops_len c.split.ensures.ops ∙ sum_by-cons op_len op (bulk_ops c.split.result.1) in
    record {
      is = c.split.ensures.behind;
      so_far = omega (arith, first, at.invariant.so_far, c.insert_len-total.ensures);
      few = omega arith;
    }
