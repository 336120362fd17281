use Rattle.std.proofs.Common.{◌≡◌, ◌∙◌, sym, ap, arith, to_z, of_z}
use Rattle.std.specs.Int.{w128}
use Rattle.std.proofs.lemmas.Int.{ints, to_z-of_z}
use Rattle.ut_plain.specs.Query.{total}
use Rattle.ut_ops.proofs.ColumnLemmas.{values_some}
use Rattle.ut_ops.proofs.sums.sum.Goals as goal

pub returns : goal.returns
returns c = λ n name at.
    let same : to_z w128 (of_z w128 c.sum_noted.result) ≡ c.sum_noted.result = grind (arith, ints, to_z-of_z) in
    same ∙ c.sum_noted.ensures.sum ∙ sym (ap total (values_some n c.args.table.now.stages name c.args.column c.args.hits.now c.requires.fit at))

pub returns-in-Ok : goal.returns-in-Ok
returns-in-Ok c = λ n name at.
    let same : to_z w128 (of_z w128 c.sum_at.result) ≡ c.sum_at.result = grind (arith, ints, to_z-of_z) in
    same ∙ c.sum_at.ensures.sum ∙ sym (ap total (values_some n c.args.table.now.stages name c.args.column c.args.hits.now c.requires.fit at))
