use Rattle.std.proofs.Common.{◌≡◌, ◌∙◌, ap, sym, to_z, of_z, arith}
use Rattle.std.specs.Int.{w128}
use Rattle.std.proofs.lemmas.Int.{ints}
use Rattle.ut_prefix.specs.Totals.{weighed}
use Rattle.ut_main.specs.Parts.{MainValue}
use Rattle.ut_scan.specs.Coded.{keys_in}
use Rattle.ut_table.specs.Contents.{TableValue}
use Rattle.ut_table.proofs.CodedLemmas.{main-is}
use Rattle.ut_table.proofs.table.Table.main_total.Goals as goal

pub returns-clause-sum : goal.returns-clause-sum
returns-clause-sum c =
    let same : to_z w128 (of_z w128 c.main_total.result) ≡ c.main_total.result = omega (arith, ints) in
    same ∙ c.main_total.ensures.sum
    ∙ ap (λ (m : MainValue). weighed c.args.counts.now (keys_in m c.args.column)) (sym (main-is c.self.invariant (ap (λ (v : TableValue). v.stages) c.self.view_is)))
