use Rattle.std.proofs.Common.{◌≡◌, ◌∙◌, ℕ, List, map, ap, refl, arith, to_z, of_z, ◌+ℤ◌}
use Rattle.std.specs.Int.{w128}
use Rattle.std.proofs.lemmas.Int.{ints, to_z-of_z}
use Rattle.ut_plain.specs.Query.{total}
use Rattle.ut_scan.specs.declared.place.Found.{Found}
use Rattle.ut_ops.specs.Fit.{cell}
use Rattle.ut_table.specs.Totals.{weighed}
use Rattle.ut_scan.specs.Coded.{keys_in}
use Rattle.ut_table.specs.Coded.{keyed_main}
use Rattle.ut_ops.proofs.WeighLemmas.{tally-total}
use Rattle.ut_ops.proofs.tallied.sum_tally.Goals as goal

pub returns : goal.returns
returns c = λ n name found at fit tally.
    let s = c.args.table.now.stages in
    let column = c.args.column in
    let keys = keys_in (keyed_main s) column in
    let counts = c.args.tally.now.counts.items in
    let rest = c.args.tally.now.rest.items in
    let first : to_z w128 (of_z w128 c.main_total-counted.result) ≡ c.main_total-counted.result = grind (arith, ints, to_z-of_z) in
    let second : to_z w128 (of_z w128 c.sum_noted.result) ≡ c.sum_noted.result = grind (arith, ints, to_z-of_z) in
    let both : to_z w128 (of_z w128 (c.main_total-counted.result +ℤ c.sum_noted.result)) ≡ c.main_total-counted.result +ℤ c.sum_noted.result = grind (arith, ints, to_z-of_z) in
    (λ i. to_z w128 (of_z w128 (first i +ℤ second i))) ∙ both
    ∙ tally-total s column n name found counts rest keys c.main_total-counted.result c.sum_noted.result c.requires.numbers at fit tally refl
    (c.main_total-counted.ensures.sum ∙ ap (λ (l : List ℕ). weighed l keys) c.as_slice.ensures.value)
    (c.sum_noted.ensures.sum ∙ ap (λ (l : List Found). total (map (cell s column) l)) c.as_slice-2.ensures.value)
