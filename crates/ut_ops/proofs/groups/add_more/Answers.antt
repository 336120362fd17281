use Rattle.std.proofs.Common.{◌≡◌, ◌+ℤ◌, arith, to_z, of_z}
use Rattle.std.specs.Int.{w128}
use Rattle.std.proofs.lemmas.Int.{ints, to_z-of_z}
use Rattle.ut_ops.proofs.GatherLemmas.{set-more, within-at}
use Rattle.ut_ops.proofs.groups.add_more.Goals as goal

pub returns : goal.returns
returns c =
    let g = c.index_mut.result.now in
    let w = within-at 2147483647 c.args.place g c.args.gathered.now.items c.requires.few c.requires.place c.index_mut.ensures.value in
    let low = w.low in
    let high = w.high in
    let same : to_z w128 (of_z w128 (to_z w128 (of_z w128 c.index_mut.result.now.sum) +ℤ to_z w128 (of_z w128 c.from.result))) ≡ c.args.number +ℤ c.index_mut.result.now.sum = grind (arith, ints, to_z-of_z) in
    set-more c.args.gathered.now.items c.args.place g c.args.number _ c.requires.place c.index_mut.ensures.value same
