use Rattle.std.proofs.Common.{◌≡◌, ◌+ℤ◌, pos, arith, ap, ◌∙◌, to_z, of_z, unwrap_or}
use Rattle.std.specs.Int.{w128}
use Rattle.std.specs.FinMap.{put}
use Rattle.std.proofs.lemmas.Int.{ints, to_z-of_z}
use Rattle.ut_value.specs.KeyOrder.{value_cmp}
use Rattle.ut_ops.specs.Tally.{sum_of}
use Rattle.ut_ops.proofs.TallyLemmas.{insert-put, lookup-find}
use Rattle.ut_ops.proofs.groups.add.Goals as goal

pub returns : goal.returns
returns c =
    let entries = c.args.sums.now.entries in
    let before : c.unwrap_or-before.result ≡ sum_of c.args.key c.args.sums.now.entries
    = c.unwrap_or-before.ensures ∙ ap (λ o. unwrap_or o (pos 0)) (c.copied.ensures ∙ c.get.ensures.value ∙ lookup-find c.args.sums.now.entries c.args.key) in
    let same : to_z w128 (of_z w128 (to_z w128 (of_z w128 c.args.number) +ℤ to_z w128 (of_z w128 c.unwrap_or-before.result))) ≡ c.args.number +ℤ sum_of c.args.key c.args.sums.now.entries
    = grind (arith, ints, to_z-of_z) in
    c.in_ok-insert.ensures.entries ∙ insert-put c.args.sums.now.entries c.args.key _ ∙ ap (λ v. put value_cmp c.args.key v c.args.sums.now.entries) same
