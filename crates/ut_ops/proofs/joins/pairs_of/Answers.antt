use Rattle.std.proofs.Common.{◌<◌, length, arith}
use Rattle.ut_ops.specs.Fit.{cell}
use Rattle.ut_ops.specs.Index.{listed}
use Rattle.ut_ops.proofs.PairLemmas.{pairs-next, partners-there, partners-read}
use Rattle.ut_ops.proofs.joins.pairs_of.Goals as goal

pub index-others-requires : goal.index-others-requires
index-others-requires c =
    let s = c.args.left.now.stages in
    let hits = c.args.hits.now in
    let lt : c.loop-row.row < length c.args.hits.now = omega arith in
    omega (
      arith,
      partners-there (listed c.args.index.now) (cell s c.args.column) hits c.in_ok-values.field-0.values.items c.in_ok-values.field-0.places.items c.in_ok-partners.partners.items c.loop-row.row c.index.result.now lt c.in_ok-values.ensures.inside c.in_ok-values.ensures.read c.in_ok-partners.ensures c.index.ensures,
      c.in_ok-partners.partners.ok,
    )

pub loop-row-preserved : goal.loop-row-preserved
loop-row-preserved c =
    let s = c.args.left.now.stages in
    let hits = c.args.hits.now in
    let index = c.args.index.now in
    let lt : c.loop-row.row < length c.args.hits.now = omega arith in
    let read = partners-read (listed index) (cell s c.args.column) hits c.in_ok-values.field-0.values.items c.in_ok-values.field-0.places.items c.in_ok-partners.partners.items c.loop-row.row c.index.result.now _ c.index-others.result.now lt c.in_ok-values.ensures.inside c.in_ok-values.ensures.read c.in_ok-partners.ensures c.index.ensures c.index-others.ensures in
    let next = pairs-next (λ f. listed index (cell s c.args.column f)) hits c.loop-row.row _ c.index-others.result.now.now c.loop-row.pairs.lefts.items _ c.loop-row.pairs.rights.items _ lt
    read c.in_ok-add_pairs.ensures.lefts c.in_ok-add_pairs.ensures.rights c.loop-row.invariant.lefts c.loop-row.invariant.rights in
    record { lefts = next.0; rights = next.1 }
