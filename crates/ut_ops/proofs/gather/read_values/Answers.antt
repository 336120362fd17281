use Rattle.std.proofs.Common.{◌<◌, length, map, take, All, sym, ap, ◌∙◌, subst, arith}
use Rattle.ut_rows.specs.Columns.{values_at}
use Rattle.ut_ops.specs.Fit.{cell}
use Rattle.ut_ops.proofs.SeenLemmas.{reads-next, one-more}
use Rattle.ut_ops.proofs.gather.read_values.Goals as goal

pub loop-hit-preserved : goal.loop-hit-preserved
loop-hit-preserved c =
    let f = cell c.args.table.now.stages c.args.column in
    let hits = c.args.hits.now in
    let i = c.loop-hit.hit-index in
    let new = c.place_of.new.seen.values.items in
    let lt : c.loop-hit.hit-index < length c.args.hits.now = omega arith in
    let next = reads-next c.loop-hit.seen.values.items new c.loop-hit.places.items (map f (take i hits)) c.in_ok-place.place _ c.in_ok-place.ensures.more c.loop-hit.invariant.inside c.loop-hit.invariant.read c.in_ok-place.ensures.place in
    record {
      seen = c.in_ok-place.ensures.seen;
      inside = subst (All (λ p. p < length c.place_of.new.seen.values.items)) (sym c.in_ok-push.ensures.items) next.0;
      read = ap (values_at new) c.in_ok-push.ensures.items ∙ next.1 ∙ one-more f hits i _ lt;
    }
