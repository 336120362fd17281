use Rattle.std.proofs.Common.{◌∙◌, ◌++◌, [], ◌∷◌, map, get_or, sym, ap}
use Rattle.std.proofs.lemmas.List.{map_more, get_or_default, take_all}
use Rattle.ut_merge.proofs.arranging.moved.Goals as goal

pub loop-place-preserved : goal.loop-place-preserved
loop-place-preserved g c d =
    let items = c.args.items.now in
    let places = c.args.places.now in
    let i = c.loop-place.place-index in
    let at = c.index-items-place.is ∙ get_or_default items (get_or places i 0) c.index-items-place.result d (c.requires i 0 c.loop-place-test.true) in
    c.in_ok-push.ensures.items ∙ (λ k. c.loop-place.invariant d k ++ at k ∷ []) ∙ sym (map_more (λ place. get_or items place d) places i 0 c.loop-place-test.true)

pub returns : goal.returns
returns g c d = c.loop-place.invariant d ∙ ap (map (λ place. get_or c.args.items.now place d)) (take_all c.loop-place.place-index c.args.places.now c.loop-place-test.false)
