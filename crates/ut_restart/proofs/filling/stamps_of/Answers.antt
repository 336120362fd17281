use Rattle.std.proofs.Common.{◌≡◌, ◌+◌, ◌++◌, ◌∷◌, [], List, map, take, sym, ◌∙◌, ap, arith}
use Rattle.std.proofs.lemmas.List.{take_more, map-append}
use Rattle.std.specs.Global.{Vec}
use Rattle.ut_stamps.specs.declared.visibility.Stamp.{Stamp}
use Rattle.ut_image.specs.declared.drawn.PartRef.{PartRef}
use Rattle.ut_restart.specs.Shown.{stamp_of_mark, marks_of}
use Rattle.ut_restart.proofs.filling.stamps_of.Goals as goal

pub loop-part-preserved : goal.loop-part-preserved
loop-part-preserved c =
    let refs : List PartRef = c.args.refs.now in
    let front : List PartRef = take c.loop-part.part-index refs in
    let next : take (c.loop-part.part-index + 1) refs ≡ front ++ c.part-item.result ∷ [] = take_more refs c.loop-part.part-index c.part-item.result (omega arith) ∙ ap (λ p. front ++ p ∷ []) (sym c.part-item.is) in
    let more : c.in_ok-more.more.items ≡ map stamp_of_mark c.part-item.result.live = c.in_ok-more.ensures ∙ ap (map stamp_of_mark) c.as_slice.ensures in
    ap (map (λ (v : Vec Stamp). v.items)) c.in_ok-push.ensures.items ∙ map-append (λ (v : Vec Stamp). v.items) c.loop-part.stamps.items (c.in_ok-more.more ∷ [])
    ∙ (λ i. c.loop-part.invariant i ++ more i ∷ [])
    ∙ sym (map-append (map stamp_of_mark) (marks_of front) (c.part-item.result.live ∷ []))
    ∙ ap (map (map stamp_of_mark)) (sym (map-append (λ (ref : PartRef). ref.live) front (c.part-item.result ∷ [])))
    ∙ ap (λ (l : List PartRef). map (map stamp_of_mark) (marks_of l)) (sym next)
