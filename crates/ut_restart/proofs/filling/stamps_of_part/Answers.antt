use Rattle.std.proofs.Common.{◌≡◌, ◌+◌, ◌++◌, ◌∷◌, [], List, Bool, false, map, take, get_or, sym, ◌∙◌, ap, arith}
use Rattle.std.proofs.lemmas.List.{take_more, map-append}
use Rattle.ut_restart.specs.Shown.{stamp_of_mark}
use Rattle.ut_restart.proofs.filling.stamps_of_part.Goals as goal

pub loop-mark-preserved : goal.loop-mark-preserved
loop-mark-preserved c =
    let live : List Bool = c.args.live.now in
    let front : List Bool = take c.loop-mark.mark-index live in
    let mark : Bool = get_or live c.loop-mark.mark-index false in
    let next : take (c.loop-mark.mark-index + 1) live ≡ front ++ mark ∷ [] = take_more live c.loop-mark.mark-index false (omega arith) in
    c.in_ok-push.ensures.items ∙ (λ i. c.loop-mark.invariant i ++ c.stamp_of.ensures i ∷ []) ∙ sym (map-append stamp_of_mark front (mark ∷ [])) ∙ sym (ap (map stamp_of_mark) next)
