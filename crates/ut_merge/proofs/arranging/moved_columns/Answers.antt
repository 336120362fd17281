use Rattle.std.proofs.Common.{◌∙◌, ◌<◌, ◌++◌, [], ◌∷◌, List, ℕ, length, map, get_or, sym, ap, arith}
use Rattle.std.specs.Global.{Vec}
use Rattle.std.proofs.lemmas.List.{get_or-map, length-map, map-append, map_more}
use Rattle.ut_merge.specs.Columns.{codes_in}
use Rattle.ut_merge.proofs.arranging.moved_columns.Goals as goal

pub loop-column-preserved : goal.loop-column-preserved
loop-column-preserved c =
    let columns = c.args.columns.now in
    let i = c.loop-column.column-index in
    let moved = λ (codes : List ℕ). map (λ place. get_or codes place 0) c.args.places.now in
    let items = λ (v : Vec ℕ). v.items in
    let long : i < length (codes_in columns) = omega (arith, c.loop-column-test.true, length-map columns (λ (v : Vec ℕ). v.items)) in
    let same = c.as_slice.ensures.value ∙ ap items c.column-item.is ∙ sym (get_or-map items columns i c.column-item.result [] c.loop-column-test.true) in
    ap (λ (l : List (Vec ℕ)). codes_in l) c.in_ok-push.ensures.items ∙ map-append items c.loop-column.new.items (c.in_ok-moved.field-0 ∷ [])
    ∙ (λ k. c.loop-column.invariant k ++ (c.in_ok-moved.ensures 0 ∙ ap moved same) k ∷ [])
    ∙ sym (map_more moved (codes_in columns) i [] long)
