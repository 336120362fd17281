use Rattle.std.proofs.Common.{◌≡◌, ◌-◌, get_or, sym, ap, ◌∙◌, arith}
use Rattle.std.proofs.lemmas.Grind.{common_steps}
use Rattle.std.specs.Ordering.{is_lt}
use Rattle.ut_plain.specs.Merges.{put, column_order, place_cmp}
use Rattle.check_stages.proofs.SortedLemmas.{sorted-more}
use Rattle.check_stages.proofs.sorted.resorted.Goals as goal

pub loop-at-preserved : goal.loop-at-preserved
loop-at-preserved c =
    let place = c.in_ok-place.place in
    let columns : c.as_slice.result.now ≡ column_order c.args.places.now = c.as_slice.ensures.value ∙ c.in_ok-columns.ensures in
    let here : place ≡ get_or c.args.places.now (c.loop-at.at - 1) place = grind (arith, common_steps) in
    let now : c.insert.new.self.items ≡ put (λ a b. is_lt (place_cmp c.as_slice.result.now a b)) place c.loop-at.sorted.items = grind (arith, common_steps, c.place_for-to.ensures.put) in
    sorted-more (λ a b. is_lt (place_cmp (column_order c.args.places.now) a b)) c.args.places.now (c.loop-at.at - 1) c.loop-at.at place c.loop-at.sorted.items c.insert.new.self.items (omega arith) (omega arith) here c.loop-at.invariant
    (now ∙ ap (λ columns. put (λ a b. is_lt (place_cmp columns a b)) place c.loop-at.sorted.items) columns)
