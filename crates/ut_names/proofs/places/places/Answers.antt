use Rattle.std.proofs.Common.{◌≡◌, ◌++◌, ◌∷◌, []}
use Rattle.ut_names.proofs.PlaceLemmas.{places_more}
use Rattle.ut_names.proofs.places.places.Goals as goal

pub loop-name-preserved : goal.loop-name-preserved
loop-name-preserved c =
    let list = c.loop-name.list.items in
    let place = c.in-Some.column.place in
    let pushed : c.push.new.self.items ≡ list ++ place ∷ [] = c.in_ok-push.ensures.items in
    places_more c.args.columns.now c.args.names.now c.loop-name.name-index c.as_slice.result.now c.name-item.result place list c.push.new.self.items
    c.loop-name-test.true c.name-item.is c.as_slice.ensures.bytes c.in-Some.ensures.place c.in-Some.ensures.known c.loop-name.invariant pushed
