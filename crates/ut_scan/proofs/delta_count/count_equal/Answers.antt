use Rattle.std.proofs.Common.{◌∙◌, length, map, ap, arith}
use Rattle.std.proofs.lemmas.List.{length-map}
use Rattle.ut_unsorted.specs.FirstSeen.{key_eq}
use Rattle.ut_l2.specs.KeyRows.{cells_at, key_at}
use Rattle.ut_scan.specs.Finds.{found_at}
use Rattle.ut_scan.specs.Probes.{finds, place_in}
use Rattle.ut_scan.proofs.PickLemmas.{equal-picked, equal-within}
use Rattle.ut_scan.proofs.CountLemmas.{places-few}
use Rattle.ut_scan.proofs.delta_count.count_equal.Goals as goal

pub prove-unreachable-requires : goal.prove-unreachable-requires
prove-unreachable-requires c =
    let rows = c.args.probe.now.l2.now.rows in
    let cells = cells_at c.args.pred.now.column rows in
    omega (arith, ap length c.places-places.ensures, places-few (key_eq c.as_slice.result.now) 0 cells, length-map rows (key_at c.args.pred.now.column), c.len-rows.ensures.len, c.if-prove.true)

pub count_places-requires-clause-places : goal.count_places-requires-clause-places
count_places-requires-clause-places c = equal-within c.args.probe.now.l2.now.rows c.args.pred.now.column c.as_slice.result.now _ c.places-places.ensures

pub returns : goal.returns
returns c =
    let rows = c.args.probe.now.l2.now.rows in
    c.count_places.ensures
    ∙ ap (λ l. length (map (found_at (place_in c.args.probe.now.stage) rows) l))
    (equal-picked rows c.args.pred.now c.as_slice.result.now _ (finds c.args.probe.now) c.requires.equality c.as_slice.ensures.bytes c.places-places.ensures)
