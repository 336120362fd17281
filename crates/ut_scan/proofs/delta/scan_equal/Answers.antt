use Rattle.std.proofs.Common.{◌≡◌, ◌++◌, OnOk, map, subst}
use Rattle.ut_scan.specs.Finds.{found_at}
use Rattle.ut_scan.specs.Probes.{finds, place_in}
use Rattle.ut_scan.proofs.PickLemmas.{equal-picked, equal-within}
use Rattle.ut_scan.proofs.delta.scan_equal.Goals as goal

pub scan_places-requires : goal.scan_places-requires
scan_places-requires c = equal-within c.args.probe.now.l2.now.rows c.args.pred.now.column c.as_slice.result.now _ c.places-places.ensures

pub returns : goal.returns
returns c =
    let rows = c.args.probe.now.l2.now.rows in
    subst (λ l. OnOk c.scan_places.result (c.scan_places.new.out.items ≡ c.args.out.now.items ++ map (found_at (place_in c.args.probe.now.stage) rows) l))
    (equal-picked rows c.args.pred.now c.as_slice.result.now _ (finds c.args.probe.now) c.requires.equality c.as_slice.ensures.bytes c.places-places.ensures) c.scan_places.ensures
