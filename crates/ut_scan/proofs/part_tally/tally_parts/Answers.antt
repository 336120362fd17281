use Rattle.std.proofs.Common.{◌∙◌, ◌<◌, ◌≤◌, ◌≡◌, ◌++◌, ◌+◌, ℕ, [], List, length, take, drop, get_or, ap, refl, sym, subst, arith}
use Rattle.std.specs.List.{flat_map, range_with_len, sum_by}
use Rattle.std.proofs.lemmas.List.{take_at}
use Rattle.ut_l2.specs.KeyRows.{KeyRow}
use Rattle.ut_scan.specs.declared.place.Found.{Found}
use Rattle.ut_scan.specs.Coded.{held_places}
use Rattle.ut_scan.specs.StageRows.{found_in_part}
use Rattle.ut_scan.specs.Tallies.{seen_codes, AreMore, HasRoom, Tallies}
use Rattle.ut_scan.proofs.CodeLemmas.{part-width, IsPartOf}
use Rattle.ut_scan.proofs.MainLemmas.{part-found, probe-part, parts-more}
use Rattle.ut_scan.proofs.TallyLemmas.{few-more, room-for, tallies-more, tallies-none}
use Rattle.ut_scan.proofs.part_tally.tally_parts.Goals as goal

pub loop-number-init : goal.loop-number-init
loop-number-init g c = record {
  told = tallies-none c.args.main.now c.args.column c.in_ok-counts.counts.items c.in_ok-counts.ensures.none;
  size = c.in_ok-counts.ensures.size;
  few = λ code. omega (arith, c.in_ok-counts.ensures.none code);
}

-- the part that is read
read : (g : _) (c : goal.After-as_mut_slice g) → IsPartOf c.args.main.now c.loop-number.number c.of-probe.result.part.now
read g c =
    let there : c.loop-number.number < length c.args.main.now.parts = omega (arith, c.loop-number-test.true, c.parts-number-end.ensures.count) in
    probe-part c.args.snapshot.now c.as_slice.result.now c.args.main.now c.args.stamps.now.parts c.loop-number.number c.of-probe.result c.of-probe.ensures there

pub tally-requires-clause-column : goal.tally-requires-clause-column
tally-requires-clause-column g c = omega (arith, c.requires.column, part-width c.args.main.now c.loop-number.number c.of-probe.result.part.now (read g c))

pub tally-requires-clause-room : goal.tally-requires-clause-room
tally-requires-clause-room g c =
    subst (HasRoom c.of-probe.result.part.now c.args.column) (sym c.as_mut_slice.ensures.value)
    (room-for c.args.main.now c.args.column c.loop-number.number c.of-probe.result.part.now (read g c) c.requires.column c.loop-number.counts.items c.loop-number.invariant.size c.loop-number.invariant.few c.parts-number-end.ensures.rows)

pub loop-number-preserved : goal.loop-number-preserved
loop-number-preserved g c =
    let main = c.args.main.now in
    let p = c.loop-number.number in
    let part = c.of-probe.result.part.now in
    let there : c.loop-number.number < length c.args.main.now.parts = omega (arith, c.loop-number-test.true, c.parts-number-end.ensures.count) in
    let probe = c.of-probe.ensures in
    let at = probe-part c.args.snapshot.now c.as_slice.result.now main c.args.stamps.now.parts p c.of-probe.result probe there in
    let snapshot = c.args.snapshot.now in
    let column = c.args.column in
    let preds = c.args.preds.now in
    let stamps = get_or c.args.stamps.now.parts p [] in
    let coded = c.in_ok-coded.coded.items in
    let items = c.loop-number.counts.items in
    let new = c.tally.new.counts in
    let found = found_in_part snapshot.fates.now snapshot.at snapshot.own preds main.parts c.args.stamps.now.parts in
    let one : AreMore (seen_codes snapshot part column stamps (held_places coded part)) items new =
    subst (λ (l : List ℕ). AreMore (seen_codes snapshot part column stamps (held_places coded part)) l new) c.as_mut_slice.ensures.value
    (subst (λ (l : List ℕ). AreMore l c.as_mut_slice.result.now new) (λ i. seen_codes (probe.snapshot i) part column (probe.stamps i) (held_places ((probe.coded ∙ c.as_slice.ensures.value) i) part)) c.in_ok-tally.ensures) in
    let size : length items ≡ c.loop-number.counts.len = omega (arith, c.loop-number.counts.ok.0) in
    let whole : new ≡ take c.loop-number.counts.len (new ++ drop (length new) items) = sym (take_at new (drop (length new) items) c.loop-number.counts.len (one.size ∙ size)) in
    let more : flat_map found (range_with_len 0 p) ++ found p ≡ flat_map found (range_with_len 0 (p + 1)) = parts-more found [] (flat_map found (range_with_len 0 p)) (flat_map found (range_with_len 0 p) ++ found p) p refl refl in
    record {
      told = subst (Tallies main column (flat_map found (range_with_len 0 (p + 1)))) whole (subst (λ (l : List Found). Tallies main column l new) more
          (tallies-more main column p part at c.requires.column snapshot coded stamps (flat_map found (range_with_len 0 p)) (found p) items new c.loop-number.invariant.told one
          (part-found main preds coded p part snapshot.fates.now snapshot.at snapshot.own stamps c.in_ok-coded.ensures.coded c.requires.columns at)));
      size = ap (λ (l : List ℕ). length l) (sym whole) ∙ one.size ∙ c.loop-number.invariant.size;
      few = λ code. subst (λ (l : List ℕ). get_or l code 0 ≤ sum_by (λ (rows : List KeyRow). length rows) (take (p + 1) main.parts)) whole (few-more main column p part at c.requires.column snapshot coded stamps items new one c.loop-number.invariant.few code);
    }
