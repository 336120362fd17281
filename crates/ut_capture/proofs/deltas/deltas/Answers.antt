use Rattle.std.proofs.Common.{ℕ, List, ◌++◌, ◌∙◌, ap}
use Rattle.ut_table.specs.declared.stage.Stage.TheVariants.{L1, L2, Closed}
use Rattle.ut_table.specs.Outside.{rows_in}
use Rattle.ut_capture.proofs.PlaceLemmas.{deltas-are, live-count}
use Rattle.ut_capture.proofs.deltas.deltas.Goals as goal

pub returns : goal.returns
returns c =
    deltas-are c.args.fates.now c.args.entries c.args.table.now.stages c.live_count-closed.result c.live_count-l2.result c.live_count-l1.result
    c.extend_from_slice.new.self.items c.put_live.new.out.items c.put_live-2.new.out.items c.extend_from_slice-2.new.self.items c.put_live-3.new.out.items
    (live-count c.args.fates.now c.args.entries (rows_in Closed c.args.table.now.stages) c.stamps_in.result.now c.live_count-closed.result c.stamps_in.ensures.stamps c.live_count-closed.ensures.count)
    (live-count c.args.fates.now c.args.entries (rows_in L2 c.args.table.now.stages) c.stamps_in-2.result.now c.live_count-l2.result c.stamps_in-2.ensures.stamps c.live_count-l2.ensures.count)
    (live-count c.args.fates.now c.args.entries (rows_in L1 c.args.table.now.stages) c.stamps_in-3.result.now c.live_count-l1.result c.stamps_in-3.ensures.stamps c.live_count-l1.ensures.count)
    (c.in_ok-extend_from_slice.ensures.items ∙ (λ i. c.new-out.ensures.items i ++ c.to_le_bytes.ensures i))
    c.in_ok-put_live.ensures c.in_ok-put_live-2.ensures
    (c.in_ok-extend_from_slice-2.ensures.items ∙ ap (λ (l : List ℕ). c.put_live-2.new.out.items ++ l) c.to_le_bytes-2.ensures)
    c.in_ok-put_live-3.ensures
