use Rattle.std.proofs.Common.{ℕ, sym, ◌∙◌, ap, Vec, Global}
use Rattle.ut_staged.specs.Staged.{row_at}
use Rattle.ut_capture.proofs.PlaceLemmas.{put_more, passed_over}
use Rattle.ut_capture.proofs.deltas.put_live.Goals as goal
use Rattle.ut_capture.proofs.deltas.put_live.Goals.{then-sees+in_ok-row+in_ok-image_row, else-sees}

pub loop-i-preserved : goal.loop-i-preserved
loop-i-preserved c = elim c.if-sees.branch [
  | then-sees+in_ok-row+in_ok-image_row w ↦
      put_more c.args.fates.now c.args.entries c.args.stage c.args.table.now.stages c.stamps_in-stamps.result.now c.loop-i.i c.stamps_in-stamps.ensures.stamps c.loop-i-test.true
      _ w.in_ok-row.row c.args.out.now.items c.loop-i.out.items c.if-sees.out.items (sym c.sees.ensures ∙ w.if-sees.true)
      (λ r at. w.in_ok-row.ensures.copy r (ap (row_at c.args.table.now.stages) w.place.ensures ∙ at)) c.loop-i.invariant (ap (λ (v : Vec ℕ Global). v.items) w.out-is ∙ w.in_ok-image_row.ensures.ok)
  | else-sees w ↦
      passed_over c.args.fates.now c.args.entries c.args.stage c.args.table.now.stages c.stamps_in-stamps.result.now c.loop-i.i c.stamps_in-stamps.ensures.stamps c.loop-i-test.true
      _ c.args.out.now.items c.loop-i.out.items c.if-sees.out.items (sym c.sees.ensures ∙ w.if-sees.false) c.loop-i.invariant (ap (λ (v : Vec ℕ Global). v.items) w.out-is)
]
