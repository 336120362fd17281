use Rattle.std.proofs.Common.{◌≡◌, ◌∙◌, Some, ap, slice_get}
use Rattle.ut_stamps.specs.declared.fates.Fate.TheVariants.{Running}
use Rattle.ut_stamps.specs.Stamps.{fate_at, is_running}
use Rattle.ut_exact.proofs.FateLemmas.{fate-push_new}
use Rattle.ut_tables.specs.Rows.{Rows, RowsValue}
use Rattle.ut_tables.proofs.WorkLemmas.{can_do_started, loads_well_started}
use Rattle.ut_tables.proofs.rows.Rows.work_alone.Goals as goal

pub work_inside-requires-clause-can : goal.work_inside-requires-clause-can
work_inside-requires-clause-can c = can_do_started c.args.self.now c.start.new.self _ c.args.work c.in_ok-number.ensures.ok c.requires.can

pub work_inside-requires-clause-loads : goal.work_inside-requires-clause-loads
work_inside-requires-clause-loads c = loads_well_started c.args.self.now c.start.new.self _ c.args.work c.in_ok-number.ensures.ok c.requires.loads

pub abort-requires : goal.abort-requires
abort-requires c =
    let fates = ap (λ (r : Rows). r.fates) c.in-Err.ensures.err ∙ ap (λ (x : RowsValue). x.rows.fates) c.in_ok-number.ensures.ok in
    ap is_running ((λ i. fate_at (fates i) (c.in_ok-number.ensures.number i)) ∙ fate-push_new c.args.self.now.rows.fates Running)

pub commit-requires : goal.commit-requires
commit-requires c =
    let at : slice_get c.start.new.self.rows.staged c.args.work.place ≡ Some c.requires.can.table = ap (λ (x : RowsValue). slice_get x.rows.staged c.args.work.place) c.in_ok-number.ensures.ok ∙ c.requires.can.at in
    let fates = ap (λ (r : Rows). r.fates) (c.in_default.ensures.ok c.requires.can.table at) ∙ ap (λ (x : RowsValue). x.rows.fates) c.in_ok-number.ensures.ok in
    ap is_running ((λ i. fate_at (fates i) (c.in_ok-number.ensures.number i)) ∙ fate-push_new c.args.self.now.rows.fates Running)
