use Rattle.std.proofs.Common.{◌∙◌, Some, ap, sym}
use Rattle.std.specs.Option.{option_map}
use Rattle.std.specs.Arc.{arc_value}
use Rattle.ut_table.specs.Contents.{Contents, TableValue, job_in}
use Rattle.ut_table.specs.Pending.{pending_job}
use Rattle.ut_table.proofs.CloseLemmas.{pending-is}
use Rattle.ut_table.proofs.table.Table.job_again.Goals as goal

pub job-requires-clause-width : goal.job-requires-clause-width
job-requires-clause-width c = c.self.invariant.rows.closed_wide c.in-Some.pending c.in-Some.is ∙ sym c.self.invariant.rows.main_wide

pub job-requires-clause-job : goal.job-requires-clause-job
job-requires-clause-job c = c.self.invariant.job c.in-Some.pending c.in-Some.is

pub returns-in_ok-job-in-Some : goal.returns-in_ok-job-in-Some
returns-in_ok-job-in-Some c =
    let t : Contents = record { columns = c.self.inside.columns; l1 = c.self.inside.l1.items; l2 = arc_value c.self.inside.l2; main = c.self.inside.main; pending = c.self.inside.pending; stamps = c.self.inside.stamps } in
    ap Some c.in_ok-job-in-Some.ensures ∙ sym (ap (option_map (job_in t)) c.in-Some.is) ∙ sym (pending-is c.self.invariant)
    ∙ ap (λ (v : TableValue). pending_job v.stages) c.self.view_is

pub returns-in-None : goal.returns-in-None
returns-in-None c =
    let t : Contents = record { columns = c.self.inside.columns; l1 = c.self.inside.l1.items; l2 = arc_value c.self.inside.l2; main = c.self.inside.main; pending = c.self.inside.pending; stamps = c.self.inside.stamps } in
    sym (ap (option_map (job_in t)) c.in-None.is) ∙ sym (pending-is c.self.invariant) ∙ ap (λ (v : TableValue). pending_job v.stages) c.self.view_is
