use Rattle.std.proofs.Common.{◌∙◌, ap}
use Rattle.std.specs.Arc.{arc_value}
use Rattle.ut_l2.specs.Delta.{Delta}
use Rattle.ut_table.specs.Contents.{TableValue}
use Rattle.ut_table.proofs.CloseLemmas.{no-closed, frozen, frozen-width, begun-kept, begun-stages, begun-pending}
use Rattle.ut_table.proofs.table.Table.close_l2.Goals as goal

pub job-requires-clause-width : goal.job-requires-clause-width
job-requires-clause-width c =
    let view = ap (λ (v : TableValue). v.stages) c.self.view_is in
    let is = c.of-pending.ensures ∙ (λ i. record { head = c.args.head; closed = c.in_ok-closed.ensures i; keep = c.in_ok-keep.ensures.ok i }) in
    frozen-width c.self.invariant view c.args.head c.args.keep c.of-pending.result is c.requires.idle c.requires.job

pub job-requires-clause-job : goal.job-requires-clause-job
job-requires-clause-job c =
    let view = ap (λ (v : TableValue). v.stages) c.self.view_is in
    let is = c.of-pending.ensures ∙ (λ i. record { head = c.args.head; closed = c.in_ok-closed.ensures i; keep = c.in_ok-keep.ensures.ok i }) in
    frozen c.self.invariant view c.args.head c.args.keep c.of-pending.result is c.requires.idle c.requires.job

pub close_l2-requires : goal.close_l2-requires
close_l2-requires c =
    let view = ap (λ (v : TableValue). v.stages) c.self.view_is in
    let is = c.of-pending.ensures ∙ (λ i. record { head = c.args.head; closed = c.in_ok-closed.ensures i; keep = c.in_ok-keep.ensures.ok i }) in
    no-closed c.self.invariant view c.args.head c.args.keep c.of-pending.result is c.requires.idle c.requires.job

pub invariant_of-self : goal.invariant_of-self
invariant_of-self c =
    let view = ap (λ (v : TableValue). v.stages) c.self.view_is in
    let is = c.of-pending.ensures ∙ (λ i. record { head = c.args.head; closed = c.in_ok-closed.ensures i; keep = c.in_ok-keep.ensures.ok i }) in
    begun-kept c.self.invariant view c.args.head c.args.keep c.of-pending.result is c.requires.idle c.requires.job (arc_value c.in_ok-fresh.fresh) c.close_l2.new.self
    (ap (λ (d : Delta). d.width) c.in_ok-fresh.ensures.ok ∙ c.in_ok-empty.ensures.0 ∙ c.width.ensures) (ap (λ (d : Delta). d.rows) c.in_ok-fresh.ensures.ok ∙ c.in_ok-empty.ensures.1) c.close_l2.ensures.l2 c.close_l2.ensures.others

pub returns-clause-ok : goal.returns-clause-ok
returns-clause-ok c =
    let view = ap (λ (v : TableValue). v.stages) c.self.view_is in
    let is = c.of-pending.ensures ∙ (λ i. record { head = c.args.head; closed = c.in_ok-closed.ensures i; keep = c.in_ok-keep.ensures.ok i }) in
    begun-stages c.self.invariant view c.args.head c.args.keep c.of-pending.result is c.requires.idle c.requires.job (arc_value c.in_ok-fresh.fresh) c.close_l2.new.self
    (ap (λ (d : Delta). d.width) c.in_ok-fresh.ensures.ok ∙ c.in_ok-empty.ensures.0 ∙ c.width.ensures) (ap (λ (d : Delta). d.rows) c.in_ok-fresh.ensures.ok ∙ c.in_ok-empty.ensures.1) c.close_l2.ensures.l2 c.close_l2.ensures.others

pub returns-clause-job : goal.returns-clause-job
returns-clause-job c =
    let view = ap (λ (v : TableValue). v.stages) c.self.view_is in
    let is = c.of-pending.ensures ∙ (λ i. record { head = c.args.head; closed = c.in_ok-closed.ensures i; keep = c.in_ok-keep.ensures.ok i }) in
    begun-pending c.self.invariant view c.args.head c.args.keep c.of-pending.result is c.requires.idle c.requires.job (arc_value c.in_ok-fresh.fresh) c.close_l2.new.self
    (ap (λ (d : Delta). d.width) c.in_ok-fresh.ensures.ok ∙ c.in_ok-empty.ensures.0 ∙ c.width.ensures) (ap (λ (d : Delta). d.rows) c.in_ok-fresh.ensures.ok ∙ c.in_ok-empty.ensures.1) c.close_l2.ensures.l2 c.close_l2.ensures.others
    c.in_ok-job.job c.in_ok-job.ensures
