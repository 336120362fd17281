use Rattle.std.proofs.Common.{◌≡◌, true, false, Option, None, Some, refl, sym, ap, ◌∙◌}
use Rattle.std.specs.Prelude.{is_some}
use Rattle.ut_plain.specs.declared.stage.PendingMerge.{PendingMerge}
use Rattle.ut_crowd.specs.declared.merger.Ripe.{Ripe}
use Rattle.ut_crowd.specs.Keepers.{BringsJob, IsMergeDue}
use Rattle.ut_crowd.specs.Queues.{IsOver}
use Rattle.ut_crowd.proofs.DueLemmas.{nothing_due, none_due, first_due, second_due, second_held}
use Rattle.ut_crowd.proofs.KeeperLemmas.{hands_out, jobless, keeps_by}
use Rattle.ut_crowd.proofs.hall.Hall.take_job.Goals as goal

pub returns-then-is_some-clause-kept : goal.returns-then-is_some-clause-kept
returns-then-is_some-clause-kept g c =
    let old = c.args.self.now.engine.store in
    let up = c.is_over.ensures.up c.if-is_over.false in
    let held : is_some old.store.counts.pending ≡ true = ap (λ (o : Option PendingMerge). is_some o) (sym c.pending.ensures) ∙ (sym c.is_some.ensures ∙ c.if-is_some.true) in
    (c.is_over.ensures.on c.if-is_over.false, nothing_due c.args.self.now.l1 old (g.D.Disk.view c.args.self.now.engine.disk) c.args.self.now.save_waits held, refl, up.0, up.1)

pub returns-in-None-clause-kept : goal.returns-in-None-clause-kept
returns-in-None-clause-kept g c =
    let old = c.args.self.now.engine.store in
    let up = c.is_over.ensures.up c.if-is_over.false in
    let free : is_some old.store.counts.pending ≡ false = ap (λ (o : Option PendingMerge). is_some o) (sym c.pending.ensures) ∙ (sym c.is_some.ensures ∙ c.if-is_some.false) in
    (c.is_over.ensures.on c.if-is_over.false, none_due c.args.self.now.l1 old (g.D.Disk.view c.args.self.now.engine.disk) c.first_ripe.result free c.first_ripe.ensures.each c.args.self.now.save_waits c.in-None.is, refl, up.0, up.1)

pub move_rows-requires-clause-due : goal.move_rows-requires-clause-due
move_rows-requires-clause-due g c =
    let old = c.args.self.now.engine.store in
    let free : is_some old.store.counts.pending ≡ false = ap (λ (o : Option PendingMerge). is_some o) (sym c.pending.ensures) ∙ (sym c.is_some.ensures ∙ c.if-is_some.false) in
    first_due c.args.self.now.l1 old (g.D.Disk.view c.args.self.now.engine.disk) c.first_ripe.result free c.first_ripe.ensures.each c.in-Some-First.place (c.in-Some-First.is ∙ ap (λ (r : Ripe). Some r) c.in-Some-First.field-0-is)

pub returns-in-Some-First-clause-kept : goal.returns-in-Some-First-clause-kept
returns-in-Some-First-clause-kept g c =
    let old = c.args.self.now.engine.store in
    let over = IsOver c.args.self.now.stopped old c.args.self.now.queues.items in
    let due = IsMergeDue c.args.self.now.l1 c.args.self.now.save_waits old (g.D.Disk.view c.args.self.now.engine.disk) in
    let new = c.move_rows.new.self in
    keeps_by over due (BringsJob None) false c.args.self.now.stopped new.stopped new.engine.store.down c.args.self.now.book.items new.book.items c.move_rows.result (c.is_over.ensures.on c.if-is_over.false) c.move_rows.ensures.kept

pub returns-then-self-clause-kept : goal.returns-then-self-clause-kept
returns-then-self-clause-kept g c =
    let old = c.args.self.now.engine.store in
    let up = c.is_over.ensures.up c.if-is_over.false in
    let free : is_some old.store.counts.pending ≡ false = ap (λ (o : Option PendingMerge). is_some o) (sym c.pending.ensures) ∙ (sym c.is_some.ensures ∙ c.if-is_some.false) in
    (c.is_over.ensures.on c.if-is_over.false, second_held c.args.self.now.l1 old (g.D.Disk.view c.args.self.now.engine.disk) c.first_ripe.result free c.first_ripe.ensures.each c.args.self.now.save_waits c.in-Some-Second.place (c.in-Some-Second.is ∙ ap (λ (r : Ripe). Some r) c.in-Some-Second.field-0-is) c.if-self.true, refl, up.0, up.1)

pub begin_merge-requires-clause-none : goal.begin_merge-requires-clause-none
begin_merge-requires-clause-none g c =
    let old = c.args.self.now.engine.store in
    let free : is_some old.store.counts.pending ≡ false = ap (λ (o : Option PendingMerge). is_some o) (sym c.pending.ensures) ∙ (sym c.is_some.ensures ∙ c.if-is_some.false) in
    jobless c.args.self.now.job old c.requires.stands.held free

pub begin_merge-requires-clause-due : goal.begin_merge-requires-clause-due
begin_merge-requires-clause-due g c =
    let old = c.args.self.now.engine.store in
    let free : is_some old.store.counts.pending ≡ false = ap (λ (o : Option PendingMerge). is_some o) (sym c.pending.ensures) ∙ (sym c.is_some.ensures ∙ c.if-is_some.false) in
    second_due c.args.self.now.l1 old (g.D.Disk.view c.args.self.now.engine.disk) c.first_ripe.result free c.first_ripe.ensures.each c.in-Some-Second.place (c.in-Some-Second.is ∙ ap (λ (r : Ripe). Some r) c.in-Some-Second.field-0-is)

pub returns-else-self-clause-job : goal.returns-else-self-clause-job
returns-else-self-clause-job g c =
    let old = c.args.self.now.engine.store in
    let free : is_some old.store.counts.pending ≡ false = ap (λ (o : Option PendingMerge). is_some o) (sym c.pending.ensures) ∙ (sym c.is_some.ensures ∙ c.if-is_some.false) in
    hands_out c.args.self.now.job c.begin_merge.new.self.job c.begin_merge.result.1 (jobless c.args.self.now.job old c.requires.stands.held free) c.begin_merge.ensures.job

pub returns-else-self-clause-kept : goal.returns-else-self-clause-kept
returns-else-self-clause-kept g c =
    let old = c.args.self.now.engine.store in
    let over = IsOver c.args.self.now.stopped old c.args.self.now.queues.items in
    let due = IsMergeDue c.args.self.now.l1 c.args.self.now.save_waits old (g.D.Disk.view c.args.self.now.engine.disk) in
    let new = c.begin_merge.new.self in
    keeps_by over due (BringsJob c.begin_merge.result.1) false c.args.self.now.stopped new.stopped new.engine.store.down c.args.self.now.book.items new.book.items c.begin_merge.result.0 (c.is_over.ensures.on c.if-is_over.false) c.begin_merge.ensures.kept
