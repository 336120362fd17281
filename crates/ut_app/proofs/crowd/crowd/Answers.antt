use Rattle.std.proofs.Common.{List, ℕ, ◌≡◌, refl, sym, subst, ap, ◌∙◌}
use Rattle.ut_engine.specs.Lent.{Lent}
use Rattle.ut_crowd.specs.declared.book.Turn.{Turn}
use Rattle.ut_run.specs.declared.start.Start.{Start}
use Rattle.ut_run.specs.declared.report.Status.TheVariants.{Memory}
use Rattle.ut_run.specs.World.{World}
use Rattle.ut_run.specs.Beginning.{Begun, NotBegun}
use Rattle.ut_app.specs.Benching.{sink_of}
use Rattle.ut_app.specs.Crowds.{CrowdRun, TellsEnd, last_length}
use Rattle.ut_app.proofs.CrowdLemmas.{crowd_early, crowd_unrun, lacks_crowd, crowd_late}
use Rattle.ut_app.proofs.crowd.crowd.Goals as goal

pub returns-in-Err : goal.returns-in-Err
returns-in-Err g c =
    let before : World = record { source = g.S.Source.left c.args.source.now; asks = g.S.Source.asks c.args.source.now; reads = g.S.Source.faults c.args.source.now; sink = g.K.Taken.held c.args.sink.now; marks = g.K.Sink.moments c.args.sink.now; writes = g.K.Sink.faults c.args.sink.now; disk = g.D.Disk.view c.args.disk.now } in
    let ended = c.ended.ensures in
    let back = c.disk-1.given.1 (sym c.in-Err.ensures.loan) in
    subst (λ (d : g.row.D.Denot). CrowdRun c.args.plan.now before (record { source = before.source; asks = before.asks; reads = before.reads; sink = before.sink; marks = before.marks; writes = before.writes; disk = g.D.Disk.view d }) c.ended.result.status c.ended.result.lines c.ended.result.acks.items c.ended.result.journal) (sym back)
    (crowd_early c.args.plan.now before (g.D.Disk.view c.in-Err.unopened.disk.now) c.open_status.result _ _ _ _ ended.status ended.lines ended.acks ended.journal (subst (λ (s : Start). NotBegun s (g.D.Disk.view c.args.disk.now) (g.D.Disk.view c.in-Err.unopened.disk.now) c.open_status.result) c.start_of.ensures (c.in-Err.ensures.not_begun c.open_status.result c.open_status.ensures)))

pub returns-in-Err-read_all : goal.returns-in-Err-read_all
returns-in-Err-read_all g c =
    let before : World = record { source = g.S.Source.left c.args.source.now; asks = g.S.Source.asks c.args.source.now; reads = g.S.Source.faults c.args.source.now; sink = g.K.Taken.held c.args.sink.now; marks = g.K.Sink.moments c.args.sink.now; writes = g.K.Sink.faults c.args.sink.now; disk = g.D.Disk.view c.args.disk.now } in
    let after : World = record { source = g.S.Source.left c.read_all.new.source; asks = g.S.Source.asks c.read_all.new.source; reads = g.S.Source.faults c.read_all.new.source; sink = g.K.Taken.held c.args.sink.now; marks = g.K.Sink.moments c.args.sink.now; writes = g.K.Sink.faults c.args.sink.now; disk = g.D.Disk.view c.in-Ok.engine.disk } in
    let r = c.unrun.result in
    let back = c.disk-in-Err-read_all-1.given.1 (sym (c.release-disk.ensures.loan ∙ c.in-Ok.ensures.loan)) ∙ c.release-disk.ensures.disk in
    subst (λ (d : g.row.D.Denot). CrowdRun c.args.plan.now before (record { source = after.source; asks = after.asks; reads = after.reads; sink = after.sink; marks = after.marks; writes = after.writes; disk = g.D.Disk.view d }) r.status r.lines r.acks.items r.journal) (sym back)
    (crowd_unrun c.args.plan.now before after c.in-Err-read_all.status _ _ _ _ c.in-Ok.engine.store c.unrun.ensures.status c.unrun.ensures.lines c.unrun.ensures.acks (c.unrun.ensures.journal ∙ c.journal_len-journal.ensures)
    (subst (λ (s : Start). Begun s c.args.plan.now.rows (g.D.Disk.view c.args.disk.now) (g.D.Disk.view c.in-Ok.engine.disk) c.in-Ok.engine.store) c.start_of.ensures c.in-Ok.ensures.begun) c.in-Err-read_all.ensures.unread refl)

pub crowd-requires-clause-ready : goal.crowd-requires-clause-ready
crowd-requires-clause-ready g c κs within = c.requires.ready

pub returns-in-Ok-answer_all : goal.returns-in-Ok-answer_all
returns-in-Ok-answer_all g c =
    let over = c.in-Ok-answer_all.over in
    let before : World = record { source = g.S.Source.left c.args.source.now; asks = g.S.Source.asks c.args.source.now; reads = g.S.Source.faults c.args.source.now; sink = g.K.Taken.held c.args.sink.now; marks = g.K.Sink.moments c.args.sink.now; writes = g.K.Sink.faults c.args.sink.now; disk = g.D.Disk.view c.args.disk.now } in
    let after : World = record { source = g.S.Source.left c.read_all.new.source; asks = g.S.Source.asks c.read_all.new.source; reads = g.S.Source.faults c.read_all.new.source; sink = g.K.Taken.held c.tell-report.new.sink; marks = g.K.Sink.moments c.tell-report.new.sink; writes = g.K.Sink.faults c.tell-report.new.sink; disk = g.D.Disk.view over.engine.disk } in
    let r = c.tell-report.result in
    let script = c.in-Ok-read_all.lines.items in
    let tells = subst (λ (book : List Turn). TellsEnd over.stopped over.engine.store.down book c.len-count.result (sink_of before) after.disk.moment (sink_of after) r.status r.lines r.acks.items) c.deref.ensures.value c.tell-report.ensures.told in
    let tells_all = subst (λ (n : ℕ). TellsEnd over.stopped over.engine.store.down over.book.items n (sink_of before) after.disk.moment (sink_of after) r.status r.lines r.acks.items) (c.len-count.ensures ∙ c.in-Ok-read_all.lines.ok.0) tells in
    let journal = subst (λ (book : List Turn). r.journal ≡ last_length over.engine.store.down over.engine.store.store.counts.entries book) c.deref.ensures.value c.tell-report.ensures.journal in
    let back = c.disk-in-Ok-answer_all-1.given.1 (sym (c.release-disk-in-Ok-answer_all.ensures.loan ∙ (c.in-Ok-answer_all.ensures.loan ∙ c.in-Ok.ensures.loan))) ∙ c.release-disk-in-Ok-answer_all.ensures.disk in
    subst (λ (d : g.row.D.Denot). CrowdRun c.args.plan.now before (record { source = after.source; asks = after.asks; reads = after.reads; sink = after.sink; marks = after.marks; writes = after.writes; disk = g.D.Disk.view d }) r.status r.lines r.acks.items r.journal) (sym back)
    (crowd_late c.args.plan.now before after (g.D.Disk.view c.in-Ok.engine.disk) r.status script over.book.items over.all over.stopped c.in-Ok.engine.store over.engine.store r.lines r.acks.items r.journal
    (subst (λ (s : Start). Begun s c.args.plan.now.rows (g.D.Disk.view c.args.disk.now) (g.D.Disk.view c.in-Ok.engine.disk) c.in-Ok.engine.store) c.start_of.ensures c.in-Ok.ensures.begun) c.in-Ok.ensures.told c.in-Ok.ensures.later c.in-Ok-read_all.ensures.read c.in-Ok-read_all.ensures.still c.in-Ok-answer_all.ensures.ran tells_all journal)

pub returns-in-Err-answer_all : goal.returns-in-Err-answer_all
returns-in-Err-answer_all g c =
    let before : World = record { source = g.S.Source.left c.args.source.now; asks = g.S.Source.asks c.args.source.now; reads = g.S.Source.faults c.args.source.now; sink = g.K.Taken.held c.args.sink.now; marks = g.K.Sink.moments c.args.sink.now; writes = g.K.Sink.faults c.args.sink.now; disk = g.D.Disk.view c.args.disk.now } in
    let after : World = record { source = g.S.Source.left c.read_all.new.source; asks = g.S.Source.asks c.read_all.new.source; reads = g.S.Source.faults c.read_all.new.source; sink = g.K.Taken.held c.args.sink.now; marks = g.K.Sink.moments c.args.sink.now; writes = g.K.Sink.faults c.args.sink.now; disk = g.D.Disk.view c.in-Ok.engine.disk } in
    let r = c.unrun-in-Err-answer_all.result in
    let ensures = c.unrun-in-Err-answer_all.ensures in
    let err = c.in-Err-answer_all.ensures.err in
    let back = c.disk-in-Err-answer_all-1.given.1 (sym (c.release-disk-in-Err-answer_all.ensures.loan ∙ (ap (λ (e : Lent g.row.D.Denot). e.loan) err ∙ c.in-Ok.ensures.loan))) ∙ (c.release-disk-in-Err-answer_all.ensures.disk ∙ ap (λ (e : Lent g.row.D.Denot). e.disk) err) in
    subst (λ (d : g.row.D.Denot). CrowdRun c.args.plan.now before (record { source = after.source; asks = after.asks; reads = after.reads; sink = after.sink; marks = after.marks; writes = after.writes; disk = g.D.Disk.view d }) r.status r.lines r.acks.items r.journal) (sym back)
    (crowd_unrun c.args.plan.now before after Memory _ _ _ _ c.in-Ok.engine.store ensures.status ensures.lines ensures.acks (ensures.journal ∙ c.journal_len-journal.ensures)
    (subst (λ (s : Start). Begun s c.args.plan.now.rows (g.D.Disk.view c.args.disk.now) (g.D.Disk.view c.in-Ok.engine.disk) c.in-Ok.engine.store) c.start_of.ensures c.in-Ok.ensures.begun) (lacks_crowd c.args.plan.now.lines before.source before.reads after.reads) refl)
