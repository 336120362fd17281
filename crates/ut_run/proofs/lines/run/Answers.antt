use Rattle.std.proofs.Common.{List, ℕ, Ok, Err, subst, false, refl, sym, ◌∙◌}
use Rattle.ut_script.specs.Grammar.{parsed}
use Rattle.ut_run.specs.declared.start.Start.{Start}
use Rattle.ut_run.specs.Beginning.{Begun, NotBegun}
use Rattle.ut_run.specs.Ends.{Run}
use Rattle.ut_run.specs.World.{World}
use Rattle.ut_run.specs.Turning.{Turns}
use Rattle.ut_run.proofs.RunLemmas.{no_memory, early, going-start, going-more, no_line, at_end, roomy, reported}
use Rattle.ut_run.proofs.lines.run.Goals as goal

pub returns-in-Err : goal.returns-in-Err
returns-in-Err g c =
    let before : World = record { source = g.S.Source.left c.args.source.now; asks = g.S.Source.asks c.args.source.now; reads = g.S.Source.faults c.args.source.now; sink = g.K.Taken.held c.args.sink.now; marks = g.K.Sink.moments c.args.sink.now; writes = g.K.Sink.faults c.args.sink.now; disk = g.D.Disk.view c.args.disk.now } in
    no_memory c.args.plan.now before _ _ _ _ (g.met.D.Disk.only_now c.args.disk.now) c.ended.ensures.status c.ended.ensures.lines c.ended.ensures.acks c.ended.ensures.journal

pub returns-in-Err-new : goal.returns-in-Err-new
returns-in-Err-new g c =
    let before : World = record { source = g.S.Source.left c.args.source.now; asks = g.S.Source.asks c.args.source.now; reads = g.S.Source.faults c.args.source.now; sink = g.K.Taken.held c.args.sink.now; marks = g.K.Sink.moments c.args.sink.now; writes = g.K.Sink.faults c.args.sink.now; disk = g.D.Disk.view c.args.disk.now } in
    let ended = c.ended-in-Err-new.ensures in
    no_memory c.args.plan.now before _ _ _ _ (g.met.D.Disk.only_now c.args.disk.now) ended.status ended.lines ended.acks ended.journal

pub returns-in-Err-begin : goal.returns-in-Err-begin
returns-in-Err-begin g c =
    let before : World = record { source = g.S.Source.left c.args.source.now; asks = g.S.Source.asks c.args.source.now; reads = g.S.Source.faults c.args.source.now; sink = g.K.Taken.held c.args.sink.now; marks = g.K.Sink.moments c.args.sink.now; writes = g.K.Sink.faults c.args.sink.now; disk = g.D.Disk.view c.args.disk.now } in
    let ended = c.ended-in-Err-begin.ensures in
    let back = c.disk-1.given.1 (sym c.in-Err-begin.ensures.loan) in
    subst (λ (d : g.row.D.Denot). Run c.args.plan.now before (record { source = before.source; asks = before.asks; reads = before.reads; sink = before.sink; marks = before.marks; writes = before.writes; disk = g.D.Disk.view d }) c.ended-in-Err-begin.result.status c.ended-in-Err-begin.result.lines c.ended-in-Err-begin.result.acks.items c.ended-in-Err-begin.result.journal) (sym back)
    (early c.args.plan.now before (g.D.Disk.view c.in-Err-begin.unopened.disk.now) c.open_status.result _ _ _ _ ended.status ended.lines ended.acks ended.journal (subst (λ (s : Start). NotBegun s (g.D.Disk.view c.args.disk.now) (g.D.Disk.view c.in-Err-begin.unopened.disk.now) c.open_status.result) c.start_of.ensures (c.in-Err-begin.ensures.not_begun c.open_status.result c.open_status.ensures)))

pub loop-status-init : goal.loop-status-init
loop-status-init g c =
    let before : World = record { source = g.S.Source.left c.args.source.now; asks = g.S.Source.asks c.args.source.now; reads = g.S.Source.faults c.args.source.now; sink = g.K.Taken.held c.args.sink.now; marks = g.K.Sink.moments c.args.sink.now; writes = g.K.Sink.faults c.args.sink.now; disk = g.D.Disk.view c.args.disk.now } in
    record {
      going = going-start c.args.plan.now before (g.D.Disk.view c.in-Ok-begin.engine.disk) c.in-Ok.lines c.in-Ok-begin.engine.store _ _ c.in-Ok.ensures (subst (λ (s : Start). Begun s c.args.plan.now.rows (g.D.Disk.view c.args.disk.now) (g.D.Disk.view c.in-Ok-begin.engine.disk) c.in-Ok-begin.engine.store) c.start_of.ensures c.in-Ok-begin.ensures.begun) (c.opened.ensures.acks ∙ c.in-Ok-new.ensures) (c.opened.ensures.journal ∙ c.journal_len.ensures)
          (λ bytes is. g.met.K.Sink.one_each c.args.sink.now bytes is) c.in-Ok-begin.ensures.told;
      loan = refl;
    }

pub next_line-requires : goal.next_line-requires
next_line-requires g c = c.loop-status.invariant.going.no_error

pub returns-in-Err-next_line : goal.returns-in-Err-next_line
returns-in-Err-next_line g c =
    let going = roomy _ _ _ _ _ _ _ _ _ _ c.loop-status.invariant.going c.next_line.ensures.acks c.next_line.ensures.journal in
    let back = c.disk-in-Err-next_line-1.given.1 (sym (c.release-disk.ensures.loan ∙ (c.loop-status.invariant.loan ∙ c.in-Ok-begin.ensures.loan))) ∙ c.release-disk.ensures.disk in
    subst (λ (d : g.row.D.Denot). Run c.args.plan.now (record { source = g.S.Source.left c.args.source.now; asks = g.S.Source.asks c.args.source.now; reads = g.S.Source.faults c.args.source.now; sink = g.K.Taken.held c.args.sink.now; marks = g.K.Sink.moments c.args.sink.now; writes = g.K.Sink.faults c.args.sink.now; disk = g.D.Disk.view c.args.disk.now })
    (record { source = g.S.Source.left c.next_line.new.source; asks = g.S.Source.asks c.next_line.new.source; reads = g.S.Source.faults c.next_line.new.source; sink = g.K.Taken.held c.loop-status.sink; marks = g.K.Sink.moments c.loop-status.sink; writes = g.K.Sink.faults c.loop-status.sink; disk = g.D.Disk.view d }) c.report.result.status c.report.result.lines c.report.result.acks.items c.report.result.journal) (sym back)
    (reported _ _ _ _ _ _ _ c.report.result c.report.ensures (no_line _ _ _ (g.S.Source.left c.next_line.new.source) (g.S.Source.asks c.next_line.new.source) (g.S.Source.faults c.next_line.new.source) _ _ _ _ _ _ _ going c.next_line.ensures.asks c.in-Err-next_line.ensures.ends))

pub turn-requires-clause-up : goal.turn-requires-clause-up
turn-requires-clause-up g c = c.loop-status.invariant.going.progress.course.runs.up

pub returns-in-Err-turn : goal.returns-in-Err-turn
returns-in-Err-turn g c =
    let before : World = record { source = g.S.Source.left c.args.source.now; asks = g.S.Source.asks c.args.source.now; reads = g.S.Source.faults c.args.source.now; sink = g.K.Taken.held c.args.sink.now; marks = g.K.Sink.moments c.args.sink.now; writes = g.K.Sink.faults c.args.sink.now; disk = g.D.Disk.view c.args.disk.now } in
    let mid : World = record { source = g.S.Source.left c.loop-status.source; asks = g.S.Source.asks c.loop-status.source; reads = g.S.Source.faults c.loop-status.source; sink = g.K.Taken.held c.loop-status.sink; marks = g.K.Sink.moments c.loop-status.sink; writes = g.K.Sink.faults c.loop-status.sink; disk = g.D.Disk.view c.loop-status.engine.disk } in
    let after : World = record { source = g.S.Source.left c.next_line.new.source; asks = g.S.Source.asks c.next_line.new.source; reads = g.S.Source.faults c.next_line.new.source; sink = g.K.Taken.held c.turn.new.sink; marks = g.K.Sink.moments c.turn.new.sink; writes = g.K.Sink.faults c.turn.new.sink; disk = g.D.Disk.view c.turn.new.engine.disk } in
    let going = roomy c.args.plan.now before mid _ _ _ _ _ _ _ c.loop-status.invariant.going c.next_line.ensures.acks c.next_line.ensures.journal in
    let turned = subst (λ (l : List ℕ). Turns c.loop-status.engine.store mid.disk (parsed false l) (record { acks = c.next_line.new.replies.acks.items; journal = c.next_line.new.replies.journal }) (record { held = mid.sink; marks = mid.marks }) (Err c.in-Err-turn.end) c.turn.new.engine.store after.disk (record { acks = c.turn.new.replies.acks.items; journal = c.turn.new.replies.journal }) (record { held = after.sink; marks = after.marks })) c.line-line.ensures c.in-Err-turn.ensures.turns in
    let back = c.disk-in-Err-turn-1.given.1 (sym (c.release-disk-in-Err-turn.ensures.loan ∙ (c.turn.ensures.loan ∙ (c.loop-status.invariant.loan ∙ c.in-Ok-begin.ensures.loan)))) ∙ c.release-disk-in-Err-turn.ensures.disk in
    subst (λ (d : g.row.D.Denot). Run c.args.plan.now before (record { source = after.source; asks = after.asks; reads = after.reads; sink = after.sink; marks = after.marks; writes = after.writes; disk = g.D.Disk.view d }) c.report-in-Err-turn.result.status c.report-in-Err-turn.result.lines c.report-in-Err-turn.result.acks.items c.report-in-Err-turn.result.journal) (sym back)
    (reported c.args.plan.now before after _ _ _ _ c.report-in-Err-turn.result c.report-in-Err-turn.ensures
    (at_end c.args.plan.now before mid after _ _ c.next_line.new.lines _ c.turn.new.engine.store _ _ _ _ going c.in-Ok-next_line.ensures.line c.in-Ok-next_line.ensures.steps c.next_line.ensures.asks c.in-Ok-next_line.ensures.counts (g.met.D.Disk.only_now c.turn.new.engine.disk) (g.met.D.Disk.counts_now c.turn.new.engine.disk) c.in-Err-turn.end c.status_at.result c.status_at.ensures c.in-Err-turn.ensures.causes turned))

pub loop-status-preserved : goal.loop-status-preserved
loop-status-preserved g c =
    let before : World = record { source = g.S.Source.left c.args.source.now; asks = g.S.Source.asks c.args.source.now; reads = g.S.Source.faults c.args.source.now; sink = g.K.Taken.held c.args.sink.now; marks = g.K.Sink.moments c.args.sink.now; writes = g.K.Sink.faults c.args.sink.now; disk = g.D.Disk.view c.args.disk.now } in
    let mid : World = record { source = g.S.Source.left c.loop-status.source; asks = g.S.Source.asks c.loop-status.source; reads = g.S.Source.faults c.loop-status.source; sink = g.K.Taken.held c.loop-status.sink; marks = g.K.Sink.moments c.loop-status.sink; writes = g.K.Sink.faults c.loop-status.sink; disk = g.D.Disk.view c.loop-status.engine.disk } in
    let after : World = record { source = g.S.Source.left c.next_line.new.source; asks = g.S.Source.asks c.next_line.new.source; reads = g.S.Source.faults c.next_line.new.source; sink = g.K.Taken.held c.turn.new.sink; marks = g.K.Sink.moments c.turn.new.sink; writes = g.K.Sink.faults c.turn.new.sink; disk = g.D.Disk.view c.turn.new.engine.disk } in
    let going = roomy c.args.plan.now before mid _ _ _ _ _ _ _ c.loop-status.invariant.going c.next_line.ensures.acks c.next_line.ensures.journal in
    let turned = subst (λ (l : List ℕ). Turns c.loop-status.engine.store mid.disk (parsed false l) (record { acks = c.next_line.new.replies.acks.items; journal = c.next_line.new.replies.journal }) (record { held = mid.sink; marks = mid.marks }) (Ok tt) c.turn.new.engine.store after.disk (record { acks = c.turn.new.replies.acks.items; journal = c.turn.new.replies.journal }) (record { held = after.sink; marks = after.marks })) c.line-line.ensures c.in-Ok-turn.ensures.turns in
    let causes = c.turn.ensures.causes in
    record {
      going = going-more c.args.plan.now before mid after _ _ c.next_line.new.lines _ c.turn.new.engine.store _ _ _ _ going c.in-Ok-next_line.ensures.line c.in-Ok-next_line.ensures.steps c.next_line.ensures.asks c.in-Ok-next_line.ensures.counts c.in-Ok-next_line.ensures.still causes.told c.in-Ok-turn.ensures.causes.still.0 c.in-Ok-turn.ensures.causes.still.1 (g.met.D.Disk.only_now c.turn.new.engine.disk) (g.met.D.Disk.counts_now c.turn.new.engine.disk) turned;
      loan = c.turn.ensures.loan ∙ c.loop-status.invariant.loan;
    }
