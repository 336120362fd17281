use Rattle.std.proofs.Common.{ℕ, ◌≡◌, List, refl, sym, ap, ◌∙◌, subst, arith, false}
use Rattle.ut_outside.specs.Faults.{Rose}
use Rattle.ut_script.specs.Grammar.{parsed}
use Rattle.ut_run.specs.declared.start.Start.{Start}
use Rattle.ut_app.specs.declared.tally.Tally.{Tally}
use Rattle.ut_run.specs.World.{World}
use Rattle.ut_run.specs.Beginning.{Begun, NotBegun}
use Rattle.ut_app.specs.Hearing.{Hears}
use Rattle.ut_app.specs.Benching.{IsBenching, sink_of, TellsEnd, BenchRun}
use Rattle.ut_app.proofs.BenchLemmas.{bench_early, bench-start, few_lines, bench-more, bench-fault, bench_no_memory, bench_reported, bench_faulted, end_through, noted_same, bench_told, fault_heard, sinking}
use Rattle.ut_app.proofs.bench.bench.Goals as goal

pub returns-in-Err : goal.returns-in-Err
returns-in-Err g c = λ source asks reads.
    bench_no_memory c.args.plan.now (record { source = source; asks = asks; reads = reads; sink = g.K.Taken.held c.args.sink.now; marks = g.K.Sink.moments c.args.sink.now; writes = g.K.Sink.faults c.args.sink.now; disk = g.D.Disk.view c.args.disk.now }) _ _ _ _ (g.met.D.Disk.only_now c.args.disk.now) c.ended.ensures.status c.ended.ensures.lines c.ended.ensures.acks c.ended.ensures.journal

pub returns-in-Err-begin : goal.returns-in-Err-begin
returns-in-Err-begin g c = λ source asks reads.
    let before : World = record { source = source; asks = asks; reads = reads; sink = g.K.Taken.held c.args.sink.now; marks = g.K.Sink.moments c.args.sink.now; writes = g.K.Sink.faults c.args.sink.now; disk = g.D.Disk.view c.args.disk.now } in
    let ended = c.ended-in-Err-begin.ensures in
    let back = c.disk-1.given.1 (sym c.in-Err-begin.ensures.loan) in
    subst (λ (d : g.row.D.Denot). BenchRun c.args.plan.now before (record { source = source; asks = asks; reads = reads; sink = before.sink; marks = before.marks; writes = before.writes; disk = g.D.Disk.view d }) c.ended-in-Err-begin.result.status c.ended-in-Err-begin.result.lines c.ended-in-Err-begin.result.acks.items c.ended-in-Err-begin.result.journal) (sym back)
    (bench_early c.args.plan.now before (g.D.Disk.view c.in-Err-begin.unopened.disk.now) c.open_status.result _ _ _ _ ended.status ended.lines ended.acks ended.journal (subst (λ (s : Start). NotBegun s (g.D.Disk.view c.args.disk.now) (g.D.Disk.view c.in-Err-begin.unopened.disk.now) c.open_status.result) c.start_of.ensures (c.in-Err-begin.ensures.not_begun c.open_status.result c.open_status.ensures)))

pub loop-end-init : goal.loop-end-init
loop-end-init g c = record {
  going = bench-start c.args.plan.now (g.D.Disk.view c.args.disk.now) (g.D.Disk.view c.in-Ok-begin.engine.disk) c.new-script.result c.new-notes.result.lines c.in-Ok-begin.engine.store (record { acks = c.new-notes.result.acks.items; journal = c.new-notes.result.journal; tally = c.new-notes.result.tally }) c.new-script.ensures c.new-notes.ensures.lines
      (subst (λ (s : Start). Begun s c.args.plan.now.rows (g.D.Disk.view c.args.disk.now) (g.D.Disk.view c.in-Ok-begin.engine.disk) c.in-Ok-begin.engine.store) c.start_of.ensures c.in-Ok-begin.ensures.begun) c.new-notes.ensures.acks (c.new-notes.ensures.journal ∙ c.journal_len.ensures) c.new-notes.ensures.tally c.in-Ok-begin.ensures.told;
  loan = refl;
  same = refl;
}

pub next_line-requires : goal.next_line-requires
next_line-requires g c = record { few = let few = few_lines _ _ _ _ _ _ _ c.requires.range c.loop-end.invariant.going in omega (arith, few) }

pub returns-in-Err-next_line : goal.returns-in-Err-next_line
returns-in-Err-next_line g c = λ source asks reads.
    let before : World = record { source = source; asks = asks; reads = reads; sink = g.K.Taken.held c.args.sink.now; marks = g.K.Sink.moments c.args.sink.now; writes = g.K.Sink.faults c.args.sink.now; disk = g.D.Disk.view c.args.disk.now } in
    let after : World = record { source = source; asks = asks; reads = reads; sink = g.K.Taken.held c.finish-status.new.sink; marks = g.K.Sink.moments c.finish-status.new.sink; writes = g.K.Sink.faults c.finish-status.new.sink; disk = g.D.Disk.view c.loop-end.engine.disk } in
    let stayed = noted_same c.args.plan.now before.disk after.disk c.loop-end.script c.loop-end.notes.lines c.next_line.new.notes.lines c.loop-end.engine.store _ _ _ _ _ _ c.loop-end.invariant.going c.in-Err-next_line.ensures.none c.next_line.ensures.same in
    let through = end_through c.in-Err-next_line.end c.finish-status.result c.loop-end.script c.in-Err-next_line.ensures.over c.finish-status.ensures.lacks in
    let told = subst (λ (k : g.row.K.Denot). TellsEnd c.loop-end.engine.store.store c.next_line.new.notes.lines c.next_line.new.notes.tally c.finish-status.result (sinking (g.K.Taken.held k) (g.K.Sink.moments k) (g.K.Sink.faults k)) after.disk.moment (sink_of after)) c.loop-end.invariant.same c.finish-status.ensures.told in
    let back = c.disk-in-Err-next_line-1.given.1 (sym (c.release-disk.ensures.loan ∙ (c.loop-end.invariant.loan ∙ c.in-Ok-begin.ensures.loan))) ∙ c.release-disk.ensures.disk in
    subst (λ (d : g.row.D.Denot). BenchRun c.args.plan.now before (record { source = source; asks = asks; reads = reads; sink = after.sink; marks = after.marks; writes = after.writes; disk = g.D.Disk.view d }) c.report.result.status c.report.result.lines c.report.result.acks.items c.report.result.journal) (sym back)
    (bench_reported c.args.plan.now before after c.finish-status.result c.next_line.new.notes.lines c.next_line.new.notes.journal c.next_line.new.notes.acks c.report.result c.report.ensures
    (bench_told c.args.plan.now before after c.loop-end.script c.next_line.new.notes.lines c.loop-end.engine.store (record { acks = c.next_line.new.notes.acks.items; journal = c.next_line.new.notes.journal; tally = c.next_line.new.notes.tally }) c.finish-status.result stayed through (record { source = refl; asks = refl; reads = refl }) told))

pub answer_line-heard-requires-clause-few : goal.answer_line-heard-requires-clause-few
answer_line-heard-requires-clause-few g c =
    let same = ap (λ (t : Tally). t.refused) c.next_line.ensures.same.same_tally in
    let few = c.loop-end.invariant.going.few in
    let lines = few_lines _ _ _ _ _ _ _ c.requires.range c.loop-end.invariant.going in
    omega (arith, same, few, lines)

pub returns-then-is_fault : goal.returns-then-is_fault
returns-then-is_fault g c = λ source asks reads.
    let before : World = record { source = source; asks = asks; reads = reads; sink = g.K.Taken.held c.args.sink.now; marks = g.K.Sink.moments c.args.sink.now; writes = g.K.Sink.faults c.args.sink.now; disk = g.D.Disk.view c.args.disk.now } in
    let after : World = record { source = source; asks = asks; reads = reads; sink = g.K.Taken.held c.loop-end.sink; marks = g.K.Sink.moments c.loop-end.sink; writes = g.K.Sink.faults c.loop-end.sink; disk = g.D.Disk.view c.answer_line-heard.new.engine.disk } in
    let cause = c.answer_line-heard.ensures.cause in
    let stayed = noted_same c.args.plan.now (g.D.Disk.view c.args.disk.now) (g.D.Disk.view c.loop-end.engine.disk) c.loop-end.script c.loop-end.notes.lines c.loop-end.notes.lines c.loop-end.engine.store _ _ _ _ _ _ c.loop-end.invariant.going refl c.next_line.ensures.same in
    let ill = sym c.is_fault.ensures ∙ c.if-is_fault.true in
    let rose : Rose before.disk.faults after.disk.faults = (let r = cause.cause (fault_heard c.answer_line-heard.result ill) in let later = c.loop-end.invariant.going.faults in omega (arith, r, later)) in
    let f = bench-fault c.args.plan.now (g.D.Disk.view c.args.disk.now) (g.D.Disk.view c.loop-end.engine.disk) (g.D.Disk.view c.answer_line-heard.new.engine.disk) c.loop-end.script c.next_line.new.script c.loop-end.notes.lines c.loop-end.engine.store c.answer_line-heard.new.engine.store (record { acks = c.next_line.new.notes.acks.items; journal = c.next_line.new.notes.journal; tally = c.next_line.new.notes.tally }) (record { acks = c.answer_line-heard.new.notes.acks.items; journal = c.answer_line-heard.new.notes.journal; tally = c.answer_line-heard.new.notes.tally }) c.next_line.new.text.items c.answer_line-heard.result stayed c.in-Ok-next_line.ensures.line c.answer_line-heard.ensures.noted cause.told cause.still (g.met.D.Disk.only_now c.answer_line-heard.new.engine.disk) (g.met.D.Disk.counts_now c.answer_line-heard.new.engine.disk) ill rose (subst (λ (l : List ℕ). Hears c.loop-end.engine.store (g.D.Disk.view c.loop-end.engine.disk) (parsed false l) c.answer_line-heard.result c.answer_line-heard.new.engine.store (g.D.Disk.view c.answer_line-heard.new.engine.disk)) c.deref.ensures.value c.answer_line-heard.ensures.hears) in
    let ungiven : sink_of after ≡ sink_of before = ap (λ (k : g.row.K.Denot). sinking (g.K.Taken.held k) (g.K.Sink.moments k) (g.K.Sink.faults k)) c.loop-end.invariant.same in
    let back = c.disk-then-is_fault-1.given.1 (sym (c.release-disk-then-is_fault.ensures.loan ∙ (c.answer_line-heard.ensures.loan ∙ (c.loop-end.invariant.loan ∙ c.in-Ok-begin.ensures.loan)))) ∙ c.release-disk-then-is_fault.ensures.disk in
    subst (λ (d : g.row.D.Denot). BenchRun c.args.plan.now before (record { source = source; asks = asks; reads = reads; sink = after.sink; marks = after.marks; writes = after.writes; disk = g.D.Disk.view d }) c.report-then-is_fault.result.status c.report-then-is_fault.result.lines c.report-then-is_fault.result.acks.items c.report-then-is_fault.result.journal) (sym back)
    (bench_reported c.args.plan.now before after _ c.answer_line-heard.new.notes.lines c.answer_line-heard.new.notes.journal c.answer_line-heard.new.notes.acks c.report-then-is_fault.result c.report-then-is_fault.ensures
    (bench_faulted c.args.plan.now before after c.next_line.new.script c.answer_line-heard.new.notes.lines f.front f.answers f.plain c.answer_line-heard.new.notes.acks.items c.answer_line-heard.new.notes.journal f.parts (c.answer_line-heard.ensures.lines ∙ c.in-Ok-next_line.ensures.lines ∙ f.count) f.served (record { source = refl; asks = refl; reads = refl }) ungiven rose))

pub loop-end-preserved : goal.loop-end-preserved
loop-end-preserved g c =
    let cause = c.answer_line-heard.ensures.cause in
    let stayed = noted_same c.args.plan.now (g.D.Disk.view c.args.disk.now) (g.D.Disk.view c.loop-end.engine.disk) c.loop-end.script c.loop-end.notes.lines c.loop-end.notes.lines c.loop-end.engine.store _ _ _ _ _ _ c.loop-end.invariant.going refl c.next_line.ensures.same in
    let well = sym c.is_fault.ensures ∙ c.if-is_fault.false in
    record {
      going = subst (λ (n : ℕ). IsBenching c.args.plan.now (g.D.Disk.view c.args.disk.now) (g.D.Disk.view c.answer_line-heard.new.engine.disk) c.next_line.new.script n c.answer_line-heard.new.engine.store (record { acks = c.answer_line-heard.new.notes.acks.items; journal = c.answer_line-heard.new.notes.journal; tally = c.answer_line-heard.new.notes.tally })) (sym (c.answer_line-heard.ensures.lines ∙ c.in-Ok-next_line.ensures.lines))
          (bench-more c.args.plan.now (g.D.Disk.view c.args.disk.now) (g.D.Disk.view c.loop-end.engine.disk) (g.D.Disk.view c.answer_line-heard.new.engine.disk) c.loop-end.script c.next_line.new.script c.loop-end.notes.lines c.loop-end.engine.store c.answer_line-heard.new.engine.store (record { acks = c.next_line.new.notes.acks.items; journal = c.next_line.new.notes.journal; tally = c.next_line.new.notes.tally }) (record { acks = c.answer_line-heard.new.notes.acks.items; journal = c.answer_line-heard.new.notes.journal; tally = c.answer_line-heard.new.notes.tally }) c.next_line.new.text.items c.answer_line-heard.result stayed c.in-Ok-next_line.ensures.line c.answer_line-heard.ensures.noted cause.told cause.still (g.met.D.Disk.only_now c.answer_line-heard.new.engine.disk) (g.met.D.Disk.counts_now c.answer_line-heard.new.engine.disk) well (subst (λ (l : List ℕ). Hears c.loop-end.engine.store (g.D.Disk.view c.loop-end.engine.disk) (parsed false l) c.answer_line-heard.result c.answer_line-heard.new.engine.store (g.D.Disk.view c.answer_line-heard.new.engine.disk)) c.deref.ensures.value c.answer_line-heard.ensures.hears));
      loan = c.answer_line-heard.ensures.loan ∙ c.loop-end.invariant.loan;
      same = c.loop-end.invariant.same;
    }
