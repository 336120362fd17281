use Rattle.std.proofs.Common.{◌≡◌, Some, arith}
use Rattle.std.proofs.lemmas.List.Elements.{All-pop, All-push, All-same}
use Rattle.std.specs.declared.thread.PromisedHandle.{PromisedHandle}
use Rattle.check_gate.specs.declared.crew.OfGate.{OfGate}
use Rattle.check_gate.specs.declared.crew.Job.{Job}
use Rattle.check_gate.proofs.crew.spawn_all.Goals as goal

pub loop-job-preserved-in-Ok-start : goal.loop-job-preserved-in-Ok-start
loop-job-preserved-in-Ok-start g c =
    let gate = c.args.gate.now in
    let P : Job g.row.E.Denot g.row.A.Denot g.row.E-Job.Denot g.row.E-Entry.Denot → Type 0 = λ t. t.pass.gate ≡ gate in
    let H : PromisedHandle (Job g.row.E.Denot g.row.A.Denot g.row.E-Job.Denot g.row.E-Entry.Denot) (OfGate g.row.E.Denot g.row.E-Job.Denot g.row.E-Entry.Denot) → Type 0 = λ h. h.promise.0.now ≡ gate in
    let split = All-pop P c.loop-job.jobs.items c.pop.new.self.items (Some c.in-Some.job) c.in-Some.ensures.items c.loop-job.invariant.0 in
    let a = c.in-Some.ensures.len in
    let b = c.push_reserved.ensures.len in
    let d = c.push_reserved.ensures.capacity in
    let i = c.loop-job.invariant.3 in
    let j = c.loop-job.invariant.4 in (
      split.0,
      c.loop-job.invariant.1,
      All-same H c.push_reserved.new.self.items _ c.push_reserved.ensures.items (All-push H c.loop-job.handles.items c.in-Ok-start.child c.loop-job.invariant.2 c.in-Ok-start.ensures),
      omega arith,
      omega arith,
    )

pub loop-job-preserved : goal.loop-job-preserved
loop-job-preserved g c =
    let gate = c.args.gate.now in
    let P : Job g.row.E.Denot g.row.A.Denot g.row.E-Job.Denot g.row.E-Entry.Denot → Type 0 = λ t. t.pass.gate ≡ gate in
    let split = All-pop P c.loop-job.jobs.items c.pop.new.self.items (Some c.in-Some.job) c.in-Some.ensures.items c.loop-job.invariant.0 in
    let a = c.in-Some.ensures.len in
    let b = c.push_reserved-in-Err.ensures.len in
    let d = c.push_reserved-in-Err.ensures.capacity in
    let i = c.loop-job.invariant.3 in
    let j = c.loop-job.invariant.4 in (
      split.0,
      All-same P c.push_reserved-in-Err.new.self.items _ c.push_reserved-in-Err.ensures.items (All-push P c.loop-job.done.items c.in-Err.job c.loop-job.invariant.1 c.in-Err.ensures),
      c.loop-job.invariant.2,
      omega arith,
      omega arith,
    )
