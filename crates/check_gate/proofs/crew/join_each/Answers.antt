use Rattle.std.proofs.Common.{◌≡◌, ◌∙◌, Some, arith}
use Rattle.std.proofs.lemmas.List.Elements.{All-pop, All-push, All-same}
use Rattle.std.specs.declared.thread.PromisedHandle.{PromisedHandle}
use Rattle.check_gate.specs.declared.crew.Job.{Job}
use Rattle.check_gate.specs.declared.crew.OfGate.{OfGate}
use Rattle.check_gate.proofs.crew.join_each.Goals as goal

pub loop-child-preserved : goal.loop-child-preserved
loop-child-preserved g c =
    let gate = c.args.gate.now in
    let Q : Job g.row.E.Denot g.row.A.Denot g.row.E-Job.Denot g.row.E-Entry.Denot → Type 0 = λ j. j.pass.gate ≡ gate in
    let H : PromisedHandle (Job g.row.E.Denot g.row.A.Denot g.row.E-Job.Denot g.row.E-Entry.Denot) (OfGate g.row.E.Denot g.row.E-Job.Denot g.row.E-Entry.Denot) → Type 0 = λ h. h.promise.0.now ≡ gate in
    let split = All-pop H c.loop-child.handles.items c.pop.new.self.items (Some c.in-Some.child) c.in-Some.ensures.items c.loop-child.invariant.1 in
    let a = c.in-Some.ensures.len in
    let b = c.push_reserved.ensures.len in
    let d = c.push_reserved.ensures.capacity in
    let i = c.loop-child.invariant.2 in (
      All-same Q c.push_reserved.new.self.items _ c.push_reserved.ensures.items (All-push Q c.loop-child.done.items c.join.result c.loop-child.invariant.0 (c.join.ensures ∙ split.1)),
      split.0,
      omega arith,
    )
