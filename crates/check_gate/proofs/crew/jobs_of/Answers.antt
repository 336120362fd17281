use Rattle.std.proofs.Common.{◌≡◌, Some}
use Rattle.std.proofs.lemmas.List.Elements.{All-pop, All-push, All-same}
use Rattle.ut_gate.specs.Passes.{Carried}
use Rattle.check_gate.specs.declared.crew.Job.{Job}
use Rattle.check_gate.proofs.crew.jobs_of.Goals as goal

pub loop-act-preserved : goal.loop-act-preserved
loop-act-preserved g c =
    let gate = c.args.gate.now in
    let P : Carried g.row.E-Entry.Denot g.row.E-Job.Denot → Type 0 = λ p. p.gate ≡ gate in
    let Q : Job g.row.E.Denot g.row.A.Denot g.row.E-Job.Denot g.row.E-Entry.Denot → Type 0 = λ j. j.pass.gate ≡ gate in
    let split = All-pop P c.loop-act.passes c.pop-in-Some.new.self (Some c.in-Some-pop.pass) c.in-Some-pop.ensures c.loop-act.invariant.0 in (
      split.0,
      All-same Q c.push.new.self.items _ c.in_ok-push.ensures.items (All-push Q c.loop-act.jobs.items _ c.loop-act.invariant.1 split.1),
    )
