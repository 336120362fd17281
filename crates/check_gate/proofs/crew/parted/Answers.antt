use Rattle.std.proofs.Common.{◌≡◌, ◌<◌, ◌++◌, sym, subst, Some, List, [], ◌∷◌, length, length-append, arith}
use Rattle.std.proofs.lemmas.List.Elements.{All-pop, All-push, All-same}
use Rattle.ut_gate.specs.Passes.{Carried}
use Rattle.check_gate.specs.declared.crew.Job.{Job}
use Rattle.check_gate.proofs.crew.parted.Goals as goal

pub loop-act-preserved : goal.loop-act-preserved
loop-act-preserved g c =
    let gate = c.args.gate.now in
    let P : Carried g.row.E-Entry.Denot g.row.E-Job.Denot → Type 0 = λ p. p.gate ≡ gate in
    let Q : Job g.row.E.Denot g.row.A.Denot g.row.E-Job.Denot g.row.E-Entry.Denot → Type 0 = λ j. j.pass.gate ≡ gate in
    let split = All-pop Q c.loop-act.jobs.items c.pop.new.self.items (Some c.in-Some.field-0) c.in-Some.ensures.items c.loop-act.invariant.2 in
    let more = c.in_ok-push-3.ensures.items in
    let some : 0 < length (c.loop-act.passes.items ++ c.in-Some.field-0.pass ∷ []) = omega (arith, length-append c.loop-act.passes.items (c.in-Some.field-0.pass ∷ [])) in (
      subst (λ (l : List (Carried g.row.E-Entry.Denot g.row.E-Job.Denot)). 0 < length l) (sym more) some,
      All-same P c.push-in-Some-2.new.self.items _ more (All-push P c.loop-act.passes.items c.in-Some.field-0.pass c.loop-act.invariant.1 split.1),
      split.0,
    )

pub returns : goal.returns
returns g c =
    let gate = c.args.gate.now in
    let P : Carried g.row.E-Entry.Denot g.row.E-Job.Denot → Type 0 = λ p. p.gate ≡ gate in (
      subst (λ (l : List (Carried g.row.E-Entry.Denot g.row.E-Job.Denot)). 0 < length l) (sym c.of.ensures) c.loop-act.invariant.0,
      All-same P c.of.result _ c.of.ensures c.loop-act.invariant.1,
    )
