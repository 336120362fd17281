use Rattle.std.proofs.Common.{◌≡◌, ◌∙◌, ◌++◌, sym, ap, arith}
use Rattle.std.specs.Prelude.{map, reverse}
use Rattle.ut_gate.specs.Passes.{Carried}
use Rattle.ut_crew.specs.declared.floor.Done.{Done}
use Rattle.ut_crew.proofs.Parts.{next_one}
use Rattle.ut_crew.proofs.crew.passes_of.Goals as goal

pub loop-one-preserved : goal.loop-one-preserved
loop-one-preserved g c =
    let D : Type 0 = Done g.row.E.Denot g.row.A.Denot g.row.M.Denot g.row.S.Denot g.row.E-Job.Denot g.row.E-Entry.Denot in
    let C : Type 0 = Carried g.row.E-Entry.Denot g.row.E-Job.Denot in
    let pass : D → C = λ d. d.pass in
    let a = c.in-Some.ensures.len in
    let b = c.push_reserved.ensures.len in
    let d = c.push_reserved.ensures.capacity in
    let i = c.loop-one.invariant.0 in (
      omega arith,
      ap (λ l. l ++ map pass (reverse c.pop.new.self.items)) c.push_reserved.ensures.items
          ∙ next_one pass c.loop-one.back.items c.pop.new.self.items c.in-Some.one
          ∙ sym (ap (λ s. c.loop-one.back.items ++ map pass (reverse s)) c.in-Some.ensures.items)
          ∙ c.loop-one.invariant.1,
    )
