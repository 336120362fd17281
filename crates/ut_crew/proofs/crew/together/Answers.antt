use Rattle.std.proofs.Common.{◌≡◌, sym}
use Rattle.std.proofs.lemmas.List.Elements.{All-same}
use mathlib.Core.List.{IsPrefix}
use Rattle.ut_gate.specs.Passes.{Carried}
use Rattle.ut_crew.specs.Leaving.{HasLeft}
use Rattle.ut_crew.specs.declared.floor.Done.{Done}
use Rattle.ut_crew.specs.declared.member.Member.{Member}
use Rattle.ut_crew.specs.declared.role.Role.{Role}
use Rattle.ut_crew.specs.declared.role.Role.TheVariants.{Session, Merger, Saver}
use Rattle.ut_crew.proofs.Parts.{passes_own, each_back, by_part}
use Rattle.ut_crew.proofs.crew.together.Goals as goal

pub close-requires-clause-own : goal.close-requires-clause-own
close-requires-clause-own g c κs within =
    let D : Type 0 = Done g.row.E.Denot g.row.A.Denot g.row.M.Denot g.row.S.Denot g.row.E-Job.Denot g.row.E-Entry.Denot in
    let C : Type 0 = Carried g.row.E-Entry.Denot g.row.E-Job.Denot in
    let own : C → Type 0 = λ p. p.gate ≡ c.in-Ok-new.gate in
    let pass : D → C = λ d. d.pass in
    All-same own c.passes_of.result _ c.passes_of.ensures
    (passes_own own (λ (d : D). HasLeft g.E.Held.book g.E.Held.job (g.E.Held.stands_on g.E.Held.ground) g.M.Act.relates g.M.End.Act.asks g.M.End.Act.relates g.M.Build.unbuilt g.A.Act.relates g.S.Act.relates d.part.value d.pass) pass c.each-done.result.items c.each-done.ensures.left)

pub returns-in-Ok-new-clause-left : goal.returns-in-Ok-new-clause-left
returns-in-Ok-new-clause-left g c =
    let D : Type 0 = Done g.row.E.Denot g.row.A.Denot g.row.M.Denot g.row.S.Denot g.row.E-Job.Denot g.row.E-Entry.Denot in
    let C : Type 0 = Carried g.row.E-Entry.Denot g.row.E-Job.Denot in
    let R : Type 0 = Role g.row.A.Denot g.row.M.Denot g.row.S.Denot in
    let own : C → Type 0 = λ p. p.gate ≡ c.in-Ok-new.gate in
    let pass : D → C = λ d. d.pass in
    let part : D → R = λ d. d.part.value in
    let role : Member g.row.E.Denot g.row.A.Denot g.row.M.Denot g.row.S.Denot g.row.E-Job.Denot g.row.E-Entry.Denot → R = λ m. m.role in
    let left : R → C → Type 0 = HasLeft g.E.Held.book g.E.Held.job (g.E.Held.stands_on g.E.Held.ground) g.M.Act.relates g.M.End.Act.asks g.M.End.Act.relates g.M.Build.unbuilt g.A.Act.relates g.S.Act.relates in
    let book = g.E.Held.book c.close.result in
    let back : R → Type 0 = λ r. (q : C) × left r q × IsPrefix q.seen book in
    let seen = All-same (λ (p : C). IsPrefix p.seen book) _ c.passes_of.result (sym c.passes_of.ensures) c.close.ensures.seen in
    by_part back Session (Merger c.args.merger) (Saver c.args.saver) c.args.sessions.items _ c.crew_of-members.ensures.parts
    (each_back own left book part pass role c.each-done.result.items c.crew_of-members.result.items c.each-done.ensures.parts c.each-done.ensures.left seen)
