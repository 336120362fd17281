use Rattle.std.proofs.Common.{◌≡◌, Some, arith}
use Rattle.std.proofs.lemmas.List.Elements.{All-pop}
use Rattle.ut_crew.specs.Leaving.{HasLeft}
use Rattle.ut_crew.specs.declared.floor.Done.{Done}
use Rattle.ut_crew.specs.declared.member.Member.{Member}
use Rattle.ut_crew.specs.declared.role.Role.{Role}
use Rattle.ut_crew.proofs.Parts.{one_more}
use Rattle.ut_crew.proofs.crew.run_all.Goals as goal

pub loop-member-preserved : goal.loop-member-preserved
loop-member-preserved g c =
    let gate = c.args.floor.now.gate in
    let P : Member g.row.E.Denot g.row.A.Denot g.row.M.Denot g.row.S.Denot g.row.E-Job.Denot g.row.E-Entry.Denot → Type 0 = λ m. m.pass.gate ≡ gate in
    let Q : Done g.row.E.Denot g.row.A.Denot g.row.M.Denot g.row.S.Denot g.row.E-Job.Denot g.row.E-Entry.Denot → Type 0 = λ d. (d.pass.gate ≡ gate) × HasLeft g.E.Held.book g.E.Held.job (g.E.Held.stands_on g.E.Held.ground) g.M.Act.relates g.M.End.Act.asks g.M.End.Act.relates g.M.Build.unbuilt g.A.Act.relates g.S.Act.relates d.part.value d.pass in
    let of : Member g.row.E.Denot g.row.A.Denot g.row.M.Denot g.row.S.Denot g.row.E-Job.Denot g.row.E-Entry.Denot → Role g.row.A.Denot g.row.M.Denot g.row.S.Denot = λ m. m.role in
    let part : Done g.row.E.Denot g.row.A.Denot g.row.M.Denot g.row.S.Denot g.row.E-Job.Denot g.row.E-Entry.Denot → Role g.row.A.Denot g.row.M.Denot g.row.S.Denot = λ d. d.part.value in
    let split = All-pop P c.loop-member.members.items c.pop.new.self.items (Some c.in-Some.member) c.in-Some.ensures.items c.loop-member.invariant.0 in
    let more = one_more Q part of _ c.loop-member.done.items c.push_reserved.new.self.items c.work.result c.loop-member.members.items c.pop.new.self.items c.in-Some.member c.push_reserved.ensures.items c.in-Some.ensures.items c.work.ensures.part (c.work.ensures.gate, c.work.ensures.left) c.loop-member.invariant.1 c.loop-member.invariant.4 in
    let a = c.in-Some.ensures.len in
    let b = c.push_reserved.ensures.len in
    let d = c.push_reserved.ensures.capacity in
    let i = c.loop-member.invariant.2 in
    let j = c.loop-member.invariant.3 in
    (split.0, more.0, omega arith, omega arith, more.1)
