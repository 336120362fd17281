use Rattle.std.proofs.Common.{◌≡◌, Some, Result, arith}
use Rattle.std.specs.Prelude.{MatchResult}
use Rattle.std.specs.declared.thread.PromisedHandle.{PromisedHandle}
use Rattle.std.specs.declared.snapshot.Snapshot.{Snapshot}
use Rattle.ut_gate.specs.declared.pass.Pass.{Pass}
use Rattle.std.proofs.lemmas.List.Elements.{All-pop}
use Rattle.ut_crew.specs.Leaving.{HasLeft}
use Rattle.ut_crew.specs.Starting.{of_either}
use Rattle.ut_crew.specs.declared.floor.Done.{Done}
use Rattle.ut_crew.specs.declared.floor.OfFloor.{OfFloor}
use Rattle.ut_crew.specs.declared.member.Member.{Member}
use Rattle.ut_crew.specs.declared.role.Role.{Role}
use Rattle.ut_crew.proofs.Parts.{one_more}
use Rattle.ut_crew.proofs.crew.start_all.Goals as goal

pub loop-member-preserved : goal.loop-member-preserved
loop-member-preserved g c =
    let gate = c.args.floor.now.gate in
    let P : Member g.row.E.Denot g.row.A.Denot g.row.M.Denot g.row.S.Denot g.row.E-Job.Denot g.row.E-Entry.Denot → Type 0 = λ m. m.pass.gate ≡ gate in
    let Q : Result (PromisedHandle (Pass g.row.E.Denot g.row.E-Job.Denot g.row.E-Entry.Denot) (OfFloor g.row.E.Denot g.row.A.Denot g.row.M.Denot g.row.S.Denot g.row.E-Job.Denot g.row.E-Entry.Denot) × Snapshot (Role g.row.A.Denot g.row.M.Denot g.row.S.Denot)) (Done g.row.E.Denot g.row.A.Denot g.row.M.Denot g.row.S.Denot g.row.E-Job.Denot g.row.E-Entry.Denot) → Type 0 = λ b. MatchResult b (λ h. (h.0.promise.floor.now.gate ≡ gate) × (h.0.promise.part.value ≡ h.1.value)) (λ d. (d.pass.gate ≡ gate) × HasLeft g.E.Held.book g.E.Held.job (g.E.Held.stands_on g.E.Held.ground) g.M.Act.relates g.M.End.Act.asks g.M.End.Act.relates g.M.Build.unbuilt g.A.Act.relates g.S.Act.relates d.part.value d.pass) in
    let of : Member g.row.E.Denot g.row.A.Denot g.row.M.Denot g.row.S.Denot g.row.E-Job.Denot g.row.E-Entry.Denot → Role g.row.A.Denot g.row.M.Denot g.row.S.Denot = λ m. m.role in
    let part : Result (PromisedHandle (Pass g.row.E.Denot g.row.E-Job.Denot g.row.E-Entry.Denot) (OfFloor g.row.E.Denot g.row.A.Denot g.row.M.Denot g.row.S.Denot g.row.E-Job.Denot g.row.E-Entry.Denot) × Snapshot (Role g.row.A.Denot g.row.M.Denot g.row.S.Denot)) (Done g.row.E.Denot g.row.A.Denot g.row.M.Denot g.row.S.Denot g.row.E-Job.Denot g.row.E-Entry.Denot) → Role g.row.A.Denot g.row.M.Denot g.row.S.Denot = of_either (λ h. h.1.value) (λ d. d.part.value) in
    let split = All-pop P c.loop-member.members.items c.pop.new.self.items (Some c.in-Some.member) c.in-Some.ensures.items c.loop-member.invariant.0 in
    let more = one_more Q part of _ c.loop-member.begun.items c.push_reserved.new.self.items c.start.result c.loop-member.members.items c.pop.new.self.items c.in-Some.member c.push_reserved.ensures.items c.in-Some.ensures.items c.start.ensures.part c.start.ensures.begun c.loop-member.invariant.1 c.loop-member.invariant.4 in
    let a = c.in-Some.ensures.len in
    let b = c.push_reserved.ensures.len in
    let d = c.push_reserved.ensures.capacity in
    let i = c.loop-member.invariant.2 in
    let j = c.loop-member.invariant.3 in
    (split.0, more.0, omega arith, omega arith, more.1)

pub start-requires-clause-own : goal.start-requires-clause-own
start-requires-clause-own g c κs within =
    let gate = c.args.floor.now.gate in
    let P : Member g.row.E.Denot g.row.A.Denot g.row.M.Denot g.row.S.Denot g.row.E-Job.Denot g.row.E-Entry.Denot → Type 0 = λ m. m.pass.gate ≡ gate in
    let split = All-pop P c.loop-member.members.items c.pop.new.self.items (Some c.in-Some.member) c.in-Some.ensures.items c.loop-member.invariant.0 in split.1
