use Rattle.std.proofs.Common.{◌≡◌, Some, Result, arith}
use Rattle.std.specs.Prelude.{MatchResult}
use Rattle.std.specs.declared.thread.PromisedHandle.{PromisedHandle}
use Rattle.std.specs.declared.snapshot.Snapshot.{Snapshot}
use Rattle.ut_gate.specs.declared.pass.Pass.{Pass}
use Rattle.std.proofs.lemmas.List.Elements.{All-pop}
use Rattle.ut_crew.specs.Leaving.{HasLeft}
use Rattle.ut_crew.specs.Starting.{of_either}
use Rattle.ut_crew.specs.declared.floor.Done.{Done}
use Rattle.ut_crew.specs.declared.floor.OfFloor.{OfFloor}
use Rattle.ut_crew.specs.declared.role.Role.{Role}
use Rattle.ut_crew.proofs.Parts.{one_more}
use Rattle.ut_crew.proofs.crew.join_all.Goals as goal

pub loop-one-preserved : goal.loop-one-preserved
loop-one-preserved g c =
    let gate = c.args.floor.now.gate in
    let P : Result (PromisedHandle (Pass g.row.E.Denot g.row.E-Job.Denot g.row.E-Entry.Denot) (OfFloor g.row.E.Denot g.row.A.Denot g.row.M.Denot g.row.S.Denot g.row.E-Job.Denot g.row.E-Entry.Denot) × Snapshot (Role g.row.A.Denot g.row.M.Denot g.row.S.Denot)) (Done g.row.E.Denot g.row.A.Denot g.row.M.Denot g.row.S.Denot g.row.E-Job.Denot g.row.E-Entry.Denot) → Type 0 = λ b. MatchResult b (λ h. (h.0.promise.floor.now.gate ≡ gate) × (h.0.promise.part.value ≡ h.1.value)) (λ d. (d.pass.gate ≡ gate) × HasLeft g.E.Held.book g.E.Held.job (g.E.Held.stands_on g.E.Held.ground) g.M.Act.relates g.M.End.Act.asks g.M.End.Act.relates g.M.Build.unbuilt g.A.Act.relates g.S.Act.relates d.part.value d.pass) in
    let Q : Done g.row.E.Denot g.row.A.Denot g.row.M.Denot g.row.S.Denot g.row.E-Job.Denot g.row.E-Entry.Denot → Type 0 = λ d. (d.pass.gate ≡ gate) × HasLeft g.E.Held.book g.E.Held.job (g.E.Held.stands_on g.E.Held.ground) g.M.Act.relates g.M.End.Act.asks g.M.End.Act.relates g.M.Build.unbuilt g.A.Act.relates g.S.Act.relates d.part.value d.pass in
    let of : Result (PromisedHandle (Pass g.row.E.Denot g.row.E-Job.Denot g.row.E-Entry.Denot) (OfFloor g.row.E.Denot g.row.A.Denot g.row.M.Denot g.row.S.Denot g.row.E-Job.Denot g.row.E-Entry.Denot) × Snapshot (Role g.row.A.Denot g.row.M.Denot g.row.S.Denot)) (Done g.row.E.Denot g.row.A.Denot g.row.M.Denot g.row.S.Denot g.row.E-Job.Denot g.row.E-Entry.Denot) → Role g.row.A.Denot g.row.M.Denot g.row.S.Denot = of_either (λ h. h.1.value) (λ d. d.part.value) in
    let part : Done g.row.E.Denot g.row.A.Denot g.row.M.Denot g.row.S.Denot g.row.E-Job.Denot g.row.E-Entry.Denot → Role g.row.A.Denot g.row.M.Denot g.row.S.Denot = λ d. d.part.value in
    let split = All-pop P c.loop-one.begun.items c.pop.new.self.items (Some c.in-Some.one) c.in-Some.ensures.items c.loop-one.invariant.0 in
    let more = one_more Q part of _ c.loop-one.done.items c.push_reserved.new.self.items c.joined.result c.loop-one.begun.items c.pop.new.self.items c.in-Some.one c.push_reserved.ensures.items c.in-Some.ensures.items c.joined.ensures.part c.joined.ensures.left c.loop-one.invariant.1 c.loop-one.invariant.4 in
    let a = c.in-Some.ensures.len in
    let b = c.push_reserved.ensures.len in
    let d = c.push_reserved.ensures.capacity in
    let i = c.loop-one.invariant.2 in
    let j = c.loop-one.invariant.3 in
    (split.0, more.0, omega arith, omega arith, more.1)
