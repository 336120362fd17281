use Rattle.std.proofs.Common.{◌≡◌, Result}
use Rattle.std.specs.Prelude.{MatchResult}
use Rattle.std.specs.declared.thread.PromisedHandle.{PromisedHandle}
use Rattle.std.specs.declared.snapshot.Snapshot.{Snapshot}
use Rattle.ut_gate.specs.declared.pass.Pass.{Pass}
use Rattle.std.proofs.lemmas.List.Elements.{All-same}
use Rattle.ut_crew.specs.Leaving.{HasLeft}
use Rattle.ut_crew.specs.declared.floor.Done.{Done}
use Rattle.ut_crew.specs.declared.floor.OfFloor.{OfFloor}
use Rattle.ut_crew.specs.declared.role.Role.{Role}
use Rattle.ut_crew.proofs.Parts.{all_reversed}
use Rattle.ut_crew.proofs.crew.start_and_join.Goals as goal

pub join_all-requires-clause-begun : goal.join_all-requires-clause-begun
join_all-requires-clause-begun g c κs within =
    let gate = c.args.floor.now.gate in
    let Q : Result (PromisedHandle (Pass g.row.E.Denot g.row.E-Job.Denot g.row.E-Entry.Denot) (OfFloor g.row.E.Denot g.row.A.Denot g.row.M.Denot g.row.S.Denot g.row.E-Job.Denot g.row.E-Entry.Denot) × Snapshot (Role g.row.A.Denot g.row.M.Denot g.row.S.Denot)) (Done g.row.E.Denot g.row.A.Denot g.row.M.Denot g.row.S.Denot g.row.E-Job.Denot g.row.E-Entry.Denot) → Type 0 = λ b. MatchResult b (λ h. (h.0.promise.floor.now.gate ≡ gate) × (h.0.promise.part.value ≡ h.1.value)) (λ d. (d.pass.gate ≡ gate) × HasLeft g.E.Held.book g.E.Held.job (g.E.Held.stands_on g.E.Held.ground) g.M.Act.relates g.M.End.Act.asks g.M.End.Act.relates g.M.Build.unbuilt g.A.Act.relates g.S.Act.relates d.part.value d.pass) in
    All-same Q c.reverse.new.self.items _ c.reverse.ensures.items (all_reversed Q c.start_all-begun.result.items c.start_all-begun.ensures.begun)
