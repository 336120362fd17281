use Rattle.std.proofs.Common.{ℕ, ◌+◌, List, ◌++◌, length, Result, sym, subst, arith}
use Rattle.ut_outside.specs.declared.faults.Failed.{Failed}
use Rattle.ut_outside.specs.Disk.{View, IsTold, Changes, TornWrite, content}
use Rattle.ut_outside.specs.Run.{ComesFrom, LeavesOnly}
use Rattle.ut_outside.proofs.RunLemmas.{written_as}
use Rattle.ut_redo.specs.Appends.{LogPlace, HasClosedGate}
use Rattle.ut_redo.specs.Groups.{Log, IsUnderWay, Unmoved}
use Rattle.ut_redo.proofs.GroupLemmas as group
use Rattle.ut_redo.proofs.redo.Redo.group_add.Goals.{After-payload-payload}
use Rattle.ut_redo.proofs.redo.Redo.group_add.Goals as goal

-- while the payload is written
leaves : (g : _) (c : After-payload-payload g) {T : Type 0} (Done : List ℕ → List ℕ → Type 0) (v1 : View) (r : Result T Failed) → IsTold (g.D.Disk.view c.args.disk.now)
    → Changes c.self.inside.file (TornWrite (length (content c.self.inside.file (g.D.Disk.view c.args.disk.now).seen)) (c.self.inside.end + 5 + c.self.inside.added) (length c.payload-payload.result.now)) Done (g.D.Disk.view c.args.disk.now) v1 r
    → LeavesOnly (g.D.Disk.view c.args.disk.now) v1 (ComesFrom (g.D.Disk.view c.args.disk.now) c.args.self.now.place.file (Unmoved c.args.self.now.place.end))
leaves g c Done v1 r told w =
    let v0 : View = g.D.Disk.view c.args.disk.now in
    let place : LogPlace = record { file = c.self.inside.file; end = c.self.inside.end } in
    let gate : HasClosedGate place v0 = subst (λ (h : Log). HasClosedGate h.place v0) (sym c.self.view_is) c.requires.under_way.1.gate in
    subst (λ (h : Log). LeavesOnly v0 v1 (ComesFrom v0 h.place.file (Unmoved h.place.end))) c.self.view_is
    (group.write_leaves v0 place.file place.end (place.end + 5 + c.self.inside.added) _ (omega arith) (gate told) (g.met.D.Disk.seen_stays c.args.disk.now told) Done v1 r w (g.met.D.Disk.only_now c.args.disk.now))

pub returns-in_err-write_at-clause-any_moment : goal.returns-in_err-write_at-clause-any_moment
returns-in_err-write_at-clause-any_moment g c told = leaves g (goal.at.returns-in_err-write_at-clause-any_moment g c).After-payload-payload _ _ _ told c.write_at.ensures

pub returns-clause-any_moment : goal.returns-clause-any_moment
returns-clause-any_moment g c told = leaves g (goal.at.returns-clause-any_moment g c).After-payload-payload _ _ _ told c.in_ok-write_at.ensures

pub returns-clause-added : goal.returns-clause-added
returns-clause-added g c payload under_way =
    let v0 : View = g.D.Disk.view c.args.disk.now in
    let log : Log = record { place = record { file = c.self.inside.file; end = c.self.inside.end }; group = record { room = c.self.inside.room; added = c.self.inside.added } } in
    let v1 : View = g.D.Disk.view c.write_at.new.self in
    let more : List ℕ = c.args.frame.now.payload in
    let at : ℕ = log.place.end + 5 + log.group.added in
    let was = subst (λ (h : Log). IsUnderWay h payload v0) (sym c.self.view_is) under_way in
    subst (λ (l : List ℕ). IsUnderWay (record { place = log.place; group = record { room = log.group.room; added = log.group.added + length l } }) (payload ++ more) v1) (sym c.payload-payload.ensures)
    (group.added log payload more at v0 v1 _ was (g.met.D.Disk.seen_stays c.args.disk.now) (omega arith)
    (written_as log.place.file at at c.payload-payload.result.now more v0 v1 _ (omega arith) c.payload-payload.ensures c.in_ok-write_at.ensures))
