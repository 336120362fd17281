use Rattle.std.proofs.Common.{ℕ, ◌+◌, List, Result, Ok, sym, ◌∙◌, subst, arith}
use Rattle.std.specs.Prelude.{IsTrue}
use Rattle.ut_value.specs.declared.entry.Entry.{Entry}
use Rattle.ut_outside.specs.declared.faults.Failed.{Failed}
use Rattle.ut_outside.specs.Disk.{View, IsTold, content}
use Rattle.ut_outside.specs.Run.{Always, ComesFrom, LeavesOnly}
use Rattle.ut_redo.specs.Appends.{IsClosedAt, Extended, BeforeOrAfter}
use Rattle.ut_redo.specs.Frames.{payload_of, IsFrame}
use Rattle.ut_redo.specs.Groups.{Log, IsUnderWay, behind_group}
use Rattle.ut_redo.proofs.GroupLemmas as group
use Rattle.ut_redo.proofs.redo.Redo.group_end.Goals.{In_ok-write_through}
use Rattle.ut_redo.proofs.redo.Redo.group_end.Goals as goal

-- the log as its fields tell it
abbrev inside : (g : _) (c : In_ok-write_through g) → Log
inside g c = record { place = record { file = c.self.inside.file; end = c.self.inside.end }; group = record { room = c.self.inside.room; added = c.self.inside.added } }

-- while the gate is opened
leaves : (g : _) (c : In_ok-write_through g) {T : Type 0} (v2 : View) (r : Result T Failed) (items : List Entry) → IsFrame items → IsUnderWay c.args.self.now (payload_of items) (g.D.Disk.view c.args.disk.now) → IsTold (g.D.Disk.view c.args.disk.now)
    → group.OpensGate (inside g c) (g.D.Disk.view c.write_through.new.disk) v2 r
    → LeavesOnly (g.D.Disk.view c.args.disk.now) v2 (ComesFrom (g.D.Disk.view c.args.disk.now) c.args.self.now.place.file (BeforeOrAfter items c.args.self.now.place.end (behind_group c.args.self.now).end))
leaves g c v2 r items whole under told w =
    let v0 : View = g.D.Disk.view c.args.disk.now in
    let v1 : View = g.D.Disk.view c.write_through.new.disk in
    let log : Log = c.args.self.now in
    let closes = group.closes_as (inside g c) log v0 v1 _ c.self.view_is c.in_ok-write_through.ensures in
    group.group_leaves log items v0 v2 under c.requires.full whole
    (group.end_goes_on log (payload_of items) v0 under c.requires.full told (g.met.D.Disk.seen_stays c.args.disk.now told) v1 _ closes v2 r (group.opens_as (inside g c) log v1 v2 r c.self.view_is w))

-- when it is
extended : (g : _) (c : In_ok-write_through g) {B : Type 0} (v2 : View) (b : B) (payload : List ℕ) → IsUnderWay c.args.self.now payload (g.D.Disk.view c.args.disk.now) → IsTold (g.D.Disk.view c.args.disk.now)
    → group.OpensGate (inside g c) (g.D.Disk.view c.write_through.new.disk) v2 (Ok b)
    → Always v2 (ComesFrom (g.D.Disk.view c.args.disk.now) c.args.self.now.place.file (Extended c.args.self.now.place.end payload))
extended g c v2 b payload under told w =
    let log : Log = c.args.self.now in
    let v1 : View = g.D.Disk.view c.write_through.new.disk in
    let closes = group.closes_as (inside g c) log (g.D.Disk.view c.args.disk.now) v1 _ c.self.view_is c.in_ok-write_through.ensures in
    group.ended log payload (g.D.Disk.view c.args.disk.now) under c.requires.full told (g.met.D.Disk.seen_stays c.args.disk.now told) v1 _ closes v2 b (group.opens_as (inside g c) log v1 v2 (Ok b) c.self.view_is w)

pub returns-in_err-write_through-clause-any_moment : goal.returns-in_err-write_through-clause-any_moment
returns-in_err-write_through-clause-any_moment g c items whole under told =
    let v0 : View = g.D.Disk.view c.args.disk.now in
    let v1 : View = g.D.Disk.view c.write_through.new.disk in
    let log : Log = c.args.self.now in
    let closes = group.closes_as _ log v0 v1 _ c.self.view_is c.write_through.ensures in
    group.group_leaves log items v0 v1 under c.requires.full whole (group.end_begins log (payload_of items) v0 under c.requires.full told (g.met.D.Disk.seen_stays c.args.disk.now told) v1 _ closes)

pub returns-in_err-write_through-2-clause-any_moment : goal.returns-in_err-write_through-2-clause-any_moment
returns-in_err-write_through-2-clause-any_moment g c items whole under told =
    leaves g (goal.at.returns-in_err-write_through-2-clause-any_moment g c).In_ok-write_through _ _ items whole under told c.write_through-2.ensures

pub returns-clause-any_moment : goal.returns-clause-any_moment
returns-clause-any_moment g c items whole under told = leaves g (goal.at.returns-clause-any_moment g c).In_ok-write_through _ _ items whole under told c.in_ok-write_through-2.ensures

pub returns-clause-ended : goal.returns-clause-ended
returns-clause-ended g c items whole under told =
    let done = extended g (goal.at.returns-clause-ended g c).In_ok-write_through _ _ (payload_of items) under told c.in_ok-write_through-2.ensures in
    group.group_after c.args.self.now items (g.D.Disk.view c.args.disk.now) (g.D.Disk.view c.write_through-2.new.disk) under c.requires.full whole done

pub returns-clause-gate : goal.returns-clause-gate
returns-clause-gate g c later image left =
    let v0 : View = g.D.Disk.view c.args.disk.now in
    let log = c.args.self.now in
    let told : IsTold v0 = subst IsTrue (c.in_ok-write_through-2.ensures.told ∙ c.in_ok-write_through.ensures.told) later in
    let was = c.requires.under_way in
    let done = extended g (goal.at.returns-clause-gate g c).In_ok-write_through _ _ was.0 was.1 told c.in_ok-write_through-2.ensures in
    let gate = group.group_gate log was.0 v0 (g.D.Disk.view c.write_through-2.new.disk) was.1 c.requires.full done image left in
    subst (λ (h : Log). IsClosedAt (h.place.end + 5 + h.group.room) (content h.place.file image)) (sym c.self.view_is)
    (subst (λ (n : ℕ). IsClosedAt n (content log.place.file image)) (omega arith) gate)
