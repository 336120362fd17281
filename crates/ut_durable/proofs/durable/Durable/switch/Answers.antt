use Rattle.std.proofs.Common.{sym, ◌∙◌, ap, subst}
use Rattle.ut_redo.specs.Groups.{Log}
use Rattle.ut_redo.specs.Logs.{switched_place}
use Rattle.ut_outside.specs.Disk.{View}
use Rattle.ut_durable.specs.Calls.{FilesHeld, Moves, MayMove}
use Rattle.ut_durable.proofs.CallLemmas.{moves, may_move}
use Rattle.ut_durable.proofs.durable.Durable.switch.Goals as goal

pub returns-in_err-switch-clause-any_moment : goal.returns-in_err-switch-clause-any_moment
returns-in_err-switch-clause-any_moment g c =
    let v0 : View = g.D.Disk.view c.args.disk.now in
    let v1 : View = g.D.Disk.view c.switch.new.disk in
    let f : FilesHeld = record { log = c.self.inside.redo.place; group = c.self.inside.redo.group; slot = c.self.inside.pages.slot; reached = c.self.inside.pages.reached } in
    subst (λ (h : FilesHeld). MayMove h v0 v1) c.self.view_is (may_move f v0 v1 c.switch.ensures.told c.switch.ensures.any_moment)

pub returns-clause-any_moment : goal.returns-clause-any_moment
returns-clause-any_moment g c =
    let v0 : View = g.D.Disk.view c.args.disk.now in
    let v1 : View = g.D.Disk.view c.switch.new.disk in
    let f : FilesHeld = record { log = c.self.inside.redo.place; group = c.self.inside.redo.group; slot = c.self.inside.pages.slot; reached = c.self.inside.pages.reached } in
    subst (λ (h : FilesHeld). MayMove h v0 v1) c.self.view_is (may_move f v0 v1 c.in_ok-switch.ensures.told c.in_ok-switch.ensures.any_moment)

pub returns-clause-place : goal.returns-clause-place
returns-clause-place g c =
    let v0 : View = g.D.Disk.view c.args.disk.now in
    let v1 : View = g.D.Disk.view c.switch.new.disk in
    let f : FilesHeld = record { log = c.self.inside.redo.place; group = c.self.inside.redo.group; slot = c.self.inside.pages.slot; reached = c.self.inside.pages.reached } in
    ap (λ (l : Log). record f { log = l.place; group = l.group }) c.in_ok-switch.ensures.place ∙ ap (λ (h : FilesHeld). record h { log = switched_place h.log }) c.self.view_is

pub returns-clause-moves : goal.returns-clause-moves
returns-clause-moves g c =
    let v0 : View = g.D.Disk.view c.args.disk.now in
    let v1 : View = g.D.Disk.view c.switch.new.disk in
    let f : FilesHeld = record { log = c.self.inside.redo.place; group = c.self.inside.redo.group; slot = c.self.inside.pages.slot; reached = c.self.inside.pages.reached } in
    let next : FilesHeld = record f { log = c.switch.new.self.place; group = c.switch.new.self.group } in
    subst (λ (h : FilesHeld). Moves h next v0 v1) c.self.view_is
    (subst (λ (l : Log). Moves f (record f { log = l.place; group = l.group }) v0 v1) (sym c.in_ok-switch.ensures.place) (moves f v0 v1 c.in_ok-switch.ensures.told c.in_ok-switch.ensures.switched))
