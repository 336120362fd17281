use Rattle.std.proofs.Common.{sym, ◌∙◌, ap, subst}
use Rattle.ut_outside.specs.declared.disk.Which.TheVariants.{Pages}
use Rattle.ut_redo.specs.Appends.{behind}
use Rattle.ut_redo.specs.Groups.{Log}
use Rattle.ut_redo.specs.Logs.{IsLogFile}
use Rattle.ut_redo.proofs.LogLemmas.{not_pages}
use Rattle.ut_outside.specs.Disk.{View}
use Rattle.ut_durable.specs.Calls.{FilesHeld, Gains, MayGain}
use Rattle.ut_durable.proofs.CallLemmas.{gains, may_gain}
use Rattle.ut_durable.proofs.durable.Durable.append.Goals as goal

pub returns-in_err-append-clause-any_moment : goal.returns-in_err-append-clause-any_moment
returns-in_err-append-clause-any_moment g c =
    let v0 : View = g.D.Disk.view c.args.disk.now in
    let v1 : View = g.D.Disk.view c.append.new.disk in
    let f : FilesHeld = record { log = c.self.inside.redo.place; group = c.self.inside.redo.group; slot = c.self.inside.pages.slot; reached = c.self.inside.pages.reached } in
    subst (λ (h : FilesHeld). MayGain c.args.frame.now.payload h v0 v1) c.self.view_is (may_gain f v0 v1 c.append.ensures.told c.args.frame.now.payload c.append.ensures.any_moment)

pub returns-clause-any_moment : goal.returns-clause-any_moment
returns-clause-any_moment g c =
    let v0 : View = g.D.Disk.view c.args.disk.now in
    let v1 : View = g.D.Disk.view c.append.new.disk in
    let f : FilesHeld = record { log = c.self.inside.redo.place; group = c.self.inside.redo.group; slot = c.self.inside.pages.slot; reached = c.self.inside.pages.reached } in
    subst (λ (h : FilesHeld). MayGain c.args.frame.now.payload h v0 v1) c.self.view_is (may_gain f v0 v1 c.in_ok-append.ensures.told c.args.frame.now.payload c.in_ok-append.ensures.any_moment)

pub returns-clause-gains : goal.returns-clause-gains
returns-clause-gains g c =
    let v0 : View = g.D.Disk.view c.args.disk.now in
    let v1 : View = g.D.Disk.view c.append.new.disk in
    let f : FilesHeld = record { log = c.self.inside.redo.place; group = c.self.inside.redo.group; slot = c.self.inside.pages.slot; reached = c.self.inside.pages.reached } in
    let done = c.in_ok-append.ensures in
    let next : FilesHeld = record f { log = c.append.new.self.place; group = c.append.new.self.group } in
    subst (λ (h : FilesHeld). Gains c.args.frame.now.payload h next v0 v1) c.self.view_is
    (subst (λ (l : Log). Gains c.args.frame.now.payload f (record f { log = l.place; group = l.group }) v0 v1) (sym done.place) (gains f v0 v1 done.told c.args.frame.now.payload done.appended))

pub returns-clause-place : goal.returns-clause-place
returns-clause-place g c =
    let v0 : View = g.D.Disk.view c.args.disk.now in
    let v1 : View = g.D.Disk.view c.append.new.disk in
    let f : FilesHeld = record { log = c.self.inside.redo.place; group = c.self.inside.redo.group; slot = c.self.inside.pages.slot; reached = c.self.inside.pages.reached } in
    ap (λ (l : Log). record f { log = l.place; group = l.group }) c.in_ok-append.ensures.place ∙ ap (λ (h : FilesHeld). record h { log = behind h.log c.args.frame.now.payload }) c.self.view_is

pub returns-clause-pages : goal.returns-clause-pages
returns-clause-pages g c told =
    let v0 : View = g.D.Disk.view c.args.disk.now in
    let v1 : View = g.D.Disk.view c.append.new.disk in
    let f : FilesHeld = record { log = c.self.inside.redo.place; group = c.self.inside.redo.group; slot = c.self.inside.pages.slot; reached = c.self.inside.pages.reached } in
    let is : IsLogFile f.log.file = subst (λ (h : FilesHeld). IsLogFile h.log.file) (sym c.self.view_is) c.requires.log in
    c.in_ok-append.ensures.others told Pages (not_pages f.log.file is)
