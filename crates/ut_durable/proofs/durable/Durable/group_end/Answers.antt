use Rattle.std.proofs.Common.{sym, ◌∙◌, ap, subst}
use Rattle.ut_outside.specs.declared.disk.Which.TheVariants.{Pages}
use Rattle.ut_outside.specs.Disk.{View}
use Rattle.ut_redo.specs.Groups.{Log, behind_group}
use Rattle.ut_redo.specs.Logs.{IsLogFile}
use Rattle.ut_redo.proofs.LogLemmas.{not_pages}
use Rattle.ut_durable.specs.Calls.{FilesHeld}
use Rattle.ut_durable.specs.Groups.{GainsGroup, MayGainGroup, log_held}
use Rattle.ut_durable.proofs.GroupLemmas.{gains_group, may_gain_group}
use Rattle.ut_durable.proofs.durable.Durable.group_end.Goals as goal

pub returns-in_err-group_end-clause-any_moment : goal.returns-in_err-group_end-clause-any_moment
returns-in_err-group_end-clause-any_moment g c =
    let v0 : View = g.D.Disk.view c.args.disk.now in
    let v1 : View = g.D.Disk.view c.group_end.new.disk in
    let f : FilesHeld = record { log = c.self.inside.redo.place; group = c.self.inside.redo.group; slot = c.self.inside.pages.slot; reached = c.self.inside.pages.reached } in
    subst (λ (h : FilesHeld). MayGainGroup h v0 v1) c.self.view_is (may_gain_group f v0 v1 c.group_end.ensures.told c.group_end.ensures.any_moment)

pub returns-clause-any_moment : goal.returns-clause-any_moment
returns-clause-any_moment g c =
    let v0 : View = g.D.Disk.view c.args.disk.now in
    let v1 : View = g.D.Disk.view c.group_end.new.disk in
    let f : FilesHeld = record { log = c.self.inside.redo.place; group = c.self.inside.redo.group; slot = c.self.inside.pages.slot; reached = c.self.inside.pages.reached } in
    subst (λ (h : FilesHeld). MayGainGroup h v0 v1) c.self.view_is (may_gain_group f v0 v1 c.in_ok-group_end.ensures.told c.in_ok-group_end.ensures.any_moment)

pub returns-clause-pages : goal.returns-clause-pages
returns-clause-pages g c told =
    let v0 : View = g.D.Disk.view c.args.disk.now in
    let v1 : View = g.D.Disk.view c.group_end.new.disk in
    let f : FilesHeld = record { log = c.self.inside.redo.place; group = c.self.inside.redo.group; slot = c.self.inside.pages.slot; reached = c.self.inside.pages.reached } in
    let is : IsLogFile f.log.file = subst (λ (h : FilesHeld). IsLogFile h.log.file) (sym c.self.view_is) c.requires.log in
    c.in_ok-group_end.ensures.others told Pages (not_pages f.log.file is)

pub returns-clause-place : goal.returns-clause-place
returns-clause-place g c =
    let v0 : View = g.D.Disk.view c.args.disk.now in
    let v1 : View = g.D.Disk.view c.group_end.new.disk in
    let f : FilesHeld = record { log = c.self.inside.redo.place; group = c.self.inside.redo.group; slot = c.self.inside.pages.slot; reached = c.self.inside.pages.reached } in
    ap (λ (l : Log). record f { log = l.place; group = l.group }) c.in_ok-group_end.ensures.place ∙ ap (λ (h : FilesHeld). record h { log = behind_group (log_held h) }) c.self.view_is

pub returns-clause-gains : goal.returns-clause-gains
returns-clause-gains g c =
    let v0 : View = g.D.Disk.view c.args.disk.now in
    let v1 : View = g.D.Disk.view c.group_end.new.disk in
    let f : FilesHeld = record { log = c.self.inside.redo.place; group = c.self.inside.redo.group; slot = c.self.inside.pages.slot; reached = c.self.inside.pages.reached } in
    let done = c.in_ok-group_end.ensures in
    let next : FilesHeld = record f { log = c.group_end.new.self.place; group = c.group_end.new.self.group } in
    subst (λ (h : FilesHeld). GainsGroup h next v0 v1) c.self.view_is
    (subst (λ (l : Log). GainsGroup f (record f { log = l.place; group = l.group }) v0 v1) (sym done.place) (gains_group f v0 v1 done.told done.ended))
