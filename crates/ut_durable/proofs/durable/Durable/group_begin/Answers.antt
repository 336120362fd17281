use Rattle.std.proofs.Common.{sym, ◌∙◌, ap, subst}
use Rattle.ut_outside.specs.declared.disk.Which.TheVariants.{Pages}
use Rattle.ut_outside.specs.Disk.{View, Image, IsTold}
use Rattle.ut_redo.specs.Groups.{Log}
use Rattle.ut_redo.specs.Logs.{IsLogFile}
use Rattle.ut_redo.proofs.LogLemmas.{not_pages}
use Rattle.ut_durable.specs.Calls.{FilesHeld}
use Rattle.ut_durable.specs.Groups.{Waits}
use Rattle.ut_durable.proofs.GroupLemmas.{waits}
use Rattle.ut_durable.proofs.durable.Durable.group_begin.Goals as goal

pub returns-in_err-group_begin-clause-waits : goal.returns-in_err-group_begin-clause-waits
returns-in_err-group_begin-clause-waits g c =
    let v0 : View = g.D.Disk.view c.args.disk.now in
    let v1 : View = g.D.Disk.view c.group_begin.new.disk in
    let f : FilesHeld = record { log = c.self.inside.redo.place; group = c.self.inside.redo.group; slot = c.self.inside.pages.slot; reached = c.self.inside.pages.reached } in
    let now : (x : Image) → IsTold v0 → v1.crash_states x → v1.crash_states_since v0.moment x = λ x told left. g.met.D.Disk.counts_now c.group_begin.new.disk v0.moment x (c.group_begin.ensures.any_moment told).later left in
    subst (λ (h : FilesHeld). Waits h v0 v1) c.self.view_is (waits f v0 v1 c.group_begin.ensures.told c.group_begin.ensures.any_moment now)

pub returns-clause-waits : goal.returns-clause-waits
returns-clause-waits g c =
    let v0 : View = g.D.Disk.view c.args.disk.now in
    let v1 : View = g.D.Disk.view c.group_begin.new.disk in
    let f : FilesHeld = record { log = c.self.inside.redo.place; group = c.self.inside.redo.group; slot = c.self.inside.pages.slot; reached = c.self.inside.pages.reached } in
    let now : (x : Image) → IsTold v0 → v1.crash_states x → v1.crash_states_since v0.moment x = λ x told left. g.met.D.Disk.counts_now c.group_begin.new.disk v0.moment x (c.in_ok-group_begin.ensures.any_moment told).later left in
    subst (λ (h : FilesHeld). Waits h v0 v1) c.self.view_is (waits f v0 v1 c.in_ok-group_begin.ensures.told c.in_ok-group_begin.ensures.any_moment now)

pub returns-clause-pages : goal.returns-clause-pages
returns-clause-pages g c told =
    let v0 : View = g.D.Disk.view c.args.disk.now in
    let v1 : View = g.D.Disk.view c.group_begin.new.disk in
    let f : FilesHeld = record { log = c.self.inside.redo.place; group = c.self.inside.redo.group; slot = c.self.inside.pages.slot; reached = c.self.inside.pages.reached } in
    let is : IsLogFile f.log.file = subst (λ (h : FilesHeld). IsLogFile h.log.file) (sym c.self.view_is) c.requires.log in
    c.in_ok-group_begin.ensures.others told Pages (not_pages f.log.file is)

pub returns-clause-group : goal.returns-clause-group
returns-clause-group g c =
    let v0 : View = g.D.Disk.view c.args.disk.now in
    let v1 : View = g.D.Disk.view c.group_begin.new.disk in
    let f : FilesHeld = record { log = c.self.inside.redo.place; group = c.self.inside.redo.group; slot = c.self.inside.pages.slot; reached = c.self.inside.pages.reached } in
    ap (λ (l : Log). record f { log = l.place; group = l.group }) c.in_ok-group_begin.ensures.group ∙ ap (λ (h : FilesHeld). record h { group = record { room = c.args.bytes; added = 0 } }) c.self.view_is
