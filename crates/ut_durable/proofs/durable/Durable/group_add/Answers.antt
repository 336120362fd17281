use Rattle.std.proofs.Common.{◌+◌, length, sym, ◌∙◌, ap, subst}
use Rattle.ut_outside.specs.declared.disk.Which.TheVariants.{Pages}
use Rattle.ut_outside.specs.Disk.{View, Image, IsTold}
use Rattle.ut_redo.specs.Groups.{Log, IsUnderWay}
use Rattle.ut_redo.specs.Logs.{IsLogFile}
use Rattle.ut_redo.proofs.LogLemmas.{not_pages}
use Rattle.ut_durable.specs.Calls.{FilesHeld}
use Rattle.ut_durable.specs.Groups.{Waits, log_held}
use Rattle.ut_durable.proofs.GroupLemmas.{waits}
use Rattle.ut_durable.proofs.durable.Durable.group_add.Goals as goal

pub returns-in_err-group_add-clause-waits : goal.returns-in_err-group_add-clause-waits
returns-in_err-group_add-clause-waits g c =
    let v0 : View = g.D.Disk.view c.args.disk.now in
    let v1 : View = g.D.Disk.view c.group_add.new.disk in
    let f : FilesHeld = record { log = c.self.inside.redo.place; group = c.self.inside.redo.group; slot = c.self.inside.pages.slot; reached = c.self.inside.pages.reached } in
    let now : (x : Image) → IsTold v0 → v1.crash_states x → v1.crash_states_since v0.moment x = λ x told left. g.met.D.Disk.counts_now c.group_add.new.disk v0.moment x (c.group_add.ensures.any_moment told).later left in
    subst (λ (h : FilesHeld). Waits h v0 v1) c.self.view_is (waits f v0 v1 c.group_add.ensures.told c.group_add.ensures.any_moment now)

pub returns-clause-waits : goal.returns-clause-waits
returns-clause-waits g c =
    let v0 : View = g.D.Disk.view c.args.disk.now in
    let v1 : View = g.D.Disk.view c.group_add.new.disk in
    let f : FilesHeld = record { log = c.self.inside.redo.place; group = c.self.inside.redo.group; slot = c.self.inside.pages.slot; reached = c.self.inside.pages.reached } in
    let now : (x : Image) → IsTold v0 → v1.crash_states x → v1.crash_states_since v0.moment x = λ x told left. g.met.D.Disk.counts_now c.group_add.new.disk v0.moment x (c.in_ok-group_add.ensures.any_moment told).later left in
    subst (λ (h : FilesHeld). Waits h v0 v1) c.self.view_is (waits f v0 v1 c.in_ok-group_add.ensures.told c.in_ok-group_add.ensures.any_moment now)

pub returns-clause-pages : goal.returns-clause-pages
returns-clause-pages g c told =
    let v0 : View = g.D.Disk.view c.args.disk.now in
    let v1 : View = g.D.Disk.view c.group_add.new.disk in
    let f : FilesHeld = record { log = c.self.inside.redo.place; group = c.self.inside.redo.group; slot = c.self.inside.pages.slot; reached = c.self.inside.pages.reached } in
    let is : IsLogFile f.log.file = subst (λ (h : FilesHeld). IsLogFile h.log.file) (sym c.self.view_is) c.requires.log in
    c.in_ok-group_add.ensures.others told Pages (not_pages f.log.file is)

pub returns-clause-group : goal.returns-clause-group
returns-clause-group g c =
    let v0 : View = g.D.Disk.view c.args.disk.now in
    let v1 : View = g.D.Disk.view c.group_add.new.disk in
    let f : FilesHeld = record { log = c.self.inside.redo.place; group = c.self.inside.redo.group; slot = c.self.inside.pages.slot; reached = c.self.inside.pages.reached } in
    ap (λ (l : Log). record f { log = l.place; group = l.group }) c.in_ok-group_add.ensures.group ∙ ap (λ (h : FilesHeld). record h { group = record { room = h.group.room; added = h.group.added + length c.args.frame.now.payload } }) c.self.view_is

pub returns-clause-added : goal.returns-clause-added
returns-clause-added g c payload under_way =
    let v0 : View = g.D.Disk.view c.args.disk.now in
    let v1 : View = g.D.Disk.view c.group_add.new.disk in
    let f : FilesHeld = record { log = c.self.inside.redo.place; group = c.self.inside.redo.group; slot = c.self.inside.pages.slot; reached = c.self.inside.pages.reached } in
    c.in_ok-group_add.ensures.added payload (subst (λ (h : FilesHeld). IsUnderWay (log_held h) payload v0) (sym c.self.view_is) under_way)
