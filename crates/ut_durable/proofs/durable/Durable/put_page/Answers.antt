use Rattle.std.proofs.Common.{subst}
use Rattle.ut_outside.specs.Disk.{View}
use Rattle.ut_durable.specs.Calls.{FilesHeld, Stays}
use Rattle.ut_durable.proofs.CallLemmas.{stays}
use Rattle.ut_durable.proofs.durable.Durable.put_page.Goals as goal

pub returns-clause-stays : goal.returns-clause-stays
returns-clause-stays g c =
    let v0 : View = g.D.Disk.view c.args.disk.now in
    let v1 : View = g.D.Disk.view c.put_page.new.disk in
    let f : FilesHeld = record { log = c.self.inside.redo.place; group = c.self.inside.redo.group; slot = c.self.inside.pages.slot; reached = c.self.inside.pages.reached } in
    let run = c.put_page.ensures.any_moment in
    subst (λ (h : FilesHeld). Stays h v0 v1) c.self.view_is
    (stays f v0 v1 c.put_page.ensures.told run (λ image told left. g.met.D.Disk.counts_now c.put_page.new.disk v0.moment image (run told).later left))
