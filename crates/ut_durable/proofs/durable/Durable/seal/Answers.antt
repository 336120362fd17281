use Rattle.std.proofs.Common.{subst}
use Rattle.ut_outside.specs.Disk.{View}
use Rattle.ut_durable.specs.Calls.{FilesHeld, Stays, BecomesReady}
use Rattle.ut_durable.proofs.CallLemmas.{stays, becomes_ready}
use Rattle.ut_durable.proofs.durable.Durable.seal.Goals as goal

pub returns-in_err-put_root-clause-stays : goal.returns-in_err-put_root-clause-stays
returns-in_err-put_root-clause-stays g c =
    let v0 : View = g.D.Disk.view c.args.disk.now in
    let v1 : View = g.D.Disk.view c.put_root.new.disk in
    let f : FilesHeld = record { log = c.self.inside.redo.place; group = c.self.inside.redo.group; slot = c.self.inside.pages.slot; reached = c.self.inside.pages.reached } in
    let run = c.put_root.ensures.any_moment in
    subst (λ (h : FilesHeld). Stays h v0 v1) c.self.view_is
    (stays f v0 v1 c.put_root.ensures.told run (λ image told left. g.met.D.Disk.counts_now c.put_root.new.disk v0.moment image (run told).later left))

pub returns-clause-stays : goal.returns-clause-stays
returns-clause-stays g c =
    let v0 : View = g.D.Disk.view c.args.disk.now in
    let v1 : View = g.D.Disk.view c.put_root.new.disk in
    let f : FilesHeld = record { log = c.self.inside.redo.place; group = c.self.inside.redo.group; slot = c.self.inside.pages.slot; reached = c.self.inside.pages.reached } in
    let run = c.in_ok-put_root.ensures.any_moment in
    subst (λ (h : FilesHeld). Stays h v0 v1) c.self.view_is
    (stays f v0 v1 c.in_ok-put_root.ensures.told run (λ image told left. g.met.D.Disk.counts_now c.put_root.new.disk v0.moment image (run told).later left))

pub returns-clause-ready : goal.returns-clause-ready
returns-clause-ready g c =
    let v0 : View = g.D.Disk.view c.args.disk.now in
    let v1 : View = g.D.Disk.view c.put_root.new.disk in
    let f : FilesHeld = record { log = c.self.inside.redo.place; group = c.self.inside.redo.group; slot = c.self.inside.pages.slot; reached = c.self.inside.pages.reached } in
    subst (λ (h : FilesHeld). BecomesReady c.args.root.now h v0 v1) c.self.view_is (becomes_ready f v0 v1 c.in_ok-put_root.ensures.told c.args.root.now c.in_ok-put_root.ensures.sealed)
