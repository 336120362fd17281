use Rattle.std.proofs.Common.{◌∙◌, Bool, Option, None, Some, refl, subst, sym}
use Rattle.ut_plain.specs.declared.statement.Statement.{Statement}
use Rattle.ut_engine.specs.Savepoints.{progress_of}
use Rattle.ut_crew.specs.declared.role.Kept.{Kept}
use Rattle.ut_crowd.specs.Keepers.{IsSaveDue, IsWaiting, KeepsUp}
use Rattle.ut_crowd.specs.Queues.{IsOver}
use Rattle.ut_crowd.specs.Saving.{due_piece}
use Rattle.ut_crowd.proofs.KeeperLemmas.{keeps_woken, may_save, save_next, save_none, waits_is}
use Rattle.ut_crowd.proofs.hall.Hall.save_piece.Goals as goal

pub returns-then-self-clause-kept : goal.returns-then-self-clause-kept
returns-then-self-clause-kept g c =
    let old = c.args.self.now.engine.store in
    let last = c.args.self.now.last in
    let next = due_piece (progress_of old.saving) old.store.counts.entries last.entries last.pages in
    let up = c.is_over.ensures.up c.if-is_over.false in (
      c.is_over.ensures.on c.if-is_over.false,
      save_none last old (g.D.Disk.view c.args.self.now.engine.disk) next refl c.next_waits-self.result c.next_waits-self.ensures c.if-self.true,
      refl,
      up.0,
      up.1,
    )

pub returns-then-self-clause-waits : goal.returns-then-self-clause-waits
returns-then-self-clause-waits g c on =
    let old = c.args.self.now.engine.store in
    let last = c.args.self.now.last in
    waits_is last old (g.D.Disk.view c.args.self.now.engine.disk) (due_piece (progress_of old.saving) old.store.counts.entries last.entries last.pages) refl c.next_waits-self.result c.next_waits-self.ensures

pub ask-requires-clause-may : goal.ask-requires-clause-may
ask-requires-clause-may g c =
    let old = c.args.self.now.engine.store in
    let last = c.args.self.now.last in
    may_save last old (g.D.Disk.view c.args.self.now.engine.disk) (due_piece (progress_of old.saving) old.store.counts.entries last.entries last.pages) refl
    c.args.self.now.l1 c.in-Some.piece c.next_waits-self.result c.next_waits-self.ensures c.if-self.false (sym c.next_piece.ensures.next ∙ c.in-Some.is)

pub returns-in-Some-clause-kept : goal.returns-in-Some-clause-kept
returns-in-Some-clause-kept g c =
    let old = c.args.self.now.engine.store in
    let was = g.D.Disk.view c.args.self.now.engine.disk in
    let last = c.args.self.now.last in
    let over = IsOver c.args.self.now.stopped old c.args.self.now.queues.items in
    let new = c.ask.new.self in
    let next = save_next last old was (due_piece (progress_of old.saving) old.store.counts.entries last.entries last.pages) refl c.next_waits-self.result c.next_waits-self.ensures c.if-self.false in
    let due : IsSaveDue last old was (Some c.in-Some.piece) = subst (λ (o : Option Statement). IsSaveDue last old was o) (sym c.next_piece.ensures.next ∙ c.in-Some.is) next in
    subst (λ (k : Kept). KeepsUp over (IsSaveDue last old was) (λ st. Unit {0}) c.args.self.now.save_waits c.args.self.now.stopped new.stopped new.engine.store.down c.args.self.now.book.items new.book.items k) (sym c.woken.ensures)
    (keeps_woken over (IsSaveDue last old was) c.args.self.now.stopped new.stopped new.engine.store.down c.args.self.now.book.items new.book.items c.args.self.now.save_waits c.ask.result c.in-Some.piece (c.is_over.ensures.on c.if-is_over.false) due c.ask.ensures.kept)

pub returns-in-Some-clause-waits : goal.returns-in-Some-clause-waits
returns-in-Some-clause-waits g c on =
    let old = c.args.self.now.engine.store in
    let was = g.D.Disk.view c.args.self.now.engine.disk in
    let last = c.args.self.now.last in
    subst (λ (b : Bool). IsWaiting last old was b) (sym c.ask.ensures.waits) (waits_is last old was (due_piece (progress_of old.saving) old.store.counts.entries last.entries last.pages) refl c.next_waits-self.result c.next_waits-self.ensures)

pub returns-in-None-clause-kept : goal.returns-in-None-clause-kept
returns-in-None-clause-kept g c =
    let old = c.args.self.now.engine.store in
    let was = g.D.Disk.view c.args.self.now.engine.disk in
    let last = c.args.self.now.last in
    let up = c.is_over.ensures.up c.if-is_over.false in
    let next = save_next last old was (due_piece (progress_of old.saving) old.store.counts.entries last.entries last.pages) refl c.next_waits-self.result c.next_waits-self.ensures c.if-self.false in
    let due : IsSaveDue last old was None = subst (λ (o : Option Statement). IsSaveDue last old was o) (sym c.next_piece.ensures.next ∙ c.in-None.is) next in
    (c.is_over.ensures.on c.if-is_over.false, due, refl, up.0, up.1)

pub returns-in-None-clause-waits : goal.returns-in-None-clause-waits
returns-in-None-clause-waits g c on =
    let old = c.args.self.now.engine.store in
    let last = c.args.self.now.last in
    waits_is last old (g.D.Disk.view c.args.self.now.engine.disk) (due_piece (progress_of old.saving) old.store.counts.entries last.entries last.pages) refl c.next_waits-self.result c.next_waits-self.ensures
