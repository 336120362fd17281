use Rattle.std.proofs.Common.{◌≡◌, sym, ◌∙◌, subst}
use Rattle.std.specs.Prelude.{IsTrue}
use Rattle.ut_outside.specs.Disk.{View, IsTold}
use Rattle.ut_durable.specs.Bytes.{image_pages}
use Rattle.ut_durable.specs.Made.{made_held}
use Rattle.ut_engine.proofs.FileLemmas.{unmade_redo, unmade_pages, unmade_by, is_new}
use Rattle.ut_engine.proofs.logged.LoggedStore.make.Goals as goal

pub returns-in_err-redo-clause-any_moment : goal.returns-in_err-redo-clause-any_moment
returns-in_err-redo-clause-any_moment g c told none =
    unmade_redo (g.D.Disk.view c.args.disk.now) (g.D.Disk.view c.made.new.disk) (g.D.Disk.view c.make.new.disk) none c.in_ok-made.ensures.reads c.make.ensures.any_moment

pub returns-in_err-make-clause-any_moment : goal.returns-in_err-make-clause-any_moment
returns-in_err-make-clause-any_moment g c told none =
    let v0 : View = g.D.Disk.view c.args.disk.now in
    let v1 : View = g.D.Disk.view c.made.new.disk in
    let v2 : View = g.D.Disk.view c.make.new.disk in
    let told1 : IsTold v1 = subst IsTrue (sym c.in_ok-made.ensures.reads.told) told in
    let told2 : IsTold v2 = subst IsTrue (sym c.make.ensures.told) told1 in
    unmade_pages v0 v1 v2 (g.D.Disk.view c.make-2.new.disk) none c.in_ok-made.ensures.reads c.make.ensures.any_moment (c.in_ok-redo.ensures.empty told1) (c.make-2.ensures.any_moment told2)

pub returns-clause-any_moment : goal.returns-clause-any_moment
returns-clause-any_moment g c told none =
    let v0 : View = g.D.Disk.view c.args.disk.now in
    let v1 : View = g.D.Disk.view c.made.new.disk in
    let v2 : View = g.D.Disk.view c.make.new.disk in
    let told1 : IsTold v1 = subst IsTrue (sym c.in_ok-made.ensures.reads.told) told in
    let told2 : IsTold v2 = subst IsTrue (sym c.make.ensures.told) told1 in
    unmade_pages v0 v1 v2 (g.D.Disk.view c.make-2.new.disk) none c.in_ok-made.ensures.reads c.make.ensures.any_moment (c.in_ok-redo.ensures.empty told1) (c.make-2.ensures.any_moment told2)

pub returns-clause-new : goal.returns-clause-new
returns-clause-new g c =
    let v0 : View = g.D.Disk.view c.args.disk.now in
    let v1 : View = g.D.Disk.view c.made.new.disk in
    let v2 : View = g.D.Disk.view c.make.new.disk in
    let v3 : View = g.D.Disk.view c.make-2.new.disk in
    let files : c.new-2.result ≡ made_held = c.new-2.ensures ∙ (λ i. record { log = (c.in_ok-redo.ensures.place i).place; group = (c.in_ok-redo.ensures.place i).group; slot = (c.fresh.ensures i).slot; reached = (c.fresh.ensures i).reached }) in
    is_new v0 v1 v2 v3 c.in_ok-store.store c.new-2.result c.in_ok-next.next c.args.rows c.in_ok-next.ensures c.in_ok-made.ensures.reads (unmade_by _ v0 c.if-branch.false c.in_ok-made.ensures.made) (c.in_ok-store.ensures image_pages) files
    c.make.ensures.told c.make-2.ensures.told c.in_ok-redo.ensures.empty c.in_ok-make.ensures.made

pub returns-clause-no_fault : goal.returns-clause-no_fault
returns-clause-no_fault g c = c.in_ok-make.ensures.cause.still ∙ c.in_ok-redo.ensures.cause.still ∙ c.in_ok-made.ensures.cause.still
