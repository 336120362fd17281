use Rattle.std.proofs.Common.{◌≡◌, false, List, Err, None, refl, sym, ◌∙◌, ap, subst}
use Rattle.std.specs.Prelude.{IsTrue}
use Rattle.std.proofs.lemmas.Result.{err_from_is_err_and}
use Rattle.ut_value.specs.declared.entry.Entry.{Entry}
use Rattle.ut_outside.specs.declared.disk.Which.{Which}
use Rattle.ut_outside.specs.Disk.{View, Image, IsTold}
use Rattle.ut_pages.specs.Layout.{IsMade, IsSelected}
use Rattle.ut_redo.specs.Logs.{LogHolds}
use Rattle.ut_durable.specs.Images.{HasImage}
use Rattle.ut_durable.specs.Journals.{place_of}
use Rattle.ut_engine.specs.declared.error.OpenError.TheVariants.{Damaged}
use Rattle.ut_engine.specs.Logged.{Logged}
use Rattle.ut_engine.specs.Runs.{Opens}
use Rattle.ut_engine.proofs.FileLemmas.{reopened_store, IsRead, NotedBehind, began, opens, page_damaged, redo_damaged, restart_damaged, log_damaged, entries_damaged}
use Rattle.ut_engine.proofs.logged.LoggedStore.open.Goals as goal

-- the page file is made where its image is read
pub read_image-requires : goal.read_image-requires
read_image-requires g c = record {
  made = λ told.
      let second = c.in_ok-made.ensures.reads in
      let told1 = subst IsTrue second.told told in
      subst (λ (i : Image). IsMade i.pages) (sym second.seen) ((c.in_ok-made.ensures.made told1).0 c.if-not-branch.false);
}

-- whatever the disk tells, the image is that of a state
pub reopen-requires-clause-image : goal.reopen-requires-clause-image
reopen-requires-clause-image g c =
    let begins = c.in_ok-pages.ensures.begins in
    let base = began c.in_ok-pages.field-0 begins.0 begins.1 in
    (begins.0, base.0, base.1)

pub returns-in_err-pages-clause-damaged : goal.returns-in_err-pages-clause-damaged
returns-in_err-pages-clause-damaged g c is told =
    let first = c.in_ok-settle.ensures.reads in
    let second = c.in_ok-made.ensures.reads in
    let told1 = subst IsTrue (sym first.told) told in
    let told2 = subst IsTrue (sym second.told) told1 in
    let made = (c.in_ok-made.ensures.made told1).0 c.if-not-branch.false in
    let p = err_from_is_err_and c.from_residual-in_err-pages.result c.from_residual-in_err-pages.ensures.1 in
    let same : p.0 ≡ Damaged = cc in
    let error = page_damaged c.in_err-pages.field-0.0 (sym p.2 ∙ same) in
    let seen = second.seen ∙ first.seen in (
      subst (λ (i : Image). IsMade i.pages) first.seen made,
      λ j holds.
          let r = holds.reading in
          let at = subst (λ (i : Image). IsSelected r.slot i.pages × HasImage r.slot r.reached r.root holds.directory i.pages) (sym seen) (r.selected, r.image) in
          c.in_err-pages.ensures.damaged (ap Err error) told2 r.slot r.reached r.root holds.directory at.0 at.1,
    )

pub returns-in_err-redo-clause-damaged : goal.returns-in_err-redo-clause-damaged
returns-in_err-redo-clause-damaged g c is =
    let image = c.in_ok-pages in
    let read : IsRead (g.D.Disk.view c.args.disk.now) _ _ _ = record { settle = c.in_ok-settle.ensures.reads; made = c.in_ok-made.ensures.reads; image = image.ensures.reads; is_made = λ told. (c.in_ok-made.ensures.made told).0 c.if-not-branch.false } in
    let p = err_from_is_err_and c.from_residual-in_err-redo.result c.from_residual-in_err-redo.ensures.1 in
    let same : p.0 ≡ Damaged = cc in
    let error = redo_damaged c.in_err-redo.field-0.0 (sym p.2 ∙ same) in
    log_damaged _ _ _ _ read image.field-0 image.ensures.found (λ told items end holds.
    c.in_err-redo.ensures.damaged (ap Err error) told items end
    (subst (λ (file : Which). LogHolds (record { file = file; end = image.field-0.root.offset }) items end (g.D.Disk.view c.read_image.new.disk).seen) (sym c.log_file-begins.ensures) holds))

pub returns-in_err-restored-clause-damaged : goal.returns-in_err-restored-clause-damaged
returns-in_err-restored-clause-damaged g c is =
    let image = c.in_ok-pages in
    let read : IsRead (g.D.Disk.view c.args.disk.now) _ _ _ = record { settle = c.in_ok-settle.ensures.reads; made = c.in_ok-made.ensures.reads; image = image.ensures.reads; is_made = λ told. (c.in_ok-made.ensures.made told).0 c.if-not-branch.false } in
    let p = err_from_is_err_and c.from_residual-in_err-restored.result c.from_residual-in_err-restored.ensures.1 in
    let same : p.0 ≡ Damaged = cc in
    let error = restart_damaged c.in_err-restored.field-0.0 (sym p.2 ∙ same) in
    entries_damaged _ _ _ _ read image.field-0 image.ensures.found c.in_ok-redo.entries c.in_ok-redo.redo.place (λ told.
    subst (λ (file : Which). LogHolds (record { file = file; end = image.field-0.root.offset }) c.in_ok-redo.entries c.in_ok-redo.redo.place (g.D.Disk.view c.read_image.new.disk).seen) c.log_file-begins.ensures (c.in_ok-redo.ensures.found told))
    (c.in_err-restored.ensures.damaged (ap Err error))

pub returns-clause-opens : goal.returns-clause-opens
returns-clause-opens g c =
    let v0 : View = g.D.Disk.view c.args.disk.now in
    let v1 : View = g.D.Disk.view c.settle.new.disk in
    let v2 : View = g.D.Disk.view c.made.new.disk in
    let v3 : View = g.D.Disk.view c.read_image.new.disk in
    let v4 : View = g.D.Disk.view c.read_all.new.disk in
    let image = c.in_ok-pages in
    let log = c.in_ok-redo.ensures in
    let read : IsRead v0 v1 v2 v3 = record { settle = c.in_ok-settle.ensures.reads; made = c.in_ok-made.ensures.reads; image = image.ensures.reads; is_made = λ told. (c.in_ok-made.ensures.made told).0 c.if-not-branch.false } in
    let begins = image.ensures.begins in
    let base = began image.field-0 begins.0 begins.1 in
    let held : IsTold v3 → LogHolds (place_of image.field-0.root) c.in_ok-redo.entries c.in_ok-redo.redo.place v3.seen =
    λ told. subst (λ (file : Which). LogHolds (record { file = file; end = image.field-0.root.offset }) c.in_ok-redo.entries c.in_ok-redo.redo.place v3.seen) c.log_file-begins.ensures (log.found told) in
    let opened =
    opens v0 v1 v2 v3 v4 read log.reads c.in_ok-settle.ensures.settled c.in_ok-store.store c.in_ok-redo.redo c.in_ok-next.next image.field-0 c.in_ok-redo.entries c.args.rows
    (reopened_store image.field-0 c.in_ok-redo.entries c.in_ok-restored.restored c.in_ok-store.store c.args.rows c.requires c.in_ok-restored.ensures.ok c.in_ok-store.ensures) log.log log.small
    (subst (λ (entries : List Entry). NotedBehind image.field-0.root.next entries c.in_ok-next.next) c.as_slice.ensures c.in_ok-next.ensures)
    image.ensures.found held begins.0 base.0 base.1 in
    subst (λ (e : Logged). Opens e c.args.rows v0 v4) (λ i. record { store = c.in_ok-store.store; files = (sym c.new.ensures) i; begins = (sym c.log_file-begins.ensures) i; saving = None; next = c.in_ok-next.next; down = false }) opened

pub returns-clause-no_fault : goal.returns-clause-no_fault
returns-clause-no_fault g c = c.in_ok-redo.ensures.still refl ∙ c.in_ok-pages.ensures.still refl ∙ c.in_ok-made.ensures.cause.still ∙ c.in_ok-settle.ensures.cause.still
