use Rattle.std.proofs.Common.{◌≡◌, ℕ, List, ◌++◌, refl, sym, ◌∙◌, ap, subst}
use Rattle.std.specs.List.{AllByRecursion, AllZip}
use Rattle.std.proofs.lemmas.Result.{err_from_is_err_and}
use Rattle.ut_outside.specs.Disk.{Image, View}
use Rattle.ut_main.specs.Parts.{MainValue}
use Rattle.ut_image.specs.declared.drawn.Drawn.{Drawn}
use Rattle.ut_image.specs.Rules.{AreOwnIds, ids_of}
use Rattle.ut_reading.specs.declared.parts.Reader.{Reader}
use Rattle.ut_reading.specs.declared.image.Image.{Image as ReadImage}
use Rattle.ut_reading.specs.Standing.{StandsMain, live_in_mains, AreDrawnIn}
use Rattle.ut_reading.specs.Found.{MayRead, FoundMains}
use Rattle.ut_reading.proofs.FindLemmas.{same_error}
use Rattle.ut_reading.proofs.DrawLemmas.{image_begins}
use Rattle.ut_reading.proofs.ImageLemmas.{false_true, may_read_all, found_before, no_tables, no_mains, no_ids_of, image_found}
use Rattle.ut_reading.proofs.image.read_image.Goals as goal

pub returns-in_default-clause-damaged : goal.returns-in_default-clause-damaged
returns-in_default-clause-damaged g c = λ is told slot reached root d selected has.
    let v0 : View = g.D.Disk.view c.args.disk.now in
    let none = rw c.in_default.is at c.in_ok-tables.ensures.none in
    no_tables c.in_ok-pages.pages.slot c.in_ok-pages.pages.reached c.in_ok-pages.root c.in_ok-pages.bytes.items v0.seen.pages (c.in_ok-pages.ensures.found told)
    (λ v drawn. none v (subst (λ (l : List ℕ). AreDrawnIn c.in_ok-pages.root l v) (sym c.deref.ensures.value) drawn)) slot reached root d selected has

pub read_mains-requires : goal.read_mains-requires
read_mains-requires g c =
    let drawn = rw c.in-Some.is at c.in_ok-tables.ensures.found in
    subst (AllByRecursion MayRead) (sym c.as_slice-2.ensures) (may_read_all c.in_ok-pages.root c.deref.result.now c.in-Some.tables drawn)

pub returns-in_err-mains-clause-damaged : goal.returns-in_err-mains-clause-damaged
returns-in_err-mains-clause-damaged g c =
    let p = err_from_is_err_and c.from_residual-in_err-mains.result c.from_residual-in_err-mains.ensures.1 in
    rw (p.1, p.2) (λ is told slot reached root d selected has.
    let v0 : View = g.D.Disk.view c.args.disk.now in
    let v1 : View = g.D.Disk.view c.read.new.disk in
    let tables : List Drawn = c.in-Some.tables in
    let reads = c.in_ok-pages.ensures.reads in
    let found = rw c.in-Some.is at c.in_ok-tables.ensures.found in
    let drawn : AreDrawnIn c.in_ok-pages.root c.in_ok-pages.bytes.items tables = subst (λ (l : List ℕ). AreDrawnIn c.in_ok-pages.root l tables) c.deref.ensures.value found in
    no_mains c.in_ok-pages.pages.slot c.in_ok-pages.pages.reached c.in_ok-pages.root c.in_ok-pages.bytes.items v0.seen.pages (c.in_ok-pages.ensures.found told) tables drawn
    (λ mains pages stand. c.in_err-mains.ensures.damaged (same_error _ _ is) (reads.told ∙ told) mains pages
    (subst (λ (ts : List Drawn). AllZip (StandsMain pages v1.seen.pages) ts mains) (sym c.as_slice-2.ensures)
    (subst (λ (i : Image). AllZip (StandsMain pages i.pages) tables mains) (sym reads.seen) stand)))
    slot reached root d selected has)

pub returns-then-not-branch-clause-damaged : goal.returns-then-not-branch-clause-damaged
returns-then-not-branch-clause-damaged g c = λ is told slot reached root d selected has.
    let v0 : View = g.D.Disk.view c.args.disk.now in
    let v1 : View = g.D.Disk.view c.read.new.disk in
    let tables : List Drawn = c.in-Some.tables in
    let mains : List MainValue = c.in_ok-mains.mains in
    let first : Reader = record { pages = c.in_ok-pages.pages; live = c.in_ok-live.live } in
    let last : Reader = c.read_mains.new.self in
    let read = rw c.in-Some.is at c.in_ok-tables.ensures.found in
    let drawn : AreDrawnIn c.in_ok-pages.root c.in_ok-pages.bytes.items tables = subst (λ (l : List ℕ). AreDrawnIn c.in_ok-pages.root l tables) c.deref.ensures.value read in
    let found : FoundMains tables mains first last v0 =
    found_before tables mains first last v0 v1 c.in_ok-pages.ensures.reads (subst (λ (ts : List Drawn). FoundMains ts mains first last v1) c.as_slice-2.ensures c.in_ok-mains.ensures.found) in
    let deltas : first.live.items ≡ ids_of tables = c.in_ok-live.ensures ∙ ap ids_of c.as_slice.ensures in
    let live : last.live.items ≡ ids_of tables ++ live_in_mains tables mains = found.live ∙ ap (λ (l : List ℕ). l ++ live_in_mains tables mains) deltas in
    no_ids_of c.in_ok-pages.pages.slot c.in_ok-pages.pages.reached c.in_ok-pages.root c.in_ok-pages.bytes.items v0.seen.pages (c.in_ok-pages.ensures.found told) tables drawn mains last.pages.reached
    (found.stands told) last.live.items live
    (λ own. false_true (sym c.if-not-branch.true ∙ c.in_ok-are_own_ids.ensures.1 (subst (AreOwnIds c.in_ok-pages.root.next) (sym c.deref-2.ensures.value) own))) slot reached root d selected has

pub returns-clause-found : goal.returns-clause-found
returns-clause-found g c = λ told.
    let v0 : View = g.D.Disk.view c.args.disk.now in
    let v1 : View = g.D.Disk.view c.read.new.disk in
    let tables : List Drawn = c.in-Some.tables in
    let mains : List MainValue = c.in_ok-mains.mains in
    let first : Reader = record { pages = c.in_ok-pages.pages; live = c.in_ok-live.live } in
    let last : Reader = c.read_mains.new.self in
    let image : ReadImage = record { pages = last.pages; root = c.in_ok-pages.root; tables = tables; mains = mains } in
    let read = rw c.in-Some.is at c.in_ok-tables.ensures.found in
    let drawn : AreDrawnIn c.in_ok-pages.root c.in_ok-pages.bytes.items tables = subst (λ (l : List ℕ). AreDrawnIn c.in_ok-pages.root l tables) c.deref.ensures.value read in
    let found : FoundMains tables mains first last v0 =
    found_before tables mains first last v0 v1 c.in_ok-pages.ensures.reads (subst (λ (ts : List Drawn). FoundMains ts mains first last v1) c.as_slice-2.ensures c.in_ok-mains.ensures.found) in
    let deltas : first.live.items ≡ ids_of tables = c.in_ok-live.ensures ∙ ap ids_of c.as_slice.ensures in
    let own : AreOwnIds c.in_ok-pages.root.next last.live.items = subst (AreOwnIds c.in_ok-pages.root.next) c.deref-2.ensures.value (c.in_ok-are_own_ids.ensures.0 c.if-not-branch.false) in
    image_found image first last c.in_ok-pages.bytes.items v0 refl (λ now. c.in_ok-pages.ensures.found now) drawn deltas found own told

pub returns-clause-begins : goal.returns-clause-begins
returns-clause-begins g c =
    let tables : List Drawn = c.in-Some.tables in
    let mains : List MainValue = c.in_ok-mains.mains in
    let first : Reader = record { pages = c.in_ok-pages.pages; live = c.in_ok-live.live } in
    let last : Reader = c.read_mains.new.self in
    let read = rw c.in-Some.is at c.in_ok-tables.ensures.found in
    let drawn : AreDrawnIn c.in_ok-pages.root c.in_ok-pages.bytes.items tables = subst (λ (l : List ℕ). AreDrawnIn c.in_ok-pages.root l tables) c.deref.ensures.value read in
    let v1 : View = g.D.Disk.view c.read.new.disk in
    let found : FoundMains tables mains first last v1 = subst (λ (ts : List Drawn). FoundMains ts mains first last v1) c.as_slice-2.ensures c.in_ok-mains.ensures.found in
    let live : last.live.items ≡ ids_of tables ++ live_in_mains tables mains = found.live ∙ ap (λ (l : List ℕ). l ++ live_in_mains tables mains) (c.in_ok-live.ensures ∙ ap ids_of c.as_slice.ensures) in
    let own : AreOwnIds c.in_ok-pages.root.next last.live.items = subst (AreOwnIds c.in_ok-pages.root.next) c.deref-2.ensures.value (c.in_ok-are_own_ids.ensures.0 c.if-not-branch.false) in
    image_begins c.in_ok-pages.root c.in_ok-pages.bytes.items tables mains c.in_ok-pages.ensures.root drawn found.fits (subst (AreOwnIds c.in_ok-pages.root.next) live own)
