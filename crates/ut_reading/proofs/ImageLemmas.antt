-- What was read of the page file against each image that it may have.
use Rattle.std.proofs.Common.{◌≡◌, inl, inr, ℕ, ◌&&◌, nat_eq, nat_le, true, false, List, ◌++◌, length, IsTrue, sym, ◌∙◌, ap, subst}
use Rattle.std.specs.List.{AllByRecursion, AllZip, list_all}
use Rattle.std.proofs.lemmas.Bool.{and_parts, eqb-true, leb-true}
use Rattle.ut_value.specs.declared.value.Column.{Column}
use Rattle.ut_value.specs.Spelling.{is_u32, is_count, is_column, names_differ, are_columns}
use Rattle.ut_value.specs.Text.{is_name}
use Rattle.ut_outside.specs.Disk.{Image, View, IsTold}
use Rattle.ut_outside.specs.Run.{ReadsOnly}
use Rattle.ut_main.specs.Parts.{MainValue}
use Rattle.ut_image.specs.declared.drawn.PartRef.{PartRef}
use Rattle.ut_image.specs.declared.drawn.Drawn.{Drawn}
use Rattle.ut_image.specs.Rules.{is_u64, is_part, are_parts, are_rows, is_head, is_drawn, AreOwnIds, ids_of}
use Rattle.ut_plain.specs.Capture.{Directory}
use Rattle.ut_pages.specs.declared.slot.Slot.{Slot}
use Rattle.ut_pages.specs.Selection.{Selection}
use Rattle.ut_pages.specs.declared.root.Root.{Root}
use Rattle.ut_pages.specs.Layout.{IsSelected, IsRead}
use Rattle.ut_pages.proofs.OneLemmas.{one_read}
use Rattle.ut_pages.proofs.MadeLemmas.{chain_there}
use Rattle.ut_durable.specs.Images.{HasImage, AreThere}
use Rattle.ut_reading.specs.declared.parts.Reader.{Reader}
use Rattle.ut_reading.specs.declared.image.Image.{Image as ReadImage}
use Rattle.ut_reading.specs.Standing.{StandsMain, live_in_mains, AreDrawnIn, StandsImage, ReachMore}
use Rattle.ut_reading.specs.Found.{MayRead, FoundMains}
use Rattle.ut_reading.specs.Reading.{IsImageIn}
use Rattle.ut_reading.proofs.ListLemmas.{all_map, all_test}
use Rattle.ut_reading.proofs.OneLemmas.{one_drawn, one_mains}
use Rattle.ut_reading.proofs.RuleLemmas.{InKeys, in_keys}
use Rattle.ut_reading.proofs.DrawLemmas.{image_drawn}
use Rattle.ut_reading.proofs.StoreLemmas.{image_read}

module _ (slot : Slot) (pages : List ℕ) (root : Root) (bytes file : List ℕ) (read : IsRead slot pages root bytes file) where
  -- each image is behind the root and the bytes that were read
  seen_image : (slot' : Slot) (reached' : List ℕ) (root' : Root) (d : Directory) → IsSelected slot' file → HasImage slot' reached' root' d file → InKeys reached' root d bytes file
  seen_image slot' reached' root' d selected has =
      let one = one_read slot slot' pages has.image.directory.pages root root' bytes has.image.directory.bytes file read (image_read slot' reached' root' d file selected has) in
      let keys : InKeys reached' root' d has.image.directory.bytes file = in_keys reached' root' d file has.image in
      subst (λ (r : Root). InKeys reached' r d bytes file) (sym one.1) (subst (λ (l : List ℕ). InKeys reached' root' d l file) (sym one.3) keys)

  pub no_tables : ((v : List Drawn) → AreDrawnIn root bytes v → ⊥) → (slot' : Slot) (reached' : List ℕ) (root' : Root) (d : Directory) → IsSelected slot' file → HasImage slot' reached' root' d file → ⊥
  no_tables none slot' reached' root' d selected has = let keys = seen_image slot' reached' root' d selected has in none keys.tables keys.stands.drawn

  module _ (tables : List Drawn) (drawn : AreDrawnIn root bytes tables) where
    seen_mains : (slot' : Slot) (reached' : List ℕ) (root' : Root) (d : Directory) → IsSelected slot' file → HasImage slot' reached' root' d file
        → (mains : List MainValue) × AllZip (StandsMain reached' file) tables mains × AreOwnIds root.next (ids_of tables ++ live_in_mains tables mains)
    seen_mains slot' reached' root' d selected has =
        let keys = seen_image slot' reached' root' d selected has in
        let same : keys.tables ≡ tables = one_drawn root bytes keys.tables tables keys.stands.drawn drawn in
        (keys.mains, subst (λ (ts : List Drawn). AllZip (StandsMain reached' file) ts keys.mains) same keys.stands.parts, subst (λ (ts : List Drawn). AreOwnIds root.next (ids_of ts ++ live_in_mains ts keys.mains)) same keys.stands.ids)

    pub no_mains : ((mains : List MainValue) (reached : List ℕ) → AllZip (StandsMain reached file) tables mains → ⊥) → (slot' : Slot) (reached' : List ℕ) (root' : Root) (d : Directory) → IsSelected slot' file → HasImage slot' reached' root' d file → ⊥
    no_mains none slot' reached' root' d selected has = let m = seen_mains slot' reached' root' d selected has in none m.0 reached' m.1

    module _ (mains : List MainValue) (reached : List ℕ) (stand : AllZip (StandsMain reached file) tables mains) where
      pub no_ids_of : (live : List ℕ) → live ≡ ids_of tables ++ live_in_mains tables mains → (AreOwnIds root.next live → ⊥) → (slot' : Slot) (reached' : List ℕ) (root' : Root) (d : Directory) → IsSelected slot' file → HasImage slot' reached' root' d file → ⊥
      no_ids_of live is none slot' reached' root' d selected has =
          let m = seen_mains slot' reached' root' d selected has in
          let same : m.0 ≡ mains = one_mains tables m.0 mains reached' reached file m.1 stand in
          none (subst (AreOwnIds root.next) (ap (λ (ms : List MainValue). ids_of tables ++ live_in_mains tables ms) same ∙ sym is) m.2)

-- a test is not both
pub false_true : false ≡ true → ⊥
false_true is = cc

-- ---- a table whose parts may be read

marks_rule : (ref : PartRef) → IsTrue (is_part ref) → length ref.live ≡ ref.rows
marks_rule ref is =
    let rule = and_parts (is_u32 ref.first) (is_u64 ref.length && (is_u32 ref.rows && nat_eq (length ref.live) ref.rows)) is in
    let rule2 = and_parts (is_u64 ref.length) (is_u32 ref.rows && nat_eq (length ref.live) ref.rows) rule.1 in
    eqb-true (length ref.live) ref.rows (and_parts (is_u32 ref.rows) (nat_eq (length ref.live) ref.rows) rule2.1).1

may_read : (t : Drawn) → IsTrue (is_drawn t) → MayRead t
may_read t is =
    let columns : List Column = t.table.columns in
    let rule = and_parts (is_head t.table) (are_parts t.parts && (are_rows columns t.l2 && are_rows columns t.l1)) is in
    let head = and_parts (is_name t.table.name) (are_columns columns) rule.0 in
    let count = and_parts (is_count 64 (length columns)) (list_all is_column columns) (and_parts (is_count 64 (length columns) && list_all is_column columns) (names_differ columns) head.1).0 in
    let parts = and_parts (are_parts t.parts) (are_rows columns t.l2 && are_rows columns t.l1) rule.1 in
    let few = and_parts (nat_le (length t.parts) 8) (list_all is_part t.parts) parts.0 in
    record {
      columns = leb-true (length columns) 64 (and_parts (nat_le 1 (length columns)) (nat_le (length columns) 64) count.0).1;
      parts = leb-true (length t.parts) 8 few.0;
      marks = all_map (λ (ref : PartRef). IsTrue (is_part ref)) (λ (ref : PartRef). length ref.live ≡ ref.rows) t.parts marks_rule (all_test is_part t.parts few.1);
    }

pub may_read_all : (root : Root) (bytes : List ℕ) (tables : List Drawn) → AreDrawnIn root bytes tables → AllByRecursion MayRead tables
may_read_all root bytes tables (inl none) = subst (AllByRecursion MayRead) (sym none.1) tt
may_read_all root bytes tables (inr some) = all_map (λ (t : Drawn). IsTrue (is_drawn t)) MayRead tables may_read (all_test is_drawn tables some.1.each)

-- ---- what was found

-- what was found after a reading was there before it
pub found_before : (tables : List Drawn) (mains : List MainValue) (old new : Reader) (v0 v1 : View) → ReadsOnly v0 v1 → FoundMains tables mains old new v1 → FoundMains tables mains old new v0
found_before tables mains old new v0 v1 reads found = record {
  reaches = record {
    slot = found.reaches.slot;
    more = λ told. subst (λ (i : Image). ReachMore i.pages old.pages.reached new.pages.reached) reads.seen (found.reaches.more (reads.told ∙ told));
  };
  stands = λ told. subst (λ (i : Image). AllZip (StandsMain new.pages.reached i.pages) tables mains) reads.seen (found.stands (reads.told ∙ told));
  count = λ told. found.count (reads.told ∙ told);
  fits = found.fits;
  live = found.live;
}

pub image_found : (image : ReadImage) (first : Reader) (last : Reader) (bytes : List ℕ) (v : View) → image.pages ≡ last.pages → (IsTold v → IsRead first.pages.slot first.pages.reached image.root bytes v.seen.pages) → AreDrawnIn image.root bytes image.tables
    → first.live.items ≡ ids_of image.tables → FoundMains image.tables image.mains first last v → AreOwnIds image.root.next last.live.items → IsTold v → (d : Directory) × IsImageIn image d v.seen.pages
image_found image first last bytes v same read drawn deltas found own told =
    let r = read told in
    let file : List ℕ = v.seen.pages in
    let more = found.reaches.more told in
    let live : last.live.items ≡ ids_of image.tables ++ live_in_mains image.tables image.mains = found.live ∙ ap (λ (l : List ℕ). l ++ live_in_mains image.tables image.mains) deltas in
    let stands : StandsImage image.root bytes image.tables image.mains last.pages.reached file = record { drawn = drawn; parts = found.stands told; ids = subst (AreOwnIds image.root.next) live own } in
    let d = image_drawn first.pages.slot first.pages.reached last.pages.reached image.root bytes image.tables image.mains file r more.keeps (found.count told) stands in
    let slot : first.pages.slot ≡ image.pages.slot = sym found.reaches.slot ∙ ap (λ (p : Selection). p.slot) (sym same) in
    let reached : last.pages.reached ≡ image.pages.reached = ap (λ (p : Selection). p.reached) (sym same) in (
      d.0,
      record {
        selected = subst (λ (s : Slot). IsSelected s file) slot r.selected;
        has = subst (λ (s : Slot). HasImage s image.pages.reached image.root d.0 file) slot (subst (λ (l : List ℕ). HasImage first.pages.slot l image.root d.0 file) reached d.2);
        there = subst (λ (l : List ℕ). AreThere l file) reached (more.there (λ k has. chain_there first.pages.reached image.root.first_page bytes file r.chain.chain k has));
        shown = d.1;
      },
    )
