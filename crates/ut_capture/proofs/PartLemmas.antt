-- The parts of a table as they are captured one by one.
use Rattle.std.proofs.Common.{◌≡◌, ℕ, ◌+◌, ◌<◌, ◌≤◌, Bool, true, false, not, List, [], ◌∷◌, ◌++◌, length, map, take, drop, get_or, None, refl, sym, ◌∙◌, ap, subst, arith}
use Rattle.std.specs.Arc.{arc_value}
use Rattle.std.proofs.lemmas.List.{take_more, map-append, get_or-map, length-map}
use Rattle.ut_value.specs.declared.value.Column.{Column}
use Rattle.ut_plain.specs.declared.table.Table.{Table}
use Rattle.ut_plain.specs.declared.stage.Placed.{Placed}
use Rattle.ut_stamps.specs.declared.fates.Fate.{Fate}
use Rattle.ut_stamps.specs.declared.visibility.Stamp.{Stamp}
use Rattle.ut_stamps.specs.Stamps.{sees}
use Rattle.ut_exact.specs.Places.{StagedRow}
use Rattle.ut_l2.specs.KeyRows.{KeyRow}
use Rattle.ut_main.specs.Parts.{MainValue, dicts_behind, first_parts}
use Rattle.ut_scan.specs.declared.stages.Stages.{Stages}
use Rattle.ut_stamps.specs.StampLists.{StampLists}
use Rattle.ut_staged.specs.Staged.{Staged, placed_of}
use Rattle.ut_staged.proofs.ListLemmas.{map-take}
use Rattle.ut_image.specs.Bytes.{rows_bytes}
use Rattle.ut_durable.specs.Bytes.{row_in, key_rows, main_of, live_marks}
use Rattle.ut_savepoint.specs.declared.captured.CapturedPart.{CapturedPart}
use Rattle.ut_savepoint.specs.declared.captured.CapturedTable.{CapturedTable}
use Rattle.ut_savepoint.specs.Captured.{CapturesPart, CaptureParts, CapturesTable}
use Rattle.ut_table.specs.Contents.{Contents, held_parts}
use Rattle.ut_table.specs.Lent.{AreLent}
use Rattle.ut_table.specs.Pending.{key_row}
use Rattle.ut_table.specs.Outside.{rows_in}
use Rattle.ut_table.specs.declared.stage.Stage.TheVariants.{Closed}
use Rattle.ut_table.proofs.CloseLemmas.{parts-keys}
use Rattle.ut_table.proofs.StageLemmas.{stamp_of, held-stamps}
use Rattle.ut_capture.specs.Live.{is_live, live_rows, live_places, live_place, live_parts, live_stages}
use Rattle.ut_capture.specs.Stages.{deltas_bytes}
use Rattle.ut_capture.proofs.ListLemmas.{map-twice, map-agree, take_all}

-- ---- parts

parts-stamps : (columns : List Column) (parts : List (List KeyRow)) (stamps : List (List Stamp)) → map length stamps ≡ map length parts → map (map stamp_of) (held_parts columns parts stamps) ≡ stamps
parts-stamps columns [] [] same = refl
parts-stamps columns [] (s ∷ ss) same = absurd (omega (arith, ap length same))
parts-stamps columns (r ∷ rs) [] same = absurd (omega (arith, ap length same))
parts-stamps columns (r ∷ rs) (s ∷ ss) same = λ i. held-stamps columns r s (ap (λ (l : List ℕ). get_or l 0 0) same) i ∷ parts-stamps columns rs ss (ap (drop 1) same) i

pub parts-more : (width : ℕ) (earlier : List (List Placed)) (cs : List CapturedPart) (ps : List (List Placed)) (c : CapturedPart) (p : List Placed) → CaptureParts width earlier cs ps → CapturesPart width (earlier ++ ps) c p
    → CaptureParts width earlier (cs ++ c ∷ []) (ps ++ p ∷ [])
parts-more width earlier [] [] c p all one = (subst (λ (l : List (List Placed)). CapturesPart width l c p) (nil earlier) one, tt)
  where
    nil : (l : List (List Placed)) → l ++ [] ≡ l
    nil [] = refl
    nil (x ∷ xs) = ap (λ (l : List (List Placed)). x ∷ l) (nil xs)
parts-more width earlier [] (x ∷ xs) c p all one = absurd all
parts-more width earlier (x ∷ xs) [] c p all one = absurd all
parts-more width earlier (c0 ∷ cs) (p0 ∷ ps) c p all one = (all.0, parts-more width (earlier ++ p0 ∷ []) cs ps c p all.1 (subst (λ (l : List (List Placed)). CapturesPart width l c p) (sym (shift earlier)) one))
  where
    shift : (l : List (List Placed)) → (l ++ p0 ∷ []) ++ ps ≡ l ++ p0 ∷ ps
    shift [] = refl
    shift (x ∷ xs) = ap (λ (l : List (List Placed)). x ∷ l) (shift xs)

module _ (fates : List Fate) (entries : ℕ) where
  keys-live : (rows : List StagedRow) → key_rows (map (live_place fates entries) rows) ≡ map key_row rows
  keys-live rows = map-twice (λ (p : Placed). record { id = p.id; keys = (key_row (record { id = p.id; values = p.values; stamp = record { begin = 0; end = None } })).keys }) (live_place fates entries) rows

  marks-live : (rows : List StagedRow) → live_marks (map (live_place fates entries) rows) ≡ map (sees fates entries None) (map stamp_of rows)
  marks-live rows = map-twice (λ (p : Placed). not p.dead) (live_place fates entries) rows
      ∙ map-agree (λ (r : StagedRow). not (not (is_live fates entries r))) (is_live fates entries) rows (λ i r at. twice (is_live fates entries r))
      ∙ sym (map-twice (sees fates entries None) stamp_of rows)
    where
      twice : (b : Bool) → not (not b) ≡ b
      twice true = refl
      twice false = refl

  module _ {s : Staged} {stages : Stages} (a : AreLent s stages) where
    abbrev t : Contents
    t = a.table

    pub keys-are : map (map key_row) s.parts ≡ stages.main.now.parts
    keys-are = ap (λ (x : Staged). map (map key_row) x.parts) (sym a.view) ∙ parts-keys a.kept ∙ ap (λ (m : MainValue). m.parts) (sym a.main)

    stamps-are : map (map stamp_of) s.parts ≡ stages.stamps.now.parts
    stamps-are = ap (λ (x : Staged). map (map stamp_of) x.parts) (sym a.view) ∙ parts-stamps t.columns t.main.parts t.stamps.parts a.kept.stamped.parts ∙ ap (λ (x : StampLists). x.parts) (sym a.stamps)

    width-is : stages.main.now.width ≡ length s.columns
    width-is = ap (λ (m : MainValue). m.width) a.main ∙ a.kept.rows.main_wide ∙ ap (λ (x : Staged). length x.columns) a.view

    pub count-is : length stages.main.now.parts ≡ length s.parts
    count-is = sym (ap length keys-are) ∙ length-map s.parts (map key_row)

    part-captured : (p : ℕ) (c : CapturedPart) → p < length s.parts → (arc_value c.part).rows ≡ get_or stages.main.now.parts p [] → (arc_value c.part).before ≡ dicts_behind (first_parts p stages.main.now)
        → c.live ≡ map (sees fates entries None) (get_or stages.stamps.now.parts p []) → CapturesPart (length s.columns) (live_parts fates entries (take p s.parts)) c (map (live_place fates entries) (get_or s.parts p []))
    part-captured p c lt rows before live =
        let rows_are : (arc_value c.part).rows ≡ key_rows (map (live_place fates entries) (get_or s.parts p [])) =
        rows ∙ ap (λ (l : List (List KeyRow)). get_or l p []) (sym keys-are) ∙ get_or-map (map key_row) s.parts p [] [] lt ∙ sym (keys-live (get_or s.parts p [])) in
        let parts_are : take p stages.main.now.parts ≡ map key_rows (live_parts fates entries (take p s.parts)) =
        ap (take p) (sym keys-are) ∙ sym (map-take (map key_row) p s.parts)
        ∙ map-agree (map key_row) (λ (l : List StagedRow). key_rows (map (live_place fates entries) l)) (take p s.parts) (λ i l at. sym (keys-live l))
        ∙ sym (map-twice key_rows (map (live_place fates entries)) (take p s.parts)) in
        let before_is : (arc_value c.part).before ≡ dicts_behind (main_of (length s.columns) (live_parts fates entries (take p s.parts))) =
        before ∙ (λ i. dicts_behind (record { width = width-is i; parts = parts_are i })) in
        record {
          same = λ i. record { before = before_is i; rows = rows_are i };
          live = live ∙ ap (λ (l : List (List Stamp)). map (sees fates entries None) (get_or l p [])) (sym stamps-are)
              ∙ ap (map (sees fates entries None)) (get_or-map (map stamp_of) s.parts p [] [] lt) ∙ sym (marks-live (get_or s.parts p []));
        }

    pub part_more : (p : ℕ) (cs new : List CapturedPart) (c : CapturedPart) → p < length stages.main.now.parts → (arc_value c.part).rows ≡ get_or stages.main.now.parts p [] → (arc_value c.part).before ≡ dicts_behind (first_parts p stages.main.now)
        → c.live ≡ map (sees fates entries None) (get_or stages.stamps.now.parts p []) → CaptureParts (length s.columns) [] cs (live_parts fates entries (take p s.parts)) → new ≡ cs ++ c ∷ []
        → CaptureParts (length s.columns) [] new (live_parts fates entries (take (p + 1) s.parts))
    part_more p cs new c within rows before live all is =
        let lt : p < length s.parts = omega (arith, within, count-is) in
        let next : live_parts fates entries (take (p + 1) s.parts) ≡ live_parts fates entries (take p s.parts) ++ map (live_place fates entries) (get_or s.parts p []) ∷ [] =
        ap (live_parts fates entries) (take_more s.parts p [] lt) ∙ map-append (map (live_place fates entries)) (take p s.parts) (get_or s.parts p [] ∷ []) in
        subst (λ (l : List (List Placed)). CaptureParts (length s.columns) [] new l) (sym next)
        (subst (λ (l : List CapturedPart). CaptureParts (length s.columns) [] l (live_parts fates entries (take p s.parts) ++ map (live_place fates entries) (get_or s.parts p []) ∷ [])) (sym is)
        (parts-more (length s.columns) [] cs (live_parts fates entries (take p s.parts)) c (map (live_place fates entries) (get_or s.parts p [])) all (part-captured p c lt rows before live)))

    pub all_parts : (p : ℕ) (cs : List CapturedPart) → length stages.main.now.parts ≤ p → CaptureParts (length s.columns) [] cs (live_parts fates entries (take p s.parts)) → CaptureParts (length s.columns) [] cs (live_parts fates entries s.parts)
    all_parts p cs all are = subst (λ (l : List (List StagedRow)). CaptureParts (length s.columns) [] cs (live_parts fates entries l)) (take_all p s.parts (omega (arith, all, count-is))) are

    pub narrow : length s.columns ≤ 64
    narrow = subst (λ (x : Staged). length x.columns ≤ 64) a.view a.kept.rows.narrow

  -- ---- a table

  rows-live : (rows : List StagedRow) → map row_in (live_places fates entries rows) ≡ live_rows fates entries rows
  rows-live rows = map-twice row_in placed_of _

  pub table-captured : (c : CapturedTable) (t : Table) (s : Staged) → t.columns ≡ s.columns → c.table ≡ t → CaptureParts (length s.columns) [] c.parts.items (live_parts fates entries s.parts) → c.deltas.items ≡ deltas_bytes fates entries s
      → CapturesTable c t (live_stages fates entries s)
  table-captured c t s columns table parts deltas = record {
    table = table;
    parts = subst (λ (l : List Column). CaptureParts (length l) [] c.parts.items (live_parts fates entries s.parts)) (sym columns) parts;
    deltas = deltas ∙ sym (λ i. rows_bytes (older i) ++ rows_bytes (rows-live s.l1 i));
  }
    where
      older : map row_in (live_places fates entries (rows_in Closed s) ++ live_places fates entries s.l2) ≡ live_rows fates entries (rows_in Closed s) ++ live_rows fates entries s.l2
      older = map-append row_in (live_places fates entries (rows_in Closed s)) (live_places fates entries s.l2) ∙ (λ i. rows-live (rows_in Closed s) i ++ rows-live s.l2 i)
