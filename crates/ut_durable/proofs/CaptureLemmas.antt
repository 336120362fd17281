-- What a savepoint captures may be an image's directory.
use Rattle.std.proofs.Common.{◌≡◌, inl, inr, ℕ, zero, suc, ◌<◌, ◌≤◌, Bool, true, false, not, cond, List, [], ◌∷◌, ◌++◌, length, map, filter, Option, Some, IsTrue, refl, sym, ◌∙◌, ap, subst, arith, length-append}
use Rattle.std.specs.Prelude.{Contains, slice_get, is_some}
use Rattle.std.specs.Option.{option_map, unwrap_or}
use Rattle.std.specs.List.{All, AllByRecursion, AllZip, flat_map, list_all}
use Rattle.std.specs.FinMap as finmap
use Rattle.std.proofs.lemmas.Bool.{and_parts, and_from, not-true}
use Rattle.std.proofs.lemmas.List.{length-map}
use Rattle.std.proofs.lemmas.List.Sums.{sum_by-cons}
use Rattle.ut_value.specs.declared.value.Column.{Column}
use Rattle.ut_value.specs.KeyBytes.{is_value}
use Rattle.ut_value.specs.Spelling.{is_count}
use Rattle.ut_plain.specs.declared.table.Table.{Table}
use Rattle.ut_plain.specs.declared.stage.Placed.{Placed}
use Rattle.ut_plain.specs.declared.stage.TableStages.{TableStages}
use Rattle.ut_plain.specs.Tables.{columns_at, fits_columns, fits_table}
use Rattle.ut_plain.specs.Rows.{Rows}
use Rattle.ut_plain.specs.Stages.{Stages, stages_at, places_of, all_places}
use Rattle.ut_plain.specs.State.{State, IsState, IsRow}
use Rattle.ut_plain.specs.Journal.{current}
use Rattle.ut_plain.specs.Reached.{IsMain}
use Rattle.ut_plain.specs.Capture.{Directory, is_live, captured_place, captured_rows, captured_table, capture, StandsAt, StandsAnywhere, row_of, AreRowsOf, ids}
use Rattle.ut_plain.proofs.StateLaws.{IsState-current}
use Rattle.ut_plain.proofs.CaptureLaws.{captured_at, capture_rows, first_in, later_in}
use Rattle.ut_plain.proofs.CapturedLaws.{captured_mains}
use Rattle.ut_durable.specs.Rules.{delta_ids, live_ids, part_ids, image_ids, IsImageRow, IsImageTable}
use Rattle.ut_durable.specs.Laws.{HaveRows, CapturedIsDirectory}

-- ---- a row that is kept

-- the rows of a state keep the rules of a table's columns
row_rule : (tables : List Table) (next n : ℕ) (columns : List Column) (p : Placed) → next ≤ 2147483649 → columns_at tables n ≡ Some columns → IsRow tables next p.id (row_of n p) → IsImageRow columns p
row_rule tables next n columns p low at is =
    let given = is.given in
    let fits : IsTrue (fits_columns columns p.values) = ap (λ (o : Option (List Column)). fits_table o p.values) (sym at) ∙ is.fits in
    let spelled = and_parts (is_count 64 (length p.values)) (list_all is_value p.values) is.spelled in
    record { id = (omega (arith, given.0), omega (arith, given.1, low)); values = and_from (fits_columns columns p.values) (list_all is_value p.values) fits spelled.1 }

module _ (rows : Rows) where
  kept_all : (P : Placed → Type 0) (places : List Placed) → ((p : Placed) → Contains places p → is_live rows p ≡ true → P p) → AllByRecursion P (captured_rows rows places)
  kept_all P [] each = tt
  kept_all P (p ∷ places) each = by (is_live rows p) refl (kept_all P places (λ q has live. each q (later_in p q places has) live))
    where
      by : (b : Bool) → is_live rows p ≡ b → AllByRecursion P (captured_rows rows places) → AllByRecursion P (cond b (p ∷ captured_rows rows places) (captured_rows rows places))
      by true live rest = (each p (first_in p p places refl) live, rest)
      by false live rest = rest

  kept_few : (places : List Placed) → length (captured_rows rows places) ≤ length places
  kept_few [] = omega arith
  kept_few (p ∷ places) = by (is_live rows p) (kept_few places)
    where
      by : (b : Bool) → length (captured_rows rows places) ≤ length places → length (cond b (p ∷ captured_rows rows places) (captured_rows rows places)) ≤ suc (length places)
      by true rest = omega (arith, rest)
      by false rest = omega (arith, rest)

  kept_live : (places : List Placed) → AllByRecursion (λ (p : Placed). p.dead ≡ false) (captured_rows rows places)
  kept_live places = kept_all (λ (p : Placed). p.dead ≡ false) places (λ p has live. not-true p.dead (and_parts (not p.dead) (is_some (finmap.get rows p.id)) live).0)

  same_rows : (columns : List Column) (part : List Placed) → AllByRecursion (IsImageRow columns) part → AllByRecursion (IsImageRow columns) (map (captured_place rows) part)
  same_rows columns [] are = tt
  same_rows columns (p ∷ part) are = (record { id = are.0.id; values = are.0.values }, same_rows columns part are.1)

  same_parts : (columns : List Column) (parts : List (List Placed)) → AllByRecursion (AllByRecursion (IsImageRow columns)) parts → AllByRecursion (AllByRecursion (IsImageRow columns)) (map (map (captured_place rows)) parts)
  same_parts columns [] are = tt
  same_parts columns (part ∷ parts) are = (same_rows columns part are.0, same_parts columns parts are.1)

  all_both : (P : Placed → Type 0) (xs ys : List Placed) → AllByRecursion P xs → AllByRecursion P ys → AllByRecursion P (xs ++ ys)
  all_both P [] ys a b = b
  all_both P (x ∷ xs) ys a b = (a.0, all_both P xs ys a.1 b)

  -- a captured table of these columns
  table_rule : (columns : List Column) (t : TableStages) → ((p : Placed) → StandsAnywhere t p → is_live rows p ≡ true → IsImageRow columns p) → AllByRecursion (AllByRecursion (IsImageRow columns)) t.parts
      → places_of t ≤ 2147483649 → IsMain (captured_table rows t) → IsImageTable columns (captured_table rows t)
  table_rule columns t each parts few main =
      let closed : List Placed = captured_rows rows (unwrap_or t.closed []) in
      let own : List Placed = captured_rows rows t.l2 in
      record {
        rest = record { closed = refl; keep = refl };
        main = main;
        l2 = record {
          few = omega (arith, few, length-append closed own, kept_few (unwrap_or t.closed []), kept_few t.l2);
          rows = all_both (IsImageRow columns) closed own (kept_all (IsImageRow columns) (unwrap_or t.closed []) (λ p has live. each p (inr (inr (inl has))) live)) (kept_all (IsImageRow columns) t.l2 (λ p has live. each p (inr (inl has)) live));
          live = all_both (λ (p : Placed). p.dead ≡ false) closed own (kept_live (unwrap_or t.closed [])) (kept_live t.l2);
        };
        l1 = record { few = omega (arith, few, kept_few t.l1); rows = kept_all (IsImageRow columns) t.l1 (λ p has live. each p (inl has) live); live = kept_live t.l1 };
        parts = same_parts columns t.parts parts;
      }

-- ---- all tables

places_at : (stages : Stages) (n : ℕ) → places_of (stages_at stages n) ≤ all_places stages
places_at [] n = omega arith
places_at (s ∷ ss) zero = omega (arith, sum_by-cons places_of s ss)
places_at (s ∷ ss) (suc n) = let rest = places_at ss n in omega (arith, rest, sum_by-cons places_of s ss)

zip_of : (P : Table → TableStages → Type 0) (ts : List Table) (ss : Stages) → length ss ≡ length ts → ((n : ℕ) (t : Table) → slice_get ts n ≡ Some t → P t (stages_at ss n)) → AllZip P ts ss
zip_of P [] [] long each = tt
zip_of P [] (s ∷ ss) long each = absurd (omega (arith, long))
zip_of P (t ∷ ts) [] long each = absurd (omega (arith, long))
zip_of P (t ∷ ts) (s ∷ ss) long each = (each zero t refl, zip_of P ts ss (omega (arith, long)) (λ n u is. each (suc n) u is))

parts_at : (ts : List Table) (ss : Stages) (n : ℕ) (t : Table) → AllZip HaveRows ts ss → slice_get ts n ≡ Some t → HaveRows t (stages_at ss n)
parts_at [] ss n t all is = cc
parts_at (u ∷ ts) [] n t all is = absurd all
parts_at (u ∷ ts) (s ∷ ss) zero t all is = let same : u ≡ t = cc in subst (λ (v : Table). HaveRows v s) same all.0
parts_at (u ∷ ts) (s ∷ ss) (suc n) t all is = parts_at ts ss n t all.1 is

-- ---- the ids

live_part : (P : ℕ → Type 0) (part : List Placed) → ((p : Placed) → Contains part p → p.dead ≡ false → P p.id) → AllByRecursion P (live_ids part)
live_part P [] each = tt
live_part P (p ∷ part) each = by p.dead refl (live_part P part (λ q has live. each q (later_in p q part has) live))
  where
    by : (b : Bool) → p.dead ≡ b → AllByRecursion P (live_ids part) → AllByRecursion P (ids (cond (not b) (p ∷ filter (λ (q : Placed). not q.dead) part) (filter (λ (q : Placed). not q.dead) part)))
    by true dead rest = rest
    by false live rest = (each p (first_in p p part refl) live, rest)

numbers_both : (P : ℕ → Type 0) (xs ys : List ℕ) → AllByRecursion P xs → AllByRecursion P ys → AllByRecursion P (xs ++ ys)
numbers_both P [] ys a b = b
numbers_both P (x ∷ xs) ys a b = (a.0, numbers_both P xs ys a.1 b)

live_parts : (P : ℕ → Type 0) (parts : List (List Placed)) → ((part : List Placed) (p : Placed) → Contains parts part → Contains part p → p.dead ≡ false → P p.id) → AllByRecursion P (flat_map live_ids parts)
live_parts P [] each = tt
live_parts P (part ∷ parts) each =
    numbers_both P (live_ids part) (flat_map live_ids parts) (live_part P part (λ p has live. each part p (first_in part part parts refl) has live)) (live_parts P parts (λ q p in_parts has live. each q p (later_in part q parts in_parts) has live))

delta_rule : (P : ℕ → Type 0) (places : List Placed) → AllByRecursion (λ (p : Placed). p.dead ≡ false) places → ((p : Placed) → Contains places p → p.dead ≡ false → P p.id) → AllByRecursion P (ids places)
delta_rule P [] live each = tt
delta_rule P (p ∷ places) live each = (each p (first_in p p places refl) live.0, delta_rule P places live.1 (λ q has alive. each q (later_in p q places has) alive))

deltas_rule : (P : ℕ → Type 0) (ts : List Table) (ss : Stages) → AllZip (λ (t : Table) (s : TableStages). IsImageTable t.columns s) ts ss → ((n : ℕ) (p : Placed) → StandsAt ss n p → p.dead ≡ false → P p.id)
    → AllByRecursion P (flat_map delta_ids ss) × AllByRecursion P (flat_map part_ids ss)
deltas_rule P [] [] all each = (tt, tt)
deltas_rule P [] (s ∷ ss) all each = absurd all
deltas_rule P (t ∷ ts) [] all each = absurd all
deltas_rule P (t ∷ ts) (s ∷ ss) all each =
    let rest = deltas_rule P ts ss all.1 (λ n p stands live. each (suc n) p stands live) in (
      numbers_both P (delta_ids s) (flat_map delta_ids ss)
          (numbers_both P (ids s.l2) (ids s.l1) (delta_rule P s.l2 all.0.l2.live (λ p has live. each zero p (inr (inl has)) live)) (delta_rule P s.l1 all.0.l1.live (λ p has live. each zero p (inl has) live))) rest.0,
      numbers_both P (part_ids s) (flat_map part_ids ss) (live_parts P s.parts (λ part p in_parts has live. each zero p (inr (inr (part, in_parts, has))) live)) rest.1,
    )

all_places_rule : (P : ℕ → Type 0) (list : List ℕ) → AllByRecursion P list → All P list
all_places_rule P [] all k d lt = absurd (omega (arith, lt))
all_places_rule P (x ∷ list) all zero d lt = all.0
all_places_rule P (x ∷ list) all (suc k) d lt = all_places_rule P list all.1 k d (omega (arith, lt))

-- ---- the directory

pub captured_is_directory : CapturedIsDirectory
captured_is_directory p is held kept own =
    let s : State = current p.journal in
    let d : Directory = capture s p.stages in
    let state : IsState s = IsState-current p.journal is.base is.journal in
    let next = state.next in
    let places = is.places in
    let last = is.last in
    let long : length d.stages ≡ length d.tables = length-map p.stages (captured_table s.rows) ∙ is.staged in
    let mains = captured_mains s.rows p.stages is.mains in
    let tables : AllZip (λ (t : Table) (u : TableStages). IsImageTable t.columns u) d.tables d.stages =
    zip_of (λ (t : Table) (u : TableStages). IsImageTable t.columns u) d.tables d.stages long (λ n t at.
    let same : stages_at d.stages n ≡ captured_table s.rows (stages_at p.stages n) = captured_at s.rows p.stages n in
    let columns : columns_at s.tables n ≡ Some t.columns = ap (λ (o : Option Table). option_map (λ (u : Table). u.columns) o) at in
    subst (IsImageTable t.columns) (sym same)
    (table_rule s.rows t.columns (stages_at p.stages n)
    (λ q stands live. row_rule s.tables s.next n t.columns q next.1 columns (state.rows.each q.id (row_of n q) (held.each n q stands live)))
    (parts_at s.tables p.stages n t kept at)
    (omega (arith, places, last, places_at p.stages n))
    (subst IsMain same (mains n)))) in
    let rows : AreRowsOf d.stages s.rows = capture_rows s p.stages held in
    let given = deltas_rule (λ (id : ℕ). (1 ≤ id) × (id < s.next)) d.tables d.stages tables (λ n q stands live. let row = (state.rows.each q.id (row_of n q) (rows.each n q stands live)).given in (omega (arith, row.0), row.1)) in
    record {
      few = state.few;
      begun = state.begun;
      tables = state.tables;
      names = state.names;
      stages = tables;
      ids = (all_places_rule (λ (id : ℕ). (1 ≤ id) × (id < s.next)) (image_ids d.stages) (numbers_both (λ (id : ℕ). (1 ≤ id) × (id < s.next)) (flat_map delta_ids d.stages) (flat_map part_ids d.stages) given.0 given.1), own);
    }
