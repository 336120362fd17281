-- What a page file and a log determine, and when they can be opened.
use Rattle.std.proofs.Common.{◌≡◌, inl, inr, ⊎_elim, ℕ, zero, suc, ◌+◌, ◌<◌, ◌≤◌, false, ◌&&◌, List, [], ◌∷◌, ◌++◌, length, Option, Some, IsTrue, refl, sym, ◌∙◌, ap, subst, arith, length-append}
use Rattle.std.specs.Prelude.{Contains}
use Rattle.std.specs.Option.{unwrap_or}
use Rattle.std.specs.List.{AllByRecursion, AllZip, flat_map, list_all}
use Rattle.std.specs.FinMap as finmap
use Rattle.std.proofs.lemmas.Bool.{and_parts, and_from}
use Rattle.std.proofs.lemmas.List.{length-map}
use Rattle.std.proofs.lemmas.List.Sums.{sum_by-cons}
use Rattle.ut_value.specs.declared.value.Column.{Column}
use Rattle.ut_value.specs.KeyBytes.{is_value}
use Rattle.ut_value.specs.Spelling.{is_count, is_column, names_differ, are_columns}
use Rattle.ut_value.specs.Text.{is_name}
use Rattle.ut_redo.specs.Logs.{LogHolds}
use Rattle.ut_redo.proofs.LogLemmas.{one_reading}
use Rattle.ut_plain.specs.declared.table.Table.{Table}
use Rattle.ut_plain.specs.declared.table.Stored.{Stored}
use Rattle.ut_plain.specs.declared.stage.Placed.{Placed}
use Rattle.ut_plain.specs.declared.stage.TableStages.{TableStages}
use Rattle.ut_plain.specs.Tables.{columns_at, fits_columns, fits_table, tables_differ}
use Rattle.ut_plain.specs.Stages.{Stages, no_stages, stages_at, places_of, all_places}
use Rattle.ut_plain.specs.State.{State, IsRow, AreRows, is_table}
use Rattle.ut_plain.specs.Journal.{Journal, journal_len, load_of, can_all}
use Rattle.ut_plain.specs.Reached.{IsMain, IsAtRest, MayOpen}
use Rattle.ut_plain.specs.Capture.{Directory, StandsInTable, StandsAt, row_of, ids}
use Rattle.ut_pages.specs.declared.slot.Slot.{Slot}
use Rattle.ut_pages.specs.declared.root.Root.{Root}
use Rattle.ut_pages.specs.Layout.{IsSelected, IsRead, HasChain, IsRoot}
use Rattle.ut_pages.proofs.OneLemmas.{one_read}
use Rattle.ut_durable.specs.Rules.{delta_ids, part_ids, image_ids, IsImageRow, IsImageTable, IsDirectory}
use Rattle.ut_durable.specs.Directories.{IsBase}
use Rattle.ut_durable.specs.Images.{HasImage}
use Rattle.ut_durable.specs.Journals.{place_of}
use Rattle.ut_plain.proofs.CaptureLaws.{in_tail}
use Rattle.ut_reading.specs.Laws.{OneStore, OneImageEach, ImageIsBase, OneBase, ImageMayOpen}
use Rattle.ut_reading.proofs.BaseLemmas.{base_rows, base_rows_of, base_rows_long, one_rows, live_id, AreLive}
use Rattle.ut_reading.proofs.ListLemmas.{all_each}
use Rattle.ut_reading.proofs.KeyLemmas.{fits_long}
use Rattle.ut_reading.proofs.RuleLemmas.{InKeys, in_keys}
use Rattle.ut_reading.proofs.SameLemmas.{one_directory}

-- ---- one image

-- an image as its root and chain are read
pub image_read : (slot : Slot) (reached : List ℕ) (root : Root) (d : Directory) (file : List ℕ) → IsSelected slot file → (has : HasImage slot reached root d file) → IsRead slot has.image.directory.pages root has.image.directory.bytes file
image_read slot reached root d file selected has = record {
  selected = selected;
  has = has.has;
  chain = subst (λ (n : ℕ). HasChain has.image.directory.pages n has.image.directory.bytes file) has.image.begins has.image.stands;
  long = has.image.ends;
}

pub one_image_each : OneImageEach
one_image_each slot slot' reached reached' root root' d d' file selected selected' a b =
    let one = one_read slot slot' a.image.directory.pages b.image.directory.pages root root' a.image.directory.bytes b.image.directory.bytes file (image_read slot reached root d file selected a) (image_read slot' reached' root' d' file selected' b) in
    let x : InKeys reached root d a.image.directory.bytes file = in_keys reached root d file a.image in
    let y : InKeys reached' root' d' b.image.directory.bytes file = in_keys reached' root' d' file b.image in
    let y2 : InKeys reached' root d' a.image.directory.bytes file = subst (λ (r : Root). InKeys reached' r d' a.image.directory.bytes file) (sym one.1) (subst (λ (l : List ℕ). InKeys reached' root' d' l file) (sym one.3) y) in
    (one.1, one_directory reached reached' root d d' a.image.directory.bytes file x y2)

pub one_base : OneBase
one_base root d s t a b = λ i. record {
  tables = (a.tables ∙ sym b.tables) i;
  rows = one_rows d.stages s.rows t.rows a.rows b.rows i;
  next = (a.next ∙ sym b.next) i;
  commits = (a.commits ∙ sym b.commits) i;
  merges = (a.merges ∙ sym b.merges) i;
  length = (a.length ∙ sym b.length) i;
}

pub one_store : OneStore
one_store j j' d d' end end' c a b =
    let image = one_image_each a.slot b.slot a.reached b.reached a.root b.root d d' c.pages a.selected b.selected a.image b.image in
    let there : IsBase a.root d j'.base = subst (λ (r : Root). IsBase r d j'.base) (sym image.0) (subst (λ (e : Directory). IsBase b.root e j'.base) (sym image.1) b.base) in
    let base : j.base ≡ j'.base = one_base a.root d j.base j'.base a.base there in
    let log : LogHolds (place_of a.root) j'.entries end' c = subst (λ (r : Root). LogHolds (place_of r) j'.entries end' c) (sym image.0) b.log in
    let read = one_reading (place_of a.root) j.entries j'.entries end end' c a.log log in
    ((λ i. record { base = base i; entries = read.0 i }), image.1, read.1)

-- ---- the base

pub are_live : (ts : List Table) (ss : Stages) → AllZip (λ (t : Table) (s : TableStages). IsImageTable t.columns s) ts ss → AreLive ss
are_live [] [] all = tt
are_live [] (s ∷ ss) all = absurd all
are_live (t ∷ ts) [] all = absurd all
are_live (t ∷ ts) (s ∷ ss) all = ((all.0.l2.live, all.0.l1.live), are_live ts ss all.1)

pub directory_base : (root : Root) (d : Directory) → IsDirectory root.next root.commits d → (s : State) × IsBase root d s × (finmap.len s.rows ≡ length (image_ids d.stages))
directory_base root d is = (
  record { tables = d.tables; rows = base_rows d.stages; next = root.next; commits = root.commits; merges = root.merges; length = root.length },
  record { tables = refl; rows = base_rows_of d.stages (are_live d.tables d.stages is.stages) is.ids.1; next = refl; commits = refl; merges = refl; length = refl },
  base_rows_long d.stages is.ids.1,
)

pub image_is_base : ImageIsBase
image_is_base slot reached root d file has = directory_base root d (in_keys reached root d file has.image).rules

-- ---- opening

-- the table and the rules of a place that stands
abbrev Ruled : List Table → ℕ → TableStages → Type 0
Ruled ts n s = (columns : List Column) × (columns_at ts n ≡ Some columns) × IsTrue (are_columns columns) × IsImageTable columns s

ruled_at : (ts : List Table) (ss : Stages) → IsTrue (list_all is_table ts) → AllZip (λ (t : Table) (s : TableStages). IsImageTable t.columns s) ts ss → (n : ℕ) (p : Placed) → StandsAt ss n p → Ruled ts n (stages_at ss n)
ruled_at [] [] heads all n p stands = absurd (nowhere n p stands)
  where
    nowhere : (n : ℕ) (p : Placed) → StandsAt [] n p → ⊥
    nowhere n p (inl (k, lt, is)) = absurd (omega (arith, lt))
    nowhere n p (inr (inl (k, lt, is))) = absurd (omega (arith, lt))
    nowhere n p (inr (inr (part, (k, lt, is), there))) = absurd (omega (arith, lt))
ruled_at [] (s ∷ ss) heads all n p stands = absurd all
ruled_at (t ∷ ts) [] heads all n p stands = absurd all
ruled_at (t ∷ ts) (s ∷ ss) heads all zero p stands = let head = and_parts (is_table t) (list_all is_table ts) heads in (t.columns, refl, (and_parts (is_name t.name) (are_columns t.columns) head.0).1, all.0)
ruled_at (t ∷ ts) (s ∷ ss) heads all (suc n) p stands = ruled_at ts ss (and_parts (is_table t) (list_all is_table ts) heads).1 all.1 n p stands

in_all : (P : Placed → Type 0) (ps : List Placed) (p : Placed) → AllByRecursion P ps → Contains ps p → P p
in_all P [] p all has = absurd (omega (arith, has.1))
in_all P (q ∷ ps) p all has = ⊎_elim (λ same. subst P same all.0) (λ rest. in_all P ps p all.1 rest) (in_tail q p ps has)

in_parts : (P : Placed → Type 0) (parts : List (List Placed)) (part : List Placed) (p : Placed) → AllByRecursion (AllByRecursion P) parts → Contains parts part → Contains part p → P p
in_parts P [] part p all has there = absurd (omega (arith, has.1))
in_parts P (q ∷ parts) part p all has there = ⊎_elim (λ same. in_all P part p (subst (AllByRecursion P) same all.0) there) (λ rest. in_parts P parts part p all.1 rest there) (in_tail q part parts has)

row_at : (columns : List Column) (s : TableStages) (p : Placed) → IsImageTable columns s → StandsInTable s p → IsImageRow columns p
row_at columns s p is (inl l1) = in_all (IsImageRow columns) s.l1 p is.l1.rows l1
row_at columns s p is (inr (inl l2)) = in_all (IsImageRow columns) s.l2 p is.l2.rows l2
row_at columns s p is (inr (inr (part, has, there))) = in_parts (IsImageRow columns) s.parts part p is.parts has there

base_rows_rule : (root : Root) (d : Directory) (s : State) → IsDirectory root.next root.commits d → IsBase root d s → AreRows s.tables s.next s.rows
base_rows_rule root d s is base = record { each = λ id row at. by id row (base.rows.only id row at) }
  where
    by : (id : ℕ) (row : Stored) → (n : ℕ) × (p : Placed) × StandsAt d.stages n p × (p.dead ≡ false) × (p.id ≡ id) × (row_of n p ≡ row) → IsRow s.tables s.next id row
    by id row (n, p, stands, live, id_is, row_is) =
        let given : (1 ≤ p.id) × (p.id < root.next) = live_id (λ (k : ℕ). (1 ≤ k) × (k < root.next)) d.stages n p (all_each (λ (k : ℕ). (1 ≤ k) × (k < root.next)) (image_ids d.stages) is.ids.0) stands live in
        let rule = ruled_at d.tables d.stages is.tables is.stages n p stands in
        let place = row_at rule.0 (stages_at d.stages n) p rule.3 stands in
        let cells = and_parts (fits_columns rule.0 p.values) (list_all is_value p.values) place.values in
        let fits : IsTrue (fits_table (columns_at d.tables n) p.values) = ap (λ (o : Option (List Column)). fits_table o p.values) rule.1 ∙ cells.0 in
        let long : length p.values ≡ length rule.0 = fits_long rule.0 p.values cells.0 in
        let count : IsTrue (is_count 64 (length p.values)) = ap (is_count 64) long ∙ (and_parts (is_count 64 (length rule.0)) (list_all is_column rule.0) (and_parts (is_count 64 (length rule.0) && list_all is_column rule.0) (names_differ rule.0) rule.2).0).0 in
        let there : IsRow d.tables root.next p.id (row_of n p) = record { given = (omega (arith, given.0), given.1); fits = fits; spelled = and_from (is_count 64 (length p.values)) _ count cells.1 } in
        subst (λ (ts : List Table). IsRow ts s.next id row) (sym base.tables)
        (subst (λ (m : ℕ). IsRow d.tables m id row) (sym base.next)
        (subst (λ (k : ℕ). IsRow d.tables root.next k row) id_is (subst (λ (r : Stored). IsRow d.tables root.next p.id r) row_is there)))

-- the stages of each table, and of those that aren't there
stages_rule : (P : TableStages → Type 0) (ts : List Table) (ss : Stages) → P no_stages → ((t : Table) (s : TableStages) → IsImageTable t.columns s → P s) → AllZip (λ (t : Table) (s : TableStages). IsImageTable t.columns s) ts ss → (n : ℕ) → P (stages_at ss n)
stages_rule P [] [] none each all n = none
stages_rule P [] (s ∷ ss) none each all n = absurd all
stages_rule P (t ∷ ts) [] none each all n = absurd all
stages_rule P (t ∷ ts) (s ∷ ss) none each all zero = each t s all.0
stages_rule P (t ∷ ts) (s ∷ ss) none each all (suc n) = stages_rule P ts ss none each all.1 n

pub zip_long : (ts : List Table) (ss : Stages) → AllZip (λ (t : Table) (s : TableStages). IsImageTable t.columns s) ts ss → length ss ≡ length ts
zip_long [] [] all = refl
zip_long [] (s ∷ ss) all = absurd all
zip_long (t ∷ ts) [] all = absurd all
zip_long (t ∷ ts) (s ∷ ss) all = ap suc (zip_long ts ss all.1)

deltas_long : (ts : List Table) (ss : Stages) → AllZip (λ (t : Table) (s : TableStages). IsImageTable t.columns s) ts ss → all_places ss ≡ length (flat_map delta_ids ss)
deltas_long [] [] all = refl
deltas_long [] (s ∷ ss) all = absurd all
deltas_long (t ∷ ts) [] all = absurd all
deltas_long (t ∷ ts) (s ∷ ss) all =
    let rest = deltas_long ts ss all.1 in
    let closed : places_of s ≡ length s.l1 + length s.l2 + 0 = ap (λ (o : Option (List Placed)). length s.l1 + length s.l2 + length (unwrap_or o [])) all.0.rest.closed in
    omega (arith, sum_by-cons places_of s ss, rest, closed, length-append (ids s.l2 ++ ids s.l1) (flat_map delta_ids ss), length-append (ids s.l2) (ids s.l1), length-map s.l1 (λ (p : Placed). p.id), length-map s.l2 (λ (p : Placed). p.id))

main_at_none : IsMain no_stages
main_at_none = record { parts = omega arith; few = omega arith }

-- The same without a file.
pub directory_may_open : (root : Root) (d : Directory) (j : Journal) → IsRoot root → IsDirectory root.next root.commits d → IsBase root d j.base → IsTrue (can_all j.base j.entries) → journal_len j ≤ 1073741824 → load_of j ≤ 2147483648 → MayOpen d.stages j
directory_may_open root d j rule is base can short load =
    let made = directory_base root d is in
    let same : j.base ≡ made.0 = one_base root d j.base made.0 base made.1 in
    let rows : finmap.len j.base.rows ≡ length (image_ids d.stages) = ap (λ (s : State). finmap.len s.rows) same ∙ made.2 in
    let rules = rule.allowed in
    let deltas = deltas_long d.tables d.stages is.stages in
    let few = is.few in
    let begun = is.begun in
    record {
      base = record {
        few = omega (arith, few, ap (λ (l : List Table). length l) base.tables);
        tables = subst (λ (ts : List Table). IsTrue (list_all is_table ts)) (sym base.tables) is.tables;
        begun = omega (arith, begun, ap (λ (l : List Table). length l) base.tables, base.commits);
        names = subst (λ (ts : List Table). IsTrue (tables_differ ts)) (sym base.tables) is.names;
        next = (omega (arith, rules.next.0, base.next), omega (arith, rules.next.1, base.next));
        rows = base_rows_rule root d j.base is base;
        counts = omega (arith, rules.changes, base.commits, base.merges, base.length);
      };
      journal = can;
      short = short;
      load = load;
      staged = zip_long d.tables d.stages is.stages ∙ ap (λ (l : List Table). length l) (sym base.tables);
      places = omega (arith, rows, deltas, length-append (flat_map delta_ids d.stages) (flat_map part_ids d.stages));
      mains = stages_rule IsMain d.tables d.stages main_at_none (λ t s h. h.main) is.stages;
      rest = stages_rule IsAtRest d.tables d.stages (record { closed = refl; keep = refl }) (λ t s h. h.rest) is.stages;
    }

pub image_may_open : ImageMayOpen
image_may_open slot reached root d file j has base can short load = directory_may_open root d j has.has.rules (in_keys reached root d file has.image).rules base can short load
