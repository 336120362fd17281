-- A directory of what stands in a page file in keys.
use Rattle.std.proofs.Common.{◌≡◌, ◌⊎◌, inl, inr, ℕ, ◌+◌, ◌<◌, ◌≤◌, ◌^◌, Bool, true, false, not, ◌&&◌, nat_eq, nat_le, List, [], ◌∷◌, ◌++◌, length, map, IsTrue, None, refl, sym, ◌∙◌, ap, subst, arith, All}
use Rattle.std.specs.Prelude.{Contains}
use Rattle.std.specs.List.{AllByRecursion, AllZip, sum_by, flat_map, list_all}
use Rattle.std.proofs.lemmas.Bool.{and_parts, eqb-true, ltb-true, leb-true}
use Rattle.std.proofs.lemmas.List.{length-map, map-append}
use Rattle.std.proofs.lemmas.List.Sums.{sum_by-cons, sum_by-append}
use Rattle.ut_value.specs.declared.value.Column.{Column}
use Rattle.ut_value.specs.declared.value.Row.{Row}
use Rattle.ut_value.specs.Spelling.{is_u32}
use Rattle.ut_l2.specs.KeyRows.{KeyRow, keyed, key_at, cells_at}
use Rattle.ut_main.specs.Parts.{MainValue}
use Rattle.ut_main.specs.Spelling.{HaveKinds, kind_at, is_key, part_bytes}
use Rattle.ut_main.proofs.KindLemmas.{kinds-follow}
use Rattle.ut_plain.specs.declared.table.Table.{Table}
use Rattle.ut_plain.specs.declared.stage.Placed.{Placed}
use Rattle.ut_plain.specs.declared.stage.TableStages.{TableStages}
use Rattle.ut_plain.specs.Stages.{Stages, placed}
use Rattle.ut_plain.specs.State.{is_table}
use Rattle.ut_plain.specs.Capture.{Directory}
use Rattle.ut_image.specs.declared.drawn.PartRef.{PartRef}
use Rattle.ut_image.specs.declared.drawn.Drawn.{Drawn}
use Rattle.ut_image.specs.Bytes.{image_bytes}
use Rattle.ut_image.specs.Rules.{is_row, are_rows, are_cells, is_u64, is_part, are_parts, is_head, is_drawn, ids_in, ids_of, AreOwnIds, drawn_differ}
use Rattle.ut_pages.specs.declared.slot.Slot.{Slot}
use Rattle.ut_pages.specs.declared.root.Root.{Root}
use Rattle.ut_pages.specs.Layout.{IsRead, IsRoot}
use Rattle.ut_durable.specs.Rules.{IsImageRow, IsDelta, IsImageTable, IsDirectory, image_ids}
use Rattle.ut_durable.specs.Bytes.{Chain, row_in, key_rows, main_of, part_ref, part_refs, live_marks, HoldsPart, HoldParts, drawn, drawn_all, HoldTables, Describes, pages_for, no_directory}
use Rattle.ut_durable.specs.Images.{StandsIn, IsWithin, HasImage}
use Rattle.ut_reading.specs.Standing.{part_of, all_part_pages, IsReached, IsAnywhere, PartFits, PartsFit, MainFits, live_in_mains, AreDrawnIn, StandsImage}
use Rattle.ut_reading.specs.Reading.{mains_of, Show, Begins}
use Rattle.ut_reading.proofs.ListLemmas.{all_places, all_each, all_first, all_last, all_both, all_map}
use Rattle.ut_reading.proofs.PartLemmas.{rows_before, one_more}
use Rattle.ut_reading.proofs.FindLemmas.{chain_long}
use Rattle.ut_reading.proofs.RuleLemmas.{no_rules, all_pages, refs_long, all_long, differ_same, deltas_same, live_same}
use Rattle.ut_reading.proofs.KeyLemmas.{cells_of_keys}

-- ---- a row

not_not : (b : Bool) → not (not b) ≡ b
not_not true = refl
not_not false = refl

-- keys in each column are those of values
abbrev IsKeyed : List Column → KeyRow → Type 0
IsKeyed columns r = (length r.keys ≡ length columns) × ((j : ℕ) → j < length columns → IsTrue (is_key (kind_at j columns) (key_at j r)))

place_of_row : (columns : List Column) (r : KeyRow) (mark : Bool) → (1 ≤ r.id) × (r.id ≤ 2147483648) → IsKeyed columns r → (p : Placed) × IsImageRow columns p × (key_rows (p ∷ []) ≡ r ∷ []) × (not p.dead ≡ mark)
place_of_row columns r mark id keyed =
    let values = cells_of_keys columns r.keys keyed.0 keyed.1 in
    let p : Placed = record { id = r.id; values = values.0; dead = not mark } in
    (p, record { id = id; values = values.1 }, ap (λ (ks : List (List ℕ)). record { id = r.id; keys = ks } ∷ []) values.2, not_not mark)

-- ---- a part

abbrev AreGiven : List ℕ → Type 0
AreGiven list = AllByRecursion (λ (id : ℕ). (1 ≤ id) × (id ≤ 2147483648)) list

places_of_rows : (columns : List Column) (rows : List KeyRow) (marks : List Bool) → length marks ≡ length rows → AreGiven (map (λ (r : KeyRow). r.id) rows) → AllByRecursion (IsKeyed columns) rows
    → (part : List Placed) × AllByRecursion (IsImageRow columns) part × (key_rows part ≡ rows) × (live_marks part ≡ marks)
places_of_rows columns [] [] long ids keyed = ([], tt, refl, refl)
places_of_rows columns [] (mark ∷ marks) long ids keyed = absurd (omega (arith, long))
places_of_rows columns (r ∷ rows) [] long ids keyed = absurd (omega (arith, long))
places_of_rows columns (r ∷ rows) (mark ∷ marks) long ids keyed =
    let p = place_of_row columns r mark ids.0 keyed.0 in
    let rest = places_of_rows columns rows marks (omega (arith, long)) ids.1 keyed.1 in
    let first : key_rows (p.0 ∷ rest.0) ≡ r ∷ key_rows rest.0 = ap (λ (l : List KeyRow). l ++ key_rows rest.0) p.2 in
    (p.0 ∷ rest.0, (p.1, rest.1), first ∙ ap (λ (l : List KeyRow). r ∷ l) rest.2, ap (λ (b : Bool). b ∷ live_marks rest.0) p.3 ∙ ap (λ (l : List Bool). mark ∷ l) rest.3)

rows_keyed : (columns : List Column) (rows : List KeyRow) → AllByRecursion (λ (r : KeyRow). length r.keys ≡ length columns) rows → ((j : ℕ) → j < length columns → AllByRecursion (λ (key : List ℕ). IsTrue (is_key (kind_at j columns) key)) (cells_at j rows))
    → AllByRecursion (IsKeyed columns) rows
rows_keyed columns [] wide kinds = tt
rows_keyed columns (r ∷ rows) wide kinds = ((wide.0, λ j lt. (kinds j lt).0), rows_keyed columns rows wide.1 (λ j lt. (kinds j lt).1))

-- what was read of a part
part_drawn : (columns : List Column) (earlier : List (List Placed)) (ref : PartRef) (rows : List KeyRow) (Stands : Chain → Type 0) → IsTrue (is_part ref) → All (HaveKinds columns) (map key_rows earlier)
    → PartFits Stands columns (main_of (length columns) earlier) ref rows
    → (part : List Placed) × (chain : Chain) × AllByRecursion (IsImageRow columns) part × (key_rows part ≡ rows) × (part_ref chain part ≡ ref) × HoldsPart (length columns) earlier chain part × Stands chain
part_drawn columns earlier ref rows Stands is kinds s =
    let rule = and_parts (is_u32 ref.first) (is_u64 ref.length && (is_u32 ref.rows && nat_eq (length ref.live) ref.rows)) is in
    let rule2 = and_parts (is_u64 ref.length) (is_u32 ref.rows && nat_eq (length ref.live) ref.rows) rule.1 in
    let rule3 = and_parts (is_u32 ref.rows) (nat_eq (length ref.live) ref.rows) rule2.1 in
    let main : MainValue = main_of (length columns) earlier in
    let have : HaveKinds columns rows = kinds-follow columns main (part_of main rows) refl s.may kinds in
    let typed = rows_keyed columns rows (all_each (λ (r : KeyRow). length r.keys ≡ length columns) rows s.may.wide) (λ j lt. all_each (λ (key : List ℕ). IsTrue (is_key (kind_at j columns) key)) (cells_at j rows) (have j lt)) in
    let long : length ref.live ≡ length rows = eqb-true (length ref.live) ref.rows rule3.1 ∙ sym s.count in
    let made = places_of_rows columns rows ref.live long (all_each (λ (id : ℕ). (1 ≤ id) × (id ≤ 2147483648)) (map (λ (r : KeyRow). r.id) rows) s.may.ids) typed in
    let count : length made.0 ≡ ref.rows = sym (length-map made.0 (λ (p : Placed). keyed (row_in p))) ∙ ap (λ (l : List KeyRow). length l) made.2 ∙ s.count in (
      made.0,
      s.chain,
      made.1,
      made.2,
      λ i. record { first = s.first i; length = s.long i; rows = count i; live = made.3 i },
      record {
        bytes = s.bytes ∙ ap (λ (l : List KeyRow). part_bytes (part_of main l)) (sym made.2);
        first = subst (λ (n : ℕ). n < 2 ^ 32) (sym s.first) (ltb-true ref.first 4294967296 rule.0);
        long = subst (λ (n : ℕ). n < 2 ^ 64) (sym s.long) (ltb-true ref.length 18446744073709551616 rule2.0);
      },
      s.stands,
    )

-- ---- parts

abbrev AreKinds : List Column → List (List Placed) → Type 0
AreKinds columns earlier = AllByRecursion (HaveKinds columns) (map key_rows earlier)

record DrawnParts (columns : List Column) (earlier : List (List Placed)) (refs : List PartRef) (rows : List (List KeyRow)) (Stands : Chain → Type 0) : Type 0 where
  parts : List (List Placed)
  chains : List Chain
  are : AllByRecursion (AllByRecursion (IsImageRow columns)) parts
  keys : map key_rows parts ≡ rows
  named : part_refs chains parts ≡ refs
  hold : HoldParts (length columns) earlier chains parts
  stand : AllByRecursion Stands chains
  few : sum_by length earlier + sum_by length parts ≤ 2147483647

parts_drawn : (columns : List Column) (earlier : List (List Placed)) (refs : List PartRef) (rows : List (List KeyRow)) (Stands : Chain → Type 0) → IsTrue (list_all is_part refs) → AreKinds columns earlier → sum_by length earlier ≤ 2147483647
    → PartsFit Stands columns (main_of (length columns) earlier) refs rows → DrawnParts columns earlier refs rows Stands
parts_drawn columns earlier [] [] Stands are kinds few stand = record { parts = []; chains = []; are = tt; keys = refl; named = refl; hold = tt; stand = tt; few = omega (arith, few) }
parts_drawn columns earlier [] (r ∷ rows) Stands are kinds few stand = absurd stand
parts_drawn columns earlier (ref ∷ refs) [] Stands are kinds few stand = absurd stand
parts_drawn columns earlier (ref ∷ refs) (r ∷ rows) Stands are kinds few stand =
    let both = and_parts (is_part ref) (list_all is_part refs) are in
    let main : MainValue = main_of (length columns) earlier in
    let all = all_places (HaveKinds columns) (map key_rows earlier) kinds in
    let p = part_drawn columns earlier ref r Stands both.0 all stand.0 in
    let have : HaveKinds columns r = kinds-follow columns main (part_of main r) refl stand.0.may all in
    let more : map key_rows (earlier ++ p.0 ∷ []) ≡ map key_rows earlier ++ r ∷ [] = map-append key_rows earlier (p.0 ∷ []) ∙ ap (λ (l : List KeyRow). map key_rows earlier ++ l ∷ []) p.3 in
    let now : AreKinds columns (earlier ++ p.0 ∷ []) = subst (AllByRecursion (HaveKinds columns)) (sym more) (all_both (HaveKinds columns) (map key_rows earlier) (r ∷ []) kinds (have, tt)) in
    let stand_few = stand.0.may.few in
    let size : sum_by length (earlier ++ p.0 ∷ []) ≤ 2147483647 =
    omega (arith, sum_by-append length earlier (p.0 ∷ []), sum_by-cons length p.0 [], stand_few, rows_before (length columns) earlier, ap (λ (l : List KeyRow). length l) p.3, length-map p.0 (λ (q : Placed). keyed (row_in q))) in
    let stand_rest : PartsFit Stands columns (main_of (length columns) (earlier ++ p.0 ∷ [])) refs rows = subst (λ (l : List (List KeyRow)). PartsFit Stands columns (record { width = length columns; parts = l }) refs rows) (sym more) stand.1 in
    let rest = parts_drawn columns (earlier ++ p.0 ∷ []) refs rows Stands both.1 now size stand_rest in
    let rest_few = rest.few in
    record {
      parts = p.0 ∷ rest.parts;
      chains = p.1 ∷ rest.chains;
      are = (p.2, rest.are);
      keys = λ i. p.3 i ∷ rest.keys i;
      named = λ i. p.4 i ∷ rest.named i;
      hold = (p.5, rest.hold);
      stand = (p.6, rest.stand);
      few = omega (arith, rest_few, one_more earlier p.0 rest.parts);
    }

-- ---- a delta

abbrev AreBelow : ℕ → List ℕ → Type 0
AreBelow next list = AllByRecursion (λ (id : ℕ). (1 ≤ id) × (id < next)) list

abbrev place_in : Row → Placed
place_in r = placed r.id r.values

rows_same : (rows : List Row) → map row_in (map place_in rows) ≡ rows
rows_same [] = refl
rows_same (r ∷ rows) = ap (λ (l : List Row). r ∷ l) (rows_same rows)

rows_are : (columns : List Column) (next : ℕ) (rows : List Row) → next ≤ 2147483649 → IsTrue (list_all (is_row columns) rows) → AreBelow next (map (λ (r : Row). r.id) rows) → AllByRecursion (IsImageRow columns) (map place_in rows)
rows_are columns next [] low is ids = tt
rows_are columns next (r ∷ rows) low is ids =
    let both = and_parts (is_row columns r) (list_all (is_row columns) rows) is in
    let here = and_parts (is_u32 r.id) (are_cells columns r.values) both.0 in
    (record { id = (ids.0.0, omega (arith, ids.0.1, low)); values = here.1 }, rows_are columns next rows low both.1 ids.1)

rows_live : (rows : List Row) → AllByRecursion (λ (p : Placed). p.dead ≡ false) (map place_in rows)
rows_live [] = tt
rows_live (r ∷ rows) = (refl, rows_live rows)

delta_drawn : (columns : List Column) (next : ℕ) (rows : List Row) → next ≤ 2147483649 → IsTrue (are_rows columns rows) → AreBelow next (map (λ (r : Row). r.id) rows) → IsDelta columns (map place_in rows)
delta_drawn columns next rows low is ids =
    let both = and_parts (is_u32 (length rows)) (list_all (is_row columns) rows) is in
    record {
      few = subst (λ (n : ℕ). n < 2 ^ 32) (sym (length-map rows place_in)) (ltb-true (length rows) 4294967296 both.0);
      rows = rows_are columns next rows low both.1 ids;
      live = rows_live rows;
    }

-- ---- a table

record DrawnTable (t : Drawn) (main : MainValue) (Stands : Chain → Type 0) : Type 0 where
  stages : TableStages
  chains : List Chain
  is : IsImageTable t.table.columns stages
  drawn : drawn t.table chains stages ≡ t
  keys : main_of (length t.table.columns) stages.parts ≡ main
  hold : HoldParts (length t.table.columns) [] chains stages.parts
  stand : AllByRecursion Stands chains

table_drawn : (t : Drawn) (main : MainValue) (next : ℕ) (Stands : Chain → Type 0) → next ≤ 2147483649 → IsTrue (is_drawn t) → AreBelow next (ids_in t) → MainFits Stands t main → DrawnTable t main Stands
table_drawn t main next Stands low is ids s =
    let columns : List Column = t.table.columns in
    let r1 = and_parts (is_head t.table) (are_parts t.parts && (are_rows columns t.l2 && are_rows columns t.l1)) is in
    let r2 = and_parts (are_parts t.parts) (are_rows columns t.l2 && are_rows columns t.l1) r1.1 in
    let r3 = and_parts (are_rows columns t.l2) (are_rows columns t.l1) r2.1 in
    let r4 = and_parts (nat_le (length t.parts) 8) (list_all is_part t.parts) r2.0 in
    let p = parts_drawn columns [] t.parts main.parts Stands r4.1 tt (omega arith) s.parts in
    let few = p.few in
    let stages : TableStages = record { l1 = map place_in t.l1; l2 = map place_in t.l2; closed = None; parts = p.parts; keep = [] } in
    record {
      stages = stages;
      chains = p.chains;
      is = record {
        rest = record { closed = refl; keep = refl };
        main = record { parts = omega (arith, leb-true (length t.parts) 8 r4.0, refs_long (length columns) [] p.chains p.parts p.hold, ap (λ (l : List PartRef). length l) p.named); few = omega (arith, few) };
        l2 = delta_drawn columns next t.l2 low r3.0 (all_first (λ (id : ℕ). (1 ≤ id) × (id < next)) (map (λ (r : Row). r.id) t.l2) (map (λ (r : Row). r.id) t.l1) ids);
        l1 = delta_drawn columns next t.l1 low r3.1 (all_last (λ (id : ℕ). (1 ≤ id) × (id < next)) (map (λ (r : Row). r.id) t.l2) (map (λ (r : Row). r.id) t.l1) ids);
        parts = p.are;
      };
      drawn = λ i. record { table = t.table; parts = p.named i; l2 = rows_same t.l2 i; l1 = rows_same t.l1 i };
      keys = λ i. record { width = sym s.width i; parts = p.keys i };
      hold = p.hold;
      stand = p.stand;
    }

-- ---- all tables

record DrawnTables (ts : List Drawn) (mains : List MainValue) (Stands : Chain → Type 0) : Type 0 where
  tables : List Table
  stages : Stages
  chains : List (List Chain)
  heads : IsTrue (list_all is_table tables)
  are : AllZip (λ (t : Table) (s : TableStages). IsImageTable t.columns s) tables stages
  drawn : drawn_all tables chains stages ≡ ts
  keys : mains_of tables stages ≡ mains
  hold : HoldTables tables chains stages
  stand : AllByRecursion Stands (flat_map (λ (c : List Chain). c) chains)

tables_drawn : (ts : List Drawn) (mains : List MainValue) (next : ℕ) (Stands : Chain → Type 0) → next ≤ 2147483649 → IsTrue (list_all is_drawn ts) → AreBelow next (ids_of ts) → AllZip (MainFits Stands) ts mains → DrawnTables ts mains Stands
tables_drawn [] [] next Stands low are ids stand = record { tables = []; stages = []; chains = []; heads = refl; are = tt; drawn = refl; keys = refl; hold = tt; stand = tt }
tables_drawn [] (main ∷ mains) next Stands low are ids stand = absurd stand
tables_drawn (t ∷ ts) [] next Stands low are ids stand = absurd stand
tables_drawn (t ∷ ts) (main ∷ mains) next Stands low are ids stand =
    let both = and_parts (is_drawn t) (list_all is_drawn ts) are in
    let head = and_parts (is_head t.table) (are_parts t.parts && (are_rows t.table.columns t.l2 && are_rows t.table.columns t.l1)) both.0 in
    let one = table_drawn t main next Stands low both.0 (all_first (λ (id : ℕ). (1 ≤ id) × (id < next)) (ids_in t) (ids_of ts) ids) stand.0 in
    let rest = tables_drawn ts mains next Stands low both.1 (all_last (λ (id : ℕ). (1 ≤ id) × (id < next)) (ids_in t) (ids_of ts) ids) stand.1 in
    let more : List Chain = flat_map (λ (c : List Chain). c) rest.chains in
    record {
      tables = t.table ∷ rest.tables;
      stages = one.stages ∷ rest.stages;
      chains = one.chains ∷ rest.chains;
      heads = λ i. head.0 i && rest.heads i;
      are = (one.is, rest.are);
      drawn = λ i. one.drawn i ∷ rest.drawn i;
      keys = λ i. one.keys i ∷ rest.keys i;
      hold = (one.hold, rest.hold);
      stand = all_both Stands one.chains more one.stand rest.stand;
    }

-- ---- the directory

-- What was read in keys, wherever its parts stand, shows a directory that an image may have.
pub record DrawnImage (root : Root) (bytes : List ℕ) (tables : List Drawn) (mains : List MainValue) (Stands : Chain → Type 0) : Type 0 where
  pub directory : Directory
  pub chains : List (List Chain)
  pub rules : IsDirectory root.next root.commits directory
  pub hold : HoldTables directory.tables chains directory.stages
  pub drawn : drawn_all directory.tables chains directory.stages ≡ tables
  pub keys : mains_of directory.tables directory.stages ≡ mains
  pub stand : AllByRecursion Stands (flat_map (λ (c : List Chain). c) chains)
  pub spelled : ((bytes ≡ []) × (directory ≡ no_directory) × (chains ≡ [])) ⊎ ((bytes ≡ image_bytes tables) × HoldTables directory.tables chains directory.stages)

no_mains : (Stands : Chain → Type 0) (ts : List Drawn) (ms : List MainValue) → ts ≡ [] → AllZip (MainFits Stands) ts ms → ms ≡ []
no_mains Stands [] [] is all = refl
no_mains Stands [] (m ∷ ms) is all = absurd all
no_mains Stands (t ∷ ts) ms is all = cc

pub keys_drawn : (root : Root) (bytes : List ℕ) (tables : List Drawn) (mains : List MainValue) (Stands : Chain → Type 0) → root.next ≤ 2147483649 → AreDrawnIn root bytes tables → AllZip (MainFits Stands) tables mains
    → AreOwnIds root.next (ids_of tables ++ live_in_mains tables mains) → DrawnImage root bytes tables mains Stands
keys_drawn root bytes tables mains Stands low (inl none) fit ids = record {
  directory = no_directory;
  chains = [];
  rules = no_rules root.next root.commits;
  hold = tt;
  drawn = sym none.1;
  keys = sym (no_mains Stands tables mains none.1 fit);
  stand = tt;
  spelled = inl (none.0, refl, refl);
}
keys_drawn root bytes tables mains Stands low (inr some) fit ids =
    let below : AreBelow root.next (ids_of tables) = all_each (λ (id : ℕ). (1 ≤ id) × (id < root.next)) (ids_of tables) some.1.ids.0 in
    let all = tables_drawn tables mains root.next Stands low some.1.each below fit in
    let long : length tables ≡ length all.tables = ap (λ (l : List Drawn). length l) (sym all.drawn) ∙ all_long all.tables all.chains all.stages all.hold in
    let few = some.1.few in
    let begun = some.1.begun in
    let own : ids_of tables ++ live_in_mains tables mains ≡ image_ids all.stages =
    (λ i. ids_of (sym all.drawn i) ++ live_in_mains (sym all.drawn i) (sym all.keys i))
    ∙ (λ i. deltas_same all.tables all.chains all.stages all.hold i ++ live_same all.tables all.chains all.stages all.hold i) in
    record {
      directory = record { tables = all.tables; stages = all.stages };
      chains = all.chains;
      rules = record {
        few = omega (arith, few, long);
        begun = omega (arith, begun, long);
        tables = all.heads;
        names = sym (differ_same all.tables all.chains all.stages all.hold) ∙ ap drawn_differ all.drawn ∙ some.1.names;
        stages = all.are;
        ids = subst (AreOwnIds root.next) own ids;
      };
      hold = all.hold;
      drawn = all.drawn;
      keys = all.keys;
      stand = all.stand;
      spelled = inr (some.0, all.hold);
    }

-- ---- the whole image

-- What was read of a page file in keys is its image.
pub image_drawn : (slot : Slot) (pages reached : List ℕ) (root : Root) (bytes : List ℕ) (tables : List Drawn) (mains : List MainValue) (file : List ℕ) → IsRead slot pages root bytes file → ((k : ℕ) → Contains pages k → Contains reached k) → length reached ≡ length pages + all_part_pages tables
    → StandsImage root bytes tables mains reached file → (d : Directory) × Show tables mains d × HasImage slot reached root d file
image_drawn slot pages reached root bytes tables mains file read within count stands =
    let fits = read.has.rules.allowed.next.1 in
    let all : DrawnImage root bytes tables mains (IsReached reached file) = keys_drawn root bytes tables mains (IsReached reached file) (omega (arith, fits)) stands.drawn stands.parts stands.ids in
    let chains : List Chain = flat_map (λ (c : List Chain). c) all.chains in (
      all.directory,
      record { chains = all.chains; hold = all.hold; drawn = sym all.drawn; parts = sym all.keys },
      record {
        has = read.has;
        image = record {
          directory = record { pages = pages; first = root.first_page; bytes = bytes };
          begins = refl;
          ends = read.long;
          stands = read.chain;
          reaches = within;
          parts = chains;
          each = all_map (IsReached reached file) (StandsIn file) chains (λ c is. is.0) all.stand;
          each_reaches = all_map (IsReached reached file) (IsWithin reached) chains (λ c is. is.1) all.stand;
          count =
              let own = chain_long pages root.first_page bytes file read.chain.chain in
              let parts : all_part_pages tables ≡ sum_by (λ (c : Chain). pages_for (length c.bytes)) chains =
              ap (λ (l : List Drawn). all_part_pages l) (sym all.drawn) ∙ all_pages all.directory.tables all.chains all.directory.stages all.hold in
              omega (arith, count, own, parts);
          describes = by all all.spelled;
        };
      },
    )
  where
    by : (all : DrawnImage root bytes tables mains (IsReached reached file)) → ((bytes ≡ []) × (all.directory ≡ no_directory) × (all.chains ≡ [])) ⊎ ((bytes ≡ image_bytes tables) × HoldTables all.directory.tables all.chains all.directory.stages)
        → Describes root bytes (flat_map (λ (c : List Chain). c) all.chains) all.directory
    by all (inl none) = inl (none.0, ap (λ (l : List (List Chain)). flat_map (λ (c : List Chain). c) l) none.2, none.1)
    by all (inr some) = inr (record {
      rules = all.rules;
      chains = all.chains;
      flat = refl;
      spelled = some.0 ∙ ap (λ (l : List Drawn). image_bytes l) (sym all.drawn);
      hold = some.1;
    })

-- The tables and mains of an image show a directory, and it and the root are the image of a state.
pub image_begins : (root : Root) (bytes : List ℕ) (tables : List Drawn) (mains : List MainValue) → IsRoot root → AreDrawnIn root bytes tables → AllZip (MainFits IsAnywhere) tables mains
    → AreOwnIds root.next (ids_of tables ++ live_in_mains tables mains) → (d : Directory) × Begins root tables mains d
image_begins root bytes tables mains rules drawn fit ids =
    let fits = rules.allowed.next.1 in
    let all = keys_drawn root bytes tables mains IsAnywhere (omega (arith, fits)) drawn fit ids in
    (all.directory, record { rules = rules; shown = record { chains = all.chains; hold = all.hold; drawn = sym all.drawn; parts = sym all.keys }; directory = all.rules })
