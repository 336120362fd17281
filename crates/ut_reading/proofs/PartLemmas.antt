-- The parts of a directory as keys: they may stand behind one another, and their chains have their bytes.
use Rattle.std.proofs.Common.{◌≡◌, ℕ, ◌+◌, ◌<◌, ◌≤◌, Bool, true, false, not, cond, List, [], ◌∷◌, ◌++◌, length, map, get_or, IsTrue, refl, ◌∙◌, ap, subst, arith}
use Rattle.std.specs.List.{AllByRecursion, sum_by, flat_map, filter, items_where_true}
use Rattle.std.proofs.lemmas.List.{length-map, map-append}
use Rattle.std.proofs.lemmas.List.Sums.{sum_by-cons, sum_by-append}
use Rattle.ut_value.specs.declared.value.Column.{Column}
use Rattle.ut_l2.specs.KeyRows.{KeyRow, keyed, cells_at}
use Rattle.ut_own.specs.Own.{own_dict}
use Rattle.ut_prefix.specs.Chain.{end_to_end}
use Rattle.ut_main.specs.Parts.{MainValue, dicts_behind, rows_in}
use Rattle.ut_main.specs.Spelling.{MayStand, is_key, kind_at, AreKeys}
use Rattle.ut_main.proofs.OwnLemmas.{own-held}
use Rattle.ut_main.proofs.KindLemmas.{keys-in, keys-from}
use Rattle.ut_plain.specs.declared.stage.Placed.{Placed}
use Rattle.ut_durable.specs.Rules.{IsImageRow, live_ids}
use Rattle.ut_durable.specs.Bytes.{Chain, row_in, key_rows, main_of, part_behind, part_ref, part_refs, live_marks, HoldsPart, HoldParts}
use Rattle.ut_durable.specs.Images.{StandsIn, IsWithin}
use Rattle.ut_reading.specs.Standing.{with_part, StandsPart, StandParts, live_in_parts}
use Rattle.ut_reading.proofs.ListLemmas.{all_places}
use Rattle.ut_reading.proofs.KeyLemmas.{cells_long, cell_key}

-- ---- rows

abbrev AreRows : List Column → List Placed → Type 0
AreRows columns part = AllByRecursion (IsImageRow columns) part

rows_wide : (columns : List Column) (part : List Placed) → AreRows columns part → AllByRecursion (λ (r : KeyRow). length r.keys ≡ length columns) (key_rows part)
rows_wide columns [] are = tt
rows_wide columns (p ∷ part) are = (cells_long columns p.values are.0.values, rows_wide columns part are.1)

rows_ids : (columns : List Column) (part : List Placed) → AreRows columns part → AllByRecursion (λ (id : ℕ). (1 ≤ id) × (id ≤ 2147483648)) (map (λ (r : KeyRow). r.id) (key_rows part))
rows_ids columns [] are = tt
rows_ids columns (p ∷ part) are = (are.0.id, rows_ids columns part are.1)

rows_keys : (columns : List Column) (part : List Placed) (j : ℕ) → AreRows columns part → j < length columns → AllByRecursion (λ (key : List ℕ). IsTrue (is_key (kind_at j columns) key)) (cells_at j (key_rows part))
rows_keys columns [] j are lt = tt
rows_keys columns (p ∷ part) j are lt = (cell_key columns p.values j are.0.values lt, rows_keys columns part j are.1 lt)

-- the rows of earlier parts
pub rows_before : (width : ℕ) (earlier : List (List Placed)) → rows_in (main_of width earlier) ≡ sum_by length earlier
rows_before width [] = refl
rows_before width (part ∷ parts) =
    let rest = rows_before width parts in
    omega (arith, rest, sum_by-cons length (key_rows part) (map key_rows parts), sum_by-cons length part parts, length-map part (λ (p : Placed). keyed (row_in p)))

pub may_stand : (columns : List Column) (earlier : List (List Placed)) (part : List Placed) → AreRows columns part → sum_by length earlier + length part ≤ 2147483647
    → MayStand columns (main_of (length columns) earlier) (part_behind (length columns) earlier part)
may_stand columns earlier part are few = record {
  before = refl;
  wide = all_places (λ (r : KeyRow). length r.keys ≡ length columns) (key_rows part) (rows_wide columns part are);
  few = omega (arith, few, rows_before (length columns) earlier, length-map part (λ (p : Placed). keyed (row_in p)));
  ids = all_places (λ (id : ℕ). (1 ≤ id) × (id ≤ 2147483648)) (map (λ (r : KeyRow). r.id) (key_rows part)) (rows_ids columns part are);
  kinds = λ j lt.
      let cells : List (List ℕ) = cells_at j (key_rows part) in
      let before : List (List ℕ) = end_to_end (get_or (dicts_behind (main_of (length columns) earlier)) j []) in
      let are_keys : AreKeys (kind_at j columns) cells = all_places (λ (key : List ℕ). IsTrue (is_key (kind_at j columns) key)) cells (rows_keys columns part j are lt) in
      keys-from (kind_at j columns) (own_dict before cells) (λ key has. keys-in (kind_at j columns) cells are_keys key (own-held before cells key has).0);
}

-- ---- parts

same_main : (width : ℕ) (earlier : List (List Placed)) (part : List Placed) → main_of width (earlier ++ part ∷ []) ≡ with_part (main_of width earlier) (key_rows part)
same_main width earlier part = ap (λ (l : List (List KeyRow)). record { width = width; parts = l }) (map-append key_rows earlier (part ∷ []))

pub one_more : (earlier : List (List Placed)) (part : List Placed) (parts : List (List Placed)) → sum_by length (earlier ++ part ∷ []) + sum_by length parts ≡ sum_by length earlier + sum_by length (part ∷ parts)
one_more earlier part parts = omega (arith, sum_by-append length earlier (part ∷ []), sum_by-cons length part parts, sum_by-cons length part [])

pub part_stands : (columns : List Column) (earlier : List (List Placed)) (chain : Chain) (part : List Placed) (reached file : List ℕ) → HoldsPart (length columns) earlier chain part → AreRows columns part
    → sum_by length earlier + length part ≤ 2147483647 → StandsIn file chain → IsWithin reached chain → StandsPart columns (main_of (length columns) earlier) (part_ref chain part) (key_rows part) reached file
part_stands columns earlier chain part reached file holds are few stands within = record {
  chain = chain;
  stands = (stands, within);
  first = refl;
  long = refl;
  bytes = holds.bytes;
  may = may_stand columns earlier part are few;
  count = length-map part (λ (p : Placed). keyed (row_in p));
}

pub parts_stand : (columns : List Column) (earlier : List (List Placed)) (chains : List Chain) (parts : List (List Placed)) (reached file : List ℕ) → HoldParts (length columns) earlier chains parts
    → AllByRecursion (AllByRecursion (IsImageRow columns)) parts → sum_by length earlier + sum_by length parts ≤ 2147483647 → AllByRecursion (StandsIn file) chains → AllByRecursion (IsWithin reached) chains
    → StandParts columns (main_of (length columns) earlier) (part_refs chains parts) (map key_rows parts) reached file
parts_stand columns earlier [] [] reached file hold are few stand within = tt
parts_stand columns earlier [] (part ∷ parts) reached file hold are few stand within = absurd hold
parts_stand columns earlier (chain ∷ chains) [] reached file hold are few stand within = absurd hold
parts_stand columns earlier (chain ∷ chains) (part ∷ parts) reached file hold are few stand within =
    let some : sum_by length earlier + length part ≤ 2147483647 = omega (arith, few, sum_by-cons length part parts) in
    let more : sum_by length (earlier ++ part ∷ []) + sum_by length parts ≤ 2147483647 = omega (arith, few, one_more earlier part parts) in
    let here = part_stands columns earlier chain part reached file hold.0 are.0 some stand.0 within.0 in (
      here,
      subst (λ (m : MainValue). StandParts columns m (part_refs chains parts) (map key_rows parts) reached file) (same_main (length columns) earlier part)
          (parts_stand columns (earlier ++ part ∷ []) chains parts reached file hold.1 are.1 more stand.1 within.1),
    )

-- ---- live rows

live_row : (part : List Placed) → map (λ (r : KeyRow). r.id) (items_where_true (live_marks part) (key_rows part)) ≡ live_ids part
live_row [] = refl
live_row (p ∷ part) = by (not p.dead) (live_row part)
  where
    by : (b : Bool) → map (λ (r : KeyRow). r.id) (items_where_true (live_marks part) (key_rows part)) ≡ live_ids part
        → map (λ (r : KeyRow). r.id) (items_where_true (b ∷ live_marks part) (key_rows (p ∷ part))) ≡ map (λ (q : Placed). q.id) (cond b (p ∷ filter (λ (q : Placed). not q.dead) part) (filter (λ (q : Placed). not q.dead) part))
    by true rest = ap (λ (l : List ℕ). p.id ∷ l) rest
    by false rest = rest

pub live_parts : (width : ℕ) (earlier : List (List Placed)) (chains : List Chain) (parts : List (List Placed)) → HoldParts width earlier chains parts → live_in_parts (part_refs chains parts) (map key_rows parts) ≡ flat_map live_ids parts
live_parts width earlier [] [] hold = refl
live_parts width earlier [] (part ∷ parts) hold = absurd hold
live_parts width earlier (chain ∷ chains) [] hold = absurd hold
live_parts width earlier (chain ∷ chains) (part ∷ parts) hold =
    ap (λ (l : List ℕ). l ++ live_in_parts (part_refs chains parts) (map key_rows parts)) (live_row part) ∙ ap (λ (l : List ℕ). live_ids part ++ l) (live_parts width (earlier ++ part ∷ []) chains parts hold.1)
