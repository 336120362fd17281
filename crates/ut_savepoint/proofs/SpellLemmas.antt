-- What is captured, as the bytes and the chains of a directory.
use Rattle.std.proofs.Common.{◌≡◌, ℕ, zero, suc, ◌+◌, ◌<◌, ◌≤◌, ◌^◌, List, [], ◌∷◌, ◌++◌, length, take, drop, map, refl, sym, ◌∙◌, ap, arith, append_assoc, length-append}
use Rattle.std.specs.Arc.{arc_value}
use Rattle.std.specs.Int.{w32, to_le_bytes}
use Rattle.std.specs.List.{AllByRecursion, flat_map, sum_by}
use Rattle.std.proofs.lemmas.List.{length-map, map-append}
use Rattle.std.proofs.lemmas.List.Sums.{sum_by-cons}
use Rattle.ut_bits.specs.Words.{word_bytes}
use Rattle.ut_bits.proofs.WordLemmas.{length-word_bytes}
use Rattle.ut_l2.specs.KeyRows.{keyed}
use Rattle.ut_main.specs.Parts.{PartValue}
use Rattle.ut_main.specs.Spelling.{part_bytes, id_bytes, column_bytes, columns_of}
use Rattle.ut_image.specs.declared.drawn.PartRef.{PartRef}
use Rattle.ut_image.specs.Bytes.{part_bytes as ref_bytes, parts_bytes, head_bytes, drawn_bytes, image_bytes}
use Rattle.ut_plain.specs.declared.table.Table.{Table}
use Rattle.ut_plain.specs.declared.stage.Placed.{Placed}
use Rattle.ut_plain.specs.declared.stage.TableStages.{TableStages}
use Rattle.ut_plain.specs.Stages.{Stages}
use Rattle.ut_plain.specs.Capture.{Directory}
use Rattle.ut_durable.specs.Bytes.{Chain, row_in, part_behind, part_refs, HoldParts, drawn, drawn_all, HoldTables, pages_for, unplaced, unplaced_all, image_pages}
use Rattle.ut_durable.specs.Plans.{Draft, first_of, chain_of}
use Rattle.ut_savepoint.specs.declared.captured.CapturedPart.{CapturedPart}
use Rattle.ut_savepoint.specs.declared.captured.CapturedTable.{CapturedTable}
use Rattle.ut_savepoint.specs.Captured.{CapturesPart, CaptureParts, CapturesTable, CaptureTables, Captures}
use Rattle.ut_savepoint.specs.Planning.{spelled, spelled_in, spelled_all, pages_of, refs_of, tables_bytes, directory_of, drafts_of}
use Rattle.ut_savepoint.proofs.PageLemmas.{drafts_both}

-- ---- the chain of a part

-- numbers of pages, which have 32 bits
abbrev pub AreNumbers : List ℕ → Type 0
AreNumbers pages = AllByRecursion (λ (n : ℕ). n < 2 ^ 32) pages

fit_take : (xs : List ℕ) (k : ℕ) → AreNumbers xs → AreNumbers (take k xs)
fit_take [] zero all = tt
fit_take [] (suc k) all = tt
fit_take (x ∷ xs) zero all = tt
fit_take (x ∷ xs) (suc k) all = (all.0, fit_take xs k all.1)

fit_drop : (xs : List ℕ) (k : ℕ) → AreNumbers xs → AreNumbers (drop k xs)
fit_drop [] zero all = tt
fit_drop [] (suc k) all = tt
fit_drop (x ∷ xs) zero all = all
fit_drop (x ∷ xs) (suc k) all = fit_drop xs k all.1

first_fits : (xs : List ℕ) → AreNumbers xs → first_of xs < 2 ^ 32
first_fits [] all = omega arith
first_fits (x ∷ xs) all = all.0

abbrev pub Short : List (List ℕ) → Type 0
Short parts = AllByRecursion (λ (b : List ℕ). length b < 2 ^ 64) parts

short_first : (xs ys : List (List ℕ)) → Short (xs ++ ys) → Short xs
short_first [] ys all = tt
short_first (x ∷ xs) ys all = (all.0, short_first xs ys all.1)

short_last : (xs ys : List (List ℕ)) → Short (xs ++ ys) → Short ys
short_last [] ys all = all
short_last (x ∷ xs) ys all = short_last xs ys all.1

-- parts of few pages are short
pub short_parts : (parts : List (List ℕ)) → pages_of parts < 2 ^ 32 → Short parts
short_parts [] few = tt
short_parts (bytes ∷ parts) few =
    let all = sum_by-cons (λ (b : List ℕ). pages_for (length b)) bytes parts in
    (omega (arith, few, all), short_parts parts (omega (arith, few, all)))

take_none : (k : ℕ) → take {A = ℕ} k [] ≡ []
take_none zero = refl
take_none (suc k) = refl

drop_none : (k : ℕ) → drop {A = ℕ} k [] ≡ []
drop_none zero = refl
drop_none (suc k) = refl

-- a part has bytes
some_bytes : (part : PartValue) → 4 ≤ length (part_bytes part)
some_bytes part = omega (arith, length-append (id_bytes (map (λ r. r.id) part.rows)) (flat_map column_bytes (columns_of part)), front (map (λ r. r.id) part.rows))
  where
    front : (list : List ℕ) → 4 ≤ length (id_bytes list)
    front list = omega (arith, length-append (word_bytes (length list)) (flat_map word_bytes list), length-word_bytes (length list))

-- and so a page
some_page : (part : PartValue) → 1 ≤ pages_for (length (part_bytes part))
some_page part = omega (arith, some_bytes part)

first_taken : (pages : List ℕ) (n : ℕ) → 1 ≤ n → first_of (take n pages) ≡ first_of pages
first_taken pages zero some = absurd (omega (arith, some))
first_taken [] (suc n) some = refl
first_taken (p ∷ pages) (suc n) some = refl

-- as many parts are named as there are
pub refs_count : (pages : List ℕ) (cs : List CapturedPart) → length (refs_of pages cs) ≡ length cs
refs_count pages [] = refl
refs_count pages (c ∷ cs) = ap suc (refs_count (drop (pages_for (length (spelled c))) pages) cs)

-- the chains of parts on pages
pub chains_in : List ℕ → List CapturedPart → List Chain
chains_in pages cs = map chain_of (drafts_of pages (spelled_in cs))

same_bytes : (width : ℕ) (earlier : List (List Placed)) (c : CapturedPart) (part : List Placed) → CapturesPart width earlier c part → spelled c ≡ part_bytes (part_behind width earlier part)
same_bytes width earlier c part captures = ap part_bytes captures.same

pub refs_same : (width : ℕ) (earlier : List (List Placed)) (pages : List ℕ) (cs : List CapturedPart) (parts : List (List Placed)) → CaptureParts width earlier cs parts → refs_of pages cs ≡ part_refs (chains_in pages cs) parts
unfolding chains_in
refs_same width earlier pages [] [] capture = refl
refs_same width earlier pages [] (part ∷ parts) capture = absurd capture
refs_same width earlier pages (c ∷ cs) [] capture = absurd capture
refs_same width earlier pages (c ∷ cs) (part ∷ parts) capture =
    let n : ℕ = pages_for (length (spelled c)) in
    let first : first_of pages ≡ first_of (take n pages) = sym (first_taken pages n (some_page (arc_value c.part))) in
    let rows : length (arc_value c.part).rows ≡ length part = ap (λ (p : PartValue). length p.rows) capture.0.same ∙ length-map part (λ (p : Placed). keyed (row_in p)) in
    let rest = refs_same width (earlier ++ part ∷ []) (drop n pages) cs parts capture.1 in
    λ i. record { first = first i; length = length (spelled c); rows = rows i; live = capture.0.live i } ∷ rest i

pub parts_hold : (width : ℕ) (earlier : List (List Placed)) (pages : List ℕ) (cs : List CapturedPart) (parts : List (List Placed)) → CaptureParts width earlier cs parts → AreNumbers pages
    → Short (spelled_in cs) → HoldParts width earlier (chains_in pages cs) parts
unfolding chains_in
parts_hold width earlier pages [] [] capture fit long = tt
parts_hold width earlier pages [] (part ∷ parts) capture fit long = absurd capture
parts_hold width earlier pages (c ∷ cs) [] capture fit long = absurd capture
parts_hold width earlier pages (c ∷ cs) (part ∷ parts) capture fit long =
    let n : ℕ = pages_for (length (spelled c)) in (
      record { bytes = same_bytes width earlier c part capture.0; first = first_fits (take n pages) (fit_take pages n fit); long = long.0 },
      parts_hold width (earlier ++ part ∷ []) (drop n pages) cs parts capture.1 (fit_drop pages n fit) long.1,
    )

-- ---- without pages

unplaced_same : (width : ℕ) (earlier : List (List Placed)) (cs : List CapturedPart) (parts : List (List Placed)) → CaptureParts width earlier cs parts → chains_in [] cs ≡ unplaced width earlier parts
unfolding chains_in
unplaced_same width earlier [] [] capture = refl
unplaced_same width earlier [] (part ∷ parts) capture = absurd capture
unplaced_same width earlier (c ∷ cs) [] capture = absurd capture
unplaced_same width earlier (c ∷ cs) (part ∷ parts) capture =
    let n : ℕ = pages_for (length (spelled c)) in
    let none : take n [] ≡ [] = take_none n in
    let left : drop n [] ≡ [] = drop_none n in
    let rest : map chain_of (drafts_of (drop n []) (spelled_in cs)) ≡ unplaced width (earlier ++ part ∷ []) parts = ap (λ (l : List ℕ). map chain_of (drafts_of l (spelled_in cs))) left ∙ unplaced_same width (earlier ++ part ∷ []) cs parts capture.1 in
    λ i. record { pages = none i; first = first_of (none i); bytes = same_bytes width earlier c part capture.0 i } ∷ rest i

-- ---- all tables

-- the chains of all tables on pages
pub chains_all : List ℕ → List CapturedTable → List (List Chain)
chains_all pages [] = []
chains_all pages (t ∷ ts) = chains_in pages t.parts.items ∷ chains_all (drop (pages_of (spelled_in t.parts.items)) pages) ts

table_same : (c : CapturedTable) (t : Table) (s : TableStages) (pages : List ℕ) → CapturesTable c t s → head_bytes c.table ++ parts_bytes (refs_of pages c.parts.items) ++ c.deltas.items ≡ drawn_bytes (drawn t (chains_in pages c.parts.items) s)
table_same c t s pages captures =
    let refs = refs_same (length t.columns) [] pages c.parts.items s.parts captures.parts in
    append_assoc (head_bytes c.table) (parts_bytes (refs_of pages c.parts.items)) c.deltas.items
    ∙ (λ i. head_bytes (captures.table i) ++ (parts_bytes (refs i) ++ captures.deltas i))

tables_same : (cs : List CapturedTable) (ts : List Table) (ss : Stages) (pages : List ℕ) → CaptureTables cs ts ss → tables_bytes pages cs ≡ flat_map drawn_bytes (drawn_all ts (chains_all pages cs) ss)
unfolding chains_all
tables_same [] [] [] pages capture = refl
tables_same [] [] (s ∷ ss) pages capture = absurd capture
tables_same [] (t ∷ ts) ss pages capture = absurd capture
tables_same (c ∷ cs) [] ss pages capture = absurd capture
tables_same (c ∷ cs) (t ∷ ts) [] pages capture = absurd capture
tables_same (c ∷ cs) (t ∷ ts) (s ∷ ss) pages capture =
    let left : List ℕ = drop (pages_of (spelled_in c.parts.items)) pages in
    let rest = tables_same cs ts ss left capture.1 in
    sym (append_assoc (head_bytes c.table ++ parts_bytes (refs_of pages c.parts.items)) c.deltas.items (tables_bytes left cs))
    ∙ (λ i. table_same c t s pages capture.0 i ++ rest i)

all_long : (cs : List CapturedTable) (ts : List Table) (ss : Stages) (pages : List ℕ) → CaptureTables cs ts ss → length cs ≡ length (drawn_all ts (chains_all pages cs) ss)
unfolding chains_all
all_long [] [] [] pages capture = refl
all_long [] [] (s ∷ ss) pages capture = absurd capture
all_long [] (t ∷ ts) ss pages capture = absurd capture
all_long (c ∷ cs) [] ss pages capture = absurd capture
all_long (c ∷ cs) (t ∷ ts) [] pages capture = absurd capture
all_long (c ∷ cs) (t ∷ ts) (s ∷ ss) pages capture = ap suc (all_long cs ts ss (drop (pages_of (spelled_in c.parts.items)) pages) capture.1)

-- the directory's bytes
pub directory_same : (cs : List CapturedTable) (d : Directory) (pages : List ℕ) → Captures cs d → directory_of pages cs ≡ image_bytes (drawn_all d.tables (chains_all pages cs) d.stages)
directory_same cs d pages capture = λ i. to_le_bytes w32 (all_long cs d.tables d.stages pages capture i) ++ tables_same cs d.tables d.stages pages capture i

pub tables_hold : (cs : List CapturedTable) (ts : List Table) (ss : Stages) (pages : List ℕ) → CaptureTables cs ts ss → AreNumbers pages → Short (spelled_all cs) → HoldTables ts (chains_all pages cs) ss
unfolding chains_all
tables_hold [] [] [] pages capture fit long = tt
tables_hold [] [] (s ∷ ss) pages capture fit long = absurd capture
tables_hold [] (t ∷ ts) ss pages capture fit long = absurd capture
tables_hold (c ∷ cs) [] ss pages capture fit long = absurd capture
tables_hold (c ∷ cs) (t ∷ ts) [] pages capture fit long = absurd capture
tables_hold (c ∷ cs) (t ∷ ts) (s ∷ ss) pages capture fit long = (
  parts_hold (length t.columns) [] pages c.parts.items s.parts capture.0.parts fit (short_first (spelled_in c.parts.items) (spelled_all cs) long),
  tables_hold cs ts ss (drop (pages_of (spelled_in c.parts.items)) pages) capture.1 (fit_drop pages (pages_of (spelled_in c.parts.items)) fit) (short_last (spelled_in c.parts.items) (spelled_all cs) long),
)

-- they are the chains of the parts in order
pub chains_flat : (cs : List CapturedTable) (pages : List ℕ) → flat_map (λ (c : List Chain). c) (chains_all pages cs) ≡ map chain_of (drafts_of pages (spelled_all cs))
unfolding chains_all chains_in
chains_flat [] pages = refl
chains_flat (c ∷ cs) pages =
    let mine : List (List ℕ) = spelled_in c.parts.items in
    let left : List ℕ = drop (pages_of mine) pages in
    ap (λ (l : List Chain). map chain_of (drafts_of pages mine) ++ l) (chains_flat cs left)
    ∙ sym (map-append chain_of (drafts_of pages mine) (drafts_of left (spelled_all cs))) ∙ ap (map chain_of) (sym (drafts_both pages mine (spelled_all cs)))

unplaced_tables : (cs : List CapturedTable) (ts : List Table) (ss : Stages) → CaptureTables cs ts ss → chains_all [] cs ≡ unplaced_all ts ss
unfolding chains_all
unplaced_tables [] [] [] capture = refl
unplaced_tables [] [] (s ∷ ss) capture = absurd capture
unplaced_tables [] (t ∷ ts) ss capture = absurd capture
unplaced_tables (c ∷ cs) [] ss capture = absurd capture
unplaced_tables (c ∷ cs) (t ∷ ts) [] capture = absurd capture
unplaced_tables (c ∷ cs) (t ∷ ts) (s ∷ ss) capture =
    let left : drop (pages_of (spelled_in c.parts.items)) [] ≡ [] = drop_none (pages_of (spelled_in c.parts.items)) in
    let rest : chains_all (drop (pages_of (spelled_in c.parts.items)) []) cs ≡ unplaced_all ts ss = ap (λ (l : List ℕ). chains_all l cs) left ∙ unplaced_tables cs ts ss capture.1 in
    λ i. unplaced_same (length t.columns) [] c.parts.items s.parts capture.0.parts i ∷ rest i

-- ---- how many pages

drafts_pages : (pages : List ℕ) (parts : List (List ℕ)) → sum_by (λ (c : Chain). pages_for (length c.bytes)) (map chain_of (drafts_of pages parts)) ≡ pages_of parts
drafts_pages pages [] = refl
drafts_pages pages (bytes ∷ parts) =
    let n : ℕ = pages_for (length bytes) in
    let here : Draft = record { pages = take n pages; bytes = bytes } in
    sum_by-cons (λ (c : Chain). pages_for (length c.bytes)) (chain_of here) (map chain_of (drafts_of (drop n pages) parts)) ∙ ap (λ (k : ℕ). n + k) (drafts_pages (drop n pages) parts)
    ∙ sym (sum_by-cons (λ (b : List ℕ). pages_for (length b)) bytes parts)

pub image_takes : (cs : List CapturedTable) (d : Directory) → Captures cs d → image_pages d ≡ pages_of (spelled_all cs) + pages_for (length (directory_of [] cs))
image_takes cs d capture =
    let chains : unplaced_all d.tables d.stages ≡ chains_all [] cs = sym (unplaced_tables cs d.tables d.stages capture) in
    let parts : sum_by (λ (c : Chain). pages_for (length c.bytes)) (flat_map (λ (c : List Chain). c) (unplaced_all d.tables d.stages)) ≡ pages_of (spelled_all cs) =
    ap (λ (l : List (List Chain)). sum_by (λ (c : Chain). pages_for (length c.bytes)) (flat_map (λ (c : List Chain). c) l)) chains
    ∙ ap (λ (l : List Chain). sum_by (λ (c : Chain). pages_for (length c.bytes)) l) (chains_flat cs []) ∙ drafts_pages [] (spelled_all cs) in
    let own : image_bytes (drawn_all d.tables (unplaced_all d.tables d.stages) d.stages) ≡ directory_of [] cs = ap (λ (l : List (List Chain)). image_bytes (drawn_all d.tables l d.stages)) chains ∙ sym (directory_same cs d [] capture) in
    λ i. parts i + pages_for (length (own i))

-- a directory is as long wherever the parts stand
refs_long : (pages more : List ℕ) (cs : List CapturedPart) → length (parts_bytes (refs_of pages cs)) ≡ length (parts_bytes (refs_of more cs))
refs_long pages more [] = refl
refs_long pages more (c ∷ cs) =
    let n : ℕ = pages_for (length (spelled c)) in
    let rest = refs_long (drop n pages) (drop n more) cs in
    let a : PartRef = record { first = first_of pages; length = length (spelled c); rows = length (arc_value c.part).rows; live = c.live } in
    let b : PartRef = record { first = first_of more; length = length (spelled c); rows = length (arc_value c.part).rows; live = c.live } in
    let one : length (ref_bytes a) ≡ length (ref_bytes b) = refl in
    omega (arith, rest, one, length-append (ref_bytes a) (flat_map ref_bytes (refs_of (drop n pages) cs)), length-append (ref_bytes b) (flat_map ref_bytes (refs_of (drop n more) cs)))

tables_long : (pages more : List ℕ) (cs : List CapturedTable) → length (tables_bytes pages cs) ≡ length (tables_bytes more cs)
tables_long pages more [] = refl
tables_long pages more (c ∷ cs) =
    let n : ℕ = pages_of (spelled_in c.parts.items) in
    let rest = tables_long (drop n pages) (drop n more) cs in
    let refs = refs_long pages more c.parts.items in
    let a : List ℕ = parts_bytes (refs_of pages c.parts.items) in
    let b : List ℕ = parts_bytes (refs_of more c.parts.items) in
    omega (
      arith,
      rest,
      refs,
      length-append (head_bytes c.table ++ a) (c.deltas.items ++ tables_bytes (drop n pages) cs),
      length-append (head_bytes c.table) a,
      length-append c.deltas.items (tables_bytes (drop n pages) cs),
      length-append (head_bytes c.table ++ b) (c.deltas.items ++ tables_bytes (drop n more) cs),
      length-append (head_bytes c.table) b,
      length-append c.deltas.items (tables_bytes (drop n more) cs),
    )

pub directory_long : (pages : List ℕ) (cs : List CapturedTable) → length (directory_of pages cs) ≡ length (directory_of [] cs)
directory_long pages cs = omega (arith, tables_long pages [] cs, length-append (to_le_bytes w32 (length cs)) (tables_bytes pages cs), length-append (to_le_bytes w32 (length cs)) (tables_bytes [] cs))
