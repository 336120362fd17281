-- What a directory's rules say of the tables that its bytes spell, and of their parts.
use Rattle.std.proofs.Common.{◌≡◌, ◌≢◌, inl, inr, ℕ, suc, ◌<◌, ◌≤◌, Bool, not, ◌&&◌, ◌||◌, nat_le, List, [], ◌∷◌, ◌++◌, length, map, IsTrue, refl, sym, ◌∙◌, ap, subst, arith}
use Rattle.std.specs.List.{AllByRecursion, AllZip, sum_by, flat_map, list_all}
use Rattle.std.proofs.lemmas.Bool.{and_parts, and_from, eq-eqb, le-leb, lt-ltb}
use Rattle.std.proofs.lemmas.List.{length-map, length-append, get_or_append_left}
use Rattle.std.proofs.lemmas.List.Sums.{sum_by-cons, sum_by-append}
use Rattle.std.proofs.lemmas.Simd.{map-map}
use Rattle.ut_value.specs.declared.value.Column.{Column}
use Rattle.ut_value.specs.declared.value.Row.{Row}
use Rattle.ut_value.specs.Text.{same_bytes}
use Rattle.ut_value.specs.Spelling.{is_u32}
use Rattle.ut_main.specs.Parts.{MainValue}
use Rattle.ut_plain.specs.declared.table.Table.{Table}
use Rattle.ut_plain.specs.declared.stage.Placed.{Placed}
use Rattle.ut_plain.specs.declared.stage.TableStages.{TableStages}
use Rattle.ut_plain.specs.Stages.{Stages}
use Rattle.ut_plain.specs.State.{is_table}
use Rattle.ut_plain.specs.Tables.{has_table, tables_differ}
use Rattle.ut_plain.specs.Capture.{Directory, ids}
use Rattle.ut_plain.proofs.NameLemmas.{has_table-cons}
use Rattle.ut_image.specs.declared.drawn.PartRef.{PartRef}
use Rattle.ut_image.specs.declared.drawn.Drawn.{Drawn}
use Rattle.ut_image.specs.Rules.{is_row, are_rows, is_u64, is_part, are_parts, is_head, is_drawn, has_drawn, drawn_differ, ids_of, AreOwnIds, AreDrawn}
use Rattle.ut_pages.specs.declared.root.Root.{Root}
use Rattle.ut_durable.specs.Rules.{delta_ids, part_ids, image_ids, IsImageRow, IsDelta, IsImageTable, IsDirectory}
use Rattle.ut_durable.specs.Bytes.{Chain, row_in, part_ref, part_refs, HoldsPart, HoldParts, drawn, drawn_all, HoldTables, Describes, pages_for, no_directory}
use Rattle.ut_durable.specs.Images.{StandsIn, IsWithin, HasDirectory}
use Rattle.ut_reading.specs.Standing.{part_pages, all_part_pages, StandsMain, live_in_mains, StandsImage}
use Rattle.ut_reading.specs.Reading.{mains_of}
use Rattle.ut_reading.proofs.ListLemmas.{all_first, all_last, first_pairs}
use Rattle.ut_reading.proofs.PartLemmas.{parts_stand, live_parts}

-- ---- one table

row_rule : (columns : List Column) (p : Placed) → IsImageRow columns p → IsTrue (is_row columns (row_in p))
row_rule columns p is = and_from (is_u32 p.id) _ (lt-ltb p.id 4294967296 (omega (arith, is.id.1))) is.values

rows_rule : (columns : List Column) (ps : List Placed) → AllByRecursion (IsImageRow columns) ps → IsTrue (list_all (is_row columns) (map row_in ps))
rows_rule columns [] are = refl
rows_rule columns (p ∷ ps) are = λ i. row_rule columns p are.0 i && rows_rule columns ps are.1 i

delta_rule : (columns : List Column) (ps : List Placed) → IsDelta columns ps → IsTrue (are_rows columns (map row_in ps))
delta_rule columns ps is = and_from (is_u32 (length (map row_in ps))) _ (lt-ltb (length (map row_in ps)) 4294967296 (omega (arith, is.few, length-map ps row_in))) (rows_rule columns ps is.rows)

pub refs_long : (width : ℕ) (earlier : List (List Placed)) (chains : List Chain) (parts : List (List Placed)) → HoldParts width earlier chains parts → length (part_refs chains parts) ≡ length parts
refs_long width earlier [] [] hold = refl
refs_long width earlier [] (part ∷ parts) hold = absurd hold
refs_long width earlier (chain ∷ chains) [] hold = absurd hold
refs_long width earlier (chain ∷ chains) (part ∷ parts) hold = ap suc (refs_long width (earlier ++ part ∷ []) chains parts hold.1)

-- the chains take as many pages as what a directory says of them
refs_pages : (width : ℕ) (earlier : List (List Placed)) (chains : List Chain) (parts : List (List Placed)) → HoldParts width earlier chains parts → part_pages (part_refs chains parts) ≡ sum_by (λ (c : Chain). pages_for (length c.bytes)) chains
refs_pages width earlier [] [] hold = refl
refs_pages width earlier [] (part ∷ parts) hold = absurd hold
refs_pages width earlier (chain ∷ chains) [] hold = absurd hold
refs_pages width earlier (chain ∷ chains) (part ∷ parts) hold =
    let rest = refs_pages width (earlier ++ part ∷ []) chains parts hold.1 in
    omega (arith, rest, sum_by-cons (λ (r : PartRef). pages_for r.length) (part_ref chain part) (part_refs chains parts), sum_by-cons (λ (c : Chain). pages_for (length c.bytes)) chain chains)

pub all_pages : (ts : List Table) (cs : List (List Chain)) (ss : Stages) → HoldTables ts cs ss → all_part_pages (drawn_all ts cs ss) ≡ sum_by (λ (c : Chain). pages_for (length c.bytes)) (flat_map (λ (c : List Chain). c) cs)
all_pages [] [] [] hold = refl
all_pages [] [] (s ∷ ss) hold = absurd hold
all_pages [] (c ∷ cs) ss hold = absurd hold
all_pages (t ∷ ts) [] ss hold = absurd hold
all_pages (t ∷ ts) (c ∷ cs) [] hold = absurd hold
all_pages (t ∷ ts) (c ∷ cs) (s ∷ ss) hold =
    let here = refs_pages (length t.columns) [] c s.parts hold.0 in
    let rest = all_pages ts cs ss hold.1 in
    omega (arith, here, rest, sum_by-cons (λ (d : Drawn). part_pages d.parts) (drawn t c s) (drawn_all ts cs ss), sum_by-append (λ (d : Chain). pages_for (length d.bytes)) c (flat_map (λ (d : List Chain). d) cs))

part_rule : (width : ℕ) (earlier : List (List Placed)) (chain : Chain) (part : List Placed) → HoldsPart width earlier chain part → length part ≤ 2147483647 → IsTrue (is_part (part_ref chain part))
part_rule width earlier chain part holds few =
    and_from (is_u32 chain.first) _ (lt-ltb chain.first 4294967296 holds.first)
    (and_from (is_u64 (length chain.bytes)) _ (lt-ltb (length chain.bytes) 18446744073709551616 holds.long)
    (and_from (is_u32 (length part)) _ (lt-ltb (length part) 4294967296 (omega (arith, few))) (eq-eqb _ _ (length-map part (λ (p : Placed). not p.dead)))))

parts_rule : (width : ℕ) (earlier : List (List Placed)) (chains : List Chain) (parts : List (List Placed)) → HoldParts width earlier chains parts → sum_by length parts ≤ 2147483647 → IsTrue (list_all is_part (part_refs chains parts))
parts_rule width earlier [] [] hold few = refl
parts_rule width earlier [] (part ∷ parts) hold few = absurd hold
parts_rule width earlier (chain ∷ chains) [] hold few = absurd hold
parts_rule width earlier (chain ∷ chains) (part ∷ parts) hold few =
    λ i. part_rule width earlier chain part hold.0 (omega (arith, few, sum_by-cons length part parts)) i && parts_rule width (earlier ++ part ∷ []) chains parts hold.1 (omega (arith, few, sum_by-cons length part parts)) i

main_few : (columns : List Column) (s : TableStages) → IsImageTable columns s → sum_by length s.parts ≤ 2147483647
main_few columns s is = let few = is.main.few in omega (arith, few)

table_rule : (t : Table) (chains : List Chain) (s : TableStages) → IsTrue (is_table t) → IsImageTable t.columns s → HoldParts (length t.columns) [] chains s.parts → IsTrue (is_drawn (drawn t chains s))
table_rule t chains s head is hold =
    and_from (is_head t) _ head
    (and_from (are_parts (part_refs chains s.parts)) _
    (and_from (nat_le (length (part_refs chains s.parts)) 8) _ (le-leb (length (part_refs chains s.parts)) 8 (let few = is.main.parts in omega (arith, few, refs_long (length t.columns) [] chains s.parts hold))) (parts_rule (length t.columns) [] chains s.parts hold (main_few t.columns s is)))
    (and_from (are_rows t.columns (map row_in s.l2)) _ (delta_rule t.columns s.l2 is.l2) (delta_rule t.columns s.l1 is.l1)))

-- ---- all tables

abbrev AreTables : List Table → Stages → Type 0
AreTables ts ss = AllZip (λ (t : Table) (s : TableStages). IsImageTable t.columns s) ts ss

pub all_long : (ts : List Table) (cs : List (List Chain)) (ss : Stages) → HoldTables ts cs ss → length (drawn_all ts cs ss) ≡ length ts
all_long [] [] [] hold = refl
all_long [] [] (s ∷ ss) hold = absurd hold
all_long [] (c ∷ cs) ss hold = absurd hold
all_long (t ∷ ts) [] ss hold = absurd hold
all_long (t ∷ ts) (c ∷ cs) [] hold = absurd hold
all_long (t ∷ ts) (c ∷ cs) (s ∷ ss) hold = ap suc (all_long ts cs ss hold.1)

all_rule : (ts : List Table) (cs : List (List Chain)) (ss : Stages) → IsTrue (list_all is_table ts) → AreTables ts ss → HoldTables ts cs ss → IsTrue (list_all is_drawn (drawn_all ts cs ss))
all_rule [] [] [] heads are hold = refl
all_rule [] [] (s ∷ ss) heads are hold = absurd hold
all_rule [] (c ∷ cs) ss heads are hold = absurd hold
all_rule (t ∷ ts) [] ss heads are hold = absurd hold
all_rule (t ∷ ts) (c ∷ cs) [] heads are hold = absurd hold
all_rule (t ∷ ts) (c ∷ cs) (s ∷ ss) heads are hold =
    let both = and_parts (is_table t) (list_all is_table ts) heads in
    λ i. table_rule t c s both.0 are.0 hold.0 i && all_rule ts cs ss both.1 are.1 hold.1 i

has_same : (ts : List Table) (cs : List (List Chain)) (ss : Stages) (name : List ℕ) → HoldTables ts cs ss → has_drawn (drawn_all ts cs ss) name ≡ has_table ts name
has_same [] [] [] name hold = refl
has_same [] [] (s ∷ ss) name hold = absurd hold
has_same [] (c ∷ cs) ss name hold = absurd hold
has_same (t ∷ ts) [] ss name hold = absurd hold
has_same (t ∷ ts) (c ∷ cs) [] name hold = absurd hold
has_same (t ∷ ts) (c ∷ cs) (s ∷ ss) name hold = ap (λ (b : Bool). same_bytes t.name name || b) (has_same ts cs ss name hold.1) ∙ sym (has_table-cons t ts name)

pub differ_same : (ts : List Table) (cs : List (List Chain)) (ss : Stages) → HoldTables ts cs ss → drawn_differ (drawn_all ts cs ss) ≡ tables_differ ts
differ_same [] [] [] hold = refl
differ_same [] [] (s ∷ ss) hold = absurd hold
differ_same [] (c ∷ cs) ss hold = absurd hold
differ_same (t ∷ ts) [] ss hold = absurd hold
differ_same (t ∷ ts) (c ∷ cs) [] hold = absurd hold
differ_same (t ∷ ts) (c ∷ cs) (s ∷ ss) hold = λ i. not (has_same ts cs ss t.name hold.1 i) && differ_same ts cs ss hold.1 i

ids_same : (ps : List Placed) → map (λ (r : Row). r.id) (map row_in ps) ≡ ids ps
ids_same ps = map-map (λ (r : Row). r.id) row_in ps

pub deltas_same : (ts : List Table) (cs : List (List Chain)) (ss : Stages) → HoldTables ts cs ss → ids_of (drawn_all ts cs ss) ≡ flat_map delta_ids ss
deltas_same [] [] [] hold = refl
deltas_same [] [] (s ∷ ss) hold = absurd hold
deltas_same [] (c ∷ cs) ss hold = absurd hold
deltas_same (t ∷ ts) [] ss hold = absurd hold
deltas_same (t ∷ ts) (c ∷ cs) [] hold = absurd hold
deltas_same (t ∷ ts) (c ∷ cs) (s ∷ ss) hold = λ i. (ids_same s.l2 i ++ ids_same s.l1 i) ++ deltas_same ts cs ss hold.1 i

pub live_same : (ts : List Table) (cs : List (List Chain)) (ss : Stages) → HoldTables ts cs ss → live_in_mains (drawn_all ts cs ss) (mains_of ts ss) ≡ flat_map part_ids ss
live_same [] [] [] hold = refl
live_same [] [] (s ∷ ss) hold = absurd hold
live_same [] (c ∷ cs) ss hold = absurd hold
live_same (t ∷ ts) [] ss hold = absurd hold
live_same (t ∷ ts) (c ∷ cs) [] hold = absurd hold
live_same (t ∷ ts) (c ∷ cs) (s ∷ ss) hold = λ i. live_parts (length t.columns) [] c s.parts hold.0 i ++ live_same ts cs ss hold.1 i

-- ids that are the first of others
first_own : (next : ℕ) (xs ys : List ℕ) → AreOwnIds next (xs ++ ys) → AreOwnIds next xs
first_own next xs ys own = (λ k d lt. subst (λ (id : ℕ). (1 ≤ id) × (id < next)) (get_or_append_left xs ys d k lt) (own.0 k d (omega (arith, lt, length-append xs ys))), first_pairs (λ (a b : ℕ). a ≢ b) xs ys own.1)

pub drawn_rule : (root : Root) (d : Directory) (cs : List (List Chain)) → IsDirectory root.next root.commits d → HoldTables d.tables cs d.stages → AreDrawn root.next root.commits (drawn_all d.tables cs d.stages)
drawn_rule root d cs is hold =
    let long = all_long d.tables cs d.stages hold in
    record {
      few = omega (arith, long, is.few);
      begun = omega (arith, long, is.begun);
      each = all_rule d.tables cs d.stages is.tables is.stages hold;
      names = differ_same d.tables cs d.stages hold ∙ is.names;
      ids = subst (AreOwnIds root.next) (sym (deltas_same d.tables cs d.stages hold)) (first_own root.next (flat_map delta_ids d.stages) (flat_map part_ids d.stages) is.ids);
    }

-- ---- the parts

mains_stand : (ts : List Table) (cs : List (List Chain)) (ss : Stages) (reached file : List ℕ) → AreTables ts ss → HoldTables ts cs ss → AllByRecursion (StandsIn file) (flat_map (λ (c : List Chain). c) cs)
    → AllByRecursion (IsWithin reached) (flat_map (λ (c : List Chain). c) cs) → AllZip (StandsMain reached file) (drawn_all ts cs ss) (mains_of ts ss)
mains_stand [] [] [] reached file are hold stand within = tt
mains_stand [] [] (s ∷ ss) reached file are hold stand within = absurd hold
mains_stand [] (c ∷ cs) ss reached file are hold stand within = absurd hold
mains_stand (t ∷ ts) [] ss reached file are hold stand within = absurd hold
mains_stand (t ∷ ts) (c ∷ cs) [] reached file are hold stand within = absurd hold
mains_stand (t ∷ ts) (c ∷ cs) (s ∷ ss) reached file are hold stand within =
    let more : List Chain = flat_map (λ (d : List Chain). d) cs in
    let few = main_few t.columns s are.0 in (
      record {
        width = refl;
        parts = parts_stand t.columns [] c s.parts reached file hold.0 are.0.parts (omega (arith, few)) (all_first (StandsIn file) c more stand) (all_first (IsWithin reached) c more within);
      },
      mains_stand ts cs ss reached file are.1 hold.1 (all_last (StandsIn file) c more stand) (all_last (IsWithin reached) c more within),
    )

-- ---- the whole image

no_ids : (next : ℕ) → AreOwnIds next []
no_ids next = (λ k d lt. absurd (omega (arith, lt)), λ i j d lt within. absurd (omega (arith, within)))

-- A directory on pages, in keys.
pub record InKeys (reached : List ℕ) (root : Root) (d : Directory) (bytes file : List ℕ) : Type 0 where
  pub tables : List Drawn
  pub mains : List MainValue
  pub chains : List (List Chain)
  pub rules : IsDirectory root.next root.commits d
  pub hold : HoldTables d.tables chains d.stages
  pub drawn : drawn_all d.tables chains d.stages ≡ tables
  pub parts : mains_of d.tables d.stages ≡ mains
  pub stands : StandsImage root bytes tables mains reached file

pub no_rules : (next commits : ℕ) → IsDirectory next commits no_directory
no_rules next commits = record { few = omega arith; begun = omega arith; tables = refl; names = refl; stages = tt; ids = no_ids next }

pub in_keys : (reached : List ℕ) (root : Root) (d : Directory) (file : List ℕ) (has : HasDirectory reached root d file) → InKeys reached root d has.directory.bytes file
in_keys reached root d file has = by has.describes
  where
    by : Describes root has.directory.bytes has.parts d → InKeys reached root d has.directory.bytes file
    by (inl none) = subst (λ (e : Directory). InKeys reached root e has.directory.bytes file) (sym none.2)
        (record {
          tables = [];
          mains = [];
          chains = [];
          rules = no_rules root.next root.commits;
          hold = tt;
          drawn = refl;
          parts = refl;
          stands = record { drawn = inl (none.0, refl); parts = tt; ids = no_ids root.next };
        })
    by (inr spells) =
        let tables : List Drawn = drawn_all d.tables spells.chains d.stages in
        let mains : List MainValue = mains_of d.tables d.stages in
        let own : ids_of tables ++ live_in_mains tables mains ≡ image_ids d.stages = λ i. deltas_same d.tables spells.chains d.stages spells.hold i ++ live_same d.tables spells.chains d.stages spells.hold i in
        record {
          tables = tables;
          mains = mains;
          chains = spells.chains;
          rules = spells.rules;
          hold = spells.hold;
          drawn = refl;
          parts = refl;
          stands = record {
            drawn = inr (spells.spelled, drawn_rule root d spells.chains spells.rules spells.hold);
            parts = mains_stand d.tables spells.chains d.stages reached file spells.rules.stages spells.hold
                (subst (AllByRecursion (StandsIn file)) (sym spells.flat) has.each) (subst (AllByRecursion (IsWithin reached)) (sym spells.flat) has.each_reaches);
            ids = subst (AreOwnIds root.next) (sym own) spells.rules.ids;
          };
        }
