-- What an image in memory shows, table by table.
use Rattle.std.proofs.Common.{◌≡◌, inl, inr, ℕ, zero, suc, ◌<◌, ◌≤◌, Bool, true, false, not, ◌&&◌, List, [], ◌∷◌, ◌++◌, length, map, get_or, nat_le, Option, None, Some, refl, sym, ◌∙◌, ap, subst, arith, slice_get, IsTrue}
use Rattle.std.specs.Prelude.{Contains}
use Rattle.std.specs.Option.{option_map, option_and_then}
use Rattle.std.specs.List.{AllZip, list_all}
use Rattle.std.proofs.lemmas.Bool.{and_parts, leb-true}
use Rattle.std.proofs.lemmas.List.{length-map}
use Rattle.ut_value.specs.declared.value.Column.{Column}
use Rattle.ut_value.specs.Text.{is_name}
use Rattle.ut_value.specs.Spelling.{is_count, is_column, names_differ, are_columns}
use Rattle.ut_l2.specs.KeyRows.{keyed}
use Rattle.ut_plain.specs.declared.table.Table.{Table}
use Rattle.ut_plain.specs.declared.stage.Placed.{Placed}
use Rattle.ut_plain.specs.declared.stage.TableStages.{TableStages}
use Rattle.ut_plain.specs.declared.stage.PendingMerge.{PendingMerge}
use Rattle.ut_plain.specs.Stages.{Stages, no_stages, stages_at}
use Rattle.ut_plain.specs.State.{State, is_table}
use Rattle.ut_plain.specs.Capture.{Directory, StandsAt}
use Rattle.ut_plain.proofs.CaptureLaws.{first_in, later_in, in_tail}
use Rattle.ut_stamps.specs.declared.place.Place.{Place}
use Rattle.ut_stamps.specs.declared.place.Place.TheVariants.{L1, L2, Closed, Main}
use Rattle.ut_exact.specs.Places.{StagedRow, is_dead}
use Rattle.ut_staged.specs.Staged as stands
use Rattle.ut_staged.specs.Staged.{Staged, placed_of, stages_of}
use Rattle.ut_staged.specs.Tables.{place_at}
use Rattle.ut_main.specs.Parts.{MainValue}
use Rattle.ut_image.specs.declared.drawn.Drawn.{Drawn}
use Rattle.ut_pages.specs.declared.root.Root.{Root}
use Rattle.ut_durable.specs.Rules.{IsImageTable}
use Rattle.ut_durable.specs.Bytes.{Chain, HoldParts, HoldTables, live_marks, part_refs, drawn_all, key_rows, row_in}
use Rattle.ut_reading.specs.Reading.{mains_of}
use Rattle.ut_restart.specs.Began.{BeginsWith}
use Rattle.ut_restart.specs.Shown.{stamp_of, staged_place, staged_of, staged_all, marks_of, IsShown, AreShown}

-- ---- that a directory is shown

marks-same : (width : ℕ) (earlier : List (List Placed)) (chains : List Chain) (parts : List (List Placed)) → HoldParts width earlier chains parts → marks_of (part_refs chains parts) ≡ map live_marks parts
marks-same width earlier [] [] hold = refl
marks-same width earlier [] (part ∷ parts) hold = absurd hold
marks-same width earlier (chain ∷ chains) [] hold = absurd hold
marks-same width earlier (chain ∷ chains) (part ∷ parts) hold = ap (λ (l : List (List Bool)). live_marks part ∷ l) (marks-same width (earlier ++ part ∷ []) chains parts hold.1)

narrow-table : (t : Table) → IsTrue (is_table t) → length t.columns ≤ 64
narrow-table t is =
    let columns = (and_parts (is_name t.name) (are_columns t.columns) is).1 in
    let first = (and_parts (is_count 64 (length t.columns) && list_all is_column t.columns) (names_differ t.columns) columns).0 in
    let count = (and_parts (is_count 64 (length t.columns)) (list_all is_column t.columns) first).0 in
    leb-true (length t.columns) 64 (and_parts (nat_le 1 (length t.columns)) (nat_le (length t.columns) 64) count).1

abbrev AreTables : List Table → Stages → Type 0
AreTables ts ss = AllZip (λ (t : Table) (s : TableStages). IsImageTable t.columns s) ts ss

all-shown : (ts : List Table) (cs : List (List Chain)) (ss : Stages) → HoldTables ts cs ss → IsTrue (list_all is_table ts) → AreTables ts ss → AreShown (drawn_all ts cs ss) (mains_of ts ss) ss
all-shown [] [] [] hold heads are = tt
all-shown [] [] (s ∷ ss) hold heads are = absurd hold
all-shown [] (c ∷ cs) ss hold heads are = absurd hold
all-shown (t ∷ ts) [] ss hold heads are = absurd hold
all-shown (t ∷ ts) (c ∷ cs) [] hold heads are = absurd hold
all-shown (t ∷ ts) (c ∷ cs) (s ∷ ss) hold heads are =
    let both = and_parts (is_table t) (list_all is_table ts) heads in (
      record { narrow = narrow-table t both.0; rules = are.0; l2 = refl; l1 = refl; marks = marks-same (length t.columns) [] c s.parts hold.0; keys = refl },
      all-shown ts cs ss hold.1 both.1 are.1,
    )

heads-same : (ts : List Table) (cs : List (List Chain)) (ss : Stages) → HoldTables ts cs ss → map (λ (t : Drawn). t.table) (drawn_all ts cs ss) ≡ ts
heads-same [] [] [] hold = refl
heads-same [] [] (s ∷ ss) hold = absurd hold
heads-same [] (c ∷ cs) ss hold = absurd hold
heads-same (t ∷ ts) [] ss hold = absurd hold
heads-same (t ∷ ts) (c ∷ cs) [] hold = absurd hold
heads-same (t ∷ ts) (c ∷ cs) (s ∷ ss) hold = ap (λ (l : List Table). t ∷ l) (heads-same ts cs ss hold.1)

module _ (root : Root) (tables : List Drawn) (mains : List MainValue) (d : Directory) (s : State) (b : BeginsWith root tables mains d s) where
  pub shown-is : AreShown tables mains d.stages
  shown-is =
      subst (λ (ts : List Drawn). AreShown ts mains d.stages) (sym b.shown.drawn)
      (subst (λ (ms : List MainValue). AreShown (drawn_all d.tables b.shown.chains d.stages) ms d.stages) (sym b.shown.parts)
      (all-shown d.tables b.shown.chains d.stages b.shown.hold b.directory.tables b.directory.stages))

  pub heads-are : map (λ (t : Drawn). t.table) tables ≡ d.tables
  heads-are = ap (map (λ (t : Drawn). t.table)) b.shown.drawn ∙ heads-same d.tables b.shown.chains d.stages b.shown.hold

-- ---- lengths, and marks

pub shown-long : (ts : List Drawn) (ms : List MainValue) (ss : Stages) → AreShown ts ms ss → length ms ≡ length ts
shown-long [] [] [] all = refl
shown-long [] [] (s ∷ ss) all = absurd all
shown-long [] (m ∷ ms) ss all = absurd all
shown-long (t ∷ ts) [] ss all = absurd all
shown-long (t ∷ ts) (m ∷ ms) [] all = absurd all
shown-long (t ∷ ts) (m ∷ ms) (s ∷ ss) all = ap suc (shown-long ts ms ss all.1)

marks-long : (parts : List (List Placed)) → map length (map live_marks parts) ≡ map length (map key_rows parts)
marks-long [] = refl
marks-long (part ∷ parts) = λ i. (length-map part (λ (p : Placed). not p.dead) ∙ sym (length-map part (λ (p : Placed). keyed (row_in p)))) i ∷ marks-long parts i

pub marks-table : (t : Drawn) (main : MainValue) (s : TableStages) → IsShown t main s → map length (marks_of t.parts) ≡ map length main.parts
marks-table t main s is = ap (map length) is.marks ∙ marks-long s.parts ∙ sym (ap (λ (m : MainValue). map length m.parts) is.keys)

pub marks-at : (ts : List Drawn) (ms : List MainValue) (ss : Stages) (n : ℕ) (t : Drawn) (main : MainValue) → AreShown ts ms ss → n < length ts → t ≡ get_or ts n t → main ≡ get_or ms n main → map length (marks_of t.parts) ≡ map length main.parts
marks-at [] ms ss n t main all lt e f = absurd (omega arith)
marks-at (u ∷ ts) [] ss n t main all lt e f = absurd all
marks-at (u ∷ ts) (m ∷ ms) [] n t main all lt e f = absurd all
marks-at (u ∷ ts) (m ∷ ms) (s ∷ ss) zero t main all lt e f = (λ i. map length (marks_of (e i).parts)) ∙ marks-table u m s all.0 ∙ sym (ap (λ (x : MainValue). map length x.parts) f)
marks-at (u ∷ ts) (m ∷ ms) (s ∷ ss) (suc n) t main all lt e f = marks-at ts ms ss n t main all.1 (omega arith) e f

-- ---- as the plain store has them

placed-same : (p : Placed) → placed_of (staged_place p) ≡ p
placed-same p = by p.dead refl
  where
    by : (b : Bool) → p.dead ≡ b → placed_of (staged_place p) ≡ p
    by true e = ap (λ (d : Bool). record { id = p.id; values = p.values; dead = is_dead (stamp_of d) }) e ∙ ap (λ (d : Bool). record { id = p.id; values = p.values; dead = d }) (sym e)
    by false e = ap (λ (d : Bool). record { id = p.id; values = p.values; dead = is_dead (stamp_of d) }) e ∙ ap (λ (d : Bool). record { id = p.id; values = p.values; dead = d }) (sym e)

places-same : (ps : List Placed) → map placed_of (map staged_place ps) ≡ ps
places-same [] = refl
places-same (p ∷ ps) = λ i. placed-same p i ∷ places-same ps i

parts-same : (parts : List (List Placed)) → map (map placed_of) (map (map staged_place) parts) ≡ parts
parts-same [] = refl
parts-same (part ∷ parts) = λ i. places-same part i ∷ parts-same parts i

stages-table : (columns : List Column) (s : TableStages) → IsImageTable columns s → stages_of (staged_of columns s) ≡ s
stages-table columns s is = λ i. record { l1 = places-same s.l1 i; l2 = places-same s.l2 i; closed = sym is.rest.closed i; parts = parts-same s.parts i; keep = sym is.rest.keep i }

pub stages-shown : (ts : List Drawn) (ms : List MainValue) (ss : Stages) → AreShown ts ms ss → ss ≡ map stages_of (staged_all ts ss)
stages-shown [] [] [] all = refl
stages-shown [] [] (s ∷ ss) all = absurd all
stages-shown [] (m ∷ ms) ss all = absurd all
stages-shown (t ∷ ts) [] ss all = absurd all
stages-shown (t ∷ ts) (m ∷ ms) [] all = absurd all
stages-shown (t ∷ ts) (m ∷ ms) (s ∷ ss) all = λ i. sym (stages-table t.table.columns s all.0.rules) i ∷ stages-shown ts ms ss all.1 i

pub columns-shown : (ts : List Drawn) (ms : List MainValue) (ss : Stages) → AreShown ts ms ss → map (λ (s : Staged). s.columns) (staged_all ts ss) ≡ map (λ (t : Table). t.columns) (map (λ (t : Drawn). t.table) ts)
columns-shown [] [] [] all = refl
columns-shown [] [] (s ∷ ss) all = absurd all
columns-shown [] (m ∷ ms) ss all = absurd all
columns-shown (t ∷ ts) [] ss all = absurd all
columns-shown (t ∷ ts) (m ∷ ms) [] all = absurd all
columns-shown (t ∷ ts) (m ∷ ms) (s ∷ ss) all = ap (λ (l : List (List Column)). t.table.columns ∷ l) (columns-shown ts ms ss all.1)

pub merges-shown : (ts : List Drawn) (ms : List MainValue) (ss : Stages) → AreShown ts ms ss → map (λ (s : Staged). s.merge) (staged_all ts ss) ≡ map (λ (t : Table). None) (map (λ (t : Drawn). t.table) ts)
merges-shown [] [] [] all = refl
merges-shown [] [] (s ∷ ss) all = absurd all
merges-shown [] (m ∷ ms) ss all = absurd all
merges-shown (t ∷ ts) [] ss all = absurd all
merges-shown (t ∷ ts) (m ∷ ms) [] all = absurd all
merges-shown (t ∷ ts) (m ∷ ms) (s ∷ ss) all = ap (λ (l : List (Option PendingMerge)). None ∷ l) (merges-shown ts ms ss all.1)

pub narrow-shown : (ts : List Drawn) (ms : List MainValue) (ss : Stages) (i : ℕ) (h : Table) → AreShown ts ms ss → slice_get (map (λ (t : Drawn). t.table) ts) i ≡ Some h → length h.columns ≤ 64
narrow-shown [] ms ss i h all is = cc
narrow-shown (t ∷ ts) [] ss i h all is = absurd all
narrow-shown (t ∷ ts) (m ∷ ms) [] i h all is = absurd all
narrow-shown (t ∷ ts) (m ∷ ms) (s ∷ ss) zero h all is = let same : t.table ≡ h = cc in subst (λ (x : Table). length x.columns ≤ 64) same all.0.narrow
narrow-shown (t ∷ ts) (m ∷ ms) (s ∷ ss) (suc i) h all is = narrow-shown ts ms ss i h all.1 is

-- ---- places

-- what stands in a place of a table, of which nothing is closed
abbrev pub placed_in : TableStages → Place → Option Placed
placed_in s (L1 i) = slice_get s.l1 i
placed_in s (L2 i) = slice_get s.l2 i
placed_in s (Closed i) = None
placed_in s (Main p i) = option_and_then (λ (part : List Placed). slice_get part i) (slice_get s.parts p)

get-map : {X Y : Type 0} (f : X → Y) (xs : List X) (i : ℕ) → slice_get (map f xs) i ≡ option_map f (slice_get xs i)
get-map f [] i = refl
get-map f (x ∷ xs) zero = refl
get-map f (x ∷ xs) (suc i) = get-map f xs i

get-parts : (parts : List (List Placed)) (p i : ℕ) → option_and_then (λ (list : List StagedRow). slice_get list i) (slice_get (map (map staged_place) parts) p) ≡ option_map staged_place (option_and_then (λ (part : List Placed). slice_get part i) (slice_get parts p))
get-parts [] p i = refl
get-parts (part ∷ parts) zero i = get-map staged_place part i
get-parts (part ∷ parts) (suc p) i = get-parts parts p i

table-at : (columns : List Column) (s : TableStages) (p : Place) → stands.row_at (staged_of columns s) p ≡ option_map staged_place (placed_in s p)
table-at columns s (L1 i) = get-map staged_place s.l1 i
table-at columns s (L2 i) = get-map staged_place s.l2 i
table-at columns s (Closed i) = refl
table-at columns s (Main p i) = get-parts s.parts p i

pub shown-at : (ts : List Drawn) (ms : List MainValue) (ss : Stages) (n : ℕ) (p : Place) → AreShown ts ms ss → place_at (staged_all ts ss) n p ≡ option_map staged_place (placed_in (stages_at ss n) p)
shown-at [] [] [] n p all = nowhere p
  where
    nowhere : (p : Place) → None ≡ option_map staged_place (placed_in no_stages p)
    nowhere (L1 i) = refl
    nowhere (L2 i) = refl
    nowhere (Closed i) = refl
    nowhere (Main p i) = refl
shown-at [] [] (s ∷ ss) n p all = absurd all
shown-at [] (m ∷ ms) ss n p all = absurd all
shown-at (t ∷ ts) [] ss n p all = absurd all
shown-at (t ∷ ts) (m ∷ ms) [] n p all = absurd all
shown-at (t ∷ ts) (m ∷ ms) (s ∷ ss) zero p all = table-at t.table.columns s p
shown-at (t ∷ ts) (m ∷ ms) (s ∷ ss) (suc n) p all = shown-at ts ms ss n p all.1

-- ---- places that stand

pub get-in : {X : Type 0} (xs : List X) (i : ℕ) (x : X) → slice_get xs i ≡ Some x → Contains xs x
get-in [] i x is = cc
get-in (y ∷ xs) zero x is = let same : y ≡ x = cc in first_in y x xs same
get-in (y ∷ xs) (suc i) x is = later_in y x xs (get-in xs i x is)

in-get : {X : Type 0} (xs : List X) (x : X) → Contains xs x → (i : ℕ) × (slice_get xs i ≡ Some x)
in-get [] x has = absurd (omega (arith, has.1))
in-get (y ∷ xs) x has = elim (in_tail y x xs has) [
  | inl same ↦ (0, ap Some same)
  | inr rest ↦ let at = in-get xs x rest in (suc at.0, at.1)
]

part-get : (parts : List (List Placed)) (p i : ℕ) (x : Placed) → option_and_then (λ (part : List Placed). slice_get part i) (slice_get parts p) ≡ Some x → (part : List Placed) × Contains parts part × Contains part x
part-get [] p i x is = cc
part-get (part ∷ parts) zero i x is = (part, first_in part part parts refl, get-in part i x is)
part-get (part ∷ parts) (suc p) i x is = let at = part-get parts p i x is in (at.0, later_in part at.0 parts at.1, at.2)

get-part : (parts : List (List Placed)) (part : List Placed) (x : Placed) → Contains parts part → Contains part x → (p : ℕ) × (i : ℕ) × (option_and_then (λ (part : List Placed). slice_get part i) (slice_get parts p) ≡ Some x)
get-part parts part x has there =
    let at = in-get parts part has in
    let in_part = in-get part x there in
    (at.0, in_part.0, ap (option_and_then (λ (l : List Placed). slice_get l in_part.0)) at.1 ∙ in_part.1)

pub place-stands : (ss : Stages) (n : ℕ) (p : Place) (x : Placed) → placed_in (stages_at ss n) p ≡ Some x → StandsAt ss n x
place-stands ss n (L1 i) x is = inl (get-in (stages_at ss n).l1 i x is)
place-stands ss n (L2 i) x is = inr (inl (get-in (stages_at ss n).l2 i x is))
place-stands ss n (Closed i) x is = cc
place-stands ss n (Main p i) x is = inr (inr (part-get (stages_at ss n).parts p i x is))

pub stands-place : (ss : Stages) (n : ℕ) (x : Placed) → StandsAt ss n x → (p : Place) × (placed_in (stages_at ss n) p ≡ Some x)
stands-place ss n x (inl has) = let at = in-get (stages_at ss n).l1 x has in (L1 at.0, at.1)
stands-place ss n x (inr (inl has)) = let at = in-get (stages_at ss n).l2 x has in (L2 at.0, at.1)
stands-place ss n x (inr (inr (part, has, there))) = let at = get-part (stages_at ss n).parts part x has there in (Main at.0 at.1, at.2)
