-- Comparisons of main's columns as ranges of codes, and the rows of a part that they find.
use Rattle.std.specs.Prelude.{◌≡◌, ℕ, ◌<◌, Bool, ◌&&◌, nat_le, nat_lt, List, [], length, map, filter, get_or, All}
use Rattle.std.specs.List.{list_all}
use Rattle.ut_stamps.specs.declared.place.Place.TheVariants.{Main}
use Rattle.ut_stamps.specs.declared.visibility.Stamp.{Stamp}
use Rattle.ut_key.specs.Keys.{meets}
use Rattle.ut_bits.specs.Places.{is_in, places_where}
use Rattle.ut_l2.specs.KeyRows.{KeyRow, cells_at}
use Rattle.ut_codes.specs.Reached.{Reached}
use Rattle.ut_prefix.specs.Chain.{code_meets, end_to_end}
use Rattle.ut_main.specs.Columns.{vector_of}
use Rattle.ut_main.specs.Parts.{MainValue, PartValue, dicts_behind}
use Rattle.ut_scan.specs.declared.coded.CodedPred.{CodedPred}
use Rattle.ut_key.specs.declared.comparison.ColumnPred.{ColumnPred}
use Rattle.ut_scan.specs.declared.place.Found.{Found}
use Rattle.ut_stamps.specs.declared.visibility.Snapshot.{Snapshot}
use Rattle.ut_scan.specs.Finds.{all_places, found_at}
use Rattle.ut_scan.specs.Probes.{is_seen}

-- the keys that the codes of a column of main stand for
abbrev pub keys_in : MainValue → ℕ → List (List ℕ)
keys_in main column = end_to_end (get_or (dicts_behind main) column [])

-- whether a code stands in a range without its end
abbrev pub is_between : ℕ × ℕ → ℕ → Bool
is_between range code = nat_le range.0 code && nat_lt code range.1

-- ranges of exactly the codes whose key meets a comparison
abbrev pub AreRanges : List (List ℕ) → ColumnPred → List (ℕ × ℕ) → Type 0
AreRanges keys pred ranges = (code : ℕ) → is_in ranges code ≡ code_meets pred.op pred.key keys code

-- a comparison and its ranges
pub record IsCoded (keys : List (List ℕ)) (pred : ColumnPred) (coded : CodedPred) : Type 0 where
  pub column : coded.column ≡ pred.column
  pub exact : AreRanges keys pred coded.ranges.items

-- whether each column's code stands in the ranges of its comparisons
abbrev pub are_held : List CodedPred → (ℕ → ℕ) → Bool
are_held coded code = list_all (λ c. is_in c.ranges.items (code c.column)) coded

-- whether the keys of codes meet comparisons
abbrev pub keys_meet : MainValue → List ColumnPred → (ℕ → ℕ) → Bool
keys_meet main preds code = list_all (λ p. meets p.op p.key (get_or (keys_in main p.column) (code p.column) [])) preds

-- each column of main has such a code
abbrev pub AreCodes : MainValue → (ℕ → ℕ) → Type 0
AreCodes main code = (column : ℕ) → column < main.width → code column < length (keys_in main column)

-- codes stand in the ranges just where their keys meet the comparisons
pub record AreCoded (main : MainValue) (preds : List ColumnPred) (coded : List CodedPred) : Type 0 where
  pub columns : All (λ c. c.column < main.width) coded
  pub exact : (code : ℕ → ℕ) → AreCodes main code → are_held coded code ≡ keys_meet main preds code

-- ---- a part

-- the codes of a column of a part
abbrev pub codes_in : PartValue → ℕ → Reached
codes_in part column = vector_of (get_or part.before column []) (cells_at column part.rows)

-- the code in a column of the row at a place
abbrev pub code_at : PartValue → ℕ → ℕ → ℕ
code_at part i column = get_or (codes_in part column).codes i 0

-- whether the codes of the row at a place stand in the ranges of each comparison
abbrev pub is_held : List CodedPred → PartValue → ℕ → Bool
is_held coded part i = are_held coded (code_at part i)

-- the places whose codes stand in the ranges of each comparison
abbrev pub held_places : List CodedPred → PartValue → List ℕ
held_places coded part = filter (is_held coded part) (all_places part.rows)

-- the same as a mask: for each place whether its codes stand there
abbrev pub held_mask : List CodedPred → PartValue → List Bool
held_mask coded part = map (is_held coded part) (all_places part.rows)

-- the places that stand in a mask
abbrev pub standing : List Bool → List ℕ
standing mask = places_where (λ b. b) mask

-- the rows of a part at those places that a snapshot sees
abbrev pub seen_at : Snapshot → ℕ → List KeyRow → List Stamp → List ℕ → List Found
seen_at v number rows stamps places = map (found_at (Main number) rows) (filter (is_seen v stamps) places)
