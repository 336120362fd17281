-- How often each code of a column of main occurs among rows.
use Rattle.std.specs.Prelude.{◌≡◌, ℕ, ◌+◌, ◌<◌, ◌≤◌, ◌^◌, nat_eq, List, [], length, map, filter, get_or, slice_get, Some}
use Rattle.std.specs.List.{count_by}
use Rattle.ut_stamps.specs.declared.place.Place.{Place}
use Rattle.ut_stamps.specs.declared.place.Place.TheVariants.{L1, L2, Closed, Main}
use Rattle.ut_stamps.specs.declared.visibility.Stamp.{Stamp}
use Rattle.ut_l2.specs.KeyRows.{key_at, no_row}
use Rattle.ut_main.specs.Parts.{MainValue, PartValue}
use Rattle.ut_scan.specs.declared.asked.Asked.{Asked}
use Rattle.ut_scan.specs.declared.place.Found.{Found}
use Rattle.ut_stamps.specs.declared.visibility.Snapshot.{Snapshot}
use Rattle.ut_scan.specs.declared.stages.Stages.{Stages}
use Rattle.ut_scan.specs.Coded.{code_at, codes_in, keys_in}
use Rattle.ut_scan.specs.Probes.{found_in_main, is_seen}

-- how often a code occurs
abbrev pub how_often : List ℕ → ℕ → ℕ
how_often codes code = count_by (nat_eq code) codes

-- the key in a column of the row at a place of main
abbrev pub key_in : MainValue → ℕ → Place → List ℕ
key_in main column (L1 i) = []
key_in main column (L2 i) = []
key_in main column (Closed i) = []
key_in main column (Main p i) = key_at column (get_or (get_or main.parts p []) i no_row)

-- for each code of a column of main, how many of these rows have it
pub record Tallies (main : MainValue) (column : ℕ) (found : List Found) (counts : List ℕ) : Type 0 where
  -- the codes of the rows
  pub codes : List ℕ
  pub keys : map (slice_get (keys_in main column)) codes ≡ map (λ (f : Found). Some (key_in main column f.place)) found
  pub each : (code : ℕ) → get_or counts code 0 ≡ how_often codes code

-- the same of those rows of main that are asked for
abbrev pub TalliesAsked : Asked → Stages → ℕ → List ℕ → Type 0
TalliesAsked a stages column counts = Tallies stages.main.now column (found_in_main a.snapshot a.preds.now stages.main.now.parts stages.stamps.now.parts) counts

-- ---- one part more

-- the codes of a part's rows at those places that a snapshot sees
abbrev pub seen_codes : Snapshot → PartValue → ℕ → List Stamp → List ℕ → List ℕ
seen_codes v part column stamps places = map (λ i. code_at part i column) (filter (is_seen v stamps) places)

-- counts, to which codes came
pub record AreMore (codes old new : List ℕ) : Type 0 where
  pub size : length new ≡ length old
  pub each : (code : ℕ) → get_or new code 0 ≡ get_or old code 0 + how_often codes code

-- there is a count for each code of a part's column, and so many more may be counted
pub record HasRoom (part : PartValue) (column : ℕ) (counts : List ℕ) : Type 0 where
  pub codes : (codes_in part column).reach ≤ length counts
  pub few : (code : ℕ) → get_or counts code 0 + length part.rows < 2 ^ 32
