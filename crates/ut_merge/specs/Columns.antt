-- A column of the new part: the keys that its codes count through, before and behind the merge.
use Rattle.std.specs.Prelude.{◌≡◌, ℕ, ◌+◌, ◌-◌, ◌<◌, ◌≤◌, true, nat_eq, List, [], ◌++◌, length, map, drop, get_or, Option, None, Some}
use Rattle.std.specs.List.{list_any}
use Rattle.std.specs.Global.{Vec}
use Rattle.ut_bits.specs.Bits.{AllBelow}
use Rattle.ut_own.specs.Own.{own_dict, cells_of}
use Rattle.ut_recode.specs.Recode.{with_staying}
use Rattle.ut_unsorted.specs.FirstSeen.{first_seen}
use Rattle.ut_prefix.specs.Chain.{end_to_end}
use Rattle.ut_l2.specs.KeyRows.{KeyRow, cells_at}
use Rattle.ut_main.specs.Columns.{Chain}
use Rattle.ut_main.specs.Parts.{MainValue, dicts_behind, first_parts}
use Rattle.ut_merge.specs.Jobs.{JobValue, stay_of}

-- main before the merge
abbrev pub main_before : JobValue → MainValue
main_before job = record { width = job.width; parts = job.parts }

-- the dictionaries of a column in the first parts, so many
abbrev pub chain_in : JobValue → ℕ → ℕ → Chain
chain_in job column n = get_or (dicts_behind (first_parts n (main_before job))) column []

-- the dictionaries of a column that stay
abbrev pub staying_chain : JobValue → ℕ → Chain
staying_chain job column = chain_in job column (stay_of job)

-- the keys of the dictionaries that stay, laid end to end
abbrev pub staying_keys : JobValue → ℕ → List (List ℕ)
staying_keys job column = end_to_end (staying_chain job column)

-- the keys that a column's codes count through before the merge: those of main's dictionaries, laid end to end, and behind them those of the closed stage in first-seen order
abbrev pub laid_keys : JobValue → ℕ → List (List ℕ)
laid_keys job column = end_to_end (get_or (dicts_behind (main_before job)) column []) ++ first_seen (cells_at column job.closed)

-- codes of cells among keys
pub record AreCoded (keys cells : List (List ℕ)) (codes : List ℕ) : Type 0 where
  pub below : AllBelow (length keys) codes
  pub cells_are : cells_of keys codes ≡ cells

-- lists of codes
abbrev pub codes_in : List (Vec ℕ) → List (List ℕ)
codes_in lists = map (λ list. list.items) lists

-- the codes of a column of the parts that are rebuilt, up to a number of parts
pub record ArePartCodes (job : JobValue) (column n : ℕ) (parts : List (List ℕ)) : Type 0 where
  pub count : length parts ≡ n - stay_of job
  pub coded : (p : ℕ) → stay_of job ≤ p → p < n → AreCoded (laid_keys job column) (cells_at column (get_or job.parts p [])) (get_or parts (p - stay_of job) [])

-- the codes of a column of the lists that are rebuilt: of the parts behind the first, so many, and of the closed stage, which count from one on
pub record AreSources (job : JobValue) (column stay : ℕ) (parts : List (List ℕ)) (closed : List ℕ) (first : ℕ) : Type 0 where
  pub stays : stay ≡ stay_of job
  pub parts_coded : ArePartCodes job column (length job.parts) parts
  pub closed_coded : AreCoded (laid_keys job column) (cells_at column job.closed) (map (λ code. first + code) closed)
  pub few : length (laid_keys job column) ≤ 2147483647

-- a column of the new part: its own dictionary behind those that stay, and the codes of rows
pub record IsColumn (job : JobValue) (column : ℕ) (rows : List KeyRow) (dict : List (List ℕ)) (codes : List ℕ) : Type 0 where
  pub own : dict ≡ own_dict (staying_keys job column) (cells_at column rows)
  pub coded : AreCoded (staying_keys job column ++ dict) (cells_at column rows) codes

-- the keys of the dictionaries of a column that are rebuilt, in the parts up to one
abbrev pub rebuilt_keys : JobValue → ℕ → ℕ → List (List ℕ)
rebuilt_keys job column n = drop (length (staying_keys job column)) (end_to_end (chain_in job column n))

-- the keys of the closed stage in a column
abbrev pub closed_keys : JobValue → ℕ → List (List ℕ)
closed_keys job column = first_seen (cells_at column job.closed)

-- an entry is the code of the same key among others
abbrev pub LeadsOn : List (List ℕ) → List (List ℕ) → List (Option ℕ) → ℕ → Type 0
LeadsOn old new entries c = (d : ℕ) × (get_or entries c None ≡ Some d) × (d < length new) × (get_or new d [] ≡ get_or old c [])

-- the own dictionary of a column of these codes, and where each of them leads behind it
pub record IsRecoding (job : JobValue) (column : ℕ) (codes : List ℕ) (keys : List (List ℕ)) (entries : List (Option ℕ)) : Type 0 where
  pub own : keys ≡ own_dict (staying_keys job column) (cells_of (laid_keys job column) codes)
  pub few : length (staying_keys job column) + length keys ≤ 2147483647
  pub leads : (c : ℕ) → list_any (nat_eq c) codes ≡ true → LeadsOn (laid_keys job column) (staying_keys job column ++ keys) (with_staying (length (staying_keys job column)) entries) c
