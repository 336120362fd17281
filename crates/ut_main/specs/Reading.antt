-- What the parts of a part's bytes are read as.
use Rattle.std.specs.Prelude.{◌≡◌, ℕ, ◌+◌, ◌-◌, ◌<◌, ◌≤◌, true, nat_eq, List, [], length, get_or}
use Rattle.std.specs.List.{list_any}
use Rattle.ut_bits.specs.Bits.{AllBelow}
use Rattle.ut_own.specs.Own.{own_dict}
use Rattle.ut_prefix.specs.Chain.{end_to_end, LacksAll}
use Rattle.ut_prefix.specs.Spelling.{IsDictionary}
use Rattle.ut_value.specs.declared.value.Column.{Column}
use Rattle.ut_value.specs.declared.value.Kind.{Kind}
use Rattle.ut_main.specs.Columns.{Chain, ColumnValue, no_column}
use Rattle.ut_main.specs.Parts.{MainValue, dicts_behind}
use Rattle.ut_main.specs.Spelling.{AreIds, AreKeys, kind_at}

-- ids of a part behind so many rows
pub record MayBeIds (earlier : ℕ) (list : List ℕ) : Type 0 where
  pub few : earlier + length list ≤ 2147483647
  pub ids : AreIds list

-- keys that may be the own dictionary of so many rows behind a chain
pub record MayBeOwn (rows : ℕ) (kind : Kind) (chain : Chain) (keys : List (List ℕ)) : Type 0 where
  pub dictionary : IsDictionary keys
  pub few : length keys ≤ rows
  pub kinds : AreKeys kind keys
  pub apart : LacksAll chain keys

-- each of so many codes from one on stands among these
abbrev pub AreUsed : ℕ → ℕ → List ℕ → Type 0
AreUsed start count codes = (i : ℕ) → i < count → list_any (nat_eq (start + i)) codes ≡ true

-- codes of so many rows through the earlier codes, up to start, and all of the own ones behind
pub record MayBeCodes (rows start reach : ℕ) (codes : List ℕ) : Type 0 where
  pub count : length codes ≡ rows
  pub below : AllBelow reach codes
  pub used : AreUsed start (reach - start) codes

-- a column of so many rows behind a chain, whose new keys are of a kind
pub record MayBeColumn (rows : ℕ) (kind : Kind) (chain : Chain) (c : ColumnValue) : Type 0 where
  pub before : c.before ≡ chain
  pub count : length c.cells ≡ rows
  pub kinds : AreKeys kind (own_dict (end_to_end c.before) c.cells)

-- columns of a part of so many rows behind main
pub record MayBeColumns (columns : List Column) (main : MainValue) (rows : ℕ) (cs : List ColumnValue) : Type 0 where
  pub count : length cs ≡ main.width
  pub each : (j : ℕ) → j < length columns → MayBeColumn rows (kind_at j columns) (get_or (dicts_behind main) j []) (get_or cs j no_column)
