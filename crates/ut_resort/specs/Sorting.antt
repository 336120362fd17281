-- How rows are sorted: by lists of codes, one behind the other, the first of them packed into one number.
use Rattle.std.specs.Prelude.{◌≡◌, ℕ, ◌<◌, List, [], ◌∷◌, ◌++◌, length, map, get_or}
use Rattle.std.specs.Ordering.{nat_cmp, ordering_then}
use Rattle.std.specs.declared.cmp.Ordering.{Ordering}
use Rattle.std.specs.declared.cmp.Ordering.TheVariants.{Equal}
use Rattle.std.proofs.Common.{Bor}
use Rattle.ut_resort.specs.declared.columns.Counted.{Counted}
use Rattle.ut_resort.specs.declared.rows.Keyed.{Keyed}

-- the lists that are lent
abbrev pub lists_now : List (Bor (List ℕ)) → List (List ℕ)
lists_now lists = map (λ l. l.now) lists

-- the codes of these columns, and the ids behind them
abbrev pub lists_by : List ℕ → List (List ℕ) → List ℕ → List (List ℕ)
lists_by by columns ids = map (λ column. get_or columns column []) by ++ ids ∷ []

-- the first list that tells two rows apart decides
abbrev pub codes_cmp : List (List ℕ) → ℕ → ℕ → Ordering
codes_cmp [] a b = Equal
codes_cmp (codes ∷ lists) a b = ordering_then (nat_cmp (get_or codes a 0) (get_or codes b 0)) (codes_cmp lists a b)

-- the keys order the rows as these lists do
abbrev pub ArePacked : List (List ℕ) → List ℕ → Type 0
ArePacked lists keys = (a b : ℕ) → a < length keys → b < length keys → nat_cmp (get_or keys a 0) (get_or keys b 0) ≡ codes_cmp lists a b

-- a row has its key
pub record IsKeyed (keys : List ℕ) (keyed : Keyed) : Type 0 where
  pub key : keyed.key ≡ get_or keys keyed.row 0
  pub within : keyed.row < length keys

-- by key, and where two keys are the same by the other lists
abbrev pub keyed_cmp : List (List ℕ) → Keyed → Keyed → Ordering
keyed_cmp rest a b = ordering_then (nat_cmp a.key b.key) (codes_cmp rest a.row b.row)

-- by the number of different keys, on a tie by place
abbrev pub counted_cmp : Counted → Counted → Ordering
counted_cmp a b = ordering_then (nat_cmp a.keys b.keys) (nat_cmp a.column b.column)
