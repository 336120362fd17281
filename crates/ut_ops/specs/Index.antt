-- The rows of a table by their values in a column.
use Rattle.std.specs.Prelude.{ℕ, ◌≡◌, List, [], ◌∷◌, unwrap_or, ◌++◌}
use Rattle.std.specs.List.{filter}
use Rattle.std.specs.Prelude.{map}
use Rattle.std.specs.Ordering.{is_eq}
use Rattle.std.specs.BTreeMap.{BTreeMap, get}
use Rattle.std.proofs.Common.{Bor}
use Rattle.ut_value.specs.declared.value.Value.{Value}
use Rattle.ut_value.specs.KeyOrder.{value_cmp}
use Rattle.ut_scan.specs.declared.place.Found.{Found}
use Rattle.ut_staged.specs.Staged.{Staged}
use Rattle.ut_ops.specs.Fit.{Fit, cell, values_at}

-- the rows that a map lists under a value
abbrev pub listed : BTreeMap Value (List Found) → Value → List Found
listed index v = unwrap_or (get value_cmp index v) []

-- the lists that are lent
abbrev pub lists_now : List (Bor (List Found)) → List (List Found)
lists_now lists = map (λ l. l.now) lists

-- the rows with a value, in their order
abbrev pub with_cell : Staged → ℕ → Value → List Found → List Found
with_cell s column v found = filter (λ (f : Found). is_eq (value_cmp v (cell s column f))) found

-- under each value the map lists the rows that have it, in their order
pub record IsIndex (s : Staged) (column : ℕ) (found : List Found) (index : BTreeMap Value (List Found)) : Type 0 where
  pub each : (v : Value) → listed index v ≡ with_cell s column v found

-- all that the map lists is there and fits
pub record AreFit (s : Staged) (index : BTreeMap Value (List Found)) : Type 0 where
  pub each : (v : Value) → Fit s (listed index v)

-- a row's values, and behind them those of each of these
abbrev pub beside : List Value → Staged → List Found → List (List Value)
beside row s found = map (λ (f : Found). row ++ values_at s f) found

-- pair by pair a left row's values, and behind them those of the right one
abbrev pub beside_each : Staged → List Found → Staged → List Found → List (List Value)
beside_each l [] r gs = []
beside_each l (f ∷ fs) r [] = []
beside_each l (f ∷ fs) r (g ∷ gs) = (values_at l f ++ values_at r g) ∷ beside_each l fs r gs
