-- A row with another number than is sought.
use Rattle.std.proofs.Common.{◌≡◌, ◌∙◌, ◌<◌, List, [], false, length, get_or, ap, sym}
use Rattle.std.proofs.lemmas.List.{get_or-map}
use Rattle.ut_key.specs.declared.comparison.Cmp.TheVariants.{Eq}
use Rattle.ut_key.specs.Keys.{meets}
use Rattle.ut_value.specs.declared.value.Value.{Value}
use Rattle.ut_value.specs.declared.value.Row.{Row}
use Rattle.ut_value.specs.KeyBytes.{int_key, key_of}
use Rattle.ut_l2.specs.KeyRows.{keyed}
use Rattle.ut_key.specs.declared.comparison.ColumnPred.{ColumnPred}
use Rattle.ut_scan.specs.declared.sought.Sought.{Sought}
use Rattle.ut_scan.specs.Finds.{passes}
use Rattle.ut_scan.specs.Seeks.{IsSought}

-- a row is out whose value is another
pub other-out : (preds : List ColumnPred) (row : Row) (s : Sought) (v : Value) → IsSought preds s → s.column < length row.values → v ≡ get_or row.values s.column v
    → meets Eq (int_key s.number) (key_of v) ≡ false → passes preds (keyed row) ≡ false
other-out preds row s v sought lt at other =
    sought.other (keyed row) (ap (meets Eq (int_key s.number)) (get_or-map key_of row.values s.column v [] lt ∙ ap key_of (sym at)) ∙ other)
