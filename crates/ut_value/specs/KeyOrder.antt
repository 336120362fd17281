-- The order of values, and what their keys have of it.
use Rattle.std.specs.Prelude.{◌≡◌, List, ℕ}
use Rattle.std.specs.declared.cmp.Ordering.{Ordering}
use Rattle.std.specs.declared.cmp.Ordering.TheVariants.{Less, Greater}
use Rattle.std.specs.Cmp.Lexicographic.{slice_cmp}
use Rattle.std.specs.Ordering.{nat_cmp, int_cmp}
use Rattle.ut_key.specs.Keys.{key_cmp}
use Rattle.ut_value.specs.declared.value.Kind.{Kind}
use Rattle.ut_value.specs.declared.value.Value.{Value}
use Rattle.ut_value.specs.declared.value.Value.TheVariants as values
use Rattle.ut_value.specs.KeyBytes.{IsKeyOf}

-- the order of values: numbers by size, texts by their bytes
abbrev pub value_cmp : Value → Value → Ordering
value_cmp (values.Int x) (values.Int y) = int_cmp x y
value_cmp (values.Int x) (values.Text t) = Less
value_cmp (values.Text s) (values.Int y) = Greater
value_cmp (values.Text s) (values.Text t) = slice_cmp nat_cmp s t

-- the keys of values of one kind stand in the order of the values
abbrev pub KeysInOrder : Type 0
KeysInOrder = (kind : Kind) (a b : List ℕ) (v w : Value) → IsKeyOf kind a v → IsKeyOf kind b w → key_cmp a b ≡ value_cmp v w

-- a key is that of one value of a kind
abbrev pub OneValueEach : Type 0
OneValueEach = (kind : Kind) (key : List ℕ) (v w : Value) → IsKeyOf kind key v → IsKeyOf kind key w → v ≡ w
