-- The order of values is total, and tells them all apart.
use Rattle.std.proofs.Common.{◌≡◌, refl, ap}
use Rattle.std.specs.declared.cmp.Ordering.TheVariants.{Less, Equal}
use Rattle.std.specs.Ordering.{ordering_reverse}
use Rattle.std.specs.Cmp.{IsTotalOrder, int_cmp_total}
use Rattle.std.specs.Cmp.Lexicographic.{nat_list_cmp_total}
use Rattle.std.specs.FinMap.{int_cmp-IsAntisymmetric, nat_cmp-IsAntisymmetric, slice_cmp-IsAntisymmetric}
use Rattle.ut_value.specs.declared.value.Value.{Value}
use Rattle.ut_value.specs.declared.value.Value.TheVariants.{Int, Text}
use Rattle.ut_value.specs.KeyOrder.{value_cmp}

turned : (v w : Value) → value_cmp v w ≡ ordering_reverse (value_cmp w v)
turned (Int x) (Int y) = int_cmp_total.antisymm x y
turned (Int x) (Text t) = refl
turned (Text s) (Int y) = refl
turned (Text s) (Text t) = nat_list_cmp_total.antisymm s t

between : (v w x : Value) → value_cmp v w ≡ Less → value_cmp w x ≡ Less → value_cmp v x ≡ Less
between (Int x) (Int y) (Int z) h g = int_cmp_total.trans x y z h g
between (Int x) (Int y) (Text u) h g = refl
between (Int x) (Text t) (Int z) h g = cc
between (Int x) (Text t) (Text u) h g = refl
between (Text s) (Int y) z h g = cc
between (Text s) (Text t) (Int z) h g = cc
between (Text s) (Text t) (Text u) h g = nat_list_cmp_total.trans s t u h g

alike : (v w x : Value) → value_cmp v w ≡ Equal → value_cmp v x ≡ value_cmp w x
alike (Int x) (Int y) (Int z) h = int_cmp_total.congr x y z h
alike (Int x) (Int y) (Text u) h = refl
alike (Int x) (Text t) z h = cc
alike (Text s) (Int y) z h = cc
alike (Text s) (Text t) (Int z) h = refl
alike (Text s) (Text t) (Text u) h = nat_list_cmp_total.congr s t u h

pub value_cmp_total : IsTotalOrder value_cmp
value_cmp_total = record { antisymm = turned; trans = between; congr = alike }

-- two values that the order doesn't tell apart are one
pub equal_values : (v w : Value) → value_cmp v w ≡ Equal → v ≡ w
equal_values (Int x) (Int y) h = ap Int (int_cmp-IsAntisymmetric x y h)
equal_values (Int x) (Text t) h = cc
equal_values (Text s) (Int y) h = cc
equal_values (Text s) (Text t) h = ap Text (slice_cmp-IsAntisymmetric nat_cmp-IsAntisymmetric s t h)
