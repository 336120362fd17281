-- Keys stand in the order of the values, and tell values apart.
use Rattle.std.proofs.Common.{◌≡◌, ◌^◌, ◌<◌, IsTrue, sym, ◌∙◌, ap, arith}
use Rattle.std.specs.Prelude.{ℤ, pos, negsuc, ◌<ℤ◌}
use Rattle.std.specs.Int.{w64, from_be_bytes}
use Rattle.std.specs.Cmp.{ranks, int_cmp_is}
use Rattle.std.specs.Ordering.{nat_cmp, int_cmp, MatchOrdering}
use Rattle.std.specs.declared.cmp.Ordering.{Ordering}
use Rattle.std.specs.declared.cmp.Ordering.TheVariants.{Less, Equal, Greater}
use Rattle.std.proofs.lemmas.Nat.{from_be_bytes-to_be_bytes_8}
use Rattle.std.proofs.Common.{ltb-true, lt→ltb, true≢false}
use Rattle.ut_key.specs.Keys.{key_cmp}
use Rattle.ut_key.proofs.WordLemmas.{words_cmp}
use Rattle.ut_value.specs.declared.value.Kind.TheVariants as kinds
use Rattle.ut_value.specs.declared.value.Value.TheVariants as values
use Rattle.ut_value.specs.KeyBytes.{sign_flipped, int_key, is_int}
use Rattle.ut_value.specs.KeyOrder.{KeysInOrder, OneValueEach}

flipped_below : (x : ℤ) → IsTrue (is_int x) → sign_flipped x < 2 ^ 64
flipped_below (pos n) h = omega (arith, ltb-true n (2 ^ 63) h)
flipped_below (negsuc n) h = omega arith

flipped_cmp : (x y : ℤ) → IsTrue (is_int x) → IsTrue (is_int y) → nat_cmp (sign_flipped x) (sign_flipped y) ≡ int_cmp x y
flipped_cmp x y hx hy = int_cmp_is x y _ (by x y (nat_cmp (sign_flipped x) (sign_flipped y)) hx hy (ranks (sign_flipped x) (sign_flipped y)))
  where
    by : (x y : ℤ) (o : Ordering) → IsTrue (is_int x) → IsTrue (is_int y) → MatchOrdering o (sign_flipped x < sign_flipped y) (sign_flipped x ≡ sign_flipped y) (sign_flipped y < sign_flipped x)
        → MatchOrdering o (x <ℤ y) (x ≡ y) (y <ℤ x)
    by (pos m) (pos n) Less hx hy h = omega (arith, lt→ltb, ltb-true m (2 ^ 63) hx, ltb-true n (2 ^ 63) hy, h)
    by (pos m) (pos n) Equal hx hy h = ap pos (let is : m ≡ n = omega (arith, ltb-true m (2 ^ 63) hx, ltb-true n (2 ^ 63) hy, h) in is)
    by (pos m) (pos n) Greater hx hy h = omega (arith, lt→ltb, ltb-true m (2 ^ 63) hx, ltb-true n (2 ^ 63) hy, h)
    by (pos m) (negsuc n) Less hx hy h = omega (arith, lt→ltb, ltb-true m (2 ^ 63) hx, ltb-true n (2 ^ 63) hy, h)
    by (pos m) (negsuc n) Equal hx hy h = absurd (omega (arith, ltb-true m (2 ^ 63) hx, ltb-true n (2 ^ 63) hy, h))
    by (pos m) (negsuc n) Greater hx hy h = omega (arith, lt→ltb, ltb-true m (2 ^ 63) hx, ltb-true n (2 ^ 63) hy, h)
    by (negsuc m) (pos n) Less hx hy h = omega (arith, lt→ltb, ltb-true m (2 ^ 63) hx, ltb-true n (2 ^ 63) hy, h)
    by (negsuc m) (pos n) Equal hx hy h = absurd (omega (arith, ltb-true m (2 ^ 63) hx, ltb-true n (2 ^ 63) hy, h))
    by (negsuc m) (pos n) Greater hx hy h = omega (arith, lt→ltb, ltb-true m (2 ^ 63) hx, ltb-true n (2 ^ 63) hy, h)
    by (negsuc m) (negsuc n) Less hx hy h = omega (arith, lt→ltb, ltb-true m (2 ^ 63) hx, ltb-true n (2 ^ 63) hy, h)
    by (negsuc m) (negsuc n) Equal hx hy h = ap negsuc (let is : m ≡ n = omega (arith, ltb-true m (2 ^ 63) hx, ltb-true n (2 ^ 63) hy, h) in is)
    by (negsuc m) (negsuc n) Greater hx hy h = omega (arith, lt→ltb, ltb-true m (2 ^ 63) hx, ltb-true n (2 ^ 63) hy, h)

pub keys_in_order : KeysInOrder
keys_in_order kind a b (values.Int x) (values.Int y) h g =
    (λ i. key_cmp (h.2 i) (g.2 i)) ∙ words_cmp (sign_flipped x) (sign_flipped y) (flipped_below x h.1) (flipped_below y g.1) ∙ flipped_cmp x y h.1 g.1
keys_in_order kinds.Int a b (values.Int x) (values.Text t) h g = absurd (true≢false (sym g.0))
keys_in_order kinds.Text a b (values.Int x) (values.Text t) h g = absurd (true≢false (sym h.0))
keys_in_order kinds.Int a b (values.Text s) (values.Int y) h g = absurd (true≢false (sym h.0))
keys_in_order kinds.Text a b (values.Text s) (values.Int y) h g = absurd (true≢false (sym g.0))
keys_in_order kind a b (values.Text s) (values.Text t) h g = λ i. key_cmp (h.2 i) (g.2 i)

one_flipped : (x y : ℤ) → IsTrue (is_int x) → IsTrue (is_int y) → sign_flipped x ≡ sign_flipped y → x ≡ y
one_flipped (pos m) (pos n) hx hy is = ap pos (let e : m ≡ n = omega (arith, is) in e)
one_flipped (pos m) (negsuc n) hx hy is = absurd (omega (arith, is))
one_flipped (negsuc m) (pos n) hx hy is = absurd (omega (arith, is))
one_flipped (negsuc m) (negsuc n) hx hy is = ap negsuc (let e : m ≡ n = omega (arith, ltb-true m (2 ^ 63) hx, ltb-true n (2 ^ 63) hy, is) in e)

-- a number is told by its key
pub one_number : (x y : ℤ) → IsTrue (is_int x) → IsTrue (is_int y) → int_key x ≡ int_key y → x ≡ y
one_number x y hx hy is = one_flipped x y hx hy
    (sym (from_be_bytes-to_be_bytes_8 (sign_flipped x) (flipped_below x hx)) ∙ ap (from_be_bytes w64) is ∙ from_be_bytes-to_be_bytes_8 (sign_flipped y) (flipped_below y hy))

pub one_value_each : OneValueEach
one_value_each kind key (values.Int x) (values.Int y) h g = ap values.Int (one_number x y h.1 g.1 (sym h.2 ∙ g.2))
one_value_each kinds.Int key (values.Int x) (values.Text t) h g = absurd (true≢false (sym g.0))
one_value_each kinds.Text key (values.Int x) (values.Text t) h g = absurd (true≢false (sym h.0))
one_value_each kinds.Int key (values.Text s) (values.Int y) h g = absurd (true≢false (sym h.0))
one_value_each kinds.Text key (values.Text s) (values.Int y) h g = absurd (true≢false (sym g.0))
one_value_each kind key (values.Text s) (values.Text t) h g = ap values.Text (sym h.2 ∙ g.2)
