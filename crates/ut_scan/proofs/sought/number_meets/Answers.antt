use Rattle.std.proofs.Common.{◌≡◌, ◌∙◌, ap, sym, refl, IsTrue, to_z, of_z, w64}
use Rattle.std.specs.Prelude.{ℤ, pos, negsuc}
use Rattle.std.specs.Ordering.{int_cmp}
use Rattle.std.specs.Int.RustNames.{FitsSigned}
use Rattle.std.proofs.lemmas.Bool.{lt-ltb}
use Rattle.std.proofs.lemmas.Int.{to_z-of_z}
use Rattle.ut_key.specs.Keys.{allows, key_cmp}
use Rattle.ut_value.specs.declared.value.Kind.TheVariants as kinds
use Rattle.ut_value.specs.declared.value.Value.TheVariants as values
use Rattle.ut_value.specs.KeyBytes.{int_key, is_int}
use Rattle.ut_value.proofs.KeyLemmas.{keys_in_order}
use Rattle.ut_scan.proofs.sought.number_meets.Goals as goal

fits_int : (x : ℤ) → FitsSigned w64 x → IsTrue (is_int x)
fits_int (pos n) h = lt-ltb n 9223372036854775808 h.sfits
fits_int (negsuc n) h = lt-ltb n 9223372036854775808 h.sfits

-- the keys of numbers stand as the numbers do
numbers_cmp : (x y : ℤ) → FitsSigned w64 x → FitsSigned w64 y → int_cmp (to_z w64 (of_z w64 x)) (to_z w64 (of_z w64 y)) ≡ key_cmp (int_key x) (int_key y)
numbers_cmp x y hx hy =
    (λ i. int_cmp (to_z-of_z w64 x hx i) (to_z-of_z w64 y hy i))
    ∙ sym (keys_in_order kinds.Int (int_key x) (int_key y) (values.Int x) (values.Int y) (refl, fits_int x hx, refl) (refl, fits_int y hy, refl))

pub returns : goal.returns
returns c = c.allows.ensures ∙ ap (allows c.args.op) (c.cmp.ensures ∙ numbers_cmp c.args.number c.args.with c.ranges.number c.ranges.with)
