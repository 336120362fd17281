-- Draws one after the other, and the maps of many draws.
use Rattle.std.proofs.Common.{◌≡◌, ℕ, zero, suc, ◌+◌, ◌*◌, ◌%◌, ◌^◌, ◌<◌, refl, sym, ◌∙◌, ap, add-zero, add-suc, arith}
use Rattle.std.proofs.Math.Nat.{add-mod-mod, mod-add-mod}
use Rattle.std.proofs.lemmas.Nat.{mul-mod_first, mul-mod_second, mod_below}
use Rattle.ut_gen.specs.Draws.{stepped, advanced, IsJump}

-- no draw
pub advanced_none : (x : ℕ) → advanced x 0 ≡ x
unfolding advanced
advanced_none x = refl

-- so many draws, and then so many more
pub advanced-add : (x a b : ℕ) → advanced (advanced x a) b ≡ advanced x (a + b)
unfolding advanced
advanced-add x a zero = ap (advanced x) (sym (add-zero a))
advanced-add x a (suc b) = rw add-suc (ap stepped (advanced-add x a b))

stepped_below : (x : ℕ) → stepped x < 2 ^ 64
unfolding stepped
stepped_below x = mod_below (x * 6364136223846793005 + 1442695040888963407) (2 ^ 64) (omega arith)

pub advanced_below : (x n : ℕ) → x < 2 ^ 64 → advanced x n < 2 ^ 64
unfolding advanced
advanced_below x zero h = h
advanced_below x (suc n) h = stepped_below (advanced x n)

-- one map and then another, where products and sums are cut to m
affine-then : (x f t g u m : ℕ) → (x * ((f * g) % m) + (t * g + u) % m) % m ≡ ((x * f + t) % m * g + u) % m
affine-then x f t g u m =
    let inner : (x * ((f * g) % m)) % m ≡ (x * (f * g)) % m = mul-mod_second x (f * g) m
    in let left : (x * ((f * g) % m) + (t * g + u) % m) % m ≡ (x * (f * g) + (t * g + u)) % m =
    add-mod-mod (x * ((f * g) % m)) (t * g + u) m
    ∙ sym (mod-add-mod (x * ((f * g) % m)) m (t * g + u))
    ∙ ap (λ y. (y + (t * g + u)) % m) inner
    ∙ mod-add-mod (x * (f * g)) m (t * g + u)
    in let right : ((x * f + t) % m * g + u) % m ≡ ((x * f + t) * g + u) % m =
    sym (mod-add-mod ((x * f + t) % m * g) m u)
    ∙ ap (λ y. (y + u) % m) (mul-mod_first (x * f + t) g m)
    ∙ mod-add-mod ((x * f + t) * g) m u
    in let same : x * (f * g) + (t * g + u) ≡ (x * f + t) * g + u = omega arith
    in left ∙ ap (λ y. y % m) same ∙ sym right

pub jump-none : IsJump 0 1 0
unfolding advanced
jump-none x h = omega arith

pub jump-one : IsJump 1 6364136223846793005 1442695040888963407
unfolding advanced stepped
jump-one x h = refl

pub jump-then : (n a b f t g u p q : ℕ) → IsJump a f t → IsJump b g u → p ≡ (f * g) % 2 ^ 64 → q ≡ (t * g + u) % 2 ^ 64 → a + b ≡ n → IsJump n p q
jump-then n a b f t g u p q first next ep eq sum x h =
    ap (λ y. (x * y + q) % 2 ^ 64) ep
    ∙ ap (λ y. (x * ((f * g) % 2 ^ 64) + y) % 2 ^ 64) eq
    ∙ affine-then x f t g u (2 ^ 64)
    ∙ ap (λ y. (y * g + u) % 2 ^ 64) (first x h)
    ∙ next (advanced x a) (advanced_below x a h)
    ∙ advanced-add x a b
    ∙ ap (advanced x) sum
