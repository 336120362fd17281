-- Sums of keys' numbers.
use Rattle.std.proofs.Common.{◌≡◌, ◌≢◌, ℕ, zero, suc, ◌+◌, ◌*◌, ◌≤◌, ◌<◌, ℤ, pos, negsuc, neg_ℤ, ◌+ℤ◌, ◌≤ℤ◌, List, [], ◌∷◌, ◌++◌, length, length-append, take, drop, get_or, All, refl, sym, ◌∙◌, ap, subst, arith}
use Rattle.std.specs.Prelude.{◌-ℤ◌, ◌*ℤ◌}
use Rattle.std.proofs.Math.IntN.{zero-*ℤ, *ℤ-zero, suc_ℤ-*ℤ, pred_ℤ-*ℤ, pred_ℤ}
use Rattle.std.proofs.Math.Nat.{mul-add, mul_assoc}
use Rattle.std.proofs.lemmas.Nat.{mul-le}
use Rattle.std.proofs.lemmas.List.{take_more, take_all}
use Rattle.std.specs.Int.RustNames.{unsigned_abs}
use Rattle.std.proofs.lemmas.Int.{ints, unsigned_abs-mul}
use Rattle.std.proofs.lemmas.List.Elements.{All-head, All-tail}
use Rattle.ut_prefix.specs.Totals.{key_number, key_total, summed, weighed, weighed_above, IsWithin, IsTotal}

-- ---- products

none_before : (z : ℤ) → pos 0 +ℤ z ≡ z
none_before z = omega (arith, ints)

none_behind : (z : ℤ) → z +ℤ pos 0 ≡ z
none_behind z = omega (arith, ints)

behind : (a b c : ℤ) → (a +ℤ b) +ℤ c ≡ a +ℤ (b +ℤ c)
behind a b c = omega (arith, ints)

times_sum : (u : ℕ) (a b : ℤ) → pos u *ℤ (a +ℤ b) ≡ (pos u *ℤ a) +ℤ (pos u *ℤ b)
times_sum zero a b = zero-*ℤ (a +ℤ b) ∙ (λ i. sym (zero-*ℤ a) i +ℤ sym (zero-*ℤ b) i)
times_sum (suc u) a b =
    suc_ℤ-*ℤ (pos u) (a +ℤ b) ∙ ap (λ z. z +ℤ (a +ℤ b)) (times_sum u a b) ∙ crossed (pos u *ℤ a) (pos u *ℤ b) a b
    ∙ (λ i. sym (suc_ℤ-*ℤ (pos u) a) i +ℤ sym (suc_ℤ-*ℤ (pos u) b) i)
  where
    crossed : (p q a b : ℤ) → (p +ℤ q) +ℤ (a +ℤ b) ≡ (p +ℤ a) +ℤ (q +ℤ b)
    crossed p q a b = omega (arith, ints)

pred_is : (z : ℤ) → pred_ℤ z ≡ z -ℤ pos 1
pred_is (pos zero) = refl
pred_is (pos (suc n)) = omega (arith, ints)
pred_is (negsuc n) = omega (arith, ints)

times_less : (w u : ℕ) (n : ℤ) → (pos w -ℤ pos u) *ℤ n ≡ (pos w *ℤ n) -ℤ (pos u *ℤ n)
times_less w zero n =
    let e : pos w -ℤ pos 0 ≡ pos w = omega (arith, ints) in
    ap (λ z. z *ℤ n) e ∙ less_none (pos w *ℤ n) ∙ ap (λ z. (pos w *ℤ n) -ℤ z) (sym (zero-*ℤ n))
  where
    less_none : (z : ℤ) → z ≡ z -ℤ pos 0
    less_none z = omega (arith, ints)
times_less w (suc u) n =
    let e : pos w -ℤ pos (suc u) ≡ pred_ℤ (pos w -ℤ pos u) = (let less : pos w -ℤ pos (suc u) ≡ (pos w -ℤ pos u) -ℤ pos 1 = omega (arith, ints) in less ∙ sym (pred_is (pos w -ℤ pos u))) in
    ap (λ z. z *ℤ n) e ∙ pred_ℤ-*ℤ (pos w -ℤ pos u) n ∙ ap (λ z. z -ℤ n) (times_less w u n) ∙ one_more (pos w *ℤ n) (pos u *ℤ n) n
    ∙ ap (λ z. (pos w *ℤ n) -ℤ z) (sym (suc_ℤ-*ℤ (pos u) n))
  where
    one_more : (p q n : ℤ) → (p -ℤ q) -ℤ n ≡ p -ℤ (q +ℤ n)
    one_more p q n = omega (arith, ints)

-- ---- sizes

pub IsWithin-sum : (size m n k : ℕ) (a b c : ℤ) → IsWithin size m a → IsWithin size n b → c ≡ a +ℤ b → k ≡ m + n → IsWithin size k c
IsWithin-sum size m n k a b c h g e s =
    let both : size * k ≡ size * m + size * n = ap (λ (j : ℕ). size * j) s ∙ mul-add size m n in
    record {
      low = by_low (size * m) (size * n) (size * k) a b c h.low g.low e both;
      high = by_high (size * m) (size * n) (size * k) a b c h.high g.high e both;
    }
  where
    by_low : (p q r : ℕ) (a b c : ℤ) → neg_ℤ (pos p) ≤ℤ a → neg_ℤ (pos q) ≤ℤ b → c ≡ a +ℤ b → r ≡ p + q → neg_ℤ (pos r) ≤ℤ c
    by_low p q r a b c h g e s = omega (arith, ints)

    by_high : (p q r : ℕ) (a b c : ℤ) → a ≤ℤ pos p → b ≤ℤ pos q → c ≡ a +ℤ b → r ≡ p + q → c ≤ℤ pos r
    by_high p q r a b c h g e s = omega (arith, ints)

at_most : (u most size k whole b : ℕ) → u ≤ most → whole ≡ most * size → b ≤ size * k → u * b ≤ whole * k
at_most u most size k whole b le is few =
    let e : most * (size * k) ≡ whole * k = sym (mul_assoc most size k) ∙ ap (λ (n : ℕ). n * k) (sym is) in
    let h = mul-le u b most (size * k) le few in
    omega (arith, h, e)

from_abs : (s : ℕ) (z : ℤ) → unsigned_abs z ≤ s → (neg_ℤ (pos s) ≤ℤ z) × (z ≤ℤ pos s)
from_abs s (pos n) le = (omega (arith, ints, le), omega (arith, ints, le))
from_abs s (negsuc n) le = (omega (arith, ints, le), omega (arith, ints, le))

pub to_abs : (s : ℕ) (z : ℤ) → neg_ℤ (pos s) ≤ℤ z → z ≤ℤ pos s → unsigned_abs z ≤ s
to_abs s (pos n) low high = omega (arith, ints, low, high)
to_abs s (negsuc n) low high = omega (arith, ints, low, high)

-- a number times another
pub IsWithin-times : (a : ℤ) (most size k whole : ℕ) (t : ℤ) → unsigned_abs a ≤ most → whole ≡ most * size → IsWithin size k t → IsWithin whole k (a *ℤ t)
IsWithin-times a most size k whole t le is h =
    let few = at_most (unsigned_abs a) most size k whole (unsigned_abs t) le is (to_abs (size * k) t h.low h.high) in
    let within = from_abs (whole * k) (a *ℤ t) (subst (λ (n : ℕ). n ≤ whole * k) (sym (unsigned_abs-mul a t)) few) in
    record { low = within.0; high = within.1 }

-- ---- totals

key_total-append : (xs ys : List (List ℕ)) → key_total (xs ++ ys) ≡ key_total xs +ℤ key_total ys
key_total-append [] ys = sym (none_before (key_total ys))
key_total-append (x ∷ xs) ys = ap (λ z. key_number x +ℤ z) (key_total-append xs ys) ∙ sym (behind (key_number x) (key_total xs) (key_total ys))

pub IsTotal-none : IsTotal [] (pos 0)
IsTotal-none = record {
  sum = refl;
  within = record { low = omega (arith, ints); high = omega (arith, ints) };
}

pub IsTotal-more : (keys : List (List ℕ)) (key : List ℕ) (total number more : ℤ) → IsTotal keys total → number ≡ key_number key → IsWithin 9223372036854775808 1 number → more ≡ total +ℤ number → IsTotal (keys ++ key ∷ []) more
IsTotal-more keys key total number more h is size e = record {
  sum =
      e ∙ (λ i. h.sum i +ℤ is i) ∙ ap (λ z. key_total keys +ℤ z) (sym (none_behind (key_number key)))
      ∙ sym (key_total-append keys (key ∷ []));
  within = IsWithin-sum 9223372036854775808 (length keys) 1 (length (keys ++ key ∷ [])) total number more h.within size e (length-append keys (key ∷ []));
}

-- the number of one more key of a list
pub IsTotal-next : (keys : List (List ℕ)) (i : ℕ) (key : List ℕ) (total number more : ℤ) → i < length keys → key ≡ get_or keys i [] → IsTotal (take i keys) total → number ≡ key_number key → IsWithin 9223372036854775808 1 number → more ≡ total +ℤ number
    → IsTotal (take (i + 1) keys) more
IsTotal-next keys i key total number more lt at h is size e =
    subst (λ (l : List (List ℕ)). IsTotal l more) (ap (λ (k : List ℕ). take i keys ++ k ∷ []) at ∙ sym (take_more keys i [] lt)) (IsTotal-more (take i keys) key total number more h is size e)

pub IsTotal-all : (keys : List (List ℕ)) (i : ℕ) (total : ℤ) → length keys ≤ i → IsTotal (take i keys) total → IsTotal keys total
IsTotal-all keys i total le h = subst (λ (l : List (List ℕ)). IsTotal l total) (take_all i keys le) h

-- ---- sums by weights

module _ (times : ℕ → ℤ) where
  -- the keys and those behind them, each with its weights
  pub summed-parts : (ws : List ℕ) (ks ls : List (List ℕ)) → summed times ws (ks ++ ls) ≡ summed times (take (length ks) ws) ks +ℤ summed times (drop (length ks) ws) ls
  summed-parts ws [] ls = sym (none_before (summed times ws ls))
  summed-parts [] (k ∷ ks) ls = refl
  summed-parts (w ∷ ws) (k ∷ ks) ls =
      ap (λ z. (times w *ℤ key_number k) +ℤ z) (summed-parts ws ks ls)
      ∙ sym (behind (times w *ℤ key_number k) (summed times (take (length ks) ws) ks) (summed times (drop (length ks) ws) ls))

  -- with no key nothing is summed
  pub summed-none : (ws : List ℕ) → summed times ws [] ≡ pos 0
  summed-none [] = refl
  summed-none (w ∷ ws) = refl

  -- keys with no weight are as good as none
  pub summed-first : (ws : List ℕ) (ks : List (List ℕ)) → summed times ws ks ≡ summed times ws (take (length ws) ks)
  summed-first [] ks = refl
  summed-first (w ∷ ws) [] = refl
  summed-first (w ∷ ws) (k ∷ ks) = ap (λ z. (times w *ℤ key_number k) +ℤ z) (summed-first ws ks)

summed-same : (f g : ℕ → ℤ) (ws : List ℕ) (ks : List (List ℕ)) → ((w : ℕ) → f w ≡ g w) → summed f ws ks ≡ summed g ws ks
summed-same f g [] ks h = refl
summed-same f g (w ∷ ws) [] h = refl
summed-same f g (w ∷ ws) (k ∷ ks) h = λ i. (h w i *ℤ key_number k) +ℤ summed-same f g ws ks h i

-- where all weights are the usual one nothing is above it
pub weighed_above-usual : (u : ℕ) (ws : List ℕ) (ks : List (List ℕ)) → All (λ w. w ≡ u) ws → weighed_above u ws ks ≡ pos 0
weighed_above-usual u [] ks h = refl
weighed_above-usual u (w ∷ ws) [] h = refl
weighed_above-usual u (w ∷ ws) (k ∷ ks) h =
    let none : pos u -ℤ pos u ≡ pos 0 = omega (arith, ints) in
    (λ i. ((pos (All-head (λ v. v ≡ u) w ws h i) -ℤ pos u) *ℤ key_number k) +ℤ weighed_above-usual u ws ks (All-tail (λ v. v ≡ u) w ws h) i)
    ∙ none_behind ((pos u -ℤ pos u) *ℤ key_number k) ∙ ap (λ z. z *ℤ key_number k) none ∙ zero-*ℤ (key_number k)

-- each weight is the usual one and what it is above that
weighed-above : (u : ℕ) (ws : List ℕ) (ks : List (List ℕ)) → length ws ≡ length ks → (pos u *ℤ key_total ks) +ℤ weighed_above u ws ks ≡ weighed ws ks
weighed-above u [] [] e = none_behind (pos u *ℤ pos 0) ∙ *ℤ-zero (pos u)
weighed-above u [] (k ∷ ks) e = absurd (omega (arith, e))
weighed-above u (w ∷ ws) [] e = absurd (omega (arith, e))
weighed-above u (w ∷ ws) (k ∷ ks) e =
    (λ i. times_sum u (key_number k) (key_total ks) i +ℤ (times_less w u (key_number k) i +ℤ weighed_above u ws ks))
    ∙ met (pos u *ℤ key_number k) (pos u *ℤ key_total ks) (pos w *ℤ key_number k) (weighed_above u ws ks)
    ∙ ap (λ z. (pos w *ℤ key_number k) +ℤ z) (weighed-above u ws ks (omega (arith, e)))
  where
    met : (p t q a : ℤ) → (p +ℤ t) +ℤ ((q -ℤ p) +ℤ a) ≡ q +ℤ (t +ℤ a)
    met p t q a = omega (arith, ints)

-- the sum by the total of all numbers, and by what weights are above the usual one; where there are fewer weights than keys that is 0
pub weighed-usual : (u : ℕ) (ws : List ℕ) (ks : List (List ℕ)) (total above new : ℤ) → (u ≢ 0 → length ws ≡ length ks) → total ≡ key_total ks → above ≡ weighed_above u ws ks → new ≡ (pos u *ℤ total) +ℤ above → new ≡ weighed ws ks
weighed-usual zero ws ks total above new full t a e =
    e ∙ ap (λ z. z +ℤ above) (zero-*ℤ total) ∙ none_before above ∙ a ∙ summed-same (λ w. pos w -ℤ pos 0) (λ w. pos w) ws ks less_none
  where
    less_none : (w : ℕ) → pos w -ℤ pos 0 ≡ pos w
    less_none w = omega (arith, ints)
weighed-usual (suc u) ws ks total above new full t a e =
    e ∙ (λ i. (pos (suc u) *ℤ t i) +ℤ a i) ∙ weighed-above (suc u) ws ks (full (λ z. absurd (omega (arith, z))))
