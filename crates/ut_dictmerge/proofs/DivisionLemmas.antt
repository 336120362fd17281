-- The cuts of two lists into even pieces.
use Rattle.std.proofs.Common.{◌≡◌, ℕ, ◌+◌, ◌-◌, ◌*◌, ◌/◌, ◌<◌, ◌≤◌, List, length, ◌∙◌, ap, subst, arith}
use Rattle.std.proofs.lemmas.Nat.{div_below}
use Rattle.std.proofs.Math.Nat.{mul-div_cancel_left, zero-div, zero-mul, lt-mul-div-succ, mul_comm}
use Rattle.ut_key.specs.Keys.{IsAscending}
use Rattle.ut_recode.proofs.ShareLemmas.{share_up}
use Rattle.ut_dictmerge.specs.declared.cut.Cut.{Cut}
use Rattle.ut_dictmerge.specs.Cuts.{IsCutBehind, AreCuts, cut_at}
use Rattle.ut_dictmerge.proofs.CutLemmas.{in_order, is_cut, nearest, reaches}

regroup : (q m p : ℕ) → (q + m + 1) * p + p ≡ (q + 1) * p + (m + 1) * p
regroup q m p = grind arith

-- a share is at most the rows by the shares, rounded up
share_gap : (k n p : ℕ) → 0 < p → (k + 1) * n / p ≤ k * n / p + (n + p - 1) / p
share_gap k n p pos =
    let more : (k + 1) * n ≡ k * n + n = grind arith in
    let here : k * n < (k * n / p + 1) * p = above (k * n) in
    let there : n + p - 1 < ((n + p - 1) / p + 1) * p = above (n + p - 1) in
    let split : (k * n / p + (n + p - 1) / p + 1) * p + p ≡ (k * n / p + 1) * p + ((n + p - 1) / p + 1) * p = regroup (k * n / p) ((n + p - 1) / p) p in
    let below : (k + 1) * n / p < k * n / p + (n + p - 1) / p + 1 = div_below ((k + 1) * n) p (k * n / p + (n + p - 1) / p + 1) pos (omega (arith, more, here, there, split)) in
    omega (arith, below)
  where
    above : (m : ℕ) → m < (m / p + 1) * p
    above m = subst (λ (x : ℕ). m < x) (mul_comm p (m / p + 1)) (lt-mul-div-succ m pos)

-- cuts behind even shares of all keys are the cuts into pieces
module _ (a b : List (List ℕ)) (pieces n : ℕ) (cuts : List Cut) (pos : 0 < pieces) (up_a : IsAscending a) (up_b : IsAscending b) (size : length cuts ≡ n) (all : n ≡ pieces + 1)
    (each : (k : ℕ) → k < n → IsCutBehind a b (k * (length a + length b) / pieces) (cut_at cuts k).a (cut_at cuts k).b) where
  first_is : ((cut_at cuts 0).a ≡ 0) × ((cut_at cuts 0).b ≡ 0)
  first_is =
      let none : 0 * (length a + length b) / pieces ≡ 0 = ap (λ (m : ℕ). m / pieces) (zero-mul (length a + length b)) ∙ zero-div pieces in
      let start = is_cut a b 0 0 up_a up_b (omega arith) (omega arith) (λ h _. absurd (omega arith)) (λ h _. absurd (omega arith)) in
      let m = nearest a b (0 * (length a + length b) / pieces) (cut_at cuts 0).a (cut_at cuts 0).b 0 0 (each 0 (omega (arith, all))) start (omega (arith, none)) in
      (omega (arith, m), omega (arith, m))

  last_is : ((cut_at cuts pieces).a ≡ length a) × ((cut_at cuts pieces).b ≡ length b)
  last_is =
      let whole : pieces * (length a + length b) / pieces ≡ length a + length b = mul-div_cancel_left (length a + length b) pos in
      let f = each pieces (omega (arith, all)) in
      let r = (reaches a b (pieces * (length a + length b) / pieces) (cut_at cuts pieces).a (cut_at cuts pieces).b f).0 in
      let x = f.cut.first in
      let y = f.cut.second in
      (omega (arith, whole, r, x, y), omega (arith, whole, r, x, y))

  rising_are : (k : ℕ) → k < pieces → ((cut_at cuts k).a ≤ (cut_at cuts (k + 1)).a) × ((cut_at cuts k).b ≤ (cut_at cuts (k + 1)).b)
  rising_are k lt =
      let here = each k (omega (arith, all, lt)) in
      let next = each (k + 1) (omega (arith, all, lt)) in
      let up = share_up k (length a + length b) pieces pos in
      let r = (reaches a b ((k + 1) * (length a + length b) / pieces) (cut_at cuts (k + 1)).a (cut_at cuts (k + 1)).b next).0 in
      in_order a b (cut_at cuts k).a (cut_at cuts k).b (cut_at cuts (k + 1)).a (cut_at cuts (k + 1)).b here.cut next.cut
      (nearest a b (k * (length a + length b) / pieces) (cut_at cuts k).a (cut_at cuts k).b (cut_at cuts (k + 1)).a (cut_at cuts (k + 1)).b here next.cut (omega (arith, up, r)))

  even_are : (k : ℕ) → k < pieces → (cut_at cuts (k + 1)).a + (cut_at cuts (k + 1)).b ≤ (cut_at cuts k).a + (cut_at cuts k).b + (length a + length b + pieces - 1) / pieces + 1
  even_are k lt =
      let r = (reaches a b (k * (length a + length b) / pieces) (cut_at cuts k).a (cut_at cuts k).b (each k (omega (arith, all, lt)))).0 in
      let s = (reaches a b ((k + 1) * (length a + length b) / pieces) (cut_at cuts (k + 1)).a (cut_at cuts (k + 1)).b (each (k + 1) (omega (arith, all, lt)))).1 in
      let g = share_gap k (length a + length b) pieces pos in
      omega (arith, r, s, g)

  pub cuts_are : AreCuts a b pieces cuts
  cuts_are = record {
    count = size ∙ all;
    first = first_is;
    last = last_is;
    rising = rising_are;
    each = λ k le. each k (omega (arith, all, le));
    even = even_are;
  }
