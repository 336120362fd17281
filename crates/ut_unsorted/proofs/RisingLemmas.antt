-- Ascending words: the place of one, and one more.
use Rattle.std.proofs.Common.{◌≡◌, ℕ, zero, suc, ◌+◌, ◌-◌, ◌<◌, ◌≤◌, ◌≢◌, Bool, true, false, cond, not, ltb, List, [], ◌∷◌, ◌++◌, length, get_or, if◌then◌else◌, Some, None, position, refl, sym, ap, ◌∙◌, arith, lt-ltb, le-ltb}
use Rattle.std.specs.List.{list_any, position_or_len, IsDistinct}
use Rattle.std.specs.Cmp.{ranks, unsigned_ties}
use Rattle.std.specs.Cmp.Lexicographic.{nat_list_eq_equiv, lists_ties}
use Rattle.std.specs.Ordering.{nat_cmp, is_lt, is_eq, MatchOrdering}
use Rattle.std.specs.declared.cmp.Ordering.{Ordering}
use Rattle.std.specs.declared.cmp.Ordering.TheVariants.{Less, Equal, Greater}
use Rattle.std.proofs.lemmas.Cmp.{nat_list_cmp_total}
use Rattle.std.proofs.lemmas.List.{length-append, get_or_append_left}
use Rattle.std.proofs.lemmas.Map.Keys.{IsDistinct-from_apart}
use Rattle.std.proofs.Math.Seq.{get_or-append_seam}
use Rattle.ut_key.specs.Keys.{key_cmp, IsAscending}
use Rattle.ut_unsorted.specs.FirstSeen.{key_eq, note}
use Rattle.ut_unsorted.specs.Rising.{AreWords}
use Rattle.ut_unsorted.proofs.FirstSeenLemmas.{key_refl, same_key, found-within}
use Rattle.ut_unsorted.proofs.OrderLemmas.{below}

differ : (a b : List ℕ) → key_cmp a b ≡ Less → key_eq a b ≡ false
differ a b h = lists_ties nat_cmp unsigned_ties a b ∙ ap is_eq h

any_default : {A : Type 0} (xs : List A) (i : ℕ) (c d : A) → i < length xs → get_or xs i c ≡ get_or xs i d
any_default [] i c d h = absurd (omega (arith, h))
any_default (x ∷ xs) zero c d h = refl
any_default (x ∷ xs) (suc i) c d h = any_default xs i c d (omega (arith, h))

pub rising-distinct : (ws : List (List ℕ)) → IsAscending ws → IsDistinct key_eq ws
rising-distinct ws up = IsDistinct-from_apart key_eq ws (λ i j d lt within.
    let small : i < length ws = omega (arith, lt, within) in
    ap (λ a. key_eq a (get_or ws j d)) (any_default ws i d [] small) ∙ ap (key_eq (get_or ws i [])) (any_default ws j d [] within)
    ∙ differ (get_or ws i []) (get_or ws j []) (up i j lt within))

place-at : {A : Type 0} (t : A → Bool) (d : A) (xs : List A) (n : ℕ) → ((i : ℕ) → i < n → t (get_or xs i d) ≡ false) → n ≤ length xs → (n < length xs → t (get_or xs n d) ≡ true) → position_or_len t xs ≡ n
place-at t d [] n before le at = omega (arith, le)
place-at t d (x ∷ xs) zero before le at = ap (λ b. cond (not b) (1 + position_or_len t xs) 0) (at (omega arith))
place-at t d (x ∷ xs) (suc n) before le at =
    let r : position_or_len t xs ≡ n = place-at t d xs n (λ i lt. before (suc i) (omega (arith, lt))) (omega (arith, le)) (λ lt. at (omega (arith, lt))) in
    let s : 1 + position_or_len t xs ≡ suc n = omega (arith, r) in
    ap (λ b. cond (not b) (1 + position_or_len t xs) 0) (before 0 (omega arith)) ∙ s

module _ (ws : List (List ℕ)) (k : List ℕ) (up : IsAscending ws) (low : ℕ) (within : low ≤ length ws) (under : 0 < low → key_cmp (get_or ws (low - 1) []) k ≡ Less) where
  less-before : (i : ℕ) → i < low → key_cmp (get_or ws i []) k ≡ Less
  less-before i lt = by (nat_cmp i (low - 1)) (ranks i (low - 1))
    where
      by : (o : Ordering) → MatchOrdering o (i < low - 1) (i ≡ low - 1) (low - 1 < i) → key_cmp (get_or ws i []) k ≡ Less
      by Less h = nat_list_cmp_total.trans (get_or ws i []) (get_or ws (low - 1) []) k (up i (low - 1) h (omega (arith, lt, within))) (under (omega (arith, lt)))
      by Equal h = ap (λ j. key_cmp (get_or ws j []) k) h ∙ under (omega (arith, lt))
      by Greater h = absurd (omega (arith, h, lt))

  differ-before : (i : ℕ) → i < low → key_eq k (get_or ws i []) ≡ false
  differ-before i lt = nat_list_eq_equiv.symm k (get_or ws i []) ∙ differ (get_or ws i []) k (less-before i lt)

  pub rising-found : low < length ws → get_or ws low [] ≡ k → Some low ≡ position (key_eq k) ws
  rising-found lt is =
      let p : position_or_len (key_eq k) ws ≡ low = place-at (key_eq k) [] ws low differ-before within (λ _. ap (key_eq k) is ∙ key_refl k) in
      sym (ap (λ n. cond (ltb n (length ws)) (Some n) None) p ∙ ap (λ b. cond b (Some low) None) (lt-ltb low (length ws) lt))

  module _ (over : low < length ws → is_lt (key_cmp (get_or ws low []) k) ≡ false) (other : low < length ws → key_eq k (get_or ws low []) ≡ false) where
    all-differ : (i : ℕ) → i < length ws → key_eq k (get_or ws i []) ≡ false
    all-differ i lt = by (nat_cmp i low) (ranks i low)
      where
        by : (o : Ordering) → MatchOrdering o (i < low) (i ≡ low) (low < i) → key_eq k (get_or ws i []) ≡ false
        by Less h = differ-before i h
        by Equal h = ap (λ j. key_eq k (get_or ws j [])) h ∙ other (omega (arith, h, lt))
        by Greater h =
            let small : low < length ws = omega (arith, h, lt) in
            differ k (get_or ws i []) (nat_list_cmp_total.trans k (get_or ws low []) (get_or ws i []) (below k (get_or ws low []) (other small) (over small)) (up low i h lt))

    pub rising-absent_length : position_or_len (key_eq k) ws ≡ length ws
    rising-absent_length = place-at (key_eq k) [] ws (length ws) all-differ (omega arith) (λ lt. absurd (omega (arith, lt)))

    pub rising-absent : None ≡ position (key_eq k) ws
    rising-absent = sym (ap (λ n. cond (ltb n (length ws)) (Some n) None) rising-absent_length ∙ ap (λ b. cond b (Some (length ws)) None) (le-ltb (length ws) (length ws) (omega arith)))

-- a word above all
module _ (ws : List (List ℕ)) (k : List ℕ) (up : IsAscending ws) (above : 0 < length ws → key_cmp (get_or ws (length ws - 1) []) k ≡ Less) where
  pub rising-place : position_or_len (key_eq k) ws ≡ length ws
  rising-place = rising-absent_length ws k up (length ws) (omega arith) above (λ lt. absurd (omega (arith, lt))) (λ lt. absurd (omega (arith, lt)))

  pub rising-note : ws ++ k ∷ [] ≡ note ws k
  rising-note = by (list_any (key_eq k) ws) refl
    where
      by : (b : Bool) → list_any (key_eq k) ws ≡ b → ws ++ k ∷ [] ≡ (if b then ws else ws ++ k ∷ [])
      by true e = absurd (omega (arith, found-within (key_eq k) ws e, rising-place))
      by false e = refl

  pub rising-push : IsAscending (ws ++ k ∷ [])
  rising-push i j lt within = by (nat_cmp j (length ws)) (ranks j (length ws))
    where
      n : length (ws ++ k ∷ []) ≡ length ws + 1
      n = length-append ws (k ∷ [])

      by : (o : Ordering) → MatchOrdering o (j < length ws) (j ≡ length ws) (length ws < j) → key_cmp (get_or (ws ++ k ∷ []) i []) (get_or (ws ++ k ∷ []) j []) ≡ Less
      by Less h =
          ap (λ a. key_cmp a (get_or (ws ++ k ∷ []) j [])) (get_or_append_left ws (k ∷ []) [] i (omega (arith, lt, h)))
          ∙ ap (key_cmp (get_or ws i [])) (get_or_append_left ws (k ∷ []) [] j h) ∙ up i j lt h
      by Equal h =
          ap (λ a. key_cmp a (get_or (ws ++ k ∷ []) j [])) (get_or_append_left ws (k ∷ []) [] i (omega (arith, lt, h)))
          ∙ ap (key_cmp (get_or ws i [])) (ap (λ m. get_or (ws ++ k ∷ []) m []) h ∙ get_or-append_seam ws k [] [])
          ∙ less-before ws k up (length ws) (omega arith) above i (omega (arith, lt, h))
      by Greater h = absurd (omega (arith, h, within, n))

pub words-push : (ws : List (List ℕ)) (k : List ℕ) → AreWords ws → length k ≡ 8 → AreWords (ws ++ k ∷ [])
words-push ws k eight new i within = by (nat_cmp i (length ws)) (ranks i (length ws))
  where
    by : (o : Ordering) → MatchOrdering o (i < length ws) (i ≡ length ws) (length ws < i) → length (get_or (ws ++ k ∷ []) i []) ≡ 8
    by Less h = ap length (get_or_append_left ws (k ∷ []) [] i h) ∙ eight i h
    by Equal h = ap length (ap (λ m. get_or (ws ++ k ∷ []) m []) h ∙ get_or-append_seam ws k [] []) ∙ new
    by Greater h = absurd (omega (arith, h, within, length-append ws (k ∷ [])))

-- a key of another length isn't held
pub words-other : (ws : List (List ℕ)) (k : List ℕ) → AreWords ws → length k ≢ 8 → None ≡ position (key_eq k) ws
words-other ws k eight ne =
    sym (ap (λ n. cond (ltb n (length ws)) (Some n) None) p ∙ ap (λ b. cond b (Some (length ws)) None) (le-ltb (length ws) (length ws) (omega arith)))
  where
    by : (i : ℕ) → i < length ws → (b : Bool) → key_eq k (get_or ws i []) ≡ b → key_eq k (get_or ws i []) ≡ false
    by i lt true e = absurd (ne (ap length (same_key k (get_or ws i []) e) ∙ eight i lt))
    by i lt false e = e

    p : position_or_len (key_eq k) ws ≡ length ws
    p = place-at (key_eq k) [] ws (length ws) (λ i lt. by i lt (key_eq k (get_or ws i [])) refl) (omega arith) (λ lt. absurd (omega (arith, lt)))
