-- Sums by weights, a key, a block and a dictionary at a time.
use Rattle.std.proofs.Common.{◌≡◌, ℕ, zero, suc, ◌+◌, ◌-◌, ◌*◌, ◌≤◌, ◌<◌, min, ◌^◌, nat_eq, Bool, true, false, ◌&&◌, IsTrue, All, ℤ, pos, neg_ℤ, ◌+ℤ◌, ◌≤ℤ◌, FitsSigned, to_z, of_z, List, [], ◌∷◌, ◌++◌, length, take, drop, get_or, refl, sym, ◌∙◌, ap, subst, arith, true≢false}
use Rattle.std.specs.Prelude.{◌-ℤ◌, ◌*ℤ◌}
use Rattle.std.proofs.Math.Seq.{drop-cons}
use Rattle.std.specs.Int.{w128}
use Rattle.std.proofs.lemmas.Bool.{eqb-true}
use Rattle.std.proofs.lemmas.Int.{ints, to_z-of_z}
use Rattle.std.proofs.lemmas.List.Elements.{All-push}
use Rattle.std.proofs.lemmas.List.{take_min, drop_min, drop_all, length-take, take_more, take_all}
use Rattle.ut_prefix.specs.Chain.{end_to_end}
use Rattle.ut_prefix.specs.Reading.{next_key, after_key, first_key, after_first, decoded, block_keys, keys_of, CanDecode, IsKept}
use Rattle.ut_prefix.specs.Totals.{key_number, summed, weighed, weighed_above, IsWithin}
use Rattle.ut_prefix.proofs.BlockLemmas.{length-block_keys}
use Rattle.ut_prefix.proofs.LayoutLemmas.{length-keys_of}
use Rattle.ut_prefix.proofs.TotalLemmas.{summed-parts, summed-none, summed-first, to_abs, IsWithin-times}

-- a number that fits is what its bits say
pub fits : (size k : ℕ) (z : ℤ) → size * k < 2 ^ 127 → IsWithin size k z → FitsSigned w128 z
fits size k z lt h = by (size * k) h.low h.high lt
  where
    by : (s : ℕ) → neg_ℤ (pos s) ≤ℤ z → z ≤ℤ pos s → s < 2 ^ 127 → FitsSigned w128 z
    by s low high lt = omega (arith, ints)

pub plain : (size k : ℕ) (z : ℤ) → size * k < 2 ^ 127 → IsWithin size k z → to_z w128 (of_z w128 z) ≡ z
plain size k z lt h = to_z-of_z w128 z (fits size k z lt h)

-- what is kept of a dictionary, its total by its bits
pub IsKept-bits : (starts : List ℕ) (n : ℕ) (bytes : List ℕ) (total : ℤ) → IsKept starts n bytes total → IsKept starts n bytes (to_z w128 (of_z w128 total))
IsKept-bits starts n bytes total h =
    let size = length-keys_of starts n bytes h.laid.count in
    subst (λ (z : ℤ). IsKept starts n bytes z) (sym (plain 9223372036854775808 (length (keys_of starts n bytes)) total (omega (arith, size, h.laid.size)) h.sum.within)) h

-- what a weight is above the usual one, times a number
pub above-is : (w u : ℕ) (key : List ℕ) (more number result : ℤ) → w < 4294967296 → u < 4294967296 → more ≡ pos w -ℤ pos u → number ≡ key_number key → IsWithin 9223372036854775808 1 number
    → result ≡ to_z w128 (of_z w128 (to_z w128 (of_z w128 more) *ℤ to_z w128 (of_z w128 number))) → (result ≡ (pos w -ℤ pos u) *ℤ key_number key) × IsWithin 39614081257132168796771975168 1 result
above-is w u key more number result lt few m n size e =
    let apart : IsWithin 4294967296 1 more = record { low = omega (arith, ints); high = omega (arith, ints) } in
    let within = IsWithin-times more 4294967296 9223372036854775808 1 39614081257132168796771975168 number (to_abs 4294967296 more apart.low apart.high) refl size in
    let is : result ≡ more *ℤ number =
    e ∙ (λ i. to_z w128 (of_z w128 (plain 4294967296 1 more (omega arith) apart i *ℤ plain 9223372036854775808 1 number (omega arith) size i)))
    ∙ plain 39614081257132168796771975168 1 (more *ℤ number) (omega arith) within in
    (is ∙ (λ i. m i *ℤ n i), subst (λ (z : ℤ). IsWithin 39614081257132168796771975168 1 z) (sym is) within)

-- the usual weight times the sum of all numbers, and what others are above it
module _ (u len : ℕ) (from total : ℤ) (small : u < 4294967296) (few : len < 2 ^ 31) (e : from ≡ pos u) (t : IsWithin 9223372036854775808 len total) where
  usual-within : IsWithin 39614081257132168796771975168 len (pos u *ℤ total)
  usual-within = IsWithin-times (pos u) 4294967296 9223372036854775808 len 39614081257132168796771975168 total (omega (arith, small)) refl t

  usual-is : to_z w128 (of_z w128 from) *ℤ to_z w128 (of_z w128 total) ≡ pos u *ℤ total
  usual-is =
      let one : to_z w128 (of_z w128 from) ≡ pos u = omega (arith, ints) in
      λ i. one i *ℤ plain 9223372036854775808 len total (omega (arith, few)) t i

  pub usual-fits : FitsSigned w128 (to_z w128 (of_z w128 from) *ℤ to_z w128 (of_z w128 total))
  usual-fits = subst (λ (z : ℤ). FitsSigned w128 z) (sym usual-is) (fits 39614081257132168796771975168 len (pos u *ℤ total) (omega (arith, few)) usual-within)

  module _ (fewer : ℕ) (above : ℤ) (le : fewer ≤ len) (a : IsWithin 39614081257132168796771975168 fewer above) where
    added : to_z w128 (of_z w128 (to_z w128 (of_z w128 from) *ℤ to_z w128 (of_z w128 total))) +ℤ to_z w128 (of_z w128 above) ≡ (pos u *ℤ total) +ℤ above
    added = λ i.
        (ap (λ z. to_z w128 (of_z w128 z)) usual-is ∙ plain 39614081257132168796771975168 len (pos u *ℤ total) (omega (arith, few)) usual-within) i
        +ℤ plain 39614081257132168796771975168 fewer above (omega (arith, few, le)) a i

    both-within : IsWithin 79228162514264337593543950336 len ((pos u *ℤ total) +ℤ above)
    both-within = by (pos u *ℤ total) usual-within.low usual-within.high
      where
        by : (p : ℤ) → neg_ℤ (pos (39614081257132168796771975168 * len)) ≤ℤ p → p ≤ℤ pos (39614081257132168796771975168 * len) → IsWithin 79228162514264337593543950336 len (p +ℤ above)
        by p low high = record { low = omega (arith, ints); high = omega (arith, ints) }

    pub both-fits : FitsSigned w128 (to_z w128 (of_z w128 (to_z w128 (of_z w128 from) *ℤ to_z w128 (of_z w128 total))) +ℤ to_z w128 (of_z w128 above))
    both-fits = subst (λ (z : ℤ). FitsSigned w128 z) (sym added) (fits 79228162514264337593543950336 len ((pos u *ℤ total) +ℤ above) (omega (arith, few)) both-within)

    -- the sum that was made
    pub both-is : (new : ℤ) → new ≡ to_z w128 (of_z w128 (to_z w128 (of_z w128 (to_z w128 (of_z w128 from) *ℤ to_z w128 (of_z w128 total))) +ℤ to_z w128 (of_z w128 above)))
        → (new ≡ (pos u *ℤ total) +ℤ above) × IsWithin 79228162514264337593543950336 len new
    both-is new n =
        let is : new ≡ (pos u *ℤ total) +ℤ above =
        n ∙ ap (λ z. to_z w128 (of_z w128 z)) added ∙ plain 79228162514264337593543950336 len ((pos u *ℤ total) +ℤ above) (omega (arith, few)) both-within in
        (is, subst (λ (z : ℤ). IsWithin 79228162514264337593543950336 len z) (sym is) both-within)

-- what is left to add, once one part more was added
moved : (sum more rest part all new : ℤ) → new ≡ sum +ℤ more → part ≡ more +ℤ rest → sum +ℤ part ≡ all → new +ℤ rest ≡ all
moved sum more rest part all new e p h = omega (arith, ints)

none : (a b : ℤ) → b ≡ pos 0 → a ≡ a +ℤ b
none a b e = omega (arith, ints)

-- ---- the weights

-- one weight more that is the usual one
pub usual-more : (ws : List ℕ) (i u : ℕ) (are : Bool) → i < length ws → (IsTrue are → All (λ w. w ≡ u) (take i ws)) → IsTrue (are && nat_eq (get_or ws i 0) u) → All (λ w. w ≡ u) (take (i + 1) ws)
usual-more ws i u true lt h e =
    subst (λ l. All (λ w. w ≡ u) l) (sym (take_more ws i 0 lt)) (All-push (λ w. w ≡ u) (take i ws) (get_or ws i 0) (h refl) (eqb-true (get_or ws i 0) u e))
usual-more ws i u false lt h e = absurd (true≢false (sym e))

pub usual-all : (ws : List ℕ) (i u : ℕ) → length ws ≤ i → All (λ w. w ≡ u) (take i ws) → All (λ w. w ≡ u) ws
usual-all ws i u le h = subst (λ l. All (λ w. w ≡ u) l) (take_all i ws le) h

-- ---- the keys of a block

module _ (usual : ℕ) where
  -- the first key
  pub above-first : (ws block key rest : List ℕ) (sum : ℤ) → 0 < length ws → key ≡ first_key block → rest ≡ after_first block → sum ≡ (pos (get_or ws 0 0) -ℤ pos usual) *ℤ key_number key
      → sum +ℤ weighed_above usual (drop 1 ws) (drop 1 (decoded (length ws - 1) key rest)) ≡ weighed_above usual ws (block_keys (length ws) block)
  above-first [] block key rest sum some k r s = absurd (omega (arith, some))
  above-first (w ∷ ws) block key rest sum some k r s =
      let size : length (w ∷ ws) - 1 ≡ length ws = omega arith in
      (λ i. s i +ℤ weighed_above usual ws (drop 1 (decoded (size i) key rest)))
      ∙ by (length ws) key rest ∙ (λ i. weighed_above usual (w ∷ ws) (decoded (length ws) (k i) (r i)))
    where
      by : (n : ℕ) (key rest : List ℕ) → ((pos w -ℤ pos usual) *ℤ key_number key) +ℤ weighed_above usual ws (drop 1 (decoded n key rest)) ≡ weighed_above usual (w ∷ ws) (decoded n key rest)
      by zero key rest = refl
      by (suc n) key rest = refl

  -- one key more
  pub above-next : (ws : List ℕ) (i : ℕ) (key rest next later : List ℕ) (sum more new all : ℤ) → i < length ws → next ≡ next_key key rest → later ≡ after_key rest → more ≡ (pos (get_or ws i 0) -ℤ pos usual) *ℤ key_number next → new ≡ sum +ℤ more
      → sum +ℤ weighed_above usual (drop i ws) (drop 1 (decoded (length ws - i) key rest)) ≡ all → new +ℤ weighed_above usual (drop (i + 1) ws) (drop 1 (decoded (length ws - (i + 1)) next later)) ≡ all
  above-next ws i key rest next later sum more new all lt k r m e h =
      let m_is : length ws - i ≡ suc (length ws - (i + 1)) = omega arith in
      let one : suc i ≡ i + 1 = omega arith in
      let part : weighed_above usual (drop i ws) (drop 1 (decoded (length ws - i) key rest)) ≡ more +ℤ weighed_above usual (drop (i + 1) ws) (drop 1 (decoded (length ws - (i + 1)) next later)) =
      (λ j. weighed_above usual (drop-cons ws i 0 lt j) (drop 1 (decoded (m_is j) key rest)))
      ∙ (λ j. weighed_above usual (get_or ws i 0 ∷ drop (one j) ws) (decoded (length ws - (i + 1)) (sym k j) (sym r j)))
      ∙ by (length ws - (i + 1)) (get_or ws i 0) (drop (i + 1) ws) next later
      ∙ ap (λ z. z +ℤ weighed_above usual (drop (i + 1) ws) (drop 1 (decoded (length ws - (i + 1)) next later))) (sym m) in
      moved sum more _ _ all new e part h
    where
      by : (n w : ℕ) (vs key rest : List ℕ) → weighed_above usual (w ∷ vs) (decoded n key rest) ≡ ((pos w -ℤ pos usual) *ℤ key_number key) +ℤ weighed_above usual vs (drop 1 (decoded n key rest))
      by zero w vs key rest = refl
      by (suc n) w vs key rest = refl

-- where the reading of a block stands before key i
pub record IsReadAbove (usual : ℕ) (weights block key rest : List ℕ) (i : ℕ) (sum : ℤ) : Type 0 where
  pub can : CanDecode (length weights - i) key rest
  pub left : sum +ℤ weighed_above usual (drop i weights) (drop 1 (decoded (length weights - i) key rest)) ≡ weighed_above usual weights (block_keys (length weights) block)
  pub within : IsWithin 39614081257132168796771975168 i sum

-- ---- blocks

take-decoded : (n k : ℕ) (key bytes : List ℕ) → k ≤ n → take (suc k) (decoded n key bytes) ≡ decoded k key bytes
take-decoded zero zero key bytes le = refl
take-decoded zero (suc k) key bytes le = absurd (omega (arith, le))
take-decoded (suc n) zero key bytes le = refl
take-decoded (suc n) (suc k) key bytes le = ap (λ (l : List (List ℕ)). key ∷ l) (take-decoded n k (next_key key bytes) (after_key bytes) (omega (arith, le)))

take-block_keys : (n k : ℕ) (bytes : List ℕ) → k ≤ n → take k (block_keys n bytes) ≡ block_keys k bytes
take-block_keys zero zero bytes le = refl
take-block_keys zero (suc k) bytes le = absurd (omega (arith, le))
take-block_keys (suc n) zero bytes le = refl
take-block_keys (suc n) (suc k) bytes le = take-decoded n k (first_key bytes) (after_first bytes) (omega (arith, le))

-- what is taken of at most so many
taken : (k n : ℕ) (xs : List ℕ) → min k (length xs) ≡ min n (length xs) → (take k xs ≡ take n xs) × (drop k xs ≡ drop n xs)
taken k n xs e = (
  sym (take_min k xs) ∙ ap (λ (j : ℕ). take j xs) e ∙ take_min n xs,
  sym (drop_min k xs) ∙ ap (λ (j : ℕ). drop j xs) e ∙ drop_min n xs,
)

-- a front of weights and of keys, and the rest of both
parted : (times : ℕ → ℤ) (left own later : List ℕ) (count : ℕ) (ks ls : List (List ℕ)) → min count (length left) ≡ min (length ks) (length left) → own ≡ take count left → later ≡ drop count left
    → summed times left (ks ++ ls) ≡ summed times own ks +ℤ summed times later ls
parted times left own later count ks ls e o l =
    let same = taken (length ks) count left (sym e) in
    summed-parts times left ks ls ∙ (λ i. summed times ((same.0 ∙ sym o) i) ks +ℤ summed times ((same.1 ∙ sym l) i) ls)

-- one block more
pub block-more : (usual : ℕ) (starts bytes block left own later : List ℕ) (i n rest count : ℕ) (sum more new all : ℤ) → i < length starts → rest ≡ n - 16 → length left ≤ n → count ≡ min 16 (length left) → own ≡ take count left → later ≡ drop count left → block ≡ drop (get_or starts i 0) bytes
    → more ≡ weighed_above usual own (block_keys (length own) block) → new ≡ sum +ℤ more → sum +ℤ weighed_above usual left (keys_of (drop i starts) n bytes) ≡ all → new +ℤ weighed_above usual later (keys_of (drop (i + 1) starts) rest bytes) ≡ all
block-more usual starts bytes block left own later i n rest count sum more new all lt r few c o l b m e h =
    let keys = block_keys (min 16 n) (drop (get_or starts i 0) bytes) in
    let behind = keys_of (drop (i + 1) starts) rest bytes in
    let one : suc i ≡ i + 1 = omega arith in
    let size : length keys ≡ min 16 n = length-block_keys (min 16 n) (drop (get_or starts i 0) bytes) in
    let own_len : length own ≡ min count (length left) = ap (λ (w : List ℕ). length w) o ∙ length-take count left in
    let part : weighed_above usual left (keys_of (drop i starts) n bytes) ≡ more +ℤ weighed_above usual later behind =
    (λ j. weighed_above usual left (keys_of (drop-cons starts i 0 lt j) n bytes)) ∙ (λ j. weighed_above usual left (keys ++ keys_of (drop (one j) starts) (sym r j) bytes))
    ∙ parted (λ w. pos w -ℤ pos usual) left own later count keys behind (omega (arith, size, c, few)) o l
    ∙ ap (λ z. z +ℤ weighed_above usual later behind)
    (summed-first (λ w. pos w -ℤ pos usual) own keys
    ∙ ap (λ ks. weighed_above usual own ks) (take-block_keys (min 16 n) (length own) (drop (get_or starts i 0) bytes) (omega (arith, own_len, c, few)))
    ∙ ap (λ (w : List ℕ). weighed_above usual own (block_keys (length own) w)) (sym b) ∙ sym m) in
    moved sum more (weighed_above usual later behind) _ all new e part h

-- where the look at blocks stands before block i
pub record IsAbove (usual : ℕ) (starts : List ℕ) (len : ℕ) (bytes weights left : List ℕ) (i : ℕ) (sum : ℤ) : Type 0 where
  pub fewer : length left ≤ length weights
  pub few : length left ≤ len - 16 * i
  pub rest : sum +ℤ weighed_above usual left (keys_of (drop i starts) (len - 16 * i) bytes) ≡ weighed_above usual weights (keys_of starts len bytes)
  pub within : IsWithin 39614081257132168796771975168 (length weights - length left) sum

-- ---- dictionaries

-- one dictionary more
pub dict-more : (chain : List (List (List ℕ))) (i : ℕ) (left own later : List ℕ) (count : ℕ) (keys : List (List ℕ)) (sum more new all : ℤ) → i < length chain → keys ≡ get_or chain i [] → count ≡ min (length keys) (length left) → own ≡ take count left → later ≡ drop count left
    → more ≡ weighed own keys → new ≡ sum +ℤ more → sum +ℤ weighed left (end_to_end (drop i chain)) ≡ all → new +ℤ weighed later (end_to_end (drop (i + 1) chain)) ≡ all
dict-more chain i left own later count keys sum more new all lt k c o l m e h =
    let behind = end_to_end (drop (i + 1) chain) in
    let one : suc i ≡ i + 1 = omega arith in
    let part : weighed left (end_to_end (drop i chain)) ≡ more +ℤ weighed later behind =
    (λ j. weighed left (end_to_end (drop-cons chain i [] lt j))) ∙ (λ j. weighed left (sym k j ++ end_to_end (drop (one j) chain)))
    ∙ parted (λ w. pos w) left own later count keys behind (omega (arith, c)) o l
    ∙ ap (λ z. z +ℤ weighed later behind) (sym m) in
    moved sum more (weighed later behind) _ all new e part h

-- no dictionary is left
pub dicts-end : (chain : List (List (List ℕ))) (i : ℕ) (left : List ℕ) (sum all : ℤ) → length chain ≤ i → sum +ℤ weighed left (end_to_end (drop i chain)) ≡ all → sum ≡ all
dicts-end chain i left sum all le h =
    none sum (weighed left (end_to_end (drop i chain)))
    (ap (λ (l : List (List (List ℕ))). weighed left (end_to_end l)) (drop_all i chain le) ∙ summed-none (λ w. pos w) left) ∙ h
