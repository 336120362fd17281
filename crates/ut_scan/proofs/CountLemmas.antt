-- How many places pass a test, one more looked at.
use Rattle.std.proofs.Common.{◌≡◌, ℕ, zero, suc, ◌+◌, ◌-◌, ◌<◌, ◌≤◌, Bool, true, false, cond, List, [], ◌∷◌, ◌++◌, length, map, filter, get_or, if◌then◌else◌, ap, sym, ◌∙◌, arith, refl}
use Rattle.std.specs.List.{flat_map, range_with_len, count_by}
use Rattle.std.proofs.lemmas.List.{length-append, length-map, append-nil}
use Rattle.std.proofs.lemmas.List.FromFn.{length-range_with_len}
use Rattle.std.proofs.lemmas.List.Sums.{length-filter}
use Rattle.ut_bits.specs.Places.{places_from}
use Rattle.ut_stamps.specs.declared.place.Place.TheVariants.{Main}
use Rattle.ut_stamps.specs.declared.visibility.Stamp.{Stamp}
use Rattle.ut_l2.specs.KeyRows.{KeyRow}
use Rattle.ut_scan.specs.declared.place.Found.{Found}
use Rattle.ut_stamps.specs.declared.visibility.Snapshot.{Snapshot}
use Rattle.ut_scan.specs.Coded.{seen_at, standing}
use Rattle.ut_scan.specs.Finds.{all_places, found_at}
use Rattle.ut_scan.specs.Probes.{is_seen, AreSeenAs}
use Rattle.ut_scan.proofs.FindLemmas.{filter-range, none-between}
use Rattle.ut_scan.proofs.MainLemmas.{parts-more, stands_seen, standing-seen}
use Rattle.ut_scan.proofs.PartLemmas.{both-false}
use Rattle.ut_scan.proofs.RangeLemmas.{filter-none}

module _ (t : ℕ → Bool) (i n : ℕ) (so_far : n ≡ length (filter t (range_with_len 0 i))) where
  pub one-counted : t i ≡ true → n + 1 ≡ length (filter t (range_with_len 0 (i + 1)))
  one-counted h =
      let one = ap length (filter-range t i ∙ ap (λ b. filter t (range_with_len 0 i) ++ cond b (i ∷ []) []) h) in
      omega (arith, so_far, one, length-append (filter t (range_with_len 0 i)) (i ∷ []))

  pub none-counted : t i ≡ false → n ≡ length (filter t (range_with_len 0 (i + 1)))
  none-counted h =
      so_far
      ∙ sym (ap length (filter-range t i ∙ ap (λ b. filter t (range_with_len 0 i) ++ cond b (i ∷ []) []) h ∙ append-nil (filter t (range_with_len 0 i))))

-- places that fail are passed over
pub none-more : (t : ℕ → Bool) (from to n : ℕ) → n ≡ length (filter t (range_with_len 0 from)) → from ≤ to → ((j : ℕ) → from ≤ j → j < to → t j ≡ false) → n ≡ length (filter t (range_with_len 0 to))
none-more t from to n so_far le none =
    let all : from + (to - from) ≡ to = omega (arith, le) in
    so_far ∙ ap length (sym (none-between t from (to - from) (λ j lo hi. none j lo (omega (arith, hi, all)))) ∙ ap (λ m. filter t (range_with_len 0 m)) all)

pub filter-each : (t : ℕ → Bool) (a n : ℕ) → ((i : ℕ) → a ≤ i → i < a + n → t i ≡ true) → filter t (range_with_len a n) ≡ range_with_len a n
filter-each t a zero h = refl
filter-each t a (suc n) h =
    ap (λ b. cond b (a ∷ filter t (range_with_len (a + 1) n)) (filter t (range_with_len (a + 1) n))) (h a (omega arith) (omega arith))
    ∙ ap (λ l. a ∷ l) (filter-each t (a + 1) n (λ i low high. h i (omega (arith, low)) (omega (arith, high))))

standing-each : (seen : ℕ → Bool) (a : ℕ) (bs : List Bool) → ((i : ℕ) → a ≤ i → i < a + length bs → seen i ≡ true) → length (filter seen (places_from (λ b. b) a bs)) ≡ length (filter (λ b. b) bs)
standing-each seen a [] h = refl
standing-each seen a (true ∷ bs) h =
    let rest = filter seen (places_from (λ b. b) (a + 1) bs) in
    ap (λ b. length (cond b (a ∷ rest) rest)) (h a (omega arith) (omega arith))
    ∙ ap suc (standing-each seen (a + 1) bs (λ i low high. h i (omega (arith, low)) (omega (arith, high))))
standing-each seen a (false ∷ bs) h = standing-each seen (a + 1) bs (λ i low high. h i (omega (arith, low)) (omega (arith, high)))

-- places are not more than the list has elements
pub places-few : {X : Type 0} (t : X → Bool) (i : ℕ) (xs : List X) → length (places_from t i xs) ≤ length xs
places-few t i [] = omega arith
places-few t i (x ∷ xs) = by (t x) (places-few t (i + 1) xs)
  where
    by : (b : Bool) → length (places_from t (i + 1) xs) ≤ length xs → length (if b then i ∷ places_from t (i + 1) xs else places_from t (i + 1) xs) ≤ suc (length xs)
    by true h = omega (arith, h)
    by false h = omega (arith, h)

-- one part more
pub parts-counted : (found : ℕ → List Found) (count more new n : ℕ) → count ≡ length (flat_map found (range_with_len 0 n)) → more ≡ length (found n) → new ≡ count + more → new ≡ length (flat_map found (range_with_len 0 (n + 1)))
parts-counted found count more new n so_far one e =
    let all = ap length (parts-more found [] (flat_map found (range_with_len 0 n)) (flat_map found (range_with_len 0 n) ++ found n) n refl refl) in
    omega (arith, so_far, one, e, all, length-append (flat_map found (range_with_len 0 n)) (found n))

module _ (v : Snapshot) (number : ℕ) (rows : List KeyRow) (stamps : List Stamp) (stamped : length stamps ≡ length rows) where
  -- where all rows are seen there are as many as the part has
  pub all-seen : (n : ℕ) → AreSeenAs v stamps true → n ≡ length rows → n ≡ length (seen_at v number rows stamps (all_places rows))
  all-seen n h e =
      e ∙ sym (
      length-map (filter (is_seen v stamps) (all_places rows)) (found_at (Main number) rows)
      ∙ ap length (filter-each (is_seen v stamps) 0 (length rows) (λ i low high. h i (omega (arith, high, stamped))))
      ∙ length-range_with_len 0 (length rows))

  -- where none is seen there are none, whatever places are looked at
  pub none-here : AreSeenAs v stamps false → 0 ≡ length (seen_at v number rows stamps (all_places rows))
  none-here h = ap (λ l. length (map (found_at (Main number) rows) l)) (sym (filter-none (is_seen v stamps) 0 (length rows) (λ i low high. h i (omega (arith, high, stamped)))))

  pub none-standing : (mask : List Bool) → length mask ≡ length rows → AreSeenAs v stamps false → 0 ≡ length (seen_at v number rows stamps (standing mask))
  none-standing mask size h =
      ap (λ l. length (map (found_at (Main number) rows) l))
      (sym (filter-none (stands_seen v stamps mask) 0 (length mask) (λ i low high. both-false (get_or mask i false) (is_seen v stamps i) (h i (omega (arith, high, size, stamped))))))
      ∙ sym (ap length (standing-seen v number rows stamps mask size))

  -- where all are seen each place that stands is found
  pub all-standing : (mask : List Bool) (n : ℕ) → length mask ≡ length rows → AreSeenAs v stamps true → n ≡ count_by (λ b. b) mask → n ≡ length (seen_at v number rows stamps (standing mask))
  all-standing mask n size h e =
      e ∙ sym (
      length-map (filter (is_seen v stamps) (standing mask)) (found_at (Main number) rows)
      ∙ standing-each (is_seen v stamps) 0 mask (λ i low high. h i (omega (arith, high, size, stamped)))
      ∙ length-filter (λ (b : Bool). b) mask)

-- the places that stand in a mask, tested one by one
pub standing-counted : (v : Snapshot) (number : ℕ) (rows : List KeyRow) (stamps : List Stamp) (mask : List Bool) → length mask ≡ length rows
    → length (filter (stands_seen v stamps mask) (range_with_len 0 (length mask))) ≡ length (seen_at v number rows stamps (standing mask))
standing-counted v number rows stamps mask size =
    sym (length-map (filter (stands_seen v stamps mask) (range_with_len 0 (length mask))) (found_at (Main number) rows))
    ∙ sym (ap length (standing-seen v number rows stamps mask size))
