-- The rows of main that a scan finds, part by part.
use Rattle.std.proofs.Common.{◌≡◌, ℕ, zero, suc, ◌+◌, ◌<◌, Bool, true, false, ◌&&◌, List, [], ◌∷◌, ◌++◌, length, map, filter, take, get_or, All, Option, refl, sym, ◌∙◌, ap, subst, arith}
use Rattle.std.proofs.lemmas.List.{length-map, get_or-map, flat_map_more}
use Rattle.std.proofs.lemmas.List.FromFn.{length-range_with_len, get_or-map-range_with_len}
use Rattle.std.proofs.lemmas.List.Folds.{list_all_more}
use Rattle.std.specs.Prelude.{replicate}
use Rattle.std.specs.List.{flat_map, range_with_len}
use Rattle.ut_stamps.specs.Stamps.{sees}
use Rattle.ut_stamps.specs.declared.fates.Fate.{Fate}
use Rattle.ut_stamps.specs.declared.place.Place.TheVariants.{Main}
use Rattle.ut_stamps.specs.declared.visibility.Stamp.{Stamp}
use Rattle.ut_mask.specs.Mask.{both}
use Rattle.ut_bits.specs.Places.{is_in}
use Rattle.ut_codes.specs.Reached.{Reached}
use Rattle.ut_l2.specs.KeyRows.{KeyRow, cells_at, key_at}
use Rattle.ut_prefix.specs.Chain.{end_to_end}
use Rattle.ut_main.specs.Columns.{chain_of, place_of}
use Rattle.ut_main.specs.Parts.{MainValue, PartValue}
use Rattle.ut_scan.specs.declared.coded.CodedPred.{CodedPred}
use Rattle.ut_key.specs.declared.comparison.ColumnPred.{ColumnPred}
use Rattle.ut_scan.specs.declared.place.Found.{Found}
use Rattle.ut_scan.specs.Coded.{AreCoded, code_at, codes_in, held_mask, held_places, is_held, seen_at, standing}
use Rattle.ut_stamps.specs.declared.visibility.Snapshot.{Snapshot}
use Rattle.ut_scan.specs.declared.parts.PartProbe.{PartProbe}
use Rattle.ut_scan.specs.PartProbes.{IsProbeOf}
use Rattle.ut_scan.specs.Probes.{is_seen}
use Rattle.ut_scan.specs.Finds.{all_places, found_at, found_in, is_hit}
use Rattle.ut_stamps.specs.StampLists.{no_stamp}
use Rattle.ut_scan.specs.StageRows.{found_in_part, AreStampedParts}
use Rattle.ut_scan.proofs.CodeLemmas.{IsPartOf, held-passes, part-width}
use Rattle.ut_scan.proofs.RangeLemmas.{filter-both, filter-none, places-filter}

-- a part has as many stamps as rows
pub stamps-at : (parts : List (List KeyRow)) (stamps : List (List Stamp)) (p : ℕ) → AreStampedParts parts stamps → p < length parts → (p < length stamps) × (length (get_or stamps p []) ≡ length (get_or parts p []))
stamps-at parts stamps p h lt =
    let there : p < length stamps = omega (arith, lt, ap length h, length-map stamps (λ (s : List Stamp). length s), length-map parts (λ (r : List KeyRow). length r)) in (
      there,
      sym (get_or-map (λ (s : List Stamp). length s) stamps p [] 0 there) ∙ ap (λ l. get_or l p 0) h ∙ get_or-map (λ (r : List KeyRow). length r) parts p [] 0 lt,
    )

-- whether a place stands in a mask and its row is seen
abbrev pub stands_seen : Snapshot → List Stamp → List Bool → ℕ → Bool
stands_seen v stamps mask i = get_or mask i false && is_seen v stamps i

-- the seen rows whose codes stand in the ranges are those that meet the comparisons
pub part-found : (main : MainValue) (preds : List ColumnPred) (coded : List CodedPred) (p : ℕ) (part : PartValue) (fates : List Fate) (snapshot : ℕ) (own : Option ℕ) (stamps : List Stamp)
    → AreCoded main preds coded → All (λ q. q.column < main.width) preds → IsPartOf main p part
    → map (found_at (Main p) part.rows) (filter (λ i. sees fates snapshot own (get_or stamps i no_stamp)) (held_places coded part)) ≡ found_in fates snapshot own preds (Main p) (get_or main.parts p []) stamps
part-found main preds coded p part fates snapshot own stamps h columns at =
    let seen = λ (i : ℕ). sees fates snapshot own (get_or stamps i no_stamp) in
    ap (map (found_at (Main p) part.rows)) (
    filter-both (is_held coded part) seen (is_hit fates snapshot own preds part.rows stamps) 0 (length part.rows)
    (λ i low high. ap (λ b. b && seen i) (sym (held-passes main preds coded p part i h columns at (omega (arith, high)))))
    )
    ∙ ap (λ (rows : List KeyRow). found_in fates snapshot own preds (Main p) rows stamps) at.rows

-- a part that is read among main's
module _ (main : MainValue) (p : ℕ) (part : PartValue) (at : IsPartOf main p part) where
  -- it has as many stamps as rows
  pub part-stamped : (all : List (List Stamp)) (stamps : List Stamp) → AreStampedParts main.parts all → stamps ≡ get_or all p [] → length stamps ≡ length part.rows
  part-stamped all stamps h is =
      ap (λ (l : List Stamp). length l) is ∙ (stamps-at main.parts all p h at.there).1 ∙ sym (ap (λ (l : List KeyRow). length l) at.rows)

  -- it has the columns of main's comparisons
  pub part-columns : (coded : List CodedPred) → All (λ (q : CodedPred). q.column < main.width) coded → All (λ (q : CodedPred). q.column < length part.before) coded
  part-columns coded h = subst (λ n. All (λ (q : CodedPred). q.column < n) coded) (sym (part-width main p part at)) h

-- a probe of a part of main
module _ (v : Snapshot) (read : List CodedPred) (main : MainValue) (all : List (List Stamp)) (p : ℕ) (probe : PartProbe) (h : IsProbeOf v read main all p probe) (there : p < length main.parts) where
  pub probe-part : IsPartOf main p probe.part.now
  probe-part = record { there = there; rows = h.rows; before = h.before }

  -- what it finds
  pub probe-seen : (preds : List ColumnPred) (coded : List CodedPred) → read ≡ coded → AreCoded main preds coded → All (λ q. q.column < main.width) preds
      → seen_at probe.snapshot.now probe.number probe.part.now.rows probe.stamps.now (held_places probe.coded.now probe.part.now) ≡ found_in_part v.fates.now v.at v.own preds main.parts all p
  probe-seen preds coded is exact columns =
      let part = probe.part.now in
      (λ i. seen_at (h.snapshot i) (h.number i) part.rows (h.stamps i) (held_places ((h.coded ∙ is) i) part))
      ∙ part-found main preds coded p part v.fates.now v.at v.own (get_or all p []) exact columns probe-part

range-more : (a n : ℕ) → range_with_len a n ++ (a + n) ∷ [] ≡ range_with_len a (n + 1)
range-more a zero = let e : a + 0 ≡ a = omega arith in rw e refl
range-more a (suc n) =
    let e : suc n + 1 ≡ suc (n + 1) = omega arith in
    let f : a + suc n ≡ a + 1 + n = omega arith in
    rw (e, f) (ap (λ (l : List ℕ). a ∷ l) (range-more (a + 1) n))

-- one part more
pub parts-more : (found : ℕ → List Found) (base out new : List Found) (n : ℕ) → out ≡ base ++ flat_map found (range_with_len 0 n) → new ≡ out ++ found n → new ≡ base ++ flat_map found (range_with_len 0 (n + 1))
parts-more found base out new n so_far e =
    let none : 0 + n ≡ n = omega arith in
    e ∙ ap (λ l. l ++ found n) so_far ∙ flat_map_more found base (range_with_len 0 n) n
    ∙ ap (λ l. base ++ flat_map found l) (ap (λ m. range_with_len 0 n ++ m ∷ []) (sym none) ∙ range-more 0 n)

-- ---- the places of a part

-- a column has as many codes as the part has rows
pub length-codes : (part : PartValue) (column : ℕ) → length (codes_in part column).codes ≡ length part.rows
length-codes part column = length-map (cells_at column part.rows) (place_of (end_to_end (chain_of (get_or part.before column []) (cells_at column part.rows)))) ∙ length-map part.rows (key_at column)

filter-true : (xs : List ℕ) → filter (λ i. true) xs ≡ xs
filter-true [] = refl
filter-true (x ∷ xs) = ap (λ l. x ∷ l) (filter-true xs)

-- without a comparison all places are held
pub held-none : (part : PartValue) (coded : List CodedPred) → coded ≡ [] → held_places coded part ≡ all_places part.rows
held-none part coded none = ap (λ (l : List CodedPred). held_places l part) none ∙ filter-true (all_places part.rows)

-- no place is held where no code of the part meets a comparison
pub held-out : (part : PartValue) (coded : List CodedPred) → ((i : ℕ) → i < length part.rows → is_held coded part i ≡ false) → [] ≡ held_places coded part
held-out part coded out = sym (filter-none (is_held coded part) 0 (length part.rows) (λ i low high. out i (omega (arith, high))))

-- a mask is narrowed by the test of a list, place by place
both-map : (t : ℕ → Bool) (u : ℕ → Bool) (w : ℕ → Bool) (a : ℕ) (xs : List ℕ) → ((k : ℕ) → k < length xs → w (a + k) ≡ (t (a + k) && u (get_or xs k 0)))
    → both (map t (range_with_len a (length xs))) (map u xs) ≡ map w (range_with_len a (length xs))
both-map t u w a [] h = refl
both-map t u w a (x ∷ xs) h = λ i. first i ∷ both-map t u w (a + 1) xs later i
  where
    first : (t a && u x) ≡ w a
    first = let zero_more : a + 0 ≡ a = omega arith in sym (ap w (sym zero_more) ∙ h 0 (omega arith) ∙ ap (λ (n : ℕ). t n && u x) zero_more)

    later : (k : ℕ) → k < length xs → w (a + 1 + k) ≡ (t (a + 1 + k) && u (get_or xs k 0))
    later k lt = let e : a + 1 + k ≡ a + suc k = omega arith in ap w e ∙ h (suc k) (omega (arith, lt)) ∙ ap (λ (n : ℕ). t n && u (get_or xs k 0)) (sym e)

-- a mask has a place for each row
pub length-held : (coded : List CodedPred) (part : PartValue) → length (held_mask coded part) ≡ length part.rows
length-held coded part = length-map (range_with_len 0 (length part.rows)) (is_held coded part) ∙ length-range_with_len 0 (length part.rows)

-- without a comparison every place stands
pub mask-none : (part : PartValue) (coded : List CodedPred) (n : ℕ) → n ≡ length part.rows → replicate n true ≡ held_mask (take 0 coded) part
mask-none part coded n e = by 0 n ∙ ap (λ (m : ℕ). map (λ (i : ℕ). true) (range_with_len 0 m)) e
  where
    by : (a m : ℕ) → replicate m true ≡ map (λ (i : ℕ). true) (range_with_len a m)
    by a zero = refl
    by a (suc m) = ap (λ (l : List Bool). true ∷ l) (by (a + 1) m)

-- the places that stand in the mask of all comparisons
pub standing-held : (coded : List CodedPred) (part : PartValue) (mask : List Bool) → mask ≡ held_mask coded part → standing mask ≡ held_places coded part
standing-held coded part mask is =
    let held = is_held coded part in
    let all = range_with_len 0 (length part.rows) in
    ap (λ (m : List Bool). standing m) is
    ∙ places-filter (λ (b : Bool). b) held false 0 (map held all) (λ k lt.
    let there : k < length part.rows = omega (arith, lt, length-held coded part) in
    let zero_more : 0 + k ≡ k = omega arith in
    ap held zero_more ∙ sym (get_or-map-range_with_len held 0 (length part.rows) k k false there zero_more))
    ∙ ap (λ n. filter held (range_with_len 0 n)) (length-held coded part)

-- and that a snapshot sees: tested place by place
pub standing-seen : (v : Snapshot) (number : ℕ) (rows : List KeyRow) (stamps : List Stamp) (mask : List Bool) → length mask ≡ length rows
    → seen_at v number rows stamps (standing mask) ≡ map (found_at (Main number) rows) (filter (stands_seen v stamps mask) (range_with_len 0 (length mask)))
standing-seen v number rows stamps mask size =
    ap (λ (l : List ℕ). seen_at v number rows stamps l) (places-filter (λ (b : Bool). b) (λ i. get_or mask i false) false 0 mask (λ k lt. let e : 0 + k ≡ k = omega arith in ap (λ i. get_or mask i false) e))
    ∙ ap (map (found_at (Main number) rows)) (filter-both (λ i. get_or mask i false) (is_seen v stamps) (stands_seen v stamps mask) 0 (length mask) (λ i low high. refl))

module _ (part : PartValue) (coded : List CodedPred) (pred : CodedPred) (ranges : List (ℕ × ℕ)) (codes : Reached) (is : codes ≡ codes_in part pred.column)
    (within : (i : ℕ) → i < length part.rows → is_in ranges (code_at part i pred.column) ≡ is_in pred.ranges.items (code_at part i pred.column)) (k : ℕ) (lt : k < length coded) (at : pred ≡ get_or coded k pred) where
  -- the code of a row stands in the comparison's ranges where it stands in those of the part
  same-code : (i : ℕ) → i < length part.rows → (let held = λ (q : CodedPred). is_in q.ranges.items (code_at part i q.column) in held (get_or coded k pred)) ≡ is_in ranges (get_or codes.codes i 0)
  same-code i there =
      ap (λ (q : CodedPred). is_in q.ranges.items (code_at part i q.column)) (sym at) ∙ sym (within i there)
      ∙ ap (λ (v : Reached). is_in ranges (get_or v.codes i 0)) (sym is)

  -- one comparison more
  more-held : (i : ℕ) → i < length part.rows → is_held (take (k + 1) coded) part i ≡ (is_held (take k coded) part i && is_in ranges (get_or codes.codes i 0))
  more-held i there =
      list_all_more (λ (q : CodedPred). is_in q.ranges.items (code_at part i q.column)) coded k pred lt
      ∙ ap (λ b. is_held (take k coded) part i && b) (same-code i there)

  count : length codes.codes ≡ length part.rows
  count = ap (λ (v : Reached). length v.codes) is ∙ length-codes part pred.column

  -- the mask that one comparison more narrows
  pub more-mask : (old new : List Bool) → old ≡ held_mask (take k coded) part → new ≡ both old (map (is_in ranges) codes.codes) → new ≡ held_mask (take (k + 1) coded) part
  more-mask old new so_far e =
      e ∙ ap (λ (m : List Bool). both m (map (is_in ranges) codes.codes)) so_far
      ∙ ap (λ (n : ℕ). both (map (is_held (take k coded) part) (range_with_len 0 n)) (map (is_in ranges) codes.codes)) (sym count)
      ∙ both-map (is_held (take k coded) part) (is_in ranges) (is_held (take (k + 1) coded) part) 0 codes.codes (λ i there.
      let zero_more : 0 + i ≡ i = omega arith in
      ap (is_held (take (k + 1) coded) part) zero_more ∙ more-held i (omega (arith, there, count))
      ∙ ap (λ (n : ℕ). is_held (take k coded) part n && is_in ranges (get_or codes.codes i 0)) (sym zero_more))
      ∙ ap (λ (n : ℕ). map (is_held (take (k + 1) coded) part) (range_with_len 0 n)) count

  -- such a mask has a place for each of the codes
  pub mask-length : (old : List Bool) → old ≡ held_mask (take k coded) part → length old ≡ length codes.codes
  mask-length old so_far = ap (λ (m : List Bool). length m) so_far ∙ length-held (take k coded) part ∙ sym count
