-- How often codes occur, one code and one part more.
use Rattle.std.proofs.Common.{◌≡◌, inl, inr, ℕ, zero, suc, ◌+◌, ◌-◌, ◌<◌, ◌≤◌, ◌^◌, ◌&&◌, Bool, true, false, cond, nat_eq, List, [], ◌∷◌, ◌++◌, length, map, filter, take, drop, get_or, set, Some, All, refl, sym, ◌∙◌, ap, subst, arith}
use Rattle.std.specs.Prelude.{slice_get}
use Rattle.std.specs.List.{range_with_len, sum_by}
use Rattle.std.proofs.Math.Seq.{take-add}
use Rattle.std.proofs.lemmas.Bool.{cases_eq, eq-eqb, ne_eqb}
use Rattle.std.proofs.lemmas.List.{append-nil, length-append, length-drop, length-map, length-set, length-take-le, map-append, get_or-set_same, get_or-set_other, take_more}
use Rattle.std.proofs.lemmas.List.Elements.{All-filter, All-head, All-tail}
use Rattle.std.proofs.lemmas.List.FromFn.{length-range_with_len}
use Rattle.std.proofs.lemmas.List.Sums.{count_by-le-length, length-filter, sum_by-append, sum_by_more, sum_by-take-le}
use Rattle.std.proofs.lemmas.Option.{slice_get-get_or}
use Rattle.std.proofs.lemmas.Simd.{map-map}
use Rattle.ut_bits.specs.Bits.{AllBelow}
use Rattle.ut_bits.proofs.BitLemmas.{AllBelow-drop, AllBelow-take}
use Rattle.ut_stamps.specs.declared.place.Place.TheVariants.{Main}
use Rattle.ut_stamps.specs.declared.visibility.Stamp.{Stamp}
use Rattle.ut_l2.specs.KeyRows.{KeyRow}
use Rattle.ut_main.specs.Parts.{MainValue, PartValue, rows_in}
use Rattle.ut_scan.specs.declared.coded.CodedPred.{CodedPred}
use Rattle.ut_scan.specs.declared.place.Found.{Found}
use Rattle.ut_stamps.specs.declared.visibility.Snapshot.{Snapshot}
use Rattle.ut_scan.specs.Coded.{code_at, codes_in, held_places, is_held, keys_in, standing}
use Rattle.ut_scan.specs.Finds.{all_places, found_at}
use Rattle.ut_scan.specs.Probes.{is_seen, AreSeenAs}
use Rattle.ut_scan.specs.Tallies.{how_often, key_in, seen_codes, AreMore, HasRoom, Tallies}
use Rattle.ut_scan.proofs.CodeLemmas.{IsPartOf, code-known, code-main, keys-first, part_keys}
use Rattle.ut_scan.proofs.CountLemmas.{filter-each}
use Rattle.ut_scan.proofs.FindLemmas.{filter-range, none-between}
use Rattle.ut_scan.proofs.MainLemmas.{length-codes, stands_seen}
use Rattle.ut_scan.proofs.PartLemmas.{both-false}
use Rattle.ut_scan.proofs.RangeLemmas.{filter-both, filter-none, places-filter, range-within}

-- ---- counts

pub more-none : (counts : List ℕ) → AreMore [] counts counts
more-none counts = record { size = refl; each = λ code. omega arith }

-- one code more
pub more-one : (counts new : List ℕ) (code n : ℕ) → code < length counts → n ≡ get_or counts code 0 + 1 → new ≡ set counts code n → AreMore (code ∷ []) counts new
more-one counts new code n lt more is = record {
  size = ap length is ∙ length-set counts code n;
  each = λ k. ap (λ (l : List ℕ). get_or l k 0) is ∙ elim (cases_eq k code) [ inl same ↦ here k same | inr other ↦ there k other ];
}
  where
    here : (k : ℕ) → k ≡ code → get_or (set counts code n) k 0 ≡ get_or counts k 0 + how_often (code ∷ []) k
    here k same =
        let at = ap (λ m. get_or (set counts code n) m 0) same ∙ get_or-set_same counts code n 0 lt in
        let one = ap {B = ℕ} (λ b. cond b 1 0) (eq-eqb k code same) in
        let old = ap (λ m. get_or counts m 0) same in
        omega (arith, at, one, old, more)

    there : (k : ℕ) → (k ≡ code → ⊥) → get_or (set counts code n) k 0 ≡ get_or counts k 0 + how_often (code ∷ []) k
    there k other =
        let at = get_or-set_other counts code k n 0 other in
        let none = ap {B = ℕ} (λ b. cond b 1 0) (ne_eqb k code other) in
        omega (arith, at, none)

-- codes behind others
pub more-both : (xs ys a b c : List ℕ) → AreMore xs a b → AreMore ys b c → AreMore (xs ++ ys) a c
more-both xs ys a b c one two = record {
  size = two.size ∙ one.size;
  each = λ k. omega (arith, one.each k, two.each k, sum_by-append (λ x. cond (nat_eq k x) 1 0) xs ys);
}

-- no count grows by more than all codes
pub more-few : (codes old new : List ℕ) (k : ℕ) → AreMore codes old new → get_or new k 0 ≤ get_or old k 0 + length codes
more-few codes old new k h = omega (arith, h.each k, count_by-le-length (nat_eq k) codes)

-- the codes of a list, one after the other
pub more-take : (codes old now new : List ℕ) (i code : ℕ) → i < length codes → code ≡ get_or codes i 0 → AreMore (take i codes) old now → AreMore (code ∷ []) now new → AreMore (take (i + 1) codes) old new
more-take codes old now new i code lt at so_far one =
    subst (λ l. AreMore l old new) (ap (λ c. take i codes ++ c ∷ []) at ∙ sym (take_more codes i 0 lt)) (more-both (take i codes) (code ∷ []) old now new so_far one)

-- ---- the codes of places that pass a test

module _ (code : ℕ → ℕ) (t : ℕ → Bool) (i : ℕ) (old now : List ℕ) (so_far : AreMore (map code (filter t (range_with_len 0 i))) old now) where
  pub one-tallied : (c : ℕ) (new : List ℕ) → c ≡ code i → t i ≡ true → AreMore (c ∷ []) now new → AreMore (map code (filter t (range_with_len 0 (i + 1)))) old new
  one-tallied c new is h one =
      subst (λ l. AreMore l old new)
      (ap (λ x. map code (filter t (range_with_len 0 i)) ++ x ∷ []) is
      ∙ sym (ap (map code) (filter-range t i ∙ ap (λ b. filter t (range_with_len 0 i) ++ cond b (i ∷ []) []) h) ∙ map-append code (filter t (range_with_len 0 i)) (i ∷ [])))
      (more-both (map code (filter t (range_with_len 0 i))) (c ∷ []) old now new so_far one)

  pub none-tallied : t i ≡ false → AreMore (map code (filter t (range_with_len 0 (i + 1)))) old now
  none-tallied h =
      subst (λ l. AreMore (map code l) old now)
      (sym (filter-range t i ∙ ap (λ b. filter t (range_with_len 0 i) ++ cond b (i ∷ []) []) h ∙ append-nil (filter t (range_with_len 0 i))))
      so_far

-- places that fail are passed over
pub tallied-over : (code : ℕ → ℕ) (t : ℕ → Bool) (from to : ℕ) (old now : List ℕ) → AreMore (map code (filter t (range_with_len 0 from))) old now → from ≤ to → ((j : ℕ) → from ≤ j → j < to → t j ≡ false) → AreMore (map code (filter t (range_with_len 0 to))) old now
tallied-over code t from to old now so_far le none =
    let all : from + (to - from) ≡ to = omega (arith, le) in
    subst (λ l. AreMore (map code l) old now)
    (sym (none-between t from (to - from) (λ j lo hi. none j lo (omega (arith, hi, all)))) ∙ ap (λ m. filter t (range_with_len 0 m)) all)
    so_far

-- so few places pass
few-pass : (code : ℕ → ℕ) (t : ℕ → Bool) (i : ℕ) → length (map code (filter t (range_with_len 0 i))) ≤ i
few-pass code t i =
    omega (arith, length-map (filter t (range_with_len 0 i)) code, length-filter t (range_with_len 0 i), count_by-le-length t (range_with_len 0 i), length-range_with_len 0 i)

-- ---- a part

-- a code of a part has its count, and there is room in it
pub has-count : (part : PartValue) (column i c : ℕ) (codes old now : List ℕ) → HasRoom part column old → AreMore codes old now → i < length part.rows → c ≡ code_at part i column → c < length now
has-count part column i c codes old now room so_far lt is =
    let known : code_at part i column < length (part_keys part column) = (code-known part column i lt).0 in
    omega (arith, known, room.codes, so_far.size, is)

pub has-room : (part : PartValue) (column i c : ℕ) (t : ℕ → Bool) (old now : List ℕ) → HasRoom part column old → AreMore (map (λ j. code_at part j column) (filter t (range_with_len 0 i))) old now → i < length part.rows → get_or now c 0 + 1 < 2 ^ 32
has-room part column i c t old now room so_far lt =
    omega (arith, lt, room.few c, more-few (map (λ j. code_at part j column) (filter t (range_with_len 0 i))) old now c so_far, few-pass (λ j. code_at part j column) t i)

below-each : (n : ℕ) (xs : List ℕ) → ((k : ℕ) → k < length xs → get_or xs k 0 < n) → AllBelow n xs
below-each n [] h = tt
below-each n (x ∷ xs) h = (h 0 (omega arith), below-each n xs (λ k lt. h (suc k) (omega (arith, lt))))

each-below : (n : ℕ) (xs : List ℕ) (k : ℕ) → AllBelow n xs → k < length xs → get_or xs k 0 < n
each-below n [] k h lt = absurd (omega (arith, lt))
each-below n (x ∷ xs) zero h lt = h.0
each-below n (x ∷ xs) (suc k) h lt = each-below n xs k h.1 (omega (arith, lt))

-- one of a list's codes has its count, and there is room in it
pub list-count : (codes old now : List ℕ) (i c : ℕ) → AllBelow (length old) codes → AreMore (take i codes) old now → i < length codes → c ≡ get_or codes i 0 → c < length now
list-count codes old now i c below so_far lt is = omega (arith, each-below (length old) codes i below lt, so_far.size, is)

pub list-room : (codes old now : List ℕ) (i c : ℕ) → ((k : ℕ) → get_or old k 0 + length codes < 2 ^ 32) → AreMore (take i codes) old now → i < length codes → get_or now c 0 + 1 < 2 ^ 32
list-room codes old now i c few so_far lt = omega (arith, few c, more-few (take i codes) old now c so_far, short i codes, lt)
  where
    short : (n : ℕ) (xs : List ℕ) → length (take n xs) ≤ n
    short zero xs = omega arith
    short (suc n) [] = omega arith
    short (suc n) (x ∷ xs) = omega (arith, short n xs)

-- eight more of a list's codes, read together
module _ (codes old now eight : List ℕ) (i : ℕ) (so_far : AreMore (take i codes) old now) (is : eight ≡ take 8 (drop i codes)) where
  pub eight-more : (new : List ℕ) (end : ℕ) → end ≡ i + 8 → AreMore eight now new → AreMore (take end codes) old new
  eight-more new end at more =
      let joined : take i codes ++ eight ≡ take end codes = ap (λ (l : List ℕ). take i codes ++ l) is ∙ sym (take-add i 8 codes) ∙ ap (λ (m : ℕ). take m codes) (sym at) in
      subst (λ (l : List ℕ). AreMore l old new) joined (more-both (take i codes) eight old now new so_far more)

  pub eight-counts : AllBelow (length old) codes → AllBelow (length now) eight
  eight-counts below =
      subst (λ n. AllBelow n eight) (sym so_far.size) (subst (AllBelow (length old)) (sym is) (AllBelow-take (length old) 8 (drop i codes) (AllBelow-drop (length old) i codes below)))

  pub eight-room : ((k : ℕ) → get_or old k 0 + length codes < 2 ^ 32) → i + 8 ≤ length codes → (k : ℕ) → get_or now k 0 + length eight < 2 ^ 32
  eight-room few within k =
      let size : length eight ≡ 8 = ap length is ∙ length-take-le 8 (drop i codes) (omega (arith, length-drop i codes, within)) in
      omega (arith, few k, more-few (take i codes) old now k so_far, length-take-le i codes (omega (arith, within)), size, within)

-- all codes of a part
module _ (part : PartValue) (column : ℕ) (counts : List ℕ) (codes : List ℕ) (is : codes ≡ (codes_in part column).codes) (room : HasRoom part column counts) where
  size : length codes ≡ length part.rows
  size = ap length is ∙ length-codes part column

  pub all-below : AllBelow (length counts) codes
  all-below = below-each (length counts) codes (λ k lt.
      let known : code_at part k column < length (part_keys part column) = (code-known part column k (omega (arith, lt, size))).0 in
      omega (arith, known, room.codes, ap (λ (l : List ℕ). get_or l k 0) is))

  pub all-few : (k : ℕ) → get_or counts k 0 + length codes < 2 ^ 32
  all-few k = omega (arith, room.few k, size)

  reads : (a : ℕ) (w : ℕ → ℕ) (xs : List ℕ) → ((k : ℕ) → k < length xs → w (a + k) ≡ get_or xs k 0) → map w (range_with_len a (length xs)) ≡ xs
  reads a w [] h = refl
  reads a w (x ∷ xs) h = λ i. first i ∷ reads (a + 1) w xs later i
    where
      first : w a ≡ x
      first = let none : a + 0 ≡ a = omega arith in ap w (sym none) ∙ h 0 (omega arith)

      later : (k : ℕ) → k < length xs → w (a + 1 + k) ≡ get_or xs k 0
      later k lt = let e : a + 1 + k ≡ a + suc k = omega arith in ap w e ∙ h (suc k) (omega (arith, lt))

  -- where all rows are seen
  pub all-codes : (v : Snapshot) (stamps : List Stamp) → length stamps ≡ length part.rows → AreSeenAs v stamps true → codes ≡ seen_codes v part column stamps (all_places part.rows)
  all-codes v stamps stamped seen =
      sym (reads 0 (λ i. code_at part i column) codes (λ k lt. let e : 0 + k ≡ k = omega arith in ap (λ i. code_at part i column) e ∙ ap (λ (l : List ℕ). get_or l k 0) (sym is)))
      ∙ ap (λ n. map (λ i. code_at part i column) (range_with_len 0 n)) size
      ∙ ap (map (λ i. code_at part i column)) (sym (filter-each (is_seen v stamps) 0 (length part.rows) (λ i low high. seen i (omega (arith, high, stamped)))))

-- where none is seen
pub none-coded : (v : Snapshot) (part : PartValue) (column : ℕ) (stamps : List Stamp) → length stamps ≡ length part.rows → AreSeenAs v stamps false → [] ≡ seen_codes v part column stamps (all_places part.rows)
none-coded v part column stamps stamped none =
    ap (map (λ i. code_at part i column)) (sym (filter-none (is_seen v stamps) 0 (length part.rows) (λ i low high. none i (omega (arith, high, stamped)))))

pub none-held : (v : Snapshot) (part : PartValue) (column : ℕ) (coded : List CodedPred) (stamps : List Stamp) → length stamps ≡ length part.rows → AreSeenAs v stamps false → [] ≡ seen_codes v part column stamps (held_places coded part)
none-held v part column coded stamps stamped none =
    ap (map (λ i. code_at part i column)) (sym (
    filter-both (is_held coded part) (is_seen v stamps) (λ i. is_held coded part i && is_seen v stamps i) 0 (length part.rows) (λ i low high. refl)
    ∙ filter-none (λ i. is_held coded part i && is_seen v stamps i) 0 (length part.rows) (λ i low high. both-false (is_held coded part i) (is_seen v stamps i) (none i (omega (arith, high, stamped))))))

-- the codes of the places that stand in a mask, tested one by one
pub standing-codes : (v : Snapshot) (part : PartValue) (column : ℕ) (stamps : List Stamp) (mask : List Bool) → map (λ i. code_at part i column) (filter (stands_seen v stamps mask) (range_with_len 0 (length mask))) ≡ seen_codes v part column stamps (standing mask)
standing-codes v part column stamps mask =
    ap (map (λ i. code_at part i column)) (sym (
    ap (filter (is_seen v stamps)) (places-filter (λ (b : Bool). b) (λ i. get_or mask i false) false 0 mask (λ k lt. let e : 0 + k ≡ k = omega arith in ap (λ i. get_or mask i false) e))
    ∙ filter-both (λ i. get_or mask i false) (is_seen v stamps) (stands_seen v stamps mask) 0 (length mask) (λ i low high. refl)))

-- ---- main

each-same : {X : Type 0} (f g : ℕ → X) (xs : List ℕ) → All (λ i. f i ≡ g i) xs → map f xs ≡ map g xs
each-same f g [] h = refl
each-same f g (x ∷ xs) h = λ i. All-head (λ y. f y ≡ g y) x xs h i ∷ each-same f g xs (All-tail (λ y. f y ≡ g y) x xs h) i

-- no rows, no codes
pub tallies-none : (main : MainValue) (column : ℕ) (counts : List ℕ) → ((code : ℕ) → get_or counts code 0 ≡ 0) → Tallies main column [] counts
tallies-none main column counts none = record { codes = []; keys = refl; each = none }

-- one part more
module _ (main : MainValue) (column p : ℕ) (part : PartValue) (at : IsPartOf main p part) (wide : column < main.width) where
  -- the key of a code is that of its row
  one-key : (i : ℕ) → i < length part.rows → slice_get (keys_in main column) (code_at part i column) ≡ Some (key_in main column (Main p i))
  one-key i lt =
      let code = code-main main p part column i at wide lt in
      slice_get-get_or (keys_in main column) (code_at part i column) [] code.0
      ∙ ap Some (code.1 ∙ ap (λ (rows : List KeyRow). key_in (record { width = main.width; parts = rows ∷ [] }) column (Main 0 i)) at.rows)

  pub tallies-more : (v : Snapshot) (coded : List CodedPred) (stamps : List Stamp) (found more : List Found) (old new : List ℕ) → Tallies main column found old → AreMore (seen_codes v part column stamps (held_places coded part)) old new
      → map (found_at (Main p) part.rows) (filter (is_seen v stamps) (held_places coded part)) ≡ more → Tallies main column (found ++ more) new
  tallies-more v coded stamps found more old new so_far one is =
      let places = filter (is_seen v stamps) (held_places coded part) in
      let code = λ (i : ℕ). code_at part i column in
      let read = slice_get (keys_in main column) in
      let key = λ (f : Found). Some (key_in main column f.place) in
      let none : 0 + length part.rows ≡ length part.rows = omega arith in
      let inside = All-filter (is_seen v stamps) (λ i. i < length part.rows) (held_places coded part) (All-filter (is_held coded part) (λ i. i < length part.rows) (all_places part.rows) (subst (λ n. All (λ i. i < n) (all_places part.rows)) none (range-within 0 (length part.rows)))) in
      record {
        codes = so_far.codes ++ map code places;
        keys = map-append read so_far.codes (map code places)
            ∙ (λ i. so_far.keys i ++ (map-map read code places ∙ each-same (λ j. read (code j)) (λ j. key (found_at (Main p) part.rows j)) places (λ k d lt. one-key (get_or places k d) (inside k d lt)) ∙ sym (map-map key (found_at (Main p) part.rows) places) ∙ ap (map key) is) i)
            ∙ sym (map-append key found more);
        each = λ k. omega (arith, so_far.each k, one.each k, sum_by-append (λ x. cond (nat_eq k x) 1 0) so_far.codes (map code places));
      }

  -- there is room for a part's codes
  pub room-for : (counts : List ℕ) → length counts ≡ length (keys_in main column) → ((code : ℕ) → get_or counts code 0 ≤ sum_by (λ (rows : List KeyRow). length rows) (take p main.parts)) → rows_in main ≤ 2147483647 → HasRoom part column counts
  room-for counts size few all =
      let r = keys-first main p part column at wide in
      record {
        codes = omega (arith, size, ap length r.1, length-append (part_keys part column) r.0);
        few = λ k. omega (arith, few k, all, ap length at.rows, sum_by_more (λ (rows : List KeyRow). length rows) main.parts p [] at.there, sum_by-take-le (λ (rows : List KeyRow). length rows) main.parts (p + 1));
      }

  -- and no count is above the rows so far
  pub few-more : (v : Snapshot) (coded : List CodedPred) (stamps : List Stamp) (old new : List ℕ) → AreMore (seen_codes v part column stamps (held_places coded part)) old new
      → ((code : ℕ) → get_or old code 0 ≤ sum_by (λ (rows : List KeyRow). length rows) (take p main.parts)) → (code : ℕ) → get_or new code 0 ≤ sum_by (λ (rows : List KeyRow). length rows) (take (p + 1) main.parts)
  few-more v coded stamps old new one few k =
      let held = held_places coded part in
      let places = filter (is_seen v stamps) held in
      omega (
        arith,
        few k,
        more-few (seen_codes v part column stamps held) old new k one,
        length-map places (λ (i : ℕ). code_at part i column),
        length-filter (is_seen v stamps) held,
        count_by-le-length (is_seen v stamps) held,
        length-filter (is_held coded part) (all_places part.rows),
        count_by-le-length (is_held coded part) (all_places part.rows),
        length-range_with_len 0 (length part.rows),
        ap length at.rows,
        sum_by_more (λ (rows : List KeyRow). length rows) main.parts p [] at.there,
      )
