-- A merge ends: the old places of the new part are those that it keeps, in the order of its kind, and the rows stand there as before.
use Rattle.std.proofs.Common.{◌≡◌, ◌≢◌, ℕ, zero, suc, ◌+◌, ◌<◌, ◌≤◌, Bool, true, false, cond, List, [], ◌∷◌, ◌++◌, length, map, take, drop, get_or, Option, None, Some, unwrap_or, All, refl, sym, ◌∙◌, ap, subst, arith, length-append, lt-ltb, le-ltb}
use Rattle.std.specs.Prelude.{slice_get, IsSome}
use Rattle.std.specs.Option.{option_map}
use Rattle.std.specs.List.{range_with_len, Contains}
use Rattle.std.specs.List.Sorted.{IsPermutation}
use Rattle.std.proofs.lemmas.List.{length-map, length-drop, length-take-le, map-append, get_or-map}
use Rattle.std.proofs.lemmas.Option.{slice_get-get_or}
use Rattle.std.proofs.lemmas.List.Sorted.{IsPermutation-map, IsPermutation-sym, Contains-permutation}
use Rattle.std.proofs.lemmas.List.Elements.{All-nil, All-cons, All-push, All-take, Contains-get_or}
use Rattle.ut_value.specs.declared.entry.MergeKind.{MergeKind}
use Rattle.ut_value.specs.declared.entry.MergeKind.TheVariants as kinds
use Rattle.ut_plain.specs.declared.stage.Placed.{Placed}
use Rattle.ut_plain.specs.Merges.{staying, arranged, flagged, flagged_all, rebuilt}
use Rattle.ut_plain.specs.Merges as plain
use Rattle.ut_stamps.specs.declared.visibility.Stamp.{Stamp}
use Rattle.ut_stamps.specs.declared.place.Place.{Place}
use Rattle.ut_stamps.specs.declared.place.Place.TheVariants.{Closed, Main}
use Rattle.ut_stamps.specs.StampLists.{StampLists, stamp_at, IsPlace}
use Rattle.ut_exact.specs.Places.{StagedRow}
use Rattle.ut_l2.specs.KeyRows.{KeyRow, no_row}
use Rattle.ut_main.specs.Parts.{MainValue}
use Rattle.ut_merge.specs.declared.old.Old.{Old}
use Rattle.ut_merge.specs.declared.old.Old.TheVariants as olds
use Rattle.ut_merge.specs.Jobs.{JobValue, IsBuilt, stay_of, part_places, kept_olds, kept_rows, new_rows, row_of, main_of}
use Rattle.ut_merge.specs.Jobs as jobs
use Rattle.ut_merge.specs.Resorting.{resorted}
use Rattle.ut_staged.specs.Staged.{Staged, row_at, rows_at, placed_of, stages_of, stamped_row, switched}
use Rattle.ut_staged.specs.Staged as stages
use Rattle.ut_staged.specs.Choice.{kept_from, kept_lists, kept_places, place_of, AreFlags, IsDropped, IsChoice}
use Rattle.ut_staged.specs.Tables.{IsArranged}
use Rattle.ut_staged.proofs.KeptLemmas.{kept_choice}
use Rattle.ut_staged.proofs.OrderLemmas.{arranged_kept, flagged_all-map, staying-fits}
use Rattle.ut_staged.proofs.OrderLemmas as order
use Rattle.ut_staged.proofs.ListLemmas.{none_some, get-map, map-take, map-drop}
use Rattle.ut_staged.proofs.PermutedLemmas.{choice-permuted}
use Rattle.ut_table.specs.Decoded.{decoded_row}
use Rattle.ut_table.specs.Contents.{Contents, PendingValue, closed_rows, stamped_rows, held, held_parts, staged, job_in}
use Rattle.ut_table.specs.Kept.{IsHeld, IsTable}
use Rattle.ut_table.specs.Pending.{key_row, pending_job}
use Rattle.ut_table.specs.Places.{place_of_old}
use Rattle.ut_table.proofs.StampedLemmas.{held-length, held-keys, parts-length, parts-rebuilt}
use Rattle.ut_table.proofs.CloseLemmas.{parts-keys, pending-of}
use Rattle.ut_table.proofs.PlaceLemmas.{key_rows, key_row_at, read_at, number_of, closed-lengths, stamps-place, place-within, row-held, at-place}
use Rattle.ut_table.proofs.ResortedLemmas.{keys_of, resorted-by_keys}

-- ---- flags beside lists

-- the flagged places of a list whose places are these
flagged-from : (at : ℕ → Place) (i : ℕ) (flags : List Bool) → flagged (map at (range_with_len i (length flags))) flags ≡ kept_from at i flags
flagged-from at i [] = refl
flagged-from at i (f ∷ flags) = by f (ap (λ k. flagged (map at (range_with_len k (length flags))) flags) (let e : i + 1 ≡ suc i = omega arith in e) ∙ flagged-from at (suc i) flags)
  where
    by : (b : Bool) → flagged (map at (range_with_len (i + 1) (length flags))) flags ≡ kept_from at (suc i) flags → flagged (map at (range_with_len i (length (b ∷ flags)))) (b ∷ flags) ≡ kept_from at i (b ∷ flags)
    by true e = ap (λ l. at i ∷ l) e
    by false e = e

-- the places of lists, one behind the other
flagged-lists : (at : ℕ → ℕ → Place) (g : ℕ) (lists : List (List Place)) (keep : List (List Bool)) → length lists ≡ length keep
    → ((m : ℕ) → m < length keep → get_or lists m [] ≡ map (at (g + m)) (range_with_len 0 (length (get_or keep m [])))) → flagged_all lists keep ≡ kept_lists at g keep
flagged-lists at g [] [] same are = refl
flagged-lists at g [] (f ∷ keep) same are = absurd (omega arith)
flagged-lists at g (x ∷ lists) [] same are = absurd (omega arith)
flagged-lists at g (x ∷ lists) (f ∷ keep) same are =
    let first : flagged x f ≡ kept_from (at g) 0 f = let k : g + 0 ≡ g = omega arith in ap (λ l. flagged l f) (are 0 (omega arith) ∙ ap (λ n. map (at n) (range_with_len 0 (length f))) k) ∙ flagged-from (at g) 0 f in
    let rest : flagged_all lists keep ≡ kept_lists at (suc g) keep = flagged-lists at (suc g) lists keep (omega (arith, same)) (λ m lt. let k : g + suc m ≡ suc g + m = omega arith in are (suc m) (omega (arith, lt)) ∙ ap (λ n. map (at n) (range_with_len 0 (length (get_or keep m [])))) k) in
    λ i. first i ++ rest i

get-drop : {X : Type 0} (n : ℕ) (xs : List X) (m : ℕ) (d : X) → get_or (drop n xs) m d ≡ get_or xs (n + m) d
get-drop zero xs m d = let e : m ≡ 0 + m = omega arith in ap (λ k. get_or xs k d) e
get-drop (suc n) [] m d = refl
get-drop (suc n) (x ∷ xs) m d = let e : suc (n + m) ≡ suc n + m = omega arith in get-drop n xs m d ∙ ap (λ k. get_or (x ∷ xs) k d) e

-- ---- the places of a job

places-of_part : (p i n : ℕ) → map place_of_old (map (olds.Part p) (range_with_len i n)) ≡ map (Main p) (range_with_len i n)
places-of_part p i zero = refl
places-of_part p i (suc n) = ap (λ l. Main p i ∷ l) (places-of_part p (i + 1) n)

places-of_closed : (i n : ℕ) → map place_of_old (map olds.Closed (range_with_len i n)) ≡ map Closed (range_with_len i n)
places-of_closed i zero = refl
places-of_closed i (suc n) = ap (λ l. Closed i ∷ l) (places-of_closed (i + 1) n)

length-part_places : (p : ℕ) (parts : List (List KeyRow)) → length (part_places p parts) ≡ length parts
length-part_places p [] = refl
length-part_places p (r ∷ rs) = ap suc (length-part_places (suc p) rs)

-- list g of parts, the first of which has a number, and of the closed stage behind them
get-places : (n : ℕ) (parts : List (List KeyRow)) (closed : List KeyRow) (g : ℕ) → g < length (parts ++ closed ∷ [])
    → get_or (map (map place_of_old) (part_places n parts ++ map olds.Closed (range_with_len 0 (length closed)) ∷ [])) g []
    ≡ map (λ i. place_of (n + length parts) (n + g) i) (range_with_len 0 (length (get_or (parts ++ closed ∷ []) g [])))
get-places n [] closed zero lt =
    let e = sym (le-ltb (n + 0) (n + 0) (omega arith)) in
    places-of_closed 0 (length closed) ∙ (λ j. map (λ i. cond (e j) (Main (n + 0) i) (Closed i)) (range_with_len 0 (length closed)))
get-places n [] closed (suc g) lt = absurd (omega (arith, lt))
get-places n (r ∷ rs) closed zero lt =
    let e : n ≡ n + 0 = omega arith in
    let below = sym (lt-ltb (n + 0) (n + length (r ∷ rs)) (omega arith)) in
    places-of_part n 0 (length r) ∙ (λ j. map (Main (e j)) (range_with_len 0 (length r))) ∙ (λ j. map (λ i. cond (below j) (Main (n + 0) i) (Closed i)) (range_with_len 0 (length r)))
get-places n (r ∷ rs) closed (suc g) lt =
    get-places (suc n) rs closed g (omega (arith, lt))
    ∙ (let e : suc n + length rs ≡ n + length (r ∷ rs) = omega arith in let k : suc n + g ≡ n + suc g = omega arith in λ j. map (λ i. place_of (e j) (k j) i) (range_with_len 0 (length (get_or (rs ++ closed ∷ []) g []))))

placed-keys : (rows : List StagedRow) → map keys_of (map placed_of rows) ≡ map key_row rows
placed-keys [] = refl
placed-keys (r ∷ rs) = ap (λ l. key_row r ∷ l) (placed-keys rs)

placed-lists : (lists : List (List StagedRow)) → map (map keys_of) (map (map placed_of) lists) ≡ map (map key_row) lists
placed-lists [] = refl
placed-lists (r ∷ rs) = λ i. placed-keys r i ∷ placed-lists rs i

-- ---- one switch

module _ {t : Contents} (h : IsTable t) (p : PendingValue) (is : t.pending ≡ Some p) where
  abbrev job : JobValue
  job = job_in t p

  abbrev s : Staged
  s = staged t

  abbrev closed_list : List StagedRow
  closed_list = held t.columns p.closed.rows (unwrap_or t.stamps.closed [])

  pub parts-count : length s.parts ≡ length t.main.parts
  parts-count = parts-length t.columns t.main.parts t.stamps.parts h.stamped.parts

  closed-length : length closed_list ≡ length p.closed.rows
  closed-length = held-length t.columns p.closed.rows (unwrap_or t.stamps.closed []) (closed-lengths h ∙ ap (λ o. length (closed_rows o)) is)

  keep-is : s.keep ≡ p.keep
  keep-is = ap (λ (o : Option PendingValue). unwrap_or (option_map (λ (q : PendingValue). q.keep) o) []) is

  closed-is : s.closed ≡ Some closed_list
  closed-is = ap (option_map (λ (q : PendingValue). held t.columns q.closed.rows (unwrap_or t.stamps.closed []))) is

  sizes-of : (parts : List (List KeyRow)) (stamps : List (List Stamp)) → map length stamps ≡ map length parts → map length (held_parts t.columns parts stamps) ≡ map length parts
  sizes-of [] stamps e = refl
  sizes-of (r ∷ rs) [] e = absurd (omega (arith, ap length e))
  sizes-of (r ∷ rs) (l ∷ ls) e = λ i. held-length t.columns r l (ap (λ (x : List ℕ). get_or x 0 0) e) i ∷ sizes-of rs ls (ap (drop 1) e) i

  flags-are : AreFlags s
  flags-are = record {
    closed = closed_list;
    is_closed = closed-is;
    sizes = ap (map length) keep-is ∙ (h.job p is).flags ∙ map-append length t.main.parts (p.closed.rows ∷ [])
        ∙ sym (map-append length s.parts (closed_list ∷ []) ∙ (λ i. sizes-of t.main.parts t.stamps.parts h.stamped.parts i ++ closed-length i ∷ []));
  }

  stay-is : staying p.head.kind (length s.parts) ≡ stay_of job
  stay-is = ap (staying p.head.kind) parts-count

  stay-fits : stay_of job ≤ length t.main.parts
  stay-fits = staying-fits p.head.kind (length t.main.parts)

  -- the places that the job keeps are those of the stages
  kept-places : map place_of_old (kept_olds job) ≡ kept_places (staying p.head.kind (length s.parts)) s
  kept-places =
      let stay = stay_of job in
      let lists = part_places 0 t.main.parts ++ map olds.Closed (range_with_len 0 (length p.closed.rows)) ∷ [] in
      let count : length lists ≡ length t.main.parts + 1 = omega (arith, length-append (part_places 0 t.main.parts) (map olds.Closed (range_with_len 0 (length p.closed.rows)) ∷ []), length-part_places 0 t.main.parts) in
      let flags = (h.job p is).flags in
      let many : length p.keep ≡ length t.main.parts + 1 = omega (arith, sym (length-map p.keep length) ∙ ap length flags ∙ length-map (t.main.parts ++ p.closed.rows ∷ []) length, length-append t.main.parts (p.closed.rows ∷ [])) in
      sym (flagged_all-map place_of_old (rebuilt p.head.kind (part_places 0 t.main.parts) (map olds.Closed (range_with_len 0 (length p.closed.rows)))) (drop stay p.keep))
      ∙ ap (λ l. flagged_all l (drop stay p.keep)) (ap (λ n. map (map place_of_old) (drop (staying p.head.kind n) lists)) (length-part_places 0 t.main.parts) ∙ map-drop (map place_of_old) stay lists)
      ∙ flagged-lists (place_of (length t.main.parts)) stay (drop stay (map (map place_of_old) lists)) (drop stay p.keep)
      (omega (arith, length-drop stay (map (map place_of_old) lists), length-drop stay p.keep, length-map lists (map place_of_old), count, many))
      (λ m lt.
      let small : stay + m < length t.main.parts + 1 = omega (arith, lt, length-drop stay p.keep, many) in
      let within : stay + m < length (t.main.parts ++ p.closed.rows ∷ []) = omega (arith, small, length-append t.main.parts (p.closed.rows ∷ [])) in
      let zero_parts : 0 + length t.main.parts ≡ length t.main.parts = omega arith in
      let zero_list : 0 + (stay + m) ≡ stay + m = omega arith in
      get-drop stay (map (map place_of_old) lists) m []
      ∙ get-places 0 t.main.parts p.closed.rows (stay + m) within
      ∙ (λ j. map (λ i. place_of (zero_parts j) (zero_list j) i) (range_with_len 0 (size-at (stay + m) within j)))
      ∙ ap (λ (l : List Bool). map (place_of (length t.main.parts) (stay + m)) (range_with_len 0 (length l))) (sym (get-drop stay p.keep m [])))
      ∙ sym (λ j. kept_lists (place_of (parts-count j)) (stay-is j) (drop (stay-is j) (keep-is j)))
    where
      size-at : (g : ℕ) → g < length (t.main.parts ++ p.closed.rows ∷ []) → length (get_or (t.main.parts ++ p.closed.rows ∷ []) g []) ≡ length (get_or p.keep g [])
      size-at g lt =
          let flags = (h.job p is).flags in
          let same : length p.keep ≡ length (t.main.parts ++ p.closed.rows ∷ []) = sym (length-map p.keep length) ∙ ap length flags ∙ length-map (t.main.parts ++ p.closed.rows ∷ []) length in
          sym (get_or-map length (t.main.parts ++ p.closed.rows ∷ []) g [] 0 lt) ∙ ap (λ (l : List ℕ). get_or l g 0) (sym flags) ∙ get_or-map length p.keep g [] 0 (omega (arith, lt, same))

  -- ---- the kept rows by their keys

  stages-lists : map (map keys_of) (rebuilt p.head.kind (stages_of s).parts (unwrap_or (stages_of s).closed [])) ≡ rebuilt p.head.kind t.main.parts p.closed.rows
  stages-lists =
      let n = staying p.head.kind (length (stages_of s).parts) in
      let n_is : staying p.head.kind (length (stages_of s).parts) ≡ stay_of job = ap (staying p.head.kind) (length-map s.parts (map placed_of)) ∙ stay-is in
      let closed : map keys_of (unwrap_or (stages_of s).closed []) ≡ p.closed.rows =
      ap (λ (o : Option (List StagedRow)). map keys_of (unwrap_or (option_map (map placed_of) o) [])) closed-is ∙ placed-keys closed_list
      ∙ held-keys t.columns p.closed.rows (unwrap_or t.stamps.closed []) (subst (λ o. All (IsHeld t.columns) (closed_rows o)) is h.rows.closed) (closed-lengths h ∙ ap (λ o. length (closed_rows o)) is) in
      map-drop (map keys_of) n ((stages_of s).parts ++ unwrap_or (stages_of s).closed [] ∷ [])
      ∙ ap (drop n) (map-append (map keys_of) (stages_of s).parts (unwrap_or (stages_of s).closed [] ∷ []) ∙ (λ i. (placed-lists s.parts ∙ parts-keys h) i ++ closed i ∷ []))
      ∙ (λ i. drop (n_is i) (t.main.parts ++ p.closed.rows ∷ []))

  abbrev kept_list : List Placed
  kept_list = flagged_all (rebuilt p.head.kind (stages_of s).parts (unwrap_or (stages_of s).closed [])) (drop (staying p.head.kind (length s.parts)) s.keep)

  kept-keys : map keys_of kept_list ≡ kept_rows job
  kept-keys =
      sym (flagged_all-map keys_of (rebuilt p.head.kind (stages_of s).parts (unwrap_or (stages_of s).closed [])) (drop (staying p.head.kind (length s.parts)) s.keep))
      ∙ (λ i. flagged_all (stages-lists i) (drop (stay-is i) (keep-is i)))

  row-is : (o : Old) → row_of job o ≡ key_row_at t (place_of_old o)
  row-is (olds.Part q i) = refl
  row-is (olds.Closed i) = ap (λ o. get_or (closed_rows o) i no_row) (sym is)

  -- old places at which a row stands
  abbrev StandAt : List Old → Type 0
  StandAt list = (i : ℕ) (o : Old) → slice_get list i ≡ Some o → number_of (place_of_old o) < length (key_rows t (place_of_old o))

  first-at : (o : Old) (list : List Old) → StandAt (o ∷ list) → number_of (place_of_old o) < length (key_rows t (place_of_old o))
  first-at o list there = there 0 o refl

  row-at : (o : Old) → number_of (place_of_old o) < length (key_rows t (place_of_old o)) → unwrap_or (row_at s (place_of_old o)) stages.no_row ≡ read_at t (place_of_old o)
  row-at o lt = ap (λ r. unwrap_or r stages.no_row) (at-place h (place_of_old o) lt)

  -- the rows of a new part, with the stamps that they have now
  moved-rows : (list : List Old) → StandAt list → held t.columns (map (row_of job) list) (map (λ o. stamp_at t.stamps (place_of_old o)) list) ≡ rows_at s (map place_of_old list)
  moved-rows [] there = refl
  moved-rows (o ∷ list) there =
      let e = row-is o in
      let first = (λ i. stamped_row (stamp_at t.stamps (place_of_old o)) (decoded_row t.columns (e i))) ∙ sym (row-at o (first-at o list there)) in
      λ i. first i ∷ moved-rows list (λ k q at. there (suc k) q at) i

  moved-keys : (list : List Old) → StandAt list → map keys_of (map placed_of (rows_at s (map place_of_old list))) ≡ map (row_of job) list
  moved-keys [] there = refl
  moved-keys (o ∷ list) there =
      let lt = first-at o list there in
      let first = ap (λ (r : StagedRow). keys_of (placed_of r)) (row-at o lt) ∙ (row-held h (place_of_old o) lt).keys ∙ sym (row-is o) in
      λ i. first i ∷ moved-keys list (λ k q at. there (suc k) q at) i

  moved-held : (list : List Old) → StandAt list → All (IsHeld t.columns) (map (row_of job) list)
  moved-held [] there = All-nil (IsHeld t.columns)
  moved-held (o ∷ list) there =
      All-cons (IsHeld t.columns) (row_of job o) (map (row_of job) list) (subst (IsHeld t.columns) (sym (row-is o)) (row-held h (place_of_old o) (first-at o list there))) (moved-held list (λ k q at. there (suc k) q at))

  -- ---- what was built

  module _ (old : List Old) (chosen : IsPermutation (kept_olds job) old) (rows : map (row_of job) old ≡ new_rows job) (in_place : p.head.kind ≢ kinds.Resort → old ≡ kept_olds job) where
    moved : IsPermutation (kept_places (staying p.head.kind (length s.parts)) s) (map place_of_old old)
    moved = subst (λ l. IsPermutation l (map place_of_old old)) kept-places (IsPermutation-map place_of_old (kept_olds job) old chosen)

    choice : IsChoice (staying p.head.kind (length s.parts)) s (IsDropped s) (map place_of_old old)
    choice = choice-permuted (staying p.head.kind (length s.parts)) s (IsDropped s) (kept_places (staying p.head.kind (length s.parts)) s) (map place_of_old old) moved
        (kept_choice s flags-are (staying p.head.kind (length s.parts)) (omega (arith, stay-is, stay-fits, parts-count)))

    stand : StandAt old
    stand i o at =
        let r = choice.there i (place_of_old o) (get-map place_of_old old i o at) in
        place-within h (place_of_old o) (subst IsSome (sym r.1) refl)

    as-before : ((places : List Placed) → arranged p.head.kind places ≡ places) → p.head.kind ≢ kinds.Resort → IsArranged p.head.kind s (map place_of_old old)
    as-before plain_order other = subst (IsArranged p.head.kind s) (sym (ap (map place_of_old) (in_place other) ∙ kept-places)) (arranged_kept p.head.kind s flags-are plain_order)

    all-kept : All (Contains kept_list) (map placed_of (rows_at s (map place_of_old old)))
    all-kept = λ k d lt.
        let news = map placed_of (rows_at s (map place_of_old old)) in
        let places = kept_places (staying p.head.kind (length s.parts)) s in
        let same : IsPermutation (map placed_of (rows_at s places)) news = IsPermutation-map placed_of (rows_at s places) (rows_at s (map place_of_old old)) (IsPermutation-map (λ q. unwrap_or (row_at s q) stages.no_row) places (map place_of_old old) moved) in
        subst (λ l. Contains l (get_or news k d)) (order.kept_rows p.head.kind s flags-are)
        (Contains-permutation news (map placed_of (rows_at s places)) (get_or news k d) (IsPermutation-sym (map placed_of (rows_at s places)) news same) (Contains-get_or news k d lt))

    in-order : (k : MergeKind) → p.head.kind ≡ k → IsArranged p.head.kind s (map place_of_old old)
    in-order kinds.Classic e = as-before (λ l. ap (λ k. arranged k l) e) (λ r. absurd (differ (sym e ∙ r)))
      where
        differ : kinds.Classic ≡ kinds.Resort → ⊥
        differ d = cc
    in-order kinds.Resort e = record { choice = choice; order = sorted ∙ sym (ap (λ k. arranged k kept_list) e) }
      where
        sorted : map placed_of (rows_at s (map place_of_old old)) ≡ plain.resorted kept_list
        sorted = resorted-by_keys kept_list (map placed_of (rows_at s (map place_of_old old)))
            (subst jobs.HaveOwnIds (sym kept-keys) ((h.job p is).differ e))
            (moved-keys old stand ∙ rows ∙ ap (λ k. jobs.arranged k (kept_rows job)) e ∙ ap resorted (sym kept-keys)) all-kept
    in-order kinds.Partial e = as-before (λ l. ap (λ k. arranged k l) e) (λ r. absurd (differ (sym e ∙ r)))
      where
        differ : kinds.Partial ≡ kinds.Resort → ⊥
        differ d = cc
    in-order kinds.Extend e = as-before (λ l. ap (λ k. arranged k l) e) (λ r. absurd (differ (sym e ∙ r)))
      where
        differ : kinds.Extend ≡ kinds.Resort → ⊥
        differ d = cc

    pub arranged-is : IsArranged p.head.kind s (map place_of_old old)
    arranged-is = in-order p.head.kind refl

    -- the table behind the switch
    module _ (new : MainValue) (news : StampLists) (list : List Stamp) (stay : ℕ) (stays : stay ≡ stay_of job) (main_is : new ≡ main_of job) (stamps_are : list ≡ map (λ o. stamp_at t.stamps (place_of_old o)) old)
        (news_are : news ≡ record t.stamps { closed = None; parts = take stay t.stamps.parts ++ list ∷ [] }) where
      abbrev pub ended : Contents
      ended = record t { main = new; pending = None; stamps = news }

      kept_lists-are : held t.columns (new_rows job) list ≡ rows_at s (map place_of_old old)
      kept_lists-are = (λ i. held t.columns (sym rows i) (stamps_are i)) ∙ moved-rows old stand

      parts-are : held_parts t.columns new.parts news.parts ≡ take (staying p.head.kind (length s.parts)) s.parts ++ rows_at s (map place_of_old old) ∷ []
      parts-are =
          (λ i. held_parts t.columns (main_is i).parts (ap (λ (x : StampLists). x.parts) news_are i))
          ∙ (λ i. held_parts t.columns (take (stay_of job) t.main.parts ++ new_rows job ∷ []) (take (stays i) t.stamps.parts ++ list ∷ []))
          ∙ parts-rebuilt t.columns (stay_of job) t.main.parts t.stamps.parts (new_rows job) list h.stamped.parts
          ∙ (λ i. take (sym stay-is i) s.parts ++ kept_lists-are i ∷ [])

      pub ended-stages : staged ended ≡ switched (staying p.head.kind (length s.parts)) (map place_of_old old) s
      ended-stages = λ i. record {
        columns = t.columns;
        l1 = stamped_rows t.l1 (news_are i).l1.items;
        l2 = held t.columns t.l2.rows (news_are i).l2.items;
        closed = None;
        parts = parts-are i;
        keep = [];
        merge = None;
      }

      sizes-are : map length news.parts ≡ map length new.parts
      sizes-are =
          ap (λ (x : StampLists). map length x.parts) news_are ∙ map-append length (take stay t.stamps.parts) (list ∷ [])
          ∙ (λ i. (map-take length stay t.stamps.parts ∙ ap (take stay) h.stamped.parts ∙ (λ j. take (stays j) (map length t.main.parts)) ∙ sym (map-take length (stay_of job) t.main.parts)) i ++ count i ∷ [])
          ∙ sym (ap (λ (x : MainValue). map length x.parts) main_is ∙ map-append length (take (stay_of job) t.main.parts) (new_rows job ∷ []))
        where
          count : length list ≡ length (new_rows job)
          count = ap length stamps_are ∙ length-map old (λ o. stamp_at t.stamps (place_of_old o)) ∙ sym (ap length (sym rows) ∙ length-map old (row_of job))

      pub ended-kept : IsTable ended
      ended-kept = record {
        rows = record {
          narrow = h.rows.narrow;
          l1 = h.rows.l1;
          l2_wide = h.rows.l2_wide;
          l2 = h.rows.l2;
          closed_wide = λ q e. absurd (none_some q e);
          closed = All-nil (IsHeld t.columns);
          main_wide = ap (λ (x : MainValue). x.width) main_is ∙ h.rows.main_wide;
          parts = subst (λ (x : MainValue). All (All (IsHeld t.columns)) x.parts) (sym main_is)
              (All-push (All (IsHeld t.columns)) (take (stay_of job) t.main.parts) (new_rows job) (All-take (All (IsHeld t.columns)) (stay_of job) t.main.parts h.rows.parts) (subst (All (IsHeld t.columns)) rows (moved-held old stand)));
        };
        stamped = record {
          l1 = ap (λ (x : StampLists). length x.l1.items) news_are ∙ h.stamped.l1;
          l2 = ap (λ (x : StampLists). length x.l2.items) news_are ∙ h.stamped.l2;
          closed = ap (λ (x : StampLists). option_map length x.closed) news_are;
          parts = sizes-are;
        };
        job = λ q e. absurd (none_some q e);
        few = omega (arith, h.few);
      }

-- ---- by what was built of the pending job

module _ {t : Contents} (h : IsTable t) (b : JobValue) (pending : pending_job (staged t) ≡ Some b) (main : MainValue) (old : List Old) (built : IsBuilt b main old) where
  of : (p : PendingValue) × (t.pending ≡ Some p) × (job_in t p ≡ b)
  of = pending-of h b pending

  built_of : IsBuilt (job_in t of.0) main old
  built_of = subst (λ j. IsBuilt j main old) (sym of.2) built

  stamps-count : length t.stamps.parts ≡ length t.main.parts
  stamps-count = sym (length-map t.stamps.parts length) ∙ ap length h.stamped.parts ∙ length-map t.main.parts length

  pub parts-behind : length main.parts ≡ stay_of b + 1
  parts-behind =
      let stay = stay_of (job_in t of.0) in
      ap (λ (x : MainValue). length x.parts) built_of.main_is ∙ length-append (take stay t.main.parts) (new_rows (job_in t of.0) ∷ [])
      ∙ ap (λ n. n + 1) (length-take-le stay t.main.parts (stay-fits h of.0 of.1)) ∙ ap (λ j. stay_of j + 1) of.2

  pub stays-within : stay_of b ≤ length t.stamps.parts
  stays-within = omega (arith, stay-fits h of.0 of.1, ap stay_of of.2, stamps-count)

  pub old-places : All (λ (o : Old). IsPlace t.stamps (place_of_old o)) old
  old-places = λ k d lt. stamps-place h (place_of_old (get_or old k d)) (stand h of.0 of.1 old built_of.places built_of.rows built_of.in_place k (get_or old k d) (slice_get-get_or old k d lt))

  module _ (news : StampLists) (list : List Stamp) (stay : ℕ) (stays : stay ≡ stay_of b) (stamps_are : list ≡ map (λ o. stamp_at t.stamps (place_of_old o)) old)
      (news_are : news ≡ record t.stamps { closed = None; parts = take stay t.stamps.parts ++ list ∷ [] }) where
    pub switched-table : IsTable (record t { main = main; pending = None; stamps = news })
    switched-table = ended-kept h of.0 of.1 old built_of.places built_of.rows built_of.in_place main news list stay (stays ∙ sym (ap stay_of of.2)) built_of.main_is stamps_are news_are

    pub switched-stages : (places : List Place) × IsArranged b.head.kind (staged t) places
        × (staged (record t { main = main; pending = None; stamps = news }) ≡ switched (staying b.head.kind (length (staged t).parts)) places (staged t))
    switched-stages =
        let places = map place_of_old old in
        let kinds_are : (of.0).head.kind ≡ b.head.kind = ap (λ (j : JobValue). j.head.kind) of.2 in (
          places,
          subst (λ k. IsArranged k (staged t) places) kinds_are (arranged-is h of.0 of.1 old built_of.places built_of.rows built_of.in_place),
          ended-stages h of.0 of.1 old built_of.places built_of.rows built_of.in_place main news list stay (stays ∙ sym (ap stay_of of.2)) built_of.main_is stamps_are news_are
              ∙ ap (λ k. switched (staying k (length (staged t).parts)) places (staged t)) kinds_are,
        )
