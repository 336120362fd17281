-- What is kept of lists with a flag for each element, and the rows at the places that are kept.
use Rattle.std.proofs.Common.{◌≡◌, inl, inr, ℕ, zero, suc, ◌+◌, ◌<◌, ◌≤◌, Bool, true, false, cond, nat_lt, List, [], ◌∷◌, ◌++◌, length, map, drop, get_or, take, All, IsTrue, refl, sym, ap, ◌∙◌, subst, arith}
use Rattle.std.specs.List.{range_with_len, sum_by}
use Rattle.std.proofs.lemmas.Bool.{cases_lt, lt-ltb, le-ltb, ltb-true}
use Rattle.std.proofs.lemmas.List.{append_assoc, map-append, get_or-map, length-map, length-append, drop-map, get_or_at, get_or_append_left, get_or_default, get_or-drop, length-drop, take-append-le, drop_more, length_push}
use Rattle.std.proofs.lemmas.List.Elements.{All-nil, All-cons, All-head, All-tail, All-append, All-map}
use Rattle.std.proofs.lemmas.List.FromFn.{fill_by_all, length-range_with_len, get_or-range_with_len, length-map-range_with_len, get_or-map-range_with_len}
use Rattle.std.proofs.lemmas.List.Sums.{sum_by-cons, sum_by-take-drop, sum_by-append}
use Rattle.ut_value.specs.declared.entry.MergeKind.{MergeKind}
use Rattle.ut_value.specs.declared.entry.MergeKind.TheVariants.{Classic, Resort, Partial, Extend}
use Rattle.ut_plain.specs.Merges.{flagged, flagged_all, rebuilt, staying, staying_partly, has_part_room}
use Rattle.ut_l2.specs.KeyRows.{KeyRow, no_row}
use Rattle.ut_l2.proofs.DeltaLemmas.{map-map}
use Rattle.ut_main.specs.Parts.{AreWide}
use Rattle.ut_merge.specs.declared.old.Old.{Old}
use Rattle.ut_merge.specs.declared.old.Old.TheVariants.{Part, Closed}
use Rattle.ut_merge.specs.Jobs.{JobValue, kept_of, kept_olds, kept_rows, part_places, row_of, stay_of, IsJob}
use Rattle.ut_merge.specs.Places.{list_at, old_in, old_lists, places_in_list, IsOld}

-- ---- what is made of each element

pub map-flagged : {X Y : Type 0} (f : X → Y) (xs : List X) (flags : List Bool) → map f (flagged xs flags) ≡ flagged (map f xs) flags
map-flagged f [] flags = refl
map-flagged f (x ∷ xs) [] = refl
map-flagged f (x ∷ xs) (true ∷ flags) = ap (λ l. f x ∷ l) (map-flagged f xs flags)
map-flagged f (x ∷ xs) (false ∷ flags) = map-flagged f xs flags

pub map-flagged_all : {X Y : Type 0} (f : X → Y) (lists : List (List X)) (keep : List (List Bool)) → map f (flagged_all lists keep) ≡ flagged_all (map (map f) lists) keep
map-flagged_all f [] keep = refl
map-flagged_all f (xs ∷ lists) [] = refl
map-flagged_all f (xs ∷ lists) (flags ∷ keep) = map-append f (flagged xs flags) (flagged_all lists keep) ∙ (λ i. map-flagged f xs flags i ++ map-flagged_all f lists keep i)

pub map-kept : {X Y : Type 0} (f : X → Y) (job : JobValue) (parts : List (List X)) (closed : List X) → map f (kept_of job parts closed) ≡ kept_of job (map (map f) parts) (map f closed)
map-kept f job parts closed =
    let s = staying job.head.kind (length parts) in
    let keep = drop (stay_of job) job.keep in
    map-flagged_all f (rebuilt job.head.kind parts closed) keep
    ∙ ap (λ l. flagged_all l keep) (sym (drop-map (map f) s (parts ++ closed ∷ [])) ∙ ap (drop s) (map-append (map f) parts (closed ∷ [])) ∙ ap (λ n. drop (staying job.head.kind n) (map (map f) parts ++ map f closed ∷ [])) (sym (length-map parts (map f))))

-- ---- rows at places

-- the elements at all places are the list
pub at_all : {X : Type 0} (xs : List X) (d : X) → map (λ i. get_or xs i d) (range_with_len 0 (length xs)) ≡ xs
at_all xs d = sym (fill_by_all (λ i. get_or xs i d) xs (length xs) d refl (λ k lt. refl))

pub length-part_places : (p : ℕ) (parts : List (List KeyRow)) → length (part_places p parts) ≡ length parts
length-part_places p [] = refl
length-part_places p (rows ∷ parts) = ap suc (length-part_places (suc p) parts)

module _ (job : JobValue) where
  part_rows : (p : ℕ) (rows : List KeyRow) → get_or job.parts p [] ≡ rows → map (row_of job) (map (Part p) (range_with_len 0 (length rows))) ≡ rows
  part_rows p rows e =
      map-map (row_of job) (Part p) (range_with_len 0 (length rows))
      ∙ ap (λ rs. map (λ i. get_or rs i no_row) (range_with_len 0 (length rows))) e ∙ at_all rows no_row

  parts_rows : (before parts : List (List KeyRow)) (p : ℕ) → job.parts ≡ before ++ parts → length before ≡ p → map (map (row_of job)) (part_places p parts) ≡ parts
  parts_rows before [] p e at = refl
  parts_rows before (rows ∷ parts) p e at =
      let here = part_rows p rows (ap (λ ps. get_or ps p []) e ∙ get_or_at before rows parts [] p at) in
      let rest = parts_rows (before ++ rows ∷ []) parts (suc p) (e ∙ sym (append_assoc before (rows ∷ []) parts)) (grind (arith, length_push)) in
      λ i. here i ∷ rest i

  -- the rows at the places that are kept are the rows that are kept
  pub rows-olds : map (row_of job) (kept_olds job) ≡ kept_rows job
  rows-olds =
      map-kept (row_of job) job (part_places 0 job.parts) (map Closed (range_with_len 0 (length job.closed)))
      ∙ (λ i. kept_of job (parts_rows [] job.parts 0 refl refl i) (closed_rows i))
    where
      closed_rows : map (row_of job) (map Closed (range_with_len 0 (length job.closed))) ≡ job.closed
      closed_rows = map-map (row_of job) Closed (range_with_len 0 (length job.closed)) ∙ at_all job.closed no_row

-- ---- one list after the other

pub flagged-more : {X : Type 0} (xs : List X) (flags : List Bool) (i : ℕ) (d : X) → i < length xs → i < length flags
    → flagged (drop i xs) (drop i flags) ≡ cond (get_or flags i false) (get_or xs i d ∷ flagged (drop (i + 1) xs) (drop (i + 1) flags)) (flagged (drop (i + 1) xs) (drop (i + 1) flags))
flagged-more xs flags i d a b = λ k. flagged (drop_more xs i d a k) (drop_more flags i false b k)

pub flagged_all-more : {X : Type 0} (lists : List (List X)) (keep : List (List Bool)) (g : ℕ) → g < length lists → g < length keep
    → flagged_all (drop g lists) (drop g keep) ≡ flagged (get_or lists g []) (get_or keep g []) ++ flagged_all (drop (g + 1) lists) (drop (g + 1) keep)
flagged_all-more lists keep g a b = λ k. flagged_all (drop_more lists g [] a k) (drop_more keep g [] b k)

get-part_places : (p g : ℕ) (parts : List (List KeyRow)) → g < length parts → get_or (part_places p parts) g [] ≡ map (Part (p + g)) (range_with_len 0 (length (get_or parts g [])))
get-part_places p g [] lt = absurd (omega arith)
get-part_places p zero (rows ∷ parts) lt = let e : p ≡ p + 0 = omega arith in ap (λ n. map (Part n) (range_with_len 0 (length rows))) e
get-part_places p (suc g) (rows ∷ parts) lt =
    let e : suc p + g ≡ p + suc g = omega arith in
    get-part_places (suc p) g parts (omega arith) ∙ ap (λ n. map (Part n) (range_with_len 0 (length (get_or parts g [])))) e

module _ (job : JobValue) where
  pub length-lists : length (old_lists job) ≡ length job.parts + 1
  length-lists = length-append (part_places 0 job.parts) (map Closed (range_with_len 0 (length job.closed)) ∷ []) ∙ ap (λ n. n + 1) (length-part_places 0 job.parts)

  pub olds-lists : kept_olds job ≡ flagged_all (drop (stay_of job) (old_lists job)) (drop (stay_of job) job.keep)
  olds-lists = ap (λ n. flagged_all (drop (staying job.head.kind n) (old_lists job)) (drop (stay_of job) job.keep)) (length-part_places 0 job.parts)

  pub get-lists : (g : ℕ) → g ≤ length job.parts → get_or (old_lists job) g [] ≡ places_in_list job g
  get-lists g le = elim (cases_lt g (length job.parts)) [
    | inl lt ↦
        let n = length-part_places 0 job.parts in
        let part : nat_lt g (length job.parts) ≡ true = lt-ltb g (length job.parts) lt in
        let zero_g : 0 + g ≡ g = omega arith in
        get_or_append_left (part_places 0 job.parts) (map Closed (range_with_len 0 (length job.closed)) ∷ []) [] g (omega (arith, n, lt))
        ∙ get-part_places 0 g job.parts lt ∙ ap (λ k. map (Part k) (range_with_len 0 (length (get_or job.parts g [])))) zero_g
        ∙ (λ i. map (λ k. cond (sym part i) (Part g k) (Closed k)) (range_with_len 0 (length (sym (get_or_append_left job.parts (job.closed ∷ []) [] g lt) i))))
    | inr ge ↦
        let n = length-part_places 0 job.parts in
        let same : length job.parts ≡ g = omega (arith, le, ge) in
        let closed : nat_lt g (length job.parts) ≡ false = le-ltb g (length job.parts) ge in
        get_or_at (part_places 0 job.parts) (map Closed (range_with_len 0 (length job.closed))) [] [] g (n ∙ same)
        ∙ (λ i. map (λ k. cond (sym closed i) (Part g k) (Closed k)) (range_with_len 0 (length (sym (get_or_at job.parts job.closed [] [] g same) i))))
  ]

-- one element more, where its flag is set
pub kept-more : {X : Type 0} (xs : List X) (flags : List Bool) (i : ℕ) (d : X) (old new whole : List X) → i < length xs → i < length flags
    → old ++ flagged (drop i xs) (drop i flags) ≡ whole → new ≡ old ++ cond (get_or flags i false) (get_or xs i d ∷ []) [] → new ++ flagged (drop (i + 1) xs) (drop (i + 1) flags) ≡ whole
kept-more xs flags i d old new whole a b h e =
    ap (λ l. l ++ flagged (drop (i + 1) xs) (drop (i + 1) flags)) e
    ∙ append_assoc old (cond (get_or flags i false) (get_or xs i d ∷ []) []) (flagged (drop (i + 1) xs) (drop (i + 1) flags))
    ∙ ap (λ l. old ++ l) (by (get_or flags i false) ∙ sym (flagged-more xs flags i d a b)) ∙ h
  where
    by : (f : Bool) → cond f (get_or xs i d ∷ []) [] ++ flagged (drop (i + 1) xs) (drop (i + 1) flags) ≡ cond f (get_or xs i d ∷ flagged (drop (i + 1) xs) (drop (i + 1) flags)) (flagged (drop (i + 1) xs) (drop (i + 1) flags))
    by true = refl
    by false = refl

-- ---- flags and places of a list

module _ (job : JobValue) where
  pub keep-count : IsJob job → length job.keep ≡ length job.parts + 1
  keep-count is =
      sym (length-map job.keep (λ (l : List Bool). length l)) ∙ ap (λ (l : List ℕ). length l) is.flags
      ∙ length-map (job.parts ++ job.closed ∷ []) (λ (l : List KeyRow). length l) ∙ length-append job.parts (job.closed ∷ [])

  pub keep-size : (g : ℕ) → IsJob job → g ≤ length job.parts → length (get_or job.keep g []) ≡ length (list_at job g)
  keep-size g is le =
      sym (get_or-map (λ (l : List Bool). length l) job.keep g [] 0 (omega (arith, le, keep-count is))) ∙ ap (λ (l : List ℕ). get_or l g 0) is.flags
      ∙ get_or-map (λ (l : List KeyRow). length l) (job.parts ++ job.closed ∷ []) g [] 0 (omega (arith, le, length-append job.parts (job.closed ∷ [])))

  pub places-size : (g : ℕ) → length (places_in_list job g) ≡ length (list_at job g)
  places-size g = length-map-range_with_len (old_in (length job.parts) g) 0 (length (list_at job g))

  pub place-at : (g i : ℕ) (d : Old) → i < length (list_at job g) → get_or (places_in_list job g) i d ≡ old_in (length job.parts) g i
  place-at g i d lt = get_or-map-range_with_len (old_in (length job.parts) g) 0 (length (list_at job g)) i i d lt (omega arith)

-- ---- what holds of each

All-flagged : {X : Type 0} (P : X → Type 0) (xs : List X) (flags : List Bool) → All P xs → All P (flagged xs flags)
All-flagged P [] flags all = All-nil P
All-flagged P (x ∷ xs) [] all = All-nil P
All-flagged P (x ∷ xs) (true ∷ flags) all = All-cons P x (flagged xs flags) (All-head P x xs all) (All-flagged P xs flags (All-tail P x xs all))
All-flagged P (x ∷ xs) (false ∷ flags) all = All-flagged P xs flags (All-tail P x xs all)

pub All-flagged_all : {X : Type 0} (P : X → Type 0) (lists : List (List X)) (keep : List (List Bool)) → All (λ xs. All P xs) lists → All P (flagged_all lists keep)
All-flagged_all P [] keep all = All-nil P
All-flagged_all P (xs ∷ lists) [] all = All-nil P
All-flagged_all P (xs ∷ lists) (flags ∷ keep) all =
    All-append P (flagged xs flags) (flagged_all lists keep) (All-flagged P xs flags (All-head (λ xs. All P xs) xs lists all))
    (All-flagged_all P lists keep (All-tail (λ xs. All P xs) xs lists all))

-- ---- how many there are

flagged-few : {X : Type 0} (xs : List X) (flags : List Bool) → length (flagged xs flags) ≤ length xs
flagged-few [] flags = omega arith
flagged-few (x ∷ xs) [] = omega arith
flagged-few (x ∷ xs) (true ∷ flags) = let more = flagged-few xs flags in omega (arith, more)
flagged-few (x ∷ xs) (false ∷ flags) = let more = flagged-few xs flags in omega (arith, more)

pub flagged_all-few : {X : Type 0} (lists : List (List X)) (keep : List (List Bool)) → length (flagged_all lists keep) ≤ sum_by length lists
flagged_all-few [] keep = omega arith
flagged_all-few (xs ∷ lists) [] = omega arith
flagged_all-few (xs ∷ lists) (flags ∷ keep) =
    let a = flagged-few xs flags in
    let b = flagged_all-few lists keep in
    omega (arith, a, b, length-append (flagged xs flags) (flagged_all lists keep), sum_by-cons length xs lists)

-- ---- the places and rows that are kept

-- what holds of each of the lists behind the first, so many, holds of what is kept of them
module _ {X : Type 0} where
  pub behind-first : (P : X → Type 0) (lists : List (List X)) (keep : List (List Bool)) (s n : ℕ) → length lists ≡ n + 1 → ((g : ℕ) → s ≤ g → g ≤ n → All P (get_or lists g [])) → All P (flagged_all (drop s lists) keep)
  behind-first P lists keep s n size each =
      All-flagged_all P (drop s lists) keep (λ k d lt.
      let long = length-drop s lists in
      let in_lists : s + k < length lists = omega (arith, lt, long) in
      subst (λ (xs : List X). All P xs) (get_or_default lists (s + k) [] d in_lists ∙ sym (get_or-drop s lists k d)) (each (s + k) (omega arith) (omega (arith, in_lists, size))))

module _ (job : JobValue) where
  list-places : (g : ℕ) → stay_of job ≤ g → g ≤ length job.parts → All (IsOld job) (places_in_list job g)
  list-places g le top =
      All-map (IsOld job) (old_in (length job.parts) g) (range_with_len 0 (length (list_at job g))) (λ k d lt.
      let long = length-range_with_len 0 (length (list_at job g)) in
      let e = get_or-range_with_len 0 (length (list_at job g)) k d (omega (arith, lt, long)) in
      let zero_k : 0 + k ≡ k = omega arith in
      subst (λ i. IsOld job (old_in (length job.parts) g i)) (sym (e ∙ zero_k)) (at k (omega (arith, lt, long))))
    where
      at : (i : ℕ) → i < length (list_at job g) → IsOld job (old_in (length job.parts) g i)
      at i lt = elim (cases_lt g (length job.parts)) [
        | inl part ↦
            let test : nat_lt g (length job.parts) ≡ true = lt-ltb g (length job.parts) part in
            let size = ap (λ (l : List KeyRow). length l) (get_or_append_left job.parts (job.closed ∷ []) [] g part) in
            subst (λ b. IsOld job (cond b (Part g i) (Closed i))) (sym test) (le, part, omega (arith, lt, size))
        | inr close ↦
            let test : nat_lt g (length job.parts) ≡ false = le-ltb g (length job.parts) close in
            let size = ap (λ (l : List KeyRow). length l) (get_or_at job.parts job.closed [] [] g (omega arith)) in
            subst (λ b. IsOld job (cond b (Part g i) (Closed i))) (sym test) (omega (arith, lt, size))
      ]

  -- each place that is kept is one of the lists that are rebuilt
  pub olds-are : All (IsOld job) (kept_olds job)
  olds-are =
      subst (λ (l : List Old). All (IsOld job) l) (sym (olds-lists job))
      (behind-first (IsOld job) (old_lists job) (drop (stay_of job) job.keep) (stay_of job) (length job.parts) (length-lists job) (λ g le top.
      subst (λ (l : List Old). All (IsOld job) l) (sym (get-lists job g top)) (list-places g le top)))

  pub kept-wide : ((g : ℕ) → stay_of job ≤ g → g ≤ length job.parts → AreWide job.width (list_at job g)) → AreWide job.width (kept_rows job)
  kept-wide each =
      behind-first (λ row. length row.keys ≡ job.width) (job.parts ++ job.closed ∷ []) (drop (stay_of job) job.keep) (stay_of job) (length job.parts)
      (length-append job.parts (job.closed ∷ [])) each

  -- the rows that stay and those that are kept are no more than all
  pub kept-few : IsJob job → stay_of job ≤ length job.parts → sum_by length (take (stay_of job) job.parts) + length (kept_rows job) ≤ 2147483647
  kept-few is le =
      let all = job.parts ++ job.closed ∷ [] in
      let kept = flagged_all-few (drop (stay_of job) all) (drop (stay_of job) job.keep) in
      let parts = sum_by-take-drop length (job.parts ++ job.closed ∷ []) (stay_of job) in
      let front = ap (λ (l : List (List KeyRow)). sum_by length l) (take-append-le (stay_of job) job.parts (job.closed ∷ []) le) in
      let sum = sum_by-append length job.parts (job.closed ∷ []) in
      let few = is.few in
      omega (arith, kept, parts, front, sum, few)

-- ---- how many parts stay

partly-le : (n : ℕ) → staying_partly n ≤ n
partly-le zero = omega arith
partly-le (suc zero) = omega arith
partly-le (suc (suc n)) = omega arith

partly-low : (n : ℕ) → n ≤ 8 → staying_partly n < 8
partly-low zero le = omega arith
partly-low (suc zero) le = omega arith
partly-low (suc (suc n)) le = omega arith

pub staying-le : (kind : MergeKind) (n : ℕ) → staying kind n ≤ n
staying-le Classic n = omega arith
staying-le Resort n = omega arith
staying-le Partial n = partly-le n
staying-le Extend n = omega arith

-- with the new part there are at most eight
pub staying-low : (kind : MergeKind) (n : ℕ) → n ≤ 8 → IsTrue (has_part_room kind n) → staying kind n < 8
staying-low Classic n le room = omega arith
staying-low Resort n le room = omega arith
staying-low Partial n le room = partly-low n le
staying-low Extend n le room = ltb-true n 8 room

-- ---- how many rows are kept

pub kept-low : (job : JobValue) → IsJob job → length (kept_rows job) ≤ 2147483647
kept-low job is = let few = kept-few job is (staying-le job.head.kind (length job.parts)) in omega (arith, few)

pub olds-low : (job : JobValue) → IsJob job → length (kept_olds job) ≤ 2147483647
olds-low job is = omega (arith, kept-low job is, ap (λ (l : List KeyRow). length l) (rows-olds job), length-map (kept_olds job) (row_of job))
