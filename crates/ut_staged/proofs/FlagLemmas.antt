-- The flags that stamps give are those of the plain store, and the rows that they keep have ids of their own.
use Rattle.std.proofs.Common.{ℕ, zero, suc, ◌+◌, ◌<◌, ◌≤◌, ◌≡◌, Bool, true, false, List, [], ◌∷◌, ◌++◌, length, map, take, drop, get_or, Option, None, Some, refl, sym, ap, ◌∙◌, subst, arith, slice_get, slice_set, unwrap_or, true≢false}
use Rattle.std.proofs.lemmas.Bool.{eqb-true}
use Rattle.std.proofs.lemmas.List.{length-map, map-append, take-append-drop}
use Rattle.std.specs.Option.{option_and_then}
use Rattle.ut_value.specs.declared.entry.MergeKind.{MergeKind}
use Rattle.ut_plain.specs.declared.stage.PendingMerge.{PendingMerge}
use Rattle.ut_plain.specs.Journal.{Journal, journal_len}
use Rattle.ut_plain.specs.Plain.{Sessions}
use Rattle.ut_plain.specs.Merges.{staying, is_kept, flags, all_kept, closing}
use Rattle.ut_stamps.specs.declared.fates.Fate.{Fate}
use Rattle.ut_stamps.specs.declared.fates.Fate.TheVariants.{Aborted}
use Rattle.ut_stamps.specs.Stamps.{fate_at}
use Rattle.ut_stamps.specs.Kept.{stamp_keeps, begin_keeps}
use Rattle.ut_stamps.specs.declared.visibility.Stamp.{Stamp}
use Rattle.ut_stamps.specs.declared.place.Place.{Place}
use Rattle.ut_exact.specs.Stamped.{Stamped}
use Rattle.ut_exact.specs.Exact.{IsExact, AreOpen}
use Rattle.ut_exact.specs.Gone.{IsGone}
use Rattle.ut_exact.specs.Kept.{AreSnapshots}
use Rattle.ut_exact.specs.Places.{StagedRow, is_dead, dead_number, AreHeld}
use Rattle.ut_exact.proofs.DroppedLemmas.{kept_by_stamp}
use Rattle.ut_staged.specs.Staged.{Staged, row_at, row_in, rows_at, no_row, placed_of, stages_of, closed_l2}
use Rattle.ut_staged.specs.Choice.{flag_at, kept_places, AreFlags}
use Rattle.ut_staged.specs.Keeping.{all_of, needed_of, stamp_flags, taken_over, HaveOwnIds}
use Rattle.ut_staged.specs.Tables.{place_at}
use Rattle.ut_staged.proofs.ListLemmas.{none_some, some_same, get-within, get-there, get-map, get-drop, get_or-is, get-set_same, map-take, map-drop}
use Rattle.ut_staged.proofs.TableLemmas.{here}
use Rattle.ut_staged.proofs.KeptLemmas.{kept_choice, kept_of, row_is}
use Rattle.ut_staged.proofs.OrderLemmas.{kept_rows_at, staying-fits}
use Rattle.ut_staged.proofs.BeginLemmas.{place_there, AreHeld-closed}

-- ---- as many as there are places

all_sizes : (lists : List (List StagedRow)) → map length (map all_of lists) ≡ map length lists
all_sizes [] = refl
all_sizes (rows ∷ lists) = λ i. length-map rows (λ (row : StagedRow). true) i ∷ all_sizes lists i

needed_sizes : (fates : List Fate) (snapshots : List ℕ) (lists : List (List StagedRow)) → map length (map (needed_of fates snapshots) lists) ≡ map length lists
needed_sizes fates snapshots [] = refl
needed_sizes fates snapshots (rows ∷ lists) = λ i. length-map rows (λ (row : StagedRow). stamp_keeps fates snapshots row.stamp) i ∷ needed_sizes fates snapshots lists i

pub flags-sizes : (fates : List Fate) (snapshots : List ℕ) (kind : MergeKind) (s : Staged) → map length (stamp_flags fates snapshots kind s) ≡ map length (s.parts ++ s.l2 ∷ [])
flags-sizes fates snapshots kind s =
    let stay = staying kind (length s.parts) in
    let lists = s.parts ++ s.l2 ∷ [] in
    map-append length (map all_of (take stay lists)) (map (needed_of fates snapshots) (drop stay lists))
    ∙ (λ i. all_sizes (take stay lists) i ++ needed_sizes fates snapshots (drop stay lists) i)
    ∙ sym (map-append length (take stay lists) (drop stay lists)) ∙ ap (map length) (take-append-drop stay lists)

-- a table that is being merged
abbrev pub flags_there : (head : PendingMerge) (fates : List Fate) (snapshots : List ℕ) (s : Staged) → AreFlags (closed_l2 head (stamp_flags fates snapshots head.kind s) s)
flags_there head fates snapshots s = record { closed = s.l2; is_closed = refl; sizes = flags-sizes fates snapshots head.kind s }

-- ---- the plain store's

all_alike : (lists : List (List StagedRow)) → map all_kept (map (map placed_of) lists) ≡ map all_of lists
all_alike [] = refl
all_alike (rows ∷ lists) = λ i. one rows i ∷ all_alike lists i
  where
    one : (xs : List StagedRow) → all_kept (map placed_of xs) ≡ all_of xs
    one [] = refl
    one (x ∷ xs) = ap (λ flags. true ∷ flags) (one xs)

module _ (fates : List Fate) (snapshots : List ℕ) (j : Journal) (sessions : Sessions) where
  needed_alike : (lists : List (List StagedRow)) → ((g i : ℕ) (row : StagedRow) → row_in (slice_get lists g) i ≡ Some row → stamp_keeps fates snapshots row.stamp ≡ is_kept j sessions (placed_of row))
      → map (map (is_kept j sessions)) (map (map placed_of) lists) ≡ map (needed_of fates snapshots) lists
  needed_alike [] alike = refl
  needed_alike (rows ∷ lists) alike = λ i. one rows (λ k row at. alike 0 k row at) i ∷ needed_alike lists (λ g k row at. alike (suc g) k row at) i
    where
      one : (xs : List StagedRow) → ((k : ℕ) (row : StagedRow) → slice_get xs k ≡ Some row → stamp_keeps fates snapshots row.stamp ≡ is_kept j sessions (placed_of row))
          → map (is_kept j sessions) (map placed_of xs) ≡ needed_of fates snapshots xs
      one [] same = refl
      one (x ∷ xs) same = λ i. sym (same 0 x refl) i ∷ one xs (λ k row at. same (suc k) row at) i

  pub flags_are : (kind : MergeKind) (s : Staged) → ((p : Place) (row : StagedRow) → row_at s p ≡ Some row → stamp_keeps fates snapshots row.stamp ≡ is_kept j sessions (placed_of row))
      → stamp_flags fates snapshots kind s ≡ flags j sessions (staying kind (length (stages_of s).parts)) ((stages_of s).parts ++ (stages_of s).l2 ∷ [])
  flags_are kind s alike =
      let stay = staying kind (length s.parts) in
      let lists = s.parts ++ s.l2 ∷ [] in
      let same : stay ≡ staying kind (length (stages_of s).parts) = ap (staying kind) (sym (length-map s.parts (map placed_of))) in
      let front : map all_of (take stay lists) ≡ map all_kept (take stay (map (map placed_of) lists)) = sym (all_alike (take stay lists)) ∙ ap (map all_kept) (map-take (map placed_of) stay lists) in
      let back : map (needed_of fates snapshots) (drop stay lists) ≡ map (map (is_kept j sessions)) (drop stay (map (map placed_of) lists)) =
      sym (needed_alike (drop stay lists) (λ g i row at. let q = place_there s (stay + g) i row (ap (λ o. row_in o i) (sym (get-drop stay lists g)) ∙ at) in alike q.0 row q.1))
      ∙ ap (map (map (is_kept j sessions))) (map-drop (map placed_of) stay lists) in
      (λ i. front i ++ back i) ∙ (λ i. flags j sessions (same i) (map-append (map placed_of) s.parts (s.l2 ∷ []) i))

  pub stages-closed : (head : PendingMerge) (s : Staged) → ((p : Place) (row : StagedRow) → row_at s p ≡ Some row → stamp_keeps fates snapshots row.stamp ≡ is_kept j sessions (placed_of row))
      → stages_of (closed_l2 head (stamp_flags fates snapshots head.kind s) s) ≡ closing j sessions head.kind (stages_of s)
  stages-closed head s alike = ap (λ keep. record (stages_of s) { l2 = []; closed = Some (map placed_of s.l2); keep = keep }) (flags_are head.kind s alike)

-- what the stamps of a store say of the rows of a table
pub kept_here : (staged : List Staged) (fates : List Fate) (held : ℕ → Option Stamped) (sessions : Sessions) (numbers : ℕ → ℕ) (j : Journal) (o : ℕ) (snapshots : List ℕ)
    → IsExact fates held j o → AreOpen fates held sessions numbers j o → o ≤ journal_len j → AreSnapshots snapshots sessions → AreHeld (place_at staged) (IsGone fates sessions) held → fate_at fates dead_number ≡ Aborted
    → (n : ℕ) (s : Staged) → slice_get staged n ≡ Some s → (p : Place) (row : StagedRow) → row_at s p ≡ Some row → stamp_keeps fates snapshots row.stamp ≡ is_kept j sessions (placed_of row)
kept_here staged fates held sessions numbers j o snapshots x ours opened looks h dead n s is p row at =
    kept_by_stamp (place_at staged) fates held sessions numbers j o snapshots x ours opened looks h dead n p row (here staged n s p is ∙ at)

-- ---- ids of their own

-- whose flag is set is kept by its stamp
kept_stamp : (fates : List Fate) (snapshots : List ℕ) (lists : List (List StagedRow)) (stay g i : ℕ) (row : StagedRow) → stay ≤ g → row_in (slice_get lists g) i ≡ Some row
    → flag_at (map all_of (take stay lists) ++ map (needed_of fates snapshots) (drop stay lists)) g i ≡ Some true → stamp_keeps fates snapshots row.stamp ≡ true
kept_stamp fates snapshots [] stay g i row le at flag = absurd (none_some row at)
kept_stamp fates snapshots (rows ∷ lists) zero zero i row le at flag = some_same (stamp_keeps fates snapshots row.stamp) true (sym (get-map (λ (r : StagedRow). stamp_keeps fates snapshots r.stamp) rows i row at) ∙ flag)
kept_stamp fates snapshots (rows ∷ lists) zero (suc g) i row le at flag = kept_stamp fates snapshots lists zero g i row (omega arith) at flag
kept_stamp fates snapshots (rows ∷ lists) (suc stay) zero i row le at flag = absurd (omega arith)
kept_stamp fates snapshots (rows ∷ lists) (suc stay) (suc g) i row le at flag = kept_stamp fates snapshots lists stay g i row (omega arith) at flag

-- and is somebody's
kept_live : (fates : List Fate) (snapshots : List ℕ) (stamp : Stamp) → fate_at fates dead_number ≡ Aborted → stamp_keeps fates snapshots stamp ≡ true → is_dead stamp ≡ false
kept_live fates snapshots stamp dead keeps = by (is_dead stamp) refl
  where
    by : (b : Bool) → is_dead stamp ≡ b → b ≡ false
    by false e = refl
    by true e = absurd (true≢false (sym keeps ∙ ap (begin_keeps fates snapshots stamp) (ap (fate_at fates) (eqb-true stamp.begin dead_number e) ∙ dead)))

module _ (staged : List Staged) (n : ℕ) (s : Staged) (head : PendingMerge) (fates : List Fate) (snapshots : List ℕ) (gone : Stamp → Type 0) (held : ℕ → Option Stamped) (is : slice_get staged n ≡ Some s) (none : s.closed ≡ None)
    (h : AreHeld (place_at staged) gone held) (dead : fate_at fates dead_number ≡ Aborted) where
  abbrev stay : ℕ
  stay = staying head.kind (length s.parts)

  abbrev new : Staged
  new = closed_l2 head (stamp_flags fates snapshots head.kind s) s

  abbrev kept : List Place
  kept = kept_places stay new

  abbrev f : AreFlags new
  f = flags_there head fates snapshots s

  live_at : (k : ℕ) (p : Place) (r : StagedRow) → slice_get kept k ≡ Some p → row_at new p ≡ Some r → is_dead r.stamp ≡ false
  live_at k p r at row =
      let o = kept_of new f stay (staying-fits head.kind (length s.parts)) k p at in
      let small = within o.0 o.1 (slice_get new.keep o.0) refl o.3 in
      kept_live fates snapshots r.stamp dead (kept_stamp fates snapshots (s.parts ++ s.l2 ∷ []) stay o.0 o.1 r o.4 (sym (row_is new f o.0 o.1 small) ∙ ap (row_at new) (sym o.2) ∙ row) o.3)
    where
      within : (g i : ℕ) (x : Option (List Bool)) → slice_get new.keep g ≡ x → option_and_then (λ (bits : List Bool). slice_get bits i) x ≡ Some true → g < length (s.parts ++ s.l2 ∷ [])
      within g i None e k = absurd (none_some true k)
      within g i (Some bits) e k = omega (arith, get-within new.keep g bits e, sym (length-map new.keep length) ∙ ap length (flags-sizes fates snapshots head.kind s) ∙ length-map (s.parts ++ s.l2 ∷ []) length)

  pub own_ids : HaveOwnIds (taken_over head.kind (stamp_flags fates snapshots head.kind s) s)
  own_ids = subst HaveOwnIds (kept_rows_at stay new f) (λ i k lt within same. apart i k lt (omega (arith, within, length-map kept (λ p. unwrap_or (row_at new p) no_row))) same)
    where
      apart : (i k : ℕ) → i < k → k < length kept → (get_or (rows_at new kept) i no_row).id ≡ (get_or (rows_at new kept) k no_row).id → ⊥
      apart i k lt within same =
          let c = kept_choice new f stay (staying-fits head.kind (length s.parts)) in
          let p = get-there kept i (omega (arith, lt, within)) in
          let q = get-there kept k within in
          let r = c.there i p.0 p.1 in
          let u = c.there k q.0 q.1 in
          let first : get_or (rows_at new kept) i no_row ≡ r.0 = is_row i p.0 r.0 p.1 r.1 in
          let second : get_or (rows_at new kept) k no_row ≡ u.0 = is_row k q.0 u.0 q.1 u.1 in
          let all = AreHeld-closed staged n s head (stamp_flags fates snapshots head.kind s) gone held is none h in
          let at : (x : Place) → place_at (slice_set staged n new) n x ≡ row_at new x = λ x. here (slice_set staged n new) n new x (get-set_same staged n new (get-within staged n s is)) in
          let one = all.once n n p.0 q.0 r.0 u.0 (at p.0 ∙ r.1) (at q.0 ∙ u.1) (live_at i p.0 r.0 p.1 r.1) (live_at k q.0 u.0 q.1 u.1) (ap (λ (x : StagedRow). x.id) (sym first) ∙ same ∙ ap (λ (x : StagedRow). x.id) second) in
          let both = c.apart i k p.0 p.1 (q.1 ∙ ap Some (sym one.1)) in
          absurd (omega (arith, both, lt))
        where
          is_row : (k2 : ℕ) (x : Place) (row : StagedRow) → slice_get kept k2 ≡ Some x → row_at new x ≡ Some row → get_or (rows_at new kept) k2 no_row ≡ row
          is_row k2 x row e g = get_or-is (rows_at new kept) k2 row no_row (get-map (λ y. unwrap_or (row_at new y) no_row) kept k2 x e ∙ ap (λ o. Some (unwrap_or o no_row)) g)
