-- The rows of the kept places are the kept rows, in the order of the kind of merge.
use Rattle.std.proofs.Common.{ℕ, zero, suc, ◌+◌, ◌<◌, ◌≤◌, ◌≡◌, Bool, true, false, List, [], ◌∷◌, ◌++◌, length, map, drop, get_or, Option, None, Some, refl, sym, ap, ◌∙◌, arith, slice_get, unwrap_or}
use Rattle.std.proofs.lemmas.List.{length-map, map-append}
use Rattle.std.specs.Option.{option_map}
use Rattle.ut_value.specs.declared.entry.MergeKind.{MergeKind}
use Rattle.ut_value.specs.declared.entry.MergeKind.TheVariants as kinds
use Rattle.ut_plain.specs.declared.stage.Placed.{Placed}
use Rattle.ut_plain.specs.Merges.{staying, staying_partly, arranged, flagged, flagged_all, rebuilt}
use Rattle.ut_exact.specs.Places.{StagedRow}
use Rattle.ut_stamps.specs.declared.place.Place.{Place}
use Rattle.ut_staged.specs.Staged.{Staged, row_at, row_in, rows_at, no_row, placed_of, stages_of}
use Rattle.ut_staged.specs.Choice.{kept_from, kept_lists, kept_places, place_of, AreFlags}
use Rattle.ut_staged.specs.Tables.{IsArranged}
use Rattle.ut_staged.proofs.ListLemmas.{none_some, get-within, get-drop, map-drop}
use Rattle.ut_staged.proofs.KeptLemmas.{row_is, kept_choice}

-- ---- the rows in kept places

rows_list : (s : Staged) (at : ℕ → Place) (i : ℕ) (rows : List StagedRow) (flags : List Bool) → ((n : ℕ) (r : StagedRow) → slice_get rows n ≡ Some r → row_at s (at (i + n)) ≡ Some r) → length flags ≡ length rows
    → rows_at s (kept_from at i flags) ≡ flagged rows flags
rows_list s at i [] [] h same = refl
rows_list s at i [] (f ∷ flags) h same = absurd (omega (arith, same))
rows_list s at i (r ∷ rows) [] h same = absurd (omega (arith, same))
rows_list s at i (r ∷ rows) (f ∷ flags) h same =
    by f (rows_list s at (suc i) rows flags (λ n u e. let k : suc i + n ≡ i + suc n = omega arith in ap (λ x. row_at s (at x)) k ∙ h (suc n) u e) (omega (arith, same)))
  where
    first : unwrap_or (row_at s (at i)) no_row ≡ r
    first = let k : i ≡ i + 0 = omega arith in ap (λ o. unwrap_or o no_row) (ap (λ x. row_at s (at x)) k ∙ h 0 r refl)

    by : (b : Bool) → rows_at s (kept_from at (suc i) flags) ≡ flagged rows flags → rows_at s (kept_from at i (b ∷ flags)) ≡ flagged (r ∷ rows) (b ∷ flags)
    by true rest = λ x. first x ∷ rest x
    by false rest = rest

rows_lists : (s : Staged) (at : ℕ → ℕ → Place) (g : ℕ) (lists : List (List StagedRow)) (keep : List (List Bool)) → ((m n : ℕ) (r : StagedRow) → row_in (slice_get lists m) n ≡ Some r → row_at s (at (g + m) n) ≡ Some r) → map length keep ≡ map length lists
    → rows_at s (kept_lists at g keep) ≡ flagged_all lists keep
rows_lists s at g [] [] h same = refl
rows_lists s at g [] (f ∷ keep) h same = absurd (omega (arith, ap length same))
rows_lists s at g (x ∷ lists) [] h same = absurd (omega (arith, ap length same))
rows_lists s at g (x ∷ lists) (f ∷ keep) h same =
    map-append (λ p. unwrap_or (row_at s p) no_row) (kept_from (at g) 0 f) (kept_lists at (suc g) keep)
    ∙ (λ i. rows_list s (at g) 0 x f (λ n r e. let k : g ≡ g + 0 = omega arith in let z : 0 + n ≡ n = omega arith in (λ j. row_at s (at (k j) (z j))) ∙ h 0 n r e) (ap (λ (l : List ℕ). get_or l 0 0) same) i
    ++ rows_lists s at (suc g) lists keep (λ m n r e. let k : suc g + m ≡ g + suc m = omega arith in ap (λ y. row_at s (at y n)) k ∙ h (suc m) n r e) (ap (drop 1) same) i)

flagged-map : {X Y : Type 0} (f : X → Y) (xs : List X) (flags : List Bool) → flagged (map f xs) flags ≡ map f (flagged xs flags)
flagged-map f [] flags = refl
flagged-map f (x ∷ xs) [] = refl
flagged-map f (x ∷ xs) (true ∷ flags) = ap (λ ys. f x ∷ ys) (flagged-map f xs flags)
flagged-map f (x ∷ xs) (false ∷ flags) = flagged-map f xs flags

pub flagged_all-map : {X Y : Type 0} (f : X → Y) (lists : List (List X)) (keep : List (List Bool)) → flagged_all (map (map f) lists) keep ≡ map f (flagged_all lists keep)
flagged_all-map f [] keep = refl
flagged_all-map f (x ∷ lists) [] = refl
flagged_all-map f (x ∷ lists) (flags ∷ keep) = (λ i. flagged-map f x flags i ++ flagged_all-map f lists keep i) ∙ sym (map-append f (flagged x flags) (flagged_all lists keep))

pub kept_rows_at : (stay : ℕ) (s : Staged) (f : AreFlags s) → rows_at s (kept_places stay s) ≡ flagged_all (drop stay (s.parts ++ f.closed ∷ [])) (drop stay s.keep)
kept_rows_at stay s f =
    rows_lists s (place_of (length s.parts)) stay (drop stay (s.parts ++ f.closed ∷ [])) (drop stay s.keep) there
    (map-drop length stay s.keep ∙ ap (drop stay) f.sizes ∙ sym (map-drop length stay (s.parts ++ f.closed ∷ [])))
  where
    there : (m n : ℕ) (r : StagedRow) → row_in (slice_get (drop stay (s.parts ++ f.closed ∷ [])) m) n ≡ Some r → row_at s (place_of (length s.parts) (stay + m) n) ≡ Some r
    there m n r h =
        let at = get-drop stay (s.parts ++ f.closed ∷ []) m in
        row_is s f (stay + m) n (small (slice_get (s.parts ++ f.closed ∷ []) (stay + m)) refl (ap (λ o. row_in o n) (sym at) ∙ h)) ∙ ap (λ o. row_in o n) (sym at) ∙ h
      where
        small : (o : Option (List StagedRow)) → slice_get (s.parts ++ f.closed ∷ []) (stay + m) ≡ o → row_in o n ≡ Some r → stay + m < length (s.parts ++ f.closed ∷ [])
        small None e k = absurd (none_some r k)
        small (Some rows) e k = get-within (s.parts ++ f.closed ∷ []) (stay + m) rows e

-- the same as the plain store has them
pub kept_rows : (kind : MergeKind) (s : Staged) (f : AreFlags s) → map placed_of (rows_at s (kept_places (staying kind (length s.parts)) s))
    ≡ flagged_all (rebuilt kind (stages_of s).parts (unwrap_or (stages_of s).closed [])) (drop (staying kind (length s.parts)) s.keep)
kept_rows kind s f =
    let stay = staying kind (length s.parts) in
    let lists = s.parts ++ f.closed ∷ [] in
    let same : staying kind (length (map (map placed_of) s.parts)) ≡ stay = ap (staying kind) (length-map s.parts (map placed_of)) in
    let lists_are : ((stages_of s).parts ++ unwrap_or (stages_of s).closed [] ∷ []) ≡ map (map placed_of) lists =
    ap (λ (o : Option (List StagedRow)). map (map placed_of) s.parts ++ unwrap_or (option_map (map placed_of) o) [] ∷ []) f.is_closed ∙ sym (map-append (map placed_of) s.parts (f.closed ∷ [])) in
    ap (map placed_of) (kept_rows_at stay s f)
    ∙ sym (flagged_all-map placed_of (drop stay lists) (drop stay s.keep))
    ∙ ap (λ (l : List (List Placed)). flagged_all l (drop stay s.keep)) (map-drop (map placed_of) stay lists ∙ (λ i. drop (sym same i) (sym lists_are i)))

pub staying-fits : (kind : MergeKind) (n : ℕ) → staying kind n ≤ n
staying-fits kinds.Classic n = omega arith
staying-fits kinds.Resort n = omega arith
staying-fits kinds.Partial n = by n
  where
    by : (m : ℕ) → staying_partly m ≤ m
    by zero = omega arith
    by (suc zero) = omega arith
    by (suc (suc m)) = omega arith
staying-fits kinds.Extend n = omega arith

-- So, but for a re-sorting merge, they are what the merge needs.
pub arranged_kept : (kind : MergeKind) (s : Staged) → AreFlags s → ((places : List Placed) → arranged kind places ≡ places) → IsArranged kind s (kept_places (staying kind (length s.parts)) s)
arranged_kept kind s f plain = record {
  choice = kept_choice s f (staying kind (length s.parts)) (staying-fits kind (length s.parts));
  order = kept_rows kind s f ∙ sym (plain (flagged_all (rebuilt kind (stages_of s).parts (unwrap_or (stages_of s).closed [])) (drop (staying kind (length s.parts)) s.keep)));
}
