-- One table of all, read and put back.
use Rattle.std.proofs.Common.{ℕ, zero, suc, ◌<◌, ◌≡◌, true, false, List, [], ◌∷◌, length, get_or, Option, None, Some, refl, sym, ap, ◌∙◌, subst, arith, slice_set}
use Rattle.std.proofs.lemmas.List.{length-map}
use Rattle.std.specs.Option.{IsSome, is_some}
use Rattle.ut_value.specs.declared.value.Row.{Row}
use Rattle.ut_stamps.specs.declared.place.Place.{Place}
use Rattle.ut_exact.specs.Places.{StagedRow}
use Rattle.ut_staged.specs.Staged.{Staged, row_at, entered_l1}
use Rattle.ut_staged.specs.Tables.{place_at}
use Rattle.ut_staged.proofs.ListLemmas.{map-set}
use Rattle.ut_staged.proofs.TableLemmas.{here}
use Rattle.ut_table.specs.Contents.{TableValue}
use Rattle.ut_table.specs.Filled.{restamped}
use Rattle.ut_restart.specs.Shown.{stamp_of}
use Rattle.ut_restart.specs.Standing.{shown, staged_at, live_row, entered_in, buried_in}
use Rattle.ut_restart.specs.Rows.{position}
use Rattle.ut_restart.proofs.StageLemmas.{get-at, place-within}

pub shown-long : (xs : List TableValue) → length (shown xs) ≡ length xs
shown-long xs = length-map xs (λ (t : TableValue). t.stages)

pub table-read : (xs : List TableValue) (n : ℕ) (t : TableValue) → n < length xs → t ≡ get_or xs n t → t.stages ≡ staged_at (shown xs) n
table-read [] n t lt is = absurd (omega arith)
table-read (x ∷ xs) zero t lt is = ap (λ (v : TableValue). v.stages) is
table-read (x ∷ xs) (suc n) t lt is = table-read xs n t (omega arith) is

-- ---- a row more

pub entered-is : (xs : List TableValue) (n : ℕ) (row : Row) (old new : TableValue) → n < length (shown xs) → old ≡ get_or xs n old → new.stages ≡ entered_l1 (live_row row) old.stages → shown (slice_set xs n new) ≡ entered_in (shown xs) n row
entered-is xs n row old new lt is stages =
    map-set (λ (t : TableValue). t.stages) xs n new
    ∙ ap (slice_set (shown xs) n) (stages ∙ ap (entered_l1 (live_row row)) (table-read xs n old (omega (arith, lt, shown-long xs)) is))

-- ---- a row that is nobody's any more

pub within-shown : (xs : List TableValue) (n : ℕ) (p : Place) → IsSome (place_at (shown xs) n p) → n < length xs
within-shown xs n p h = by (place_at (shown xs) n p) refl
  where
    by : (o : Option StagedRow) → place_at (shown xs) n p ≡ o → n < length xs
    by None e = let wrong : false ≡ true = sym (ap is_some e) ∙ h in cc
    by (Some row) e = omega (arith, place-within (shown xs) n p row e, shown-long xs)

pub row-shown : (xs : List TableValue) (n : ℕ) (p : Place) (t : TableValue) → IsSome (place_at (shown xs) n p) → t ≡ get_or xs n t → IsSome (row_at t.stages p)
row-shown xs n p t h is =
    let lt = within-shown xs n p h in
    let at = get-at (shown xs) n (omega (arith, lt, shown-long xs)) in
    subst (λ (s : Staged). IsSome (row_at s p)) (sym (table-read xs n t lt is)) (subst IsSome (here (shown xs) n (staged_at (shown xs) n) p at) h)

pub buried-is : (xs : List TableValue) (n : ℕ) (p : Place) (old new : TableValue) → IsSome (place_at (shown xs) n p) → old ≡ get_or xs n old → new.stages ≡ restamped (stamp_of true) p old.stages → shown (slice_set xs n new) ≡ buried_in (shown xs) (position n p)
buried-is xs n p old new h is stages =
    map-set (λ (t : TableValue). t.stages) xs n new
    ∙ ap (slice_set (shown xs) n) (stages ∙ ap (restamped (stamp_of true) p) (table-read xs n old (within-shown xs n p h) is))
