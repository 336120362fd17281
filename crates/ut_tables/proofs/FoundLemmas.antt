-- What a scan of one table finds among all, and the rows that were found.
use Rattle.std.proofs.Common.{ℕ, ◌+◌, ◌<◌, ◌≡◌, Bool, T, cond, List, [], ◌∷◌, ◌++◌, length, map, take, get_or, Option, None, Some, refl, sym, ap, ◌∙◌, subst, arith, slice_get}
use Rattle.std.proofs.lemmas.List.{take_more, map-append}
use Rattle.std.proofs.lemmas.List.Elements.{All-cons}
use Rattle.std.specs.Option.{IsSome}
use Rattle.std.specs.Ordering.{nat_cmp, is_lt}
use Rattle.std.specs.FinMap.{find, is_sorted}
use Rattle.std.specs.FinMap.Entries.{below_all}
use Rattle.ut_value.specs.declared.value.Column.{Column}
use Rattle.ut_value.specs.declared.value.Value.{Value}
use Rattle.ut_value.specs.declared.value.Row.{Row}
use Rattle.ut_plain.specs.Condition.{meets}
use Rattle.ut_plain.specs.declared.statement.Pred.{Pred}
use Rattle.ut_stamps.specs.declared.fates.Fate.{Fate}
use Rattle.ut_stamps.specs.declared.place.Place.{Place}
use Rattle.ut_scan.specs.declared.place.Found.{Found}
use Rattle.ut_plain.specs.Compiled.{Compiles}
use Rattle.ut_exact.specs.Places.{StagedRow}
use Rattle.ut_exact.specs.Scan.{stored_in}
use Rattle.ut_exact.proofs.OrderLemmas.{T_first, T_second, less, not_tied, first_found}
use Rattle.ut_staged.specs.Staged.{Staged, row_at}
use Rattle.ut_staged.proofs.TableLemmas.{here}
use Rattle.ut_table.specs.Finds.{AreThere, Finds, hits_of}
use Rattle.ut_look.proofs.LookLemmas.{scan_of}
use Rattle.ut_tables.specs.Rows.{Rows}
use Rattle.ut_tables.specs.Finds.{Hits, row_of, row_in}

-- from a table to all
pub hits_in : (r : Rows) (snapshot : ℕ) (own : Option ℕ) (n : ℕ) (asked : List Pred) (read s : Staged) (fates : List Fate) (found : List Found) → slice_get r.staged n ≡ Some s → read ≡ s → fates ≡ r.fates
    → Finds read fates snapshot own asked found → Hits r snapshot own n (meets s.columns asked) (hits_of found)
hits_in r snapshot own n asked read s fates found at here same f =
    let g : Finds s r.fates snapshot own asked found =
    subst (λ (t : Staged). Finds t r.fates snapshot own asked found) here (subst (λ (x : List Fate). Finds read x snapshot own asked found) same f) in
    record { scan = scan_of r.staged n s r.fates snapshot own (meets s.columns asked) (hits_of found) at g.scan }

-- ---- what was found is there

-- each of these places is found under its id
abbrev pub AllIn : List (ℕ × Place) → List (ℕ × Place) → Type 0
AllIn hits [] = Unit {0}
AllIn hits (x ∷ xs) = (find nat_cmp x.0 hits ≡ Some x.1) × AllIn hits xs

in_more : (x : ℕ × Place) (hits some : List (ℕ × Place)) → T (below_all nat_cmp x.0 some) → AllIn hits some → AllIn (x ∷ hits) some
in_more x hits [] below a = tt
in_more x hits (y ∷ ys) below a =
    let lt = less x.0 y.0 (T_first (is_lt (nat_cmp x.0 y.0)) _ below) in
    (ap (λ b. cond b (Some x.1) (find nat_cmp y.0 hits)) (not_tied y.0 x.0 (λ same. absurd (omega (arith, same, lt)))) ∙ a.0, in_more x hits ys (T_second (is_lt (nat_cmp x.0 y.0)) _ below) a.1)

pub all_in : (hits : List (ℕ × Place)) → T (is_sorted nat_cmp hits) → AllIn hits hits
all_in [] h = tt
all_in (x ∷ xs) h = (first_found x xs, in_more x xs xs (T_first (below_all nat_cmp x.0 xs) _ h) (all_in xs (T_second (below_all nat_cmp x.0 xs) _ h)))

pub are_there : (r : Rows) (snapshot : ℕ) (own : Option ℕ) (n : ℕ) (test : List Value → Bool) (found : List Found) (s : Staged) → slice_get r.staged n ≡ Some s → Hits r snapshot own n test (hits_of found) → AreThere s found
are_there r snapshot own n test found s at h = by found (all_in (hits_of found) h.scan.sorted)
  where
    some : (f : Found) (row : StagedRow) → row_at s f.place ≡ Some row → IsSome (row_at s f.place)
    some f row g = subst IsSome (sym g) refl

    by : (fs : List Found) → AllIn (hits_of found) (hits_of fs) → AreThere s fs
    by [] a = λ k d h. absurd (omega arith)
    by (f ∷ fs) a = let g = h.scan.sound f.id f.place a.0 in All-cons (λ (x : Found). IsSome (row_at s x.place)) f fs (some f g.0 (sym (here r.staged n s f.place at) ∙ g.1)) (by fs a.1)

-- ---- rows are copied one by one

-- no comparison: all rows are wanted
pub all_wanted : (columns : List Column) → Compiles columns [] []
all_wanted columns = record { known = refl; fit = refl; rules = record { each = refl }; are = refl }

copied_row : (o : Option StagedRow) (id : ℕ) (values : List Value) → IsSome o → ((row : StagedRow) → o ≡ Some row → values ≡ row.values) → row_of (id, stored_in 0 o) ≡ record { id = id; values = values }
copied_row None id values there is = cc
copied_row (Some row) id values there is = ap (λ (vs : List Value). record { id = id; values = vs }) (sym (is row refl))

pub row_more : (s : Staged) (found : List Found) (i : ℕ) (d : Found) (rows new : List Row) (values : List Value) → IsSome (row_at s (get_or found i d).place) → ((row : StagedRow) → row_at s (get_or found i d).place ≡ Some row → values ≡ row.values)
    → i < length found → rows ≡ map (row_in s) (take i found) → new ≡ rows ++ record { id = (get_or found i d).id; values = values } ∷ [] → new ≡ map (row_in s) (take (i + 1) found)
row_more s found i d rows new values there is small so_far more =
    more ∙ (λ k. so_far k ++ sym (copied_row (row_at s (get_or found i d).place) (get_or found i d).id values there is) k ∷ [])
    ∙ sym (map-append (row_in s) (take i found) (get_or found i d ∷ []))
    ∙ ap (map (row_in s)) (sym (take_more found i d small))
