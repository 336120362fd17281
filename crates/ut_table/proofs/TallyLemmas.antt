-- What a tally of the stages finds is what the contract of a table says.
use Rattle.std.proofs.Common.{◌≡◌, ℕ, zero, suc, ◌+◌, ◌<◌, List, [], ◌∷◌, ◌++◌, length, map, filter, get_or, All, Option, Some, Result, Ok, Err, IfOk, refl, sym, ◌∙◌, ap, subst, arith}
use Rattle.std.specs.Prelude.{slice_get}
use Rattle.std.specs.Option.{option_map, option_and_then}
use Rattle.std.specs.List.{flat_map, range_with_len}
use Rattle.std.specs.List.Sorted.{IsPermutation}
use Rattle.std.proofs.lemmas.List.Elements.{All-nil, All-append, All-map, All-filter, All-head, All-tail, All-weaker}
use Rattle.ut_value.specs.KeyBytes.{key_of}
use Rattle.ut_plain.specs.declared.statement.Pred.{Pred}
use Rattle.ut_stamps.specs.declared.fates.Fate.{Fate}
use Rattle.ut_stamps.specs.declared.visibility.Stamp.{Stamp}
use Rattle.ut_stamps.specs.declared.place.Place.TheVariants.{Main}
use Rattle.ut_exact.specs.Places.{StagedRow}
use Rattle.ut_main.specs.Parts.{MainValue}
use Rattle.ut_key.specs.declared.comparison.ColumnPred.{ColumnPred}
use Rattle.ut_scan.specs.declared.place.Found.{Found}
use Rattle.ut_scan.specs.Coded.{keys_in}
use Rattle.ut_scan.specs.Finds.{all_places, found_at, is_hit}
use Rattle.ut_scan.specs.StageRows.{found_in_part, found_in_parts, found_outside, found_rows}
use Rattle.ut_scan.specs.Tallies.{key_in, Tallies}
use Rattle.ut_scan.proofs.RangeLemmas.{range-within}
use Rattle.ut_staged.specs.Staged.{Staged}
use Rattle.ut_plain.specs.Compiled.{Compiles}
use Rattle.ut_table.specs.Coded.{no_column}
use Rattle.ut_table.specs.Contents.{Contents, staged}
use Rattle.ut_table.specs.Finds.{SeenOnce}
use Rattle.ut_table.specs.Kept.{IsTable}
use Rattle.ut_table.specs.Tallied.{value_at, Tallied}
use Rattle.ut_table.proofs.CodedLemmas.{main-is}
use Rattle.ut_table.proofs.DecodedLemmas.{held-value}
use Rattle.ut_table.proofs.PlaceLemmas.{key_row_at, at-place, row-held}
use Rattle.ut_table.proofs.ScanLemmas.{rows_of, scan-finds}
use Rattle.ut_table.proofs.SortLemmas.{ordered}

each-same : {X Y : Type 0} (f g : X → Y) (xs : List X) → All (λ x. f x ≡ g x) xs → map f xs ≡ map g xs
each-same f g [] h = refl
each-same f g (x ∷ xs) h = λ i. All-head (λ y. f y ≡ g y) x xs h i ∷ each-same f g xs (All-tail (λ y. f y ≡ g y) x xs h) i

-- what follows from two clauses on an answer
pub both-ok : {X E : Type 0} (r : Result X E) {P Q R : X → Type 0} → ((x : X) → P x → Q x → R x) → IfOk r P → IfOk r Q → IfOk r R
both-ok (Ok x) f p q = f x p q
both-ok (Err e) f p q = tt

module _ {t : Contents} (h : IsTable t) (column : ℕ) (wide : column < length t.columns) where
  -- a row of main has the key of its value
  abbrev HasKey : Found → Type 0
  HasKey f = Some (key_in t.main column f.place) ≡ option_map key_of (value_at (staged t) column f)

  one-key : (p i : ℕ) → i < length (get_or t.main.parts p []) → HasKey (found_at (Main p) (get_or t.main.parts p []) i)
  one-key p i lt =
      let at = at-place h (Main p i) lt in
      let held = held-value t.columns (key_row_at t (Main p i)) column no_column (row-held h (Main p i) lt) wide in
      ap Some held.1.2
      ∙ sym (ap (option_map key_of) (ap (option_and_then (λ (row : StagedRow). slice_get row.values column)) at ∙ held.0))

  module _ (fates : List Fate) (snapshot : ℕ) (own : Option ℕ) (preds : List ColumnPred) (stamps : List (List Stamp)) where
    in-part : (p : ℕ) → All HasKey (found_in_part fates snapshot own preds t.main.parts stamps p)
    in-part p =
        let rows = get_or t.main.parts p [] in
        let test = is_hit fates snapshot own preds rows (get_or stamps p []) in
        let none : 0 + length (get_or t.main.parts p []) ≡ length (get_or t.main.parts p []) = omega arith in
        let within = subst (λ n. All (λ i. i < n) (all_places rows)) none (range-within 0 (length rows)) in
        All-map HasKey (found_at (Main p) rows) (filter test (all_places rows))
        (All-weaker (λ i. i < length rows) (λ i. HasKey (found_at (Main p) rows i)) (one-key p) (filter test (all_places rows)) (All-filter test (λ i. i < length rows) (all_places rows) within))

    in-parts : (p n : ℕ) → All HasKey (flat_map (found_in_part fates snapshot own preds t.main.parts stamps) (range_with_len p n))
    in-parts p zero = All-nil HasKey
    in-parts p (suc n) = All-append HasKey (found_in_part fates snapshot own preds t.main.parts stamps p) (flat_map (found_in_part fates snapshot own preds t.main.parts stamps) (range_with_len (p + 1) n)) (in-part p) (in-parts (p + 1) n)

-- the answer of a tally, as the contract of a table says it
pub scan-tallies : {t : Contents} (h : IsTable t) {s : Staged} (view : staged t ≡ s) (fates : List Fate) (snapshot : ℕ) (own : Option ℕ) (asked : List Pred) (preds : List ColumnPred) → Compiles t.columns asked preds → SeenOnce s fates snapshot own
    → (column : ℕ) → column < length s.columns → (counts : List ℕ) (rest : List Found)
    → Tallies t.main column (found_in_parts fates snapshot own preds t.main.parts t.stamps.parts) counts
    → rest ≡ found_outside fates snapshot own preds (rows_of t) t.stamps → Tallied s fates snapshot own asked column counts rest
scan-tallies {t} h {s} view fates snapshot own asked preds compiles once column wide counts rest told is =
    let in_main = found_in_parts fates snapshot own preds t.main.parts t.stamps.parts in
    let r = ordered (λ (f : Found). f.id) (found_rows fates snapshot own preds (rows_of t) t.stamps) in
    let small : column < length t.columns = subst (λ (x : Staged). column < length x.columns) (sym view) wide in
    let keys = each-same (λ (f : Found). Some (key_in t.main column f.place)) (λ (f : Found). option_map key_of (value_at (staged t) column f)) in_main (in-parts h column small fates snapshot own preds t.stamps.parts 0 (length t.main.parts)) in
    record {
      found = r.list;
      finds = scan-finds h view fates snapshot own asked preds compiles once r.list r.same r.up;
      tally = record {
        in_main = in_main;
        all = subst (λ (l : List Found). IsPermutation (l ++ in_main) r.list) (sym is) r.same;
        codes = told.codes;
        keys = ap (λ (m : MainValue). map (slice_get (keys_in m column)) told.codes) (main-is h view)
            ∙ told.keys ∙ keys ∙ ap (λ (x : Staged). map (λ (f : Found). option_map key_of (value_at x column f)) in_main) view;
        each = told.each;
      };
    }
