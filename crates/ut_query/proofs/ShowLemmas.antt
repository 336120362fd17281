-- What a scan of a selection finds are the rows that a question asks for.
use Rattle.std.proofs.Common.{ℕ, suc, ◌≤◌, ◌≡◌, ◌^◌, Bool, List, [], ◌∷◌, ◌++◌, filter, length, map, Option, Some, All, IsTrue, refl, sym, ap, ◌∙◌, subst, arith, slice_get, unwrap_or, nat_eq, true, false, cond}
use Rattle.std.proofs.lemmas.List.{length-append, length-map}
use Rattle.std.proofs.lemmas.List.Elements.{All-cons, All-head, All-nil, All-tail}
use Rattle.std.proofs.lemmas.List.Sorted.{All-permutation, IsPermutation-sym, length_permutation}
use Rattle.std.proofs.lemmas.Option.{slice_get-map}
use Rattle.std.specs.Option.{option_map, option_and_then}
use Rattle.std.specs.List.{list_all}
use Rattle.std.specs.Ordering.{nat_cmp}
use Rattle.std.specs.FinMap.{find}
use Rattle.ut_value.specs.declared.value.Column.{Column}
use Rattle.ut_value.specs.KeyBytes.{is_value}
use Rattle.ut_plain.specs.declared.table.Table.{Table}
use Rattle.ut_plain.specs.declared.table.Stored.{Stored}
use Rattle.ut_plain.specs.declared.statement.Pred.{Pred}
use Rattle.ut_plain.specs.Condition as condition
use Rattle.ut_plain.specs.Condition.{meets}
use Rattle.ut_plain.specs.Rows.{table_rows}
use Rattle.ut_plain.specs.Tables.{columns_at, columns_in, fits_columns, fits_table}
use Rattle.ut_plain.proofs.BoolLemmas.{and_both}
use Rattle.ut_stamps.specs.declared.place.Place.{Place}
use Rattle.ut_scan.specs.declared.place.Found.{Found}
use Rattle.ut_exact.specs.Scan.{stored_in}
use Rattle.ut_exact.proofs.OrderLemmas.{AllFound, all_found}
use Rattle.ut_exact.proofs.ScanLemmas.{scan-seen}
use Rattle.ut_staged.specs.Staged.{Staged, row_at}
use Rattle.ut_staged.specs.Tables.{place_at}
use Rattle.ut_staged.proofs.TableLemmas.{here}
use Rattle.ut_table.specs.Finds.{Counts, Finds, hits_of, rows_at}
use Rattle.ut_table.specs.Tallied.{Tallied}
use Rattle.ut_ops.specs.Fit.{Fit, is_row}
use Rattle.ut_names.specs.declared.resolved.Selection.{Selection}
use Rattle.ut_plain.specs.Compiled.{Compiles}
use Rattle.ut_names.specs.Resolved.{IsSelection}
use Rattle.ut_look.specs.Look.{Sight}
use Rattle.ut_look.proofs.LookLemmas.{scan_of}
use Rattle.ut_query.specs.Look.{CanLook, Sees}
use Rattle.ut_query.specs.Tells.{IsSelected, Shows, ShowsCount, ShowsTally}

pub plain-is : (staged : List Staged) (n : ℕ) (s : Staged) (hits : List Found) → slice_get staged n ≡ Some s → map (λ (x : ℕ × Place). (x.0, stored_in n (place_at staged n x.1))) (hits_of hits) ≡ rows_at n s hits
plain-is staged n s [] is = refl
plain-is staged n s (f ∷ fs) is = λ i. (f.id, stored_in n (here staged n s f.place is i)) ∷ plain-is staged n s fs is i

-- a filter leaves no more than there was
filter_few : {X : Type 0} (test : X → Bool) (xs : List X) → length (filter test xs) ≤ length xs
filter_few test [] = omega arith
filter_few {X} test (x ∷ xs) = by (test x) (filter_few test xs)
  where
    by : (b : Bool) → length (filter test xs) ≤ length xs → length (cond b (x ∷ filter test xs) (filter test xs)) ≤ suc (length xs)
    by true h = omega (arith, h)
    by false h = omega (arith, h)

all-before : {X : Type 0} (P : X → Type 0) (xs ys : List X) → All P (xs ++ ys) → All P xs
all-before P [] ys h = All-nil P
all-before P (x ∷ xs) ys h = All-cons P x xs (All-head P x (xs ++ ys) h) (all-before P xs ys (All-tail P x (xs ++ ys) h))

module _ (l : Sight) (rows : Selection) (s : Staged) (can : CanLook l) (at : slice_get l.staged rows.table ≡ Some s) where
  pub columns_here : columns_at l.tables rows.table ≡ Some s.columns
  columns_here =
      sym (slice_get-map (λ (t : Table). t.columns) l.tables rows.table)
      ∙ ap (λ (cs : List (List Column)). slice_get cs rows.table) (sym can.sees.columns)
      ∙ slice_get-map (λ (x : Staged). x.columns) l.staged rows.table
      ∙ ap (option_map (λ (x : Staged). x.columns)) at

  pub columns_are : (name : List ℕ) (asked : List Pred) → IsSelection l.tables name asked rows → columns_in l.tables name ≡ s.columns
  columns_are name asked is = ap (λ (o : Option (List Column)). unwrap_or o []) (ap (option_and_then (columns_at l.tables)) is.table ∙ columns_here)

  pub compiles : (name : List ℕ) (asked : List Pred) → IsSelection l.tables name asked rows → Compiles s.columns asked rows.preds.items
  compiles name asked is = subst (λ (cs : List Column). Compiles cs asked rows.preds.items) (columns_are name asked is) is.preds

  -- what a scan finds keeps the rules of its table
  module _ (asked : List Pred) (hits : List Found) (h : Finds s l.fates l.snapshot l.own asked hits) where
    hit : (id : ℕ) (q : Place) → find nat_cmp id (hits_of hits) ≡ Some q → IsTrue (is_row s.columns (row_at s q))
    hit id q is =
        let f = h.scan.sound id q is in
        let row = f.0 in
        let there = can.sees.seen.complete rows.table q row (here l.staged rows.table s q at ∙ f.1) f.3 in
        let keeps = can.sees.keep row.id (stored_in rows.table (Some row)) there in
        ap (is_row s.columns) f.1 ∙ and_both (fits_columns s.columns row.values) (list_all is_value row.values) (sym (ap (λ o. fits_table o row.values) columns_here) ∙ keeps.fits) keeps.values

    all_hits : (some : List Found) → AllFound (hits_of hits) (hits_of some) → All (λ (f : Found). IsTrue (is_row s.columns (row_at s f.place))) some
    all_hits [] a = All-nil (λ (f : Found). IsTrue (is_row s.columns (row_at s f.place)))
    all_hits (f ∷ fs) a = All-cons (λ (g : Found). IsTrue (is_row s.columns (row_at s g.place))) f fs (hit f.id f.place a.0) (all_hits fs a.1)

    pub fit_found : Fit s hits
    fit_found = record { each = all_hits hits (all_found (hits_of hits) h.scan.sorted) }

    -- and is what passes of the rows that are seen
    pub rows_found : (seen : List (ℕ × Stored)) → Sees l seen → filter (λ (e : ℕ × Stored). meets s.columns asked e.1.values) (table_rows rows.table seen) ≡ rows_at rows.table s hits
    rows_found seen sees =
        sym (scan-seen (place_at l.staged) rows.table l.fates l.snapshot l.own (meets s.columns asked) (hits_of hits) seen sees.seen (scan_of l.staged rows.table s l.fates l.snapshot l.own (meets s.columns asked) (hits_of hits) at h.scan))
        ∙ plain-is l.staged rows.table s hits at

    pub few_found : length hits ≤ 2 ^ 31
    few_found =
        let all = filter_few (λ (e : ℕ × Stored). nat_eq e.1.table rows.table) can.rows in
        let some = filter_few (λ (e : ℕ × Stored). meets s.columns asked e.1.values) (table_rows rows.table can.rows) in
        let same = ap length (rows_found can.rows can.sees) in
        let many = length-map {B = ℕ × Stored} hits (λ (f : Found). (f.id, stored_in rows.table (row_at s f.place))) in
        omega (arith, all, some, same, many, can.sees.few)

  -- the rows that a question asks for are those
  found_are : (name : List ℕ) (asked : List Pred) (seen : List (ℕ × Stored)) (hits : List Found) → IsSelection l.tables name asked rows → Sees l seen → Finds s l.fates l.snapshot l.own asked hits
      → condition.found l.tables seen name asked ≡ rows_at rows.table s hits
  found_are name asked seen hits is sees h =
      (λ i. filter (λ (e : ℕ × Stored). meets (columns_are name asked is i) asked e.1.values) (table_rows (unwrap_or (is.table i) 0) seen))
      ∙ rows_found asked hits h seen sees

  pub shows_found : (hits : List Found) → IsSelected l.tables rows → ((asked : List Pred) → Compiles s.columns asked rows.preds.items → Finds s l.fates l.snapshot l.own asked hits) → Shows l rows s hits
  shows_found hits some h =
      let given = h some.asked (compiles some.name some.asked some.is) in
      record {
        found = λ name asked seen is sees. found_are name asked seen hits is sees (h asked (compiles name asked is));
        columns = columns_are;
        fit = fit_found some.asked hits given;
        few = few_found some.asked hits given;
      }

  pub shows_count : (count : ℕ) → IsSelected l.tables rows → ((asked : List Pred) → Compiles s.columns asked rows.preds.items → Counts s l.fates l.snapshot l.own asked count) → ShowsCount l rows count
  shows_count count some h =
      let given = h some.asked (compiles some.name some.asked some.is) in
      record {
        found = λ name asked seen is sees.
            let c = h asked (compiles name asked is) in
            c.all ∙ sym (ap length (found_are name asked seen c.found is sees c.finds) ∙ length-map {B = ℕ × Stored} c.found (λ (f : Found). (f.id, stored_in rows.table (row_at s f.place))));
        few = subst (λ n. n ≤ 2 ^ 31) (sym given.all) (few_found some.asked given.found given.finds);
      }

  pub shows_tally : (column : ℕ) (counts : List ℕ) (rest : List Found) → IsSelected l.tables rows → ((asked : List Pred) → Compiles s.columns asked rows.preds.items → Tallied s l.fates l.snapshot l.own asked column counts rest) → ShowsTally l rows s column counts rest
  shows_tally column counts rest some h =
      let given = h some.asked (compiles some.name some.asked some.is) in
      let row = λ (f : Found). IsTrue (is_row s.columns (row_at s f.place)) in
      let fit = fit_found some.asked given.found given.finds in
      let few = few_found some.asked given.found given.finds in
      record {
        tally = λ name asked seen is sees.
            let t = h asked (compiles name asked is) in
            (t.found, found_are name asked seen t.found is sees t.finds, fit_found asked t.found t.finds, t.tally);
        columns = columns_are;
        fit = record { each = all-before row rest given.tally.in_main (All-permutation row given.found (rest ++ given.tally.in_main) (IsPermutation-sym (rest ++ given.tally.in_main) given.found given.tally.all) fit.each) };
        few = omega (arith, few, length_permutation (rest ++ given.tally.in_main) given.found given.tally.all, length-append rest given.tally.in_main);
      }
