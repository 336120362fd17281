-- A table that is filled with what is shown of another.
use Rattle.std.proofs.Common.{◌≡◌, ℕ, zero, suc, ◌+◌, ◌<◌, ◌≤◌, ◌^◌, true, List, [], ◌∷◌, ◌++◌, length, map, filter, take, replicate, get_or, Some, unwrap_or, refl, sym, ◌∙◌, ap, subst, arith, append_assoc, length-append}
use Rattle.std.specs.Prelude.{slice_get}
use Rattle.std.specs.List.{AllByRecursion}
use Rattle.std.proofs.lemmas.List.{map-append, get_or-map, length-map, take_all, take_more}
use Rattle.std.proofs.lemmas.List.Elements.{filter-append}
use Rattle.ut_value.specs.declared.value.Column.{Column}
use Rattle.ut_stamps.specs.declared.visibility.Stamp.{Stamp}
use Rattle.ut_stamps.specs.declared.place.Place.TheVariants.{Main}
use Rattle.ut_exact.specs.Places.{StagedRow}
use Rattle.ut_l2.specs.KeyRows.{KeyRow}
use Rattle.ut_main.specs.Parts.{MainValue, first_parts}
use Rattle.ut_scan.specs.declared.stages.Stages.{Stages}
use Rattle.ut_staged.specs.Staged.{Staged, row_in, no_rows, count_of}
use Rattle.ut_table.specs.Filled.{HoldsParts, row_of}
use Rattle.ut_table.specs.Kept.{IsRow}
use Rattle.ut_table.specs.Lent.{AreLent}
use Rattle.ut_table.specs.Pending.{key_row}
use Rattle.ut_table.proofs.CloseLemmas.{parts-keys}
use Rattle.ut_table.proofs.StageLemmas.{stamp_of, few, row-fits, part-lists}
use Rattle.ut_shown.specs.Shown.{Eyes}
use Rattle.ut_shown.specs.Shown.{shown_row, shown_stamp, sees_stamp, is_seen, shown_stamps, row_stamps, shown_rows, shown_part, shown_stages}
use Rattle.ut_shown.proofs.ListLemmas.{fewer}
use Rattle.ut_shown.proofs.PushLemmas.{pushed}

-- ---- stamps of parts

-- stamps that agree are shown as stamps that agree
pub shown-alike : (l : Eyes) (n : ℕ) (stamp : Stamp) (stamps : List Stamp) → stamps ≡ replicate n stamp → replicate n (shown_stamp (sees_stamp l stamp)) ≡ shown_stamps l stamps
shown-alike l n stamp stamps agree = of n ∙ sym (ap (shown_stamps l) agree)
  where
    of : (k : ℕ) → replicate k (shown_stamp (sees_stamp l stamp)) ≡ shown_stamps l (replicate k stamp)
    of zero = refl
    of (suc k) = ap (λ (x : List Stamp). shown_stamp (sees_stamp l stamp) ∷ x) (of k)

pub shown-same : (l : Eyes) (rows : List StagedRow) → shown_stamps l (map stamp_of rows) ≡ row_stamps l rows
shown-same l [] = refl
shown-same l (row ∷ rows) = ap (λ (x : List Stamp). shown_stamp (is_seen l row) ∷ x) (shown-same l rows)

module _ {s : Staged} {stages : Stages} (a : AreLent s stages) (l : Eyes) where
  lists-long : length stages.stamps.now.parts ≡ length s.parts
  lists-long = sym (ap length (part-lists a)) ∙ length-map s.parts (map stamp_of)

  pub stamps-more : (p : ℕ) (one : List Stamp) → p < length stages.stamps.now.parts → one ≡ shown_stamps l (get_or stages.stamps.now.parts p []) → (so_far all : List (List Stamp)) → so_far ≡ map (row_stamps l) (take p s.parts) → all ≡ so_far ++ one ∷ []
      → all ≡ map (row_stamps l) (take (p + 1) s.parts)
  stamps-more p one within is so_far all done more =
      let lt : p < length s.parts = omega (arith, within, lists-long) in
      let here : one ≡ row_stamps l (get_or s.parts p []) =
      is ∙ ap (λ (x : List (List Stamp)). shown_stamps l (get_or x p [])) (sym (part-lists a)) ∙ ap (shown_stamps l) (get_or-map (map stamp_of) s.parts p [] [] lt) ∙ shown-same l (get_or s.parts p []) in
      more ∙ (λ i. done i ++ here i ∷ []) ∙ sym (map-append (row_stamps l) (take p s.parts) (get_or s.parts p [] ∷ [])) ∙ sym (ap (map (row_stamps l)) (take_more s.parts p [] lt))

  pub stamps-all : (p : ℕ) (all : List (List Stamp)) → length stages.stamps.now.parts ≤ p → all ≡ map (row_stamps l) (take p s.parts) → all ≡ map (row_stamps l) s.parts
  stamps-all p all end done = done ∙ ap (map (row_stamps l)) (take_all p s.parts (omega (arith, end, lists-long)))

  -- ---- main

  keys-are : map (map key_row) s.parts ≡ stages.main.now.parts
  keys-are = ap (λ (x : Staged). map (map key_row) x.parts) (sym a.view) ∙ parts-keys a.kept ∙ ap (λ (m : MainValue). m.parts) (sym a.main)

  width-is : stages.main.now.width ≡ length s.columns
  width-is = ap (λ (m : MainValue). m.width) a.main ∙ a.kept.rows.main_wide ∙ ap (λ (x : Staged). length x.columns) a.view

  pub narrow : length s.columns ≤ 64
  narrow = subst (λ (x : Staged). length x.columns ≤ 64) a.view a.kept.rows.narrow

  keys-shown : (parts : List (List StagedRow)) → map (map key_row) (map (shown_part l) parts) ≡ map (map key_row) parts
  keys-shown [] = refl
  keys-shown (part ∷ parts) = λ i. of part i ∷ keys-shown parts i
    where
      of : (rows : List StagedRow) → map key_row (shown_part l rows) ≡ map key_row rows
      of [] = refl
      of (row ∷ rows) = ap (λ (x : List KeyRow). key_row row ∷ x) (of rows)

  stamps-shown : (parts : List (List StagedRow)) → map (row_stamps l) parts ≡ map (map (λ (row : StagedRow). row.stamp)) (map (shown_part l) parts)
  stamps-shown [] = refl
  stamps-shown (part ∷ parts) = λ i. of part i ∷ stamps-shown parts i
    where
      of : (rows : List StagedRow) → row_stamps l rows ≡ map (λ (row : StagedRow). row.stamp) (shown_part l rows)
      of [] = refl
      of (row ∷ rows) = ap (λ (x : List Stamp). shown_stamp (is_seen l row) ∷ x) (of rows)

  abbrev Fits : StagedRow → Type 0
  Fits row = IsRow s.columns (row_of row)

  part-fits : (rows : List StagedRow) → ((i : ℕ) (row : StagedRow) → slice_get rows i ≡ Some row → Fits row) → AllByRecursion Fits (shown_part l rows)
  part-fits [] fit = tt
  part-fits (row ∷ rows) fit = (let f = fit zero row refl in record { fits = f.fits; kept = f.kept }, part-fits rows (λ i r is. fit (suc i) r is))

  parts-fit : (parts : List (List StagedRow)) → ((n i : ℕ) (row : StagedRow) → row_in (slice_get parts n) i ≡ Some row → Fits row) → AllByRecursion (AllByRecursion Fits) (map (shown_part l) parts)
  parts-fit [] fit = tt
  parts-fit (part ∷ parts) fit = (part-fits part (λ i row is. fit zero i row is), parts-fit parts (λ n i row is. fit (suc n) i row is))

  -- the parts of main, as those of a table that is filled
  pub main-holds : (columns : List Column) (n : ℕ) (main : MainValue) (stamps : List (List Stamp)) → columns ≡ s.columns → n ≡ length stages.main.now.parts → n ≤ 8 → main ≡ first_parts n stages.main.now → stamps ≡ map (row_stamps l) s.parts
      → HoldsParts columns main stamps (map (shown_part l) s.parts)
  main-holds columns n main stamps same count eight first are =
      let whole : take n stages.main.now.parts ≡ stages.main.now.parts = take_all n stages.main.now.parts (omega (arith, count)) in
      let parts : main.parts ≡ map (map key_row) s.parts = ap (λ (m : MainValue). m.parts) first ∙ whole ∙ sym keys-are in
      subst (λ (cs : List Column). HoldsParts cs main stamps (map (shown_part l) s.parts)) (sym same) (record {
        width = ap (λ (m : MainValue). m.width) first ∙ width-is;
        few = omega (arith, eight, count, ap length keys-are, length-map s.parts (map key_row), length-map s.parts (shown_part l));
        keys = parts ∙ sym (keys-shown s.parts);
        stamps_are = are ∙ stamps-shown s.parts;
        fit = parts-fit s.parts (λ k i row is. row-fits a (Main k i) row is);
      })

  pub few-in : count_of s ≤ 2 ^ 31
  few-in = few a

-- ---- the rows outside of main

rows-append : (l : Eyes) (xs ys : List StagedRow) → shown_rows l (xs ++ ys) ≡ shown_rows l xs ++ shown_rows l ys
rows-append l xs ys = ap (map (shown_row true)) (filter-append (is_seen l) xs ys) ∙ map-append (shown_row true) (filter (is_seen l) xs) (filter (is_seen l) ys)

rows-few : (l : Eyes) (xs : List StagedRow) → length (shown_rows l xs) ≤ length xs
rows-few l xs = let le = fewer (is_seen l) xs in omega (arith, le, length-map (filter (is_seen l) xs) (shown_row true))

pub pushed-count : (l : Eyes) (rows : List StagedRow) (out : Staged) → count_of (pushed l rows out) ≤ count_of out + length rows
pushed-count l rows out = omega (arith, length-append out.l1 (shown_rows l rows), rows-few l rows)

module _ (l : Eyes) (s : Staged) where
  abbrev closed : List StagedRow
  closed = unwrap_or s.closed []

  -- the table with main alone
  abbrev pub with_main : Staged
  with_main = record (no_rows s.columns) { parts = map (shown_part l) s.parts }

  pub all-pushed : pushed l s.l1 (pushed l s.l2 (pushed l closed with_main)) ≡ shown_stages l s
  all-pushed =
      let first : ([] ++ shown_rows l closed) ++ shown_rows l s.l2 ≡ shown_rows l closed ++ shown_rows l s.l2 = refl in
      ap (λ (x : List StagedRow). record with_main { l1 = x })
      (append_assoc (shown_rows l closed) (shown_rows l s.l2) (shown_rows l s.l1)
      ∙ ap (λ (x : List StagedRow). shown_rows l closed ++ x) (sym (rows-append l s.l2 s.l1))
      ∙ sym (rows-append l closed (s.l2 ++ s.l1)))

-- ---- from call to call

module _ (l : Eyes) (s : Staged) (all : count_of s ≤ 2 ^ 31) (a : Staged) (first : a ≡ with_main l s) where
  pub first-room : count_of a + length (unwrap_or s.closed []) ≤ 2 ^ 31
  first-room = omega (arith, all, ap count_of first)

  pub first-columns : a.columns ≡ s.columns
  first-columns = ap (λ (x : Staged). x.columns) first

  module _ (b : Staged) (second : b ≡ pushed l (unwrap_or s.closed []) a) where
    b-few : count_of b ≤ length (unwrap_or s.closed [])
    b-few = omega (arith, ap count_of second, pushed-count l (unwrap_or s.closed []) a, ap count_of first)

    pub second-room : count_of b + length s.l2 ≤ 2 ^ 31
    second-room = omega (arith, all, b-few)

    pub second-columns : b.columns ≡ s.columns
    second-columns = ap (λ (x : Staged). x.columns) second ∙ first-columns

    module _ (c : Staged) (third : c ≡ pushed l s.l2 b) where
      pub third-room : count_of c + length s.l1 ≤ 2 ^ 31
      third-room = omega (arith, all, b-few, ap count_of third, pushed-count l s.l2 b)

      pub third-columns : c.columns ≡ s.columns
      third-columns = ap (λ (x : Staged). x.columns) third ∙ second-columns

      pub shown-is : (d : Staged) → d ≡ pushed l s.l1 c → d ≡ shown_stages l s
      shown-is d last = last ∙ ap (pushed l s.l1) (third ∙ ap (pushed l s.l2) (second ∙ ap (pushed l (unwrap_or s.closed [])) first)) ∙ all-pushed l s

-- the table with main alone, as it is made
pub main-made : (l : Eyes) (s : Staged) (columns : List Column) (new loaded : Staged) → columns ≡ s.columns → new ≡ no_rows columns → loaded ≡ record new { parts = map (shown_part l) s.parts } → loaded ≡ with_main l s
main-made l s columns new loaded same made is = is ∙ ap (λ (x : Staged). record x { parts = map (shown_part l) s.parts }) (made ∙ ap no_rows same)
