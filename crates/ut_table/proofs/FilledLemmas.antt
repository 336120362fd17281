-- Main that is taken as it is, with the stamps of its rows.
use Rattle.std.proofs.Common.{◌≡◌, List, [], ◌∷◌, length, map, Option, None, Some, All, refl, sym, ◌∙◌, ap, subst, arith}
use Rattle.std.specs.List.{AllByRecursion}
use Rattle.std.specs.Option.{option_map}
use Rattle.std.proofs.lemmas.List.{length-map}
use Rattle.std.proofs.lemmas.List.Elements.{All-nil, All-cons}
use Rattle.ut_value.specs.declared.value.Column.{Column}
use Rattle.ut_stamps.specs.declared.visibility.Stamp.{Stamp}
use Rattle.ut_l2.specs.KeyRows.{KeyRow}
use Rattle.ut_main.specs.Parts.{MainValue}
use Rattle.ut_exact.specs.Places.{StagedRow}
use Rattle.ut_staged.proofs.ListLemmas.{none_some}
use Rattle.ut_staged.specs.Staged.{stamped_row}
use Rattle.ut_table.specs.Contents.{Contents, PendingValue, held, held_parts, staged}
use Rattle.ut_table.specs.Kept.{IsRow, IsHeld, IsTable}
use Rattle.ut_table.specs.Pending.{key_row}
use Rattle.ut_table.specs.Filled.{HoldsParts, row_of}
use Rattle.ut_table.proofs.DecodedLemmas.{decoded_row-keyed, IsHeld-keyed}

module _ (columns : List Column) where
  abbrev Fits : StagedRow → Type 0
  Fits row = IsRow columns (row_of row)

  -- rows come back from their keys and their stamps
  held-rows : (rows : List StagedRow) → AllByRecursion Fits rows → held columns (map key_row rows) (map (λ (row : StagedRow). row.stamp) rows) ≡ rows
  held-rows [] fit = refl
  held-rows (row ∷ rows) fit = λ i. stamped_row row.stamp (decoded_row-keyed columns (row_of row) fit.0 i) ∷ held-rows rows fit.1 i

  held-parts : (parts : List (List StagedRow)) → AllByRecursion (AllByRecursion Fits) parts → held_parts columns (map (map key_row) parts) (map (map (λ (row : StagedRow). row.stamp)) parts) ≡ parts
  held-parts [] fit = refl
  held-parts (rows ∷ parts) fit = λ i. held-rows rows fit.0 i ∷ held-parts parts fit.1 i

  rows-held : (rows : List StagedRow) → AllByRecursion Fits rows → All (IsHeld columns) (map key_row rows)
  rows-held [] fit = All-nil (IsHeld columns)
  rows-held (row ∷ rows) fit = All-cons (IsHeld columns) (key_row row) (map key_row rows) (IsHeld-keyed columns (row_of row) fit.0) (rows-held rows fit.1)

  parts-held : (parts : List (List StagedRow)) → AllByRecursion (AllByRecursion Fits) parts → All (All (IsHeld columns)) (map (map key_row) parts)
  parts-held [] fit = All-nil (All (IsHeld columns))
  parts-held (rows ∷ parts) fit = All-cons (All (IsHeld columns)) (map key_row rows) (map (map key_row) parts) (rows-held rows fit.0) (parts-held parts fit.1)

same-sizes : (parts : List (List StagedRow)) → map length (map (map (λ (row : StagedRow). row.stamp)) parts) ≡ map length (map (map key_row) parts)
same-sizes [] = refl
same-sizes (rows ∷ parts) = λ i. (length-map rows (λ (row : StagedRow). row.stamp) ∙ sym (length-map rows key_row)) i ∷ same-sizes parts i

-- main without parts has no stamps
pub no-stamps : (columns : List Column) (parts : List (List KeyRow)) (stamps : List (List Stamp)) → map length stamps ≡ map length parts → held_parts columns parts stamps ≡ [] → stamps ≡ []
no-stamps columns [] [] same none = refl
no-stamps columns [] (s ∷ ss) same none = absurd (omega (arith, ap length same))
no-stamps columns (r ∷ rs) [] same none = refl
no-stamps columns (r ∷ rs) (s ∷ ss) same none = cc

pub no-pending : (pending : Option PendingValue) → option_map (λ (p : PendingValue). p.head) pending ≡ None → pending ≡ None
no-pending None e = refl
no-pending (Some p) e = absurd (none_some p.head (sym e))

module _ {t : Contents} (h : IsTable t) (idle : t.pending ≡ None) (main : MainValue) (stamps : List (List Stamp)) (parts : List (List StagedRow)) (holds : HoldsParts t.columns main stamps parts) where
  abbrev pub filled : Contents
  filled = record t { main = main; stamps = record t.stamps { parts = stamps } }

  pub filled-stages : staged filled ≡ record (staged t) { parts = parts }
  filled-stages = ap (λ (l : List (List StagedRow)). record (staged t) { parts = l }) ((λ i. held_parts t.columns (holds.keys i) (holds.stamps_are i)) ∙ held-parts t.columns parts holds.fit)

  pub filled-kept : IsTable filled
  filled-kept = record {
    rows = record {
      narrow = h.rows.narrow;
      l1 = h.rows.l1;
      l2_wide = h.rows.l2_wide;
      l2 = h.rows.l2;
      closed_wide = h.rows.closed_wide;
      closed = h.rows.closed;
      main_wide = holds.width;
      parts = subst (λ l. All (All (IsHeld t.columns)) l) (sym holds.keys) (parts-held t.columns parts holds.fit);
    };
    stamped = record {
      l1 = h.stamped.l1;
      l2 = h.stamped.l2;
      closed = h.stamped.closed;
      parts = ap (map length) holds.stamps_are ∙ same-sizes parts ∙ sym (ap (map length) holds.keys);
    };
    job = λ p e. absurd (none_some p (sym idle ∙ e));
    few = h.few;
  }
