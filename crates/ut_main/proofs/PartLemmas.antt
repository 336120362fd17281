-- The columns of a part are the columns of its rows.
use Rattle.std.proofs.Common.{◌≡◌, ℕ, ◌<◌, List, [], length, map, get_or, sym, ◌∙◌, ap, arith}
use Rattle.std.proofs.lemmas.List.{length-map, get_or-map, get_or_default}
use Rattle.ut_l2.specs.KeyRows.{cells_at, no_row}
use Rattle.ut_l2.specs.Delta.{rows_of, IsDelta}
use Rattle.ut_l2.proofs.DeltaLemmas.{rows-length, row-get, cells-column}
use Rattle.ut_main.specs.Columns.{ColumnValue, no_column}
use Rattle.ut_main.specs.Parts.{PartValue, part_value, AreWide, IsPart}

module _ (ids : List ℕ) (columns : List ColumnValue) (h : IsPart ids columns) where
  delta : IsDelta ids (map (λ (c : ColumnValue). c.cells) columns)
  delta = record {
    equal = λ j lt.
        let within : j < length columns = omega (arith, lt, length-map columns (λ (c : ColumnValue). c.cells)) in
        ap length (get_or-map (λ (c : ColumnValue). c.cells) columns j no_column [] within) ∙ h.equal j within;
    count = let few = h.few in omega (arith, few);
  }

  pub part-cells : (j : ℕ) → j < length columns → cells_at j (rows_of ids (map (λ c. c.cells) columns)) ≡ (get_or columns j no_column).cells
  part-cells j lt =
      sym (cells-column ids (map (λ (c : ColumnValue). c.cells) columns) delta j (omega (arith, lt, length-map columns (λ (c : ColumnValue). c.cells))))
      ∙ get_or-map (λ (c : ColumnValue). c.cells) columns j no_column [] lt

  pub part-before : (j : ℕ) → j < length columns → get_or (map (λ c. c.before) columns) j [] ≡ (get_or columns j no_column).before
  part-before j lt = get_or-map (λ (c : ColumnValue). c.before) columns j no_column [] lt

  pub part-length : length (part_value ids columns).rows ≡ length ids
  part-length = rows-length ids (map (λ (c : ColumnValue). c.cells) columns)

  pub part-wide : AreWide (length columns) (part_value ids columns).rows
  part-wide = λ i d lt.
      let li : i < length ids = omega (arith, lt, part-length) in
      ap (λ r. length r.keys) (get_or_default (part_value ids columns).rows i d no_row lt ∙ row-get ids (map (λ (c : ColumnValue). c.cells) columns) i li)
      ∙ length-map (map (λ (c : ColumnValue). c.cells) columns) (λ c. get_or c i []) ∙ length-map columns (λ (c : ColumnValue). c.cells)

-- a column that was read out of a part
pub record IsColumnOf (p : PartValue) (j : ℕ) (c : ColumnValue) : Type 0 where
  pub before : c.before ≡ get_or p.before j []
  pub cells : c.cells ≡ cells_at j p.rows
  pub length : length c.cells ≡ length p.rows

pub column-of : (ids : List ℕ) (columns : List ColumnValue) (p : PartValue) (j : ℕ) (c : ColumnValue) → IsPart ids columns → part_value ids columns ≡ p → j < length p.before → c ≡ get_or columns j c → IsColumnOf p j c
column-of ids columns p j c h view lt at =
    let within : j < length columns = omega (arith, lt, ap (λ (q : PartValue). length q.before) view, length-map columns (λ (x : ColumnValue). x.before)) in
    let here : c ≡ get_or columns j no_column = at ∙ get_or_default columns j c no_column within in
    record {
      before = ap (λ (x : ColumnValue). x.before) here ∙ sym (part-before ids columns h j within) ∙ ap (λ (q : PartValue). get_or q.before j []) view;
      cells = ap (λ (x : ColumnValue). x.cells) here ∙ sym (part-cells ids columns h j within) ∙ ap (λ (q : PartValue). cells_at j q.rows) view;
      length = ap (λ (x : ColumnValue). length x.cells) here ∙ h.equal j within ∙ sym (part-length ids columns h) ∙ ap (λ (q : PartValue). length q.rows) view;
    }
