-- How many rows stand in the stages, by the lists of a table.
use Rattle.std.proofs.Common.{◌≡◌, ℕ, ◌+◌, List, [], ◌∷◌, length, map, drop, get_or, Option, None, Some, unwrap_or, refl, sym, ◌∙◌, ap, arith}
use Rattle.std.specs.Option.{option_map}
use Rattle.std.specs.List.{sum_by}
use Rattle.std.proofs.lemmas.List.{length-map}
use Rattle.std.proofs.lemmas.List.Sums.{sum_by-cons}
use Rattle.ut_value.specs.declared.value.Column.{Column}
use Rattle.ut_plain.specs.declared.reply.Shape.{Shape}
use Rattle.ut_plain.specs.Stages.{shape_of}
use Rattle.ut_stamps.specs.declared.visibility.Stamp.{Stamp}
use Rattle.ut_exact.specs.Places.{StagedRow}
use Rattle.ut_l2.specs.KeyRows.{KeyRow}
use Rattle.ut_main.specs.Parts.{rows_in}
use Rattle.ut_staged.specs.Staged.{Staged, placed_of, stages_of}
use Rattle.ut_table.specs.Contents.{Contents, PendingValue, closed_rows, held, held_parts, staged}
use Rattle.ut_table.specs.Kept.{IsTable}
use Rattle.ut_table.proofs.StampedLemmas.{stamped_rows-length, held-length, parts-length}
use Rattle.ut_table.proofs.PlaceLemmas.{closed-lengths}

sizes-of : (columns : List Column) (parts : List (List KeyRow)) (stamps : List (List Stamp)) → map length stamps ≡ map length parts → map length (held_parts columns parts stamps) ≡ map length parts
sizes-of columns [] stamps e = refl
sizes-of columns (r ∷ rs) [] e = absurd (omega (arith, ap length e))
sizes-of columns (r ∷ rs) (l ∷ ls) e = λ i. held-length columns r l (ap (λ (x : List ℕ). get_or x 0 0) e) i ∷ sizes-of columns rs ls (ap (drop 1) e) i

sums-of : (columns : List Column) (parts : List (List KeyRow)) (stamps : List (List Stamp)) → map length stamps ≡ map length parts → sum_by length (held_parts columns parts stamps) ≡ sum_by length parts
sums-of columns [] stamps e = refl
sums-of columns (r ∷ rs) [] e = absurd (omega (arith, ap length e))
sums-of columns (r ∷ rs) (l ∷ ls) e =
    sum_by-cons length (held columns r l) (held_parts columns rs ls)
    ∙ (λ i. held-length columns r l (ap (λ (x : List ℕ). get_or x 0 0) e) i + sums-of columns rs ls (ap (drop 1) e) i)
    ∙ sym (sum_by-cons length r rs)

placed-sizes : (parts : List (List StagedRow)) → map length (map (map placed_of) parts) ≡ map length parts
placed-sizes [] = refl
placed-sizes (r ∷ rs) = λ i. length-map r placed_of i ∷ placed-sizes rs i

module _ {t : Contents} (h : IsTable t) {s : Staged} (view : staged t ≡ s) where
  pub parts-are : length t.main.parts ≡ length s.parts
  parts-are = sym (parts-length t.columns t.main.parts t.stamps.parts h.stamped.parts) ∙ ap (λ (x : Staged). length x.parts) view

  pub main-rows : rows_in t.main ≡ sum_by length s.parts
  main-rows = sym (sums-of t.columns t.main.parts t.stamps.parts h.stamped.parts) ∙ ap (λ (x : Staged). sum_by length x.parts) view

  closed-shape : option_map (λ (p : PendingValue). length p.closed.rows) t.pending ≡ option_map length (stages_of (staged t)).closed
  closed-shape = by t.pending (closed-lengths h)
    where
      by : (q : Option PendingValue) → length (unwrap_or t.stamps.closed []) ≡ length (closed_rows q)
          → option_map (λ (p : PendingValue). length p.closed.rows) q ≡ option_map length (option_map (map placed_of) (option_map (λ (p : PendingValue). held t.columns p.closed.rows (unwrap_or t.stamps.closed [])) q))
      by None e = refl
      by (Some p) e = ap Some (sym (length-map (held t.columns p.closed.rows (unwrap_or t.stamps.closed [])) placed_of ∙ held-length t.columns p.closed.rows (unwrap_or t.stamps.closed []) e))

  pub shape-is : (let shape : Shape = record { l1 = length t.l1; l2 = length t.l2.rows; closed = option_map (λ (p : PendingValue). length p.closed.rows) t.pending; parts = map length t.main.parts } in shape) ≡ shape_of (stages_of s)
  shape-is =
      (λ i. record {
        l1 = sym (length-map (staged t).l1 placed_of ∙ stamped_rows-length t.l1 t.stamps.l1.items h.stamped.l1) i;
        l2 = sym (length-map (staged t).l2 placed_of ∙ held-length t.columns t.l2.rows t.stamps.l2.items h.stamped.l2) i;
        closed = closed-shape i;
        parts = sym (placed-sizes (staged t).parts ∙ sizes-of t.columns t.main.parts t.stamps.parts h.stamped.parts) i;
      })
      ∙ ap (λ (x : Staged). shape_of (stages_of x)) view
