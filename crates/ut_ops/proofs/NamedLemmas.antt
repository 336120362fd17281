-- Columns by their places, and the names that these have.
use Rattle.std.proofs.Common.{ℕ, ◌<◌, ◌≡◌, List, map, length, Option, None, Some, sym, ap, ◌∙◌, subst, Vec, Global}
use Rattle.std.specs.List.{All}
use Rattle.ut_value.specs.declared.value.Column.{Column}
use Rattle.ut_plain.specs.declared.table.Stored.{Stored}
use Rattle.ut_plain.specs.Query.{picked}
use Rattle.ut_names.specs.declared.resolved.Columns.{Columns}
use Rattle.ut_names.specs.declared.resolved.Columns.TheVariants as places
use Rattle.ut_scan.specs.declared.place.Found.{Found}
use Rattle.ut_staged.specs.Staged.{Staged}
use Rattle.ut_table.specs.Finds.{rows_at}
use Rattle.ut_ops.specs.Fit.{Fit, values_at, cell}
use Rattle.ut_names.specs.Resolved.{AreColumns}
use Rattle.ut_ops.specs.Named.{AreWithin}
use Rattle.ut_ops.proofs.ColumnLemmas.{places_below, all_values, picked_rows}

-- the columns that are named are there
pub named-within : (columns : List Column) (names : Option (List (List ℕ))) (at : Columns) → AreColumns columns names at → AreWithin columns at
named-within columns None places.All h = tt
named-within columns None (places.Named list) h = absurd h
named-within columns (Some names) places.All h = absurd h
named-within columns (Some names) (places.Named list) h = subst (All (λ place. place < length columns)) (sym h) (places_below columns names)

-- whole rows, where no column is named
pub rows-whole : (n : ℕ) (s : Staged) (names : Option (List (List ℕ))) (found : List Found) → AreColumns s.columns names places.All
    → map (values_at s) found ≡ map (λ (e : ℕ × Stored). picked s.columns names e.1.values) (rows_at n s found)
rows-whole n s None found h = sym (all_values n s found)
rows-whole n s (Some names) found h = absurd h

-- the columns at the places of names, where these are picked
pub rows-picked : (n : ℕ) (s : Staged) (names : Option (List (List ℕ))) (list : Vec ℕ Global) (found : List Found) → Fit s found → AreColumns s.columns names (places.Named list)
    → map (λ f. map (λ place. cell s place f) list.items) found ≡ map (λ (e : ℕ × Stored). picked s.columns names e.1.values) (rows_at n s found)
rows-picked n s None list found fit h = absurd h
rows-picked n s (Some names) list found fit h = ap (λ ps. map (λ f. map (λ place. cell s place f) ps) found) h ∙ sym (picked_rows n s names found fit)
