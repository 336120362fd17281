-- The stages that a look shows of a selection's table, and what a scan of them finds.
use Rattle.std.proofs.Common.{ℕ, zero, suc, ◌<◌, ◌≡◌, List, [], ◌∷◌, length, map, get_or, Some, All, refl, sym, ap, ◌∙◌, subst, arith, slice_get}
use Rattle.std.proofs.lemmas.List.{length-map}
use Rattle.std.proofs.lemmas.Option.{same_Some}
use Rattle.ut_value.specs.declared.value.Column.{Column}
use Rattle.ut_value.specs.Text.{same_bytes}
use Rattle.ut_plain.specs.declared.table.Table.{Table}
use Rattle.ut_plain.specs.declared.statement.Pred.{Pred}
use Rattle.ut_plain.proofs.ListLemmas.{position_below}
use Rattle.ut_key.specs.declared.comparison.ColumnPred.{ColumnPred}
use Rattle.ut_scan.specs.declared.place.Found.{Found}
use Rattle.ut_staged.specs.Staged.{Staged}
use Rattle.ut_table.specs.Contents.{TableValue}
use Rattle.ut_table.specs.Finds.{Counts, Finds, SeenOnce}
use Rattle.ut_table.specs.Tallied.{Tallied}
use Rattle.ut_names.specs.declared.resolved.Selection.{Selection}
use Rattle.ut_plain.specs.Compiled.{Compiles}
use Rattle.ut_names.proofs.CompiledLemmas.{compiled_below}
use Rattle.ut_look.specs.declared.look.Look.{Look}
use Rattle.ut_look.specs.Look.{sight}
use Rattle.ut_query.specs.Look.{CanLook}
use Rattle.ut_query.specs.Tells.{IsSelected, Shows, ShowsCount, ShowsTally}
use Rattle.ut_query.proofs.ShowLemmas.{compiles, shows_count, shows_found, shows_tally}

stages_in : (items : List TableValue) (n : ℕ) (t : TableValue) → n < length items → slice_get (map (λ (x : TableValue). x.stages) items) n ≡ Some (get_or items n t).stages
stages_in [] n t h = absurd (omega arith)
stages_in (x ∷ xs) zero t h = refl
stages_in (x ∷ xs) (suc n) t h = stages_in xs n t (omega arith)

module _ (l : Look) (rows : Selection) (t : TableValue) (can : CanLook (sight l)) (some : IsSelected l.tables.now rows) where
  -- the table is one of those that are looked at
  pub within : rows.table < length l.stages.now
  within =
      let below = position_below (λ (x : Table). same_bytes x.name some.name) l.tables.now rows.table some.is.table in
      let staged = length-map l.stages.now (λ (x : TableValue). x.stages) in
      let columns = length-map (sight l).staged (λ (x : Staged). x.columns) in
      let same = ap (λ (cs : List (List Column)). length cs) can.sees.columns in
      let tables = length-map l.tables.now (λ (x : Table). x.columns) in
      omega (arith, below, staged, columns, same, tables)

  pub read : slice_get (sight l).staged rows.table ≡ Some (get_or l.stages.now rows.table t).stages
  read = stages_in l.stages.now rows.table t within

  pub preds_below : (preds : List ColumnPred) → preds ≡ rows.preds.items → All (λ (p : ColumnPred). p.column < length (get_or l.stages.now rows.table t).stages.columns) preds
  preds_below preds is =
      subst (All (λ (p : ColumnPred). p.column < length (get_or l.stages.now rows.table t).stages.columns)) (sym is)
      (compiled_below (get_or l.stages.now rows.table t).stages.columns some.asked rows.preds.items (compiles (sight l) rows (get_or l.stages.now rows.table t).stages can read some.name some.asked some.is))

  pub once : SeenOnce (get_or l.stages.now rows.table t).stages l.snapshot.fates.now l.snapshot.at l.snapshot.own
  once = can.sees.once rows.table (get_or l.stages.now rows.table t).stages read

  -- whichever stages are read there
  same : (s : Staged) → slice_get (sight l).staged rows.table ≡ Some s → (get_or l.stages.now rows.table t).stages ≡ s
  same s at = same_Some (get_or l.stages.now rows.table t).stages s (sym read ∙ at)

  pub found_shows : (preds : List ColumnPred) (found : List Found) → preds ≡ rows.preds.items
      → ((asked : List Pred) → Compiles (get_or l.stages.now rows.table t).stages.columns asked preds → Finds (get_or l.stages.now rows.table t).stages l.snapshot.fates.now l.snapshot.at l.snapshot.own asked found)
      → (s : Staged) → slice_get (sight l).staged rows.table ≡ Some s → Shows (sight l) rows s found
  found_shows preds found is h s at =
      subst (λ (x : Staged). Shows (sight l) rows x found) (same s at)
      (shows_found (sight l) rows (get_or l.stages.now rows.table t).stages can read found some (λ asked c. h asked (subst (λ (ps : List ColumnPred). Compiles (get_or l.stages.now rows.table t).stages.columns asked ps) (sym is) c)))

  pub count_shows : (preds : List ColumnPred) (count : ℕ) → preds ≡ rows.preds.items
      → ((asked : List Pred) → Compiles (get_or l.stages.now rows.table t).stages.columns asked preds → Counts (get_or l.stages.now rows.table t).stages l.snapshot.fates.now l.snapshot.at l.snapshot.own asked count)
      → ShowsCount (sight l) rows count
  count_shows preds count is h =
      shows_count (sight l) rows (get_or l.stages.now rows.table t).stages can read count some (λ asked c. h asked (subst (λ (ps : List ColumnPred). Compiles (get_or l.stages.now rows.table t).stages.columns asked ps) (sym is) c))

  pub tally_shows : (preds : List ColumnPred) (column : ℕ) (counts : List ℕ) (rest : List Found) → preds ≡ rows.preds.items
      → ((asked : List Pred) → Compiles (get_or l.stages.now rows.table t).stages.columns asked preds → Tallied (get_or l.stages.now rows.table t).stages l.snapshot.fates.now l.snapshot.at l.snapshot.own asked column counts rest)
      → (s : Staged) → slice_get (sight l).staged rows.table ≡ Some s → ShowsTally (sight l) rows s column counts rest
  tally_shows preds column counts rest is h s at =
      subst (λ (x : Staged). ShowsTally (sight l) rows x column counts rest) (same s at)
      (shows_tally (sight l) rows (get_or l.stages.now rows.table t).stages can read column counts rest some (λ asked c. h asked (subst (λ (ps : List ColumnPred). Compiles (get_or l.stages.now rows.table t).stages.columns asked ps) (sym is) c)))
