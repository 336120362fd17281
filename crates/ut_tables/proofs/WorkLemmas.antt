-- What work makes of its table, and when a table can take it.
use Rattle.std.proofs.Common.{ℕ, ◌≡◌, ◌<◌, ◌^◌, true, List, [], ◌∷◌, map, sym, ap, ◌∙◌, subst, arith, IsTrue, slice_get, slice_set}
use Rattle.std.specs.List.{list_all}
use Rattle.ut_value.specs.declared.value.Row.{Row}
use Rattle.ut_value.specs.declared.entry.Op.{Op}
use Rattle.ut_value.specs.Spelling.{is_op, op_len, ops_len}
use Rattle.ut_plain.specs.Made.{rows_of}
use Rattle.ut_plain.specs.Tables.{fits_columns}
use Rattle.ut_plain.proofs.BoolLemmas.{and_left}
use Rattle.ut_stamps.specs.declared.fates.Fate.{Fate}
use Rattle.ut_staged.specs.Staged.{Staged, begun_row, count_of, entered_l2}
use Rattle.ut_table.specs.Finds.{hits_of}
use Rattle.ut_change.specs.declared.bulk.Bulk.{Bulk}
use Rattle.ut_change.specs.declared.entering.Entering.{Entering}
use Rattle.ut_change.specs.Bulks.{bulk_rows}
use Rattle.ut_change.specs.Entering.{insert_of}
use Rattle.ut_change.specs.Loads.{done_by}
use Rattle.ut_change.specs.Writes.{CanWrite}
use Rattle.ut_change.proofs.LoadLemmas.{inserted-inserts}
use Rattle.ut_tables.specs.declared.work.Changes.{Changes}
use Rattle.ut_tables.specs.declared.work.Changes.TheVariants.{Loads}
use Rattle.ut_tables.specs.declared.work.Work.{Work}
use Rattle.ut_tables.specs.Changed.{Changed}
use Rattle.ut_tables.specs.Rows.{HasTable, Rows, RowsValue, with_fates}
use Rattle.ut_tables.specs.Works.{CanDo, LoadsWell, hits_in, is_load, ops_in, worked}

-- ---- what it makes of its table

pub worked_by : (w : Work) (x : Changes) → w.changes ≡ x → (t : ℕ) (s : Staged) → worked w t s ≡ done_by (is_load x) (ops_in x) (hits_of (hits_in x)) t s
worked_by w x is t s = ap (λ (y : Changes). done_by (is_load y) (ops_in y) (hits_of (hits_in y)) t s) is

pub worked_loads : (w : Work) (b : Bulk) → w.changes ≡ Loads b → (t : ℕ) (s : Staged) → worked w t s ≡ entered_l2 (map (begun_row t) (bulk_rows b)) s
worked_loads w b is t s =
    worked_by w (Loads b) is t s
    ∙ ap (λ (rows : List Row). entered_l2 (map (begun_row t) rows) s) (inserted-inserts b.table b.id (rows_of b.width b.values.now))

pub changed_as : (old new : Rows) (n : ℕ) (f g : Staged → Staged) → ((s : Staged) → g s ≡ f s) → Changed old n f new → Changed old n g new
changed_as old new n f g same done = λ s at. done s at ∙ ap (λ (after : Staged). record old { staged = slice_set old.staged n after }) (sym (same s))

-- ---- its table can take it

pub can_write : (r : Rows) (w : Work) (x : Changes) → w.changes ≡ x → CanDo r w → HasTable r w.place (λ s. CanWrite s (hits_of (hits_in x)) (ops_in x))
can_write r w x is c = subst (λ (y : Changes). HasTable r w.place (λ s. CanWrite s (hits_of (hits_in y)) (ops_in y))) is c

-- ---- one row that enters

-- its insert is all that is spelled
pub rule_of_one : (os : List Op) (op : Op) → os ≡ op ∷ [] → IsTrue (list_all is_op os) → IsTrue (is_op op)
rule_of_one os op is h = and_left (is_op op) true (subst (λ (xs : List Op). IsTrue (list_all is_op xs)) is h)

pub len_of_one : (os : List Op) (op : Op) → os ≡ op ∷ [] → ops_len os ≡ op_len op
len_of_one os op is = ap ops_len is ∙ omega arith

-- it fits the table that was read, and there is a place for it
pub enters_fits : (s read : Staged) (e : Entering) (row : Row) → read ≡ s → row ≡ record { id = e.id; values = e.values } → CanWrite s [] (insert_of e ∷ [])
    → IsTrue (fits_columns read.columns row.values)
enters_fits s read e row here is can =
    subst (λ (r : Row). IsTrue (fits_columns read.columns r.values)) (sym is)
    (subst (λ (t : Staged). IsTrue (fits_columns t.columns e.values)) (sym here) (and_left (fits_columns s.columns e.values) true can.fits))

pub enters_few : (s read : Staged) (e : Entering) → read ≡ s → CanWrite s [] (insert_of e ∷ []) → count_of read < 2 ^ 31
enters_few s read e here can = let few = can.few in let same = ap count_of here in omega (arith, few, same)

-- ---- a transaction more was started

module _ (old new : RowsValue) (fates : List Fate) (w : Work) (started : new ≡ with_fates old fates) where
  same_stages : new.rows.staged ≡ old.rows.staged
  same_stages = ap (λ (r : RowsValue). r.rows.staged) started

  pub can_do_started : CanDo old.rows w → CanDo new.rows w
  can_do_started c = record { table = c.table; at = ap (λ (ss : List Staged). slice_get ss w.place) same_stages ∙ c.at; has = c.has }

  pub loads_well_started : LoadsWell old.rows w → LoadsWell new.rows w
  loads_well_started h b is = let l = h b is in (l.0, record { table = l.1.table; at = ap (λ (ss : List Staged). slice_get ss w.place) same_stages ∙ l.1.at; has = l.1.has })
