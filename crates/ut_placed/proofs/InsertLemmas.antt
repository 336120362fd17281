-- Rows that operations insert, and that are marked dead, are rows of their tables.
use Rattle.std.proofs.Common.{inl, inr, ⊎_elim, ℕ, Bool, true, false, ◌&&◌, cond, List, [], ◌∷◌, length, map, Option, None, Some, sym, subst, IsTrue, leb-true}
use Rattle.std.specs.Prelude.{Contains, nat_le, nat_eq}
use Rattle.std.specs.Option.{option_map, unwrap_or}
use Rattle.std.specs.List.{list_all}
use Rattle.ut_value.specs.declared.value.Column.{Column}
use Rattle.ut_value.specs.declared.value.Value.{Value}
use Rattle.ut_value.specs.declared.entry.Op.{Op}
use Rattle.ut_value.specs.declared.entry.Op.TheVariants as ops
use Rattle.ut_value.specs.Spelling.{is_op, is_u16, is_u32, is_count}
use Rattle.ut_plain.specs.declared.table.Table.{Table}
use Rattle.ut_plain.specs.declared.stage.Placed.{Placed}
use Rattle.ut_plain.specs.declared.stage.TableStages.{TableStages}
use Rattle.ut_plain.specs.Tables.{columns_at, fits_table}
use Rattle.ut_plain.specs.Rows.{Rows, can_apply, can_apply_all, with_op}
use Rattle.ut_plain.specs.Stages.{Stages, stages_at, with_stages, with_inserts, entered, placed}
use Rattle.ut_plain.specs.Restart.{buried, with_dead, replayed_ops}
use Rattle.ut_plain.specs.Capture.{StandsAnywhere}
use Rattle.ut_durable.specs.Rules.{IsImageRow}
use Rattle.ut_plain.proofs.BoolLemmas.{and_left, and_right, and_both}
use Rattle.ut_plain.proofs.CaptureLaws.{in_map}
use Rattle.ut_placed.specs.Placed.{IsRowOf, HaveRowsOf}
use Rattle.ut_placed.proofs.StandLemmas.{changed_one, in_entered}

-- an insert that can be applied and has a spelling is one of a row of its table
pub inserted_row : (tables : List Table) (rows : Rows) (table id : ℕ) (vs : List Value) → IsTrue (can_apply tables rows (ops.Insert table id vs)) → IsTrue (is_op (ops.Insert table id vs)) → IsRowOf tables table (placed id vs)
inserted_row tables rows table id vs can spelled columns at = record {
  id = (leb-true 1 id (and_right (fits_table (columns_at tables table) vs) _ (and_left _ _ (and_left _ _ can))), leb-true id 2147483648 (and_right (fits_table (columns_at tables table) vs && nat_le 1 id) _ (and_left _ _ can)));
  values = and_both _ _ (subst (λ (o : Option (List Column)). IsTrue (fits_table o vs)) at (and_left _ _ (and_left _ _ (and_left _ _ can)))) (and_right (is_count 64 (length vs)) _ (and_right (is_u16 table && is_u32 id) _ spelled));
}

-- the rows that a statement inserts
pub inserts_hold : (bulk : Bool) (tables : List Table) (rows : Rows) (os : List Op) (stages : Stages) → IsTrue (can_apply_all tables rows os) → IsTrue (list_all is_op os) → HaveRowsOf tables stages
    → HaveRowsOf tables (with_inserts bulk stages os)
inserts_hold bulk tables rows [] stages can spelled all = all
inserts_hold bulk tables rows (ops.Insert table id vs ∷ os) stages can spelled all =
    inserts_hold bulk tables (with_op rows (ops.Insert table id vs)) os (with_stages (entered bulk (placed id vs)) table stages)
    (and_right (can_apply tables rows (ops.Insert table id vs)) _ can) (and_right (is_op (ops.Insert table id vs)) _ spelled)
    (changed_one (IsRowOf tables) stages table (entered bulk (placed id vs) (stages_at stages table)) here all)
  where
    here : (p : Placed) → StandsAnywhere (entered bulk (placed id vs) (stages_at stages table)) p → IsRowOf tables table p
    here p has = ⊎_elim
        (λ same. subst (IsRowOf tables table) same (inserted_row tables rows table id vs (and_left _ _ can) (and_left _ _ spelled)))
        (λ old. all table p old)
        (in_entered bulk (placed id vs) (stages_at stages table) p has)
inserts_hold bulk tables rows (ops.Delete table id ∷ os) stages can spelled all =
    inserts_hold bulk tables (with_op rows (ops.Delete table id)) os stages (and_right (can_apply tables rows (ops.Delete table id)) _ can) (and_right (is_op (ops.Delete table id)) _ spelled) all

-- ---- rows that are marked dead

still_row : (tables : List Table) (table id : ℕ) (p : Placed) → IsRowOf tables table p → IsRowOf tables table (buried id p)
still_row tables table id p row columns at = by (nat_eq p.id id)
  where
    by : (b : Bool) → IsImageRow columns (cond b (record p { dead = true }) p)
    by true = let is = row columns at in record { id = is.id; values = is.values }
    by false = row columns at

-- where each place of a list holds a row, each does once a row is dead
dead_list : (tables : List Table) (table id : ℕ) (places : List Placed) → ((p : Placed) → Contains places p → IsRowOf tables table p) → (p : Placed) → Contains (map (buried id) places) p → IsRowOf tables table p
dead_list tables table id places all p has =
    let found = in_map (buried id) places p has in subst (IsRowOf tables table) found.2 (still_row tables table id found.0 (all found.0 found.1))

dead_table : (tables : List Table) (table id : ℕ) (t : TableStages) → ((p : Placed) → StandsAnywhere t p → IsRowOf tables table p) → (p : Placed) → StandsAnywhere (with_dead id t) p → IsRowOf tables table p
dead_table tables table id t all p (inl has) = dead_list tables table id t.l1 (λ q is. all q (inl is)) p has
dead_table tables table id t all p (inr (inl has)) = dead_list tables table id t.l2 (λ q is. all q (inr (inl is))) p has
dead_table tables table id t all p (inr (inr (inl has))) = closed t.closed (λ q is. all q (inr (inr (inl is)))) has
  where
    closed : (o : Option (List Placed)) → ((q : Placed) → Contains (unwrap_or o []) q → IsRowOf tables table q) → Contains (unwrap_or (option_map (map (buried id)) o) []) p → IsRowOf tables table p
    closed None each has = each p has
    closed (Some places) each has = dead_list tables table id places each p has
dead_table tables table id t all p (inr (inr (inr (part, there, has)))) =
    let old = in_map (map (buried id)) t.parts part there in
    dead_list tables table id old.0 (λ q is. all q (inr (inr (inr (old.0, old.1, is))))) p (subst (λ (places : List Placed). Contains places p) (sym old.2) has)

-- the operations of an entry that a restart reads
pub replays_hold : (tables : List Table) (rows : Rows) (os : List Op) (stages : Stages) → IsTrue (can_apply_all tables rows os) → IsTrue (list_all is_op os) → HaveRowsOf tables stages → HaveRowsOf tables (replayed_ops stages os)
replays_hold tables rows [] stages can spelled all = all
replays_hold tables rows (ops.Insert table id vs ∷ os) stages can spelled all =
    replays_hold tables (with_op rows (ops.Insert table id vs)) os (with_stages (entered false (placed id vs)) table stages)
    (and_right (can_apply tables rows (ops.Insert table id vs)) _ can) (and_right (is_op (ops.Insert table id vs)) _ spelled)
    (changed_one (IsRowOf tables) stages table (entered false (placed id vs) (stages_at stages table)) here all)
  where
    here : (p : Placed) → StandsAnywhere (entered false (placed id vs) (stages_at stages table)) p → IsRowOf tables table p
    here p has = ⊎_elim
        (λ same. subst (IsRowOf tables table) same (inserted_row tables rows table id vs (and_left _ _ can) (and_left _ _ spelled)))
        (λ old. all table p old)
        (in_entered false (placed id vs) (stages_at stages table) p has)
replays_hold tables rows (ops.Delete table id ∷ os) stages can spelled all =
    replays_hold tables (with_op rows (ops.Delete table id)) os (with_stages (with_dead id) table stages) (and_right (can_apply tables rows (ops.Delete table id)) _ can) (and_right (is_op (ops.Delete table id)) _ spelled)
    (changed_one (IsRowOf tables) stages table (with_dead id (stages_at stages table)) (dead_table tables table id (stages_at stages table) (λ p has. all table p has)) all)
