-- What operations make of the rows.
use Rattle.std.specs.Prelude.{ℕ, ◌+◌, ◌≡◌, ◌≤◌, max, List, length, Some, IsTrue, nat_lt, nat_le, Bool, ◌&&◌, is_none}
use Rattle.ut_value.specs.declared.value.Row.{Row}
use Rattle.ut_value.specs.declared.entry.Op.{Op}
use Rattle.ut_plain.specs.declared.table.Table.{Table}
use Rattle.ut_plain.specs.Tables.{columns_at, fits_table}
use Rattle.ut_plain.specs.Rows as plain
use Rattle.ut_plain.specs.Rows.{with_ops, can_apply_all, next_after, inserts_of}
use Rattle.ut_plain.specs.Stages.{Stages}
use Rattle.ut_plain.specs.Restart.{replayed_ops}
use Rattle.ut_stamps.specs.declared.place.Place.TheVariants.{L1}
use Rattle.ut_restart.specs.declared.rows.Rows.{Rows}
use Rattle.ut_restart.specs.Standing.{shown, staged_at, entered_in}
use Rattle.ut_restart.specs.Rows.{IsSound, IsSet, Keeps, position_in, position}

-- the present rows have their positions
abbrev pub AreSound : List Table → Rows → Type 0
AreSound tables r = IsSound tables (shown r.stages.items) (position_in r.positions) r.load

-- the rows are these, and stand in these stages of the plain store
abbrev pub AreRows : Rows → plain.Rows → Stages → Type 0
AreRows r rows stages = Keeps (shown r.stages.items) (position_in r.positions) rows stages

-- a row more
pub record Added (old : Rows) (table : ℕ) (row : Row) (new : Rows) : Type 0 where
  pub stages : shown new.stages.items ≡ entered_in (shown old.stages.items) table row
  pub positions : IsSet (position_in old.positions) (position_in new.positions) row.id
      (Some (position table (L1 (length (staged_at (shown old.stages.items) table).l1))))
  pub next : new.next ≡ max old.next (row.id + 1)
  pub load : new.load ≡ old.load + 1

-- whether a row may be inserted: it suits its table, nobody has its id, and the load is not at its limit
abbrev pub may_insert : List Table → Rows → ℕ → Row → Bool
may_insert tables r table row =
    fits_table (columns_at tables table) row.values && nat_le 1 row.id && nat_le row.id 2147483648
    && is_none (position_in r.positions row.id) && nat_lt r.load 2147483648

-- each operation can be applied in its place, and was
pub record Applied (tables : List Table) (old : Rows) (os : List Op) (new : Rows) : Type 0 where
  pub sound : AreSound tables new
  pub next : new.next ≡ next_after old.next os
  pub load : new.load ≡ old.load + inserts_of os
  pub can : (rows : plain.Rows) (stages : Stages) → AreRows old rows stages → IsTrue (can_apply_all tables rows os)
  pub rows : (rows : plain.Rows) (stages : Stages) → AreRows old rows stages → AreRows new (with_ops rows os) (replayed_ops stages os)

-- some operation cannot be applied in its place, or the load is above its limit
pub record Refused (tables : List Table) (old : Rows) (os : List Op) : Type 0 where
  pub never : (rows : plain.Rows) (stages : Stages) → AreRows old rows stages → IsTrue (can_apply_all tables rows os)
      → old.load + inserts_of os ≤ 2147483648 → ⊥
