-- Rows that are loaded have values and ids, and suit their table.
use Rattle.std.proofs.Common.{ℕ, ◌≡◌, refl, ap, subst}
use Rattle.ut_change.specs.declared.bulk.Bulk.{Bulk}
use Rattle.ut_change.specs.Bulks.{CanLoad}
use Rattle.ut_tables.specs.declared.work.Changes.{Changes}
use Rattle.ut_tables.specs.declared.work.Changes.TheVariants.{Enters, Writes, Loads}
use Rattle.ut_tables.specs.Rows.{Rows}
use Rattle.ut_tables.specs.Works.{AreChanges, IsWide}

-- the rows that changes load, else these
abbrev loaded : Bulk → Changes → Bulk
loaded b (Enters row) = b
loaded b (Writes hits ops) = b
loaded b (Loads x) = x

pub loads_well : (r : Rows) (n : ℕ) (x : Bulk) → CanLoad x → IsWide r n x → (b : Bulk) → Loads x ≡ Loads b → CanLoad b × IsWide r n b
loads_well r n x can wide b is = let same : x ≡ b = ap (loaded b) is in (subst CanLoad same can, subst (λ (y : Bulk). IsWide r n y) same wide)

-- so are the changes that load them
pub changes_are : (r : Rows) (n : ℕ) (x : Changes) → ((b : Bulk) → x ≡ Loads b → CanLoad b × IsWide r n b) → AreChanges x
changes_are r n (Enters row) h = tt
changes_are r n (Writes hits ops) h = tt
changes_are r n (Loads b) h = (h b refl).0
