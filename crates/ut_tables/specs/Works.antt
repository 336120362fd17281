-- What a statement's work is, and when the rows can take it.
use Rattle.std.specs.Prelude.{ℕ, ◌≡◌, Bool, true, false, List, [], ◌∷◌, length}
use Rattle.ut_value.specs.declared.entry.Op.{Op}
use Rattle.ut_stamps.specs.declared.place.Place.{Place}
use Rattle.ut_staged.specs.Staged.{Staged}
use Rattle.ut_scan.specs.declared.place.Found.{Found}
use Rattle.ut_table.specs.Finds.{hits_of}
use Rattle.ut_change.specs.declared.bulk.Bulk.{Bulk}
use Rattle.ut_change.specs.Bulks.{bulk_ops, CanLoad}
use Rattle.ut_change.specs.Entering.{insert_of}
use Rattle.ut_change.specs.Loads.{done_by}
use Rattle.ut_change.specs.Writes.{CanWrite}
use Rattle.ut_tables.specs.declared.work.Changes.{Changes}
use Rattle.ut_tables.specs.declared.work.Changes.TheVariants.{Enters, Writes, Loads}
use Rattle.ut_tables.specs.declared.work.Work.{Work}
use Rattle.ut_tables.specs.Rows.{HasTable, Rows}

-- where the rows stand that are deleted
abbrev pub hits_in : Changes → List Found
hits_in (Enters row) = []
hits_in (Writes hits ops) = hits.now
hits_in (Loads bulk) = []

-- the operations
abbrev pub ops_in : Changes → List Op
ops_in (Enters row) = insert_of row ∷ []
ops_in (Writes hits ops) = ops.items
ops_in (Loads bulk) = bulk_ops bulk

-- whether rows are loaded
abbrev pub is_load : Changes → Bool
is_load (Enters row) = false
is_load (Writes hits ops) = false
is_load (Loads bulk) = true

-- rows that are loaded have values and ids, and inserts that can be spelled
abbrev pub AreChanges : Changes → Type 0
AreChanges (Enters row) = Unit {0}
AreChanges (Writes hits ops) = Unit {0}
AreChanges (Loads bulk) = CanLoad bulk

-- the places of the rows that it deletes
abbrev pub places_of : Work → List (ℕ × Place)
places_of w = hits_of (hits_in w.changes)

-- what it makes of its table's stages, as that of a transaction of this number
abbrev pub worked : Work → ℕ → Staged → Staged
worked w number s = done_by (is_load w.changes) (ops_in w.changes) (places_of w) number s

-- rows are as wide as the table at a place
abbrev pub IsWide : Rows → ℕ → Bulk → Type 0
IsWide r n b = HasTable r n (λ s. b.width ≡ length s.columns)

-- what is loaded suits its table
abbrev pub LoadsWell : Rows → Work → Type 0
LoadsWell r w = (b : Bulk) → w.changes ≡ Loads b → CanLoad b × IsWide r w.place b

-- its table can take it
abbrev pub CanDo : Rows → Work → Type 0
CanDo r w = HasTable r w.place (λ s. CanWrite s (places_of w) (ops_in w.changes))
