-- A store whose merge begins.
use Rattle.std.proofs.Common.{ℕ, ◌+◌, ◌≡◌, List, Some, ap, ◌∙◌, subst, slice_get, sym}
use Rattle.ut_value.specs.declared.entry.MergeKind.{MergeKind}
use Rattle.ut_value.specs.declared.entry.Entry.TheVariants as entries
use Rattle.ut_value.specs.Spelling.{spelling}
use Rattle.ut_plain.specs.declared.stage.PendingMerge.{PendingMerge}
use Rattle.ut_staged.specs.Staged.{Staged, closed_l2}
use Rattle.ut_tables.specs.Rows.{Rows}
use Rattle.ut_tables.specs.Changed.{Changed}
use Rattle.ut_tables.specs.Merging as merges
use Rattle.ut_txn.specs.Seats.{snapshots_of}
use Rattle.ut_store.specs.Held.{Held}
use Rattle.ut_store.specs.Merging.{next_merge, merge_begun, MayMerge}

-- what may begin is the merge that its head says, by the snapshots that were read
pub may_close : (e now : Held) (n : ℕ) (kind : MergeKind) (snapshots : List ℕ) → e ≡ now → MayMerge now n kind → snapshots ≡ snapshots_of e.seats → merges.MayMerge e.rows snapshots n kind
may_close e now n kind snapshots same m looks =
    subst (λ (x : List ℕ). merges.MayMerge e.rows x n kind) (sym looks) (subst (λ (x : Held). MayMerge x n kind) (sym same) m)

-- the rows were closed, and the rest says that the merge began
pub begun_now : (e now : Held) (rows : Rows) (n : ℕ) (kind : MergeKind) (s : Staged) (snapshots : List ℕ) (head : PendingMerge) (frame : List ℕ) → e ≡ now → slice_get e.rows.staged n ≡ Some s → snapshots ≡ snapshots_of e.seats
    → Changed e.rows n (λ x. closed_l2 (next_merge e n kind) (merges.flags_now e.rows snapshots kind x) x) rows → head ≡ next_merge e n kind → frame ≡ spelling (entries.Begun (e.counts.merges + 1) n kind)
    → record e { rows = rows; counts = record e.counts { merges = e.counts.merges + 1; entries = e.counts.entries + 1; pending = Some head }; frame = frame } ≡ merge_begun now n kind s
begun_now e now rows n kind s snapshots head frame same is looks changed head_is spells =
    let closed : Changed e.rows n (λ x. closed_l2 (next_merge e n kind) (merges.flags_now e.rows (snapshots_of e.seats) kind x) x) rows =
    subst (λ (l : List ℕ). Changed e.rows n (λ x. closed_l2 (next_merge e n kind) (merges.flags_now e.rows l kind x) x) rows) looks changed in
    (λ i. record e { rows = closed s is i; counts = record e.counts { merges = e.counts.merges + 1; entries = e.counts.entries + 1; pending = Some (head_is i) }; frame = spells i }) ∙ ap (λ (x : Held). merge_begun x n kind s) same
