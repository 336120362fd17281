-- The places of all tables.
use Rattle.std.specs.Prelude.{ℕ, ◌≡◌, cond, nat_eq, List, [], length, map, drop, Option, slice_get}
use Rattle.std.specs.Option.{option_and_then, unwrap_or}
use Rattle.ut_value.specs.declared.entry.MergeKind.{MergeKind}
use Rattle.ut_plain.specs.Merges.{staying, arranged, flagged_all, rebuilt}
use Rattle.ut_exact.specs.Places.{StagedRow}
use Rattle.ut_stamps.specs.declared.place.Place.{Place}
use Rattle.ut_stamps.specs.declared.place.Place.TheVariants.{L1, L2, Closed, Main}
use Rattle.ut_staged.specs.Staged.{Staged, row_at, rows_at, placed_of, stages_of}
use Rattle.ut_staged.specs.Choice.{IsChoice, IsDropped}

-- the row in a place of table n
abbrev pub place_at : List Staged → ℕ → Place → Option StagedRow
place_at staged n p = option_and_then (λ s. row_at s p) (slice_get staged n)

-- where the row of a place of a table stood before the rows of table n moved
abbrev pub moved_in : ℕ → (Place → Place) → ℕ → Place → Place
moved_in n from m q = cond (nat_eq m n) (from q) q

-- where the row of a place stood before the second stage was closed
abbrev pub opened : Place → Place
opened (L1 i) = L1 i
opened (L2 i) = L2 i
opened (Closed i) = L2 i
opened (Main p i) = Main p i

-- these are the old places of a new part: each that is kept, once, and in the order of the kind of merge
pub record IsArranged (kind : MergeKind) (s : Staged) (olds : List Place) : Type 0 where
  pub choice : IsChoice (staying kind (length s.parts)) s (IsDropped s) olds
  pub order : map placed_of (rows_at s olds)
      ≡ arranged kind (flagged_all (rebuilt kind (stages_of s).parts (unwrap_or (stages_of s).closed []))
      (drop (staying kind (length s.parts)) s.keep))
