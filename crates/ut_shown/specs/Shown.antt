-- A table as one who looks sees it, made a table of its own.
use Rattle.std.specs.Prelude.{ℕ, Bool, true, cond, List, [], ◌∷◌, ◌++◌, map, Option, None}
use Rattle.std.specs.Option.{unwrap_or}
use Rattle.std.specs.List.{filter}
use Rattle.ut_stamps.specs.declared.fates.Fate.{Fate}
use Rattle.ut_stamps.specs.declared.fates.Fate.TheVariants.{Committed, Aborted}
use Rattle.ut_stamps.specs.declared.visibility.Stamp.{Stamp}
use Rattle.ut_stamps.specs.Stamps.{sees}
use Rattle.ut_exact.specs.Places.{StagedRow, dead_number}
use Rattle.ut_staged.specs.Staged.{Staged}

-- one who looks: what became of each transaction, the length of the journal that counts, and an own transaction
pub record Eyes : Type 0 where
  pub fates : List Fate
  pub snapshot : ℕ
  pub own : Option ℕ

abbrev pub eyes : List Fate → ℕ → Option ℕ → Eyes
eyes fates snapshot own = record { fates = fates; snapshot = snapshot; own = own }

-- two transactions: one that was committed before all else, and one that is nobody's
abbrev pub settled : List Fate
settled = Committed 0 ∷ Aborted ∷ []

-- the stamp of a row that everybody sees, or nobody
abbrev pub shown_stamp : Bool → Stamp
shown_stamp seen = record { begin = cond seen 0 dead_number; end = None }

-- a row with that stamp
abbrev pub shown_row : Bool → StagedRow → StagedRow
shown_row seen row = record { id = row.id; values = row.values; stamp = shown_stamp seen }

module _ (l : Eyes) where
  -- whether rows of this stamp are seen
  abbrev pub sees_stamp : Stamp → Bool
  sees_stamp stamp = sees l.fates l.snapshot l.own stamp

  abbrev pub is_seen : StagedRow → Bool
  is_seen row = sees_stamp row.stamp

  -- for each of these stamps that of a row that everybody sees, or nobody
  abbrev pub shown_stamps : List Stamp → List Stamp
  shown_stamps stamps = map (λ (s : Stamp). shown_stamp (sees_stamp s)) stamps

  -- the same for rows
  abbrev pub row_stamps : List StagedRow → List Stamp
  row_stamps rows = map (λ (row : StagedRow). shown_stamp (is_seen row)) rows

  -- those of these rows that are seen
  abbrev pub shown_rows : List StagedRow → List StagedRow
  shown_rows rows = map (shown_row true) (filter is_seen rows)

  -- each row of a part, in its place
  abbrev pub shown_part : List StagedRow → List StagedRow
  shown_part rows = map (λ (row : StagedRow). shown_row (is_seen row) row) rows

  -- the rows outside of main, those of the closed stage and of the second before those of the first
  abbrev pub outside : Staged → List StagedRow
  outside s = unwrap_or s.closed [] ++ (s.l2 ++ s.l1)

  -- The table that is shown: its first stage has the rows outside of main that are seen, and main is as it was.
  abbrev pub shown_stages : Staged → Staged
  shown_stages s = record {
    columns = s.columns;
    l1 = shown_rows (outside s);
    l2 = [];
    closed = None;
    parts = map shown_part s.parts;
    keep = [];
    merge = None;
  }
