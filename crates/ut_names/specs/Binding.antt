-- A statement with its names bound: what it asks for, by the places of its tables and columns, with its values.
use Rattle.std.specs.Prelude.{◌≡◌, true, List, [], length, Some}
use Rattle.ut_plain.specs.declared.table.Table.{Table}
use Rattle.ut_plain.specs.declared.statement.Statement.{Statement}
use Rattle.ut_plain.specs.declared.statement.Statement.TheVariants as statements
use Rattle.ut_plain.specs.Tables.{place_of, columns_in}
use Rattle.ut_plain.specs.Names.{names_known}
use Rattle.ut_plain.specs.Kinds.{kinds_fit}
use Rattle.ut_names.specs.declared.bound.Bound.{Bound}
use Rattle.ut_names.specs.declared.bound.Bound.TheVariants as bounds
use Rattle.ut_names.specs.declared.bound.Task.{Task}
use Rattle.ut_names.specs.declared.bound.Task.TheVariants as tasks
use Rattle.ut_names.specs.declared.bound.Piece.{Piece}
use Rattle.ut_names.specs.declared.bound.Piece.TheVariants as pieces
use Rattle.ut_names.specs.Resolved.{IsSelection, IsTarget, IsQuestion, IsBare}

-- the task that a statement is, by places
abbrev pub IsTask : List Table → Statement → Task → Type 0
IsTask tables (statements.Create name columns) (tasks.Create table) = table ≡ record { name = name; columns = columns }
IsTask tables (statements.Insert name values) (tasks.Insert n given) = (place_of tables name ≡ Some n) × (given ≡ values)
IsTask tables (statements.Bulk name values) (tasks.Load n width given) =
    (place_of tables name ≡ Some n) × (width ≡ length (columns_in tables name)) × (given ≡ values)
IsTask tables (statements.Update name column value preds) (tasks.Update target given) =
    IsTarget tables name column value preds target × (given ≡ value)
IsTask tables (statements.Delete name preds) (tasks.Delete rows) = IsSelection tables name preds rows
IsTask tables (statements.Ask query) (tasks.Ask question) = IsQuestion tables query question
IsTask tables statements.Begin tasks.Begin = Unit {0}
IsTask tables statements.Commit tasks.Commit = Unit {0}
IsTask tables statements.Abort tasks.Abort = Unit {0}
IsTask tables (statements.MergeL1 name n) (tasks.MergeL1 at m) = (place_of tables name ≡ Some at) × (m ≡ n)
IsTask tables (statements.MergeBegin name kind) (tasks.MergeBegin at k) = (place_of tables name ≡ Some at) × (k ≡ kind)
IsTask tables (statements.Shape name) (tasks.Shape at) = place_of tables name ≡ Some at
IsTask tables _ _ = ⊥

-- the statement of a piece of a savepoint
abbrev pub statement_of : Piece → Statement
statement_of pieces.Begin = statements.SaveBegin
statement_of (pieces.Step n) = statements.SaveStep n
statement_of pieces.Seal = statements.SaveSeal
statement_of pieces.Flip = statements.SaveFlip
statement_of pieces.GiveUp = statements.SaveDrop

-- the statement by places
abbrev pub IsBound : List Table → Statement → Bound → Type 0
IsBound tables st (bounds.Task task) = IsTask tables st task
IsBound tables st bounds.MergeEnd = st ≡ statements.MergeEnd
IsBound tables st (bounds.Save piece) = st ≡ statement_of piece

-- The statement names what is there, its values are of their kinds, and this is what it asks for, by places.
pub record Binds (tables : List Table) (st : Statement) (bound : Bound) : Type 0 where
  pub known : names_known tables st ≡ true
  pub fits : kinds_fit tables st ≡ true
  pub is : IsBound tables st bound

-- A statement that compares nothing and shows no named columns. It is bound without memory.
abbrev pub IsPlainlyBound : Statement → Type 0
IsPlainlyBound (statements.Ask query) = IsBare query
IsPlainlyBound (statements.Update name column value preds) = preds ≡ []
IsPlainlyBound (statements.Delete name preds) = preds ≡ []
IsPlainlyBound _ = Unit {0}
