-- Which tables a question reads, and what a shot has of each.
use Rattle.std.specs.Prelude.{ℕ, suc, Bool, false, ◌||◌, cond, nat_eq, List, [], ◌∷◌, Option, None, Some}
use Rattle.std.specs.List.{filter}
use Rattle.ut_plain.specs.declared.table.Table.{Table}
use Rattle.ut_plain.specs.declared.table.Stored.{Stored}
use Rattle.ut_plain.specs.declared.statement.Query.{Query}
use Rattle.ut_plain.specs.declared.statement.Query.TheVariants.{Select, Count, Sum, Min, Max, Group, Join}
use Rattle.ut_plain.specs.Tables.{place_of}
use Rattle.ut_staged.specs.Staged.{Staged, no_rows}
use Rattle.ut_look.specs.Look.{Sight}
use Rattle.ut_shown.specs.Shown.{Eyes, eyes, shown_stages}

-- whether a place that was found is this one
abbrev pub is_at : Option ℕ → ℕ → Bool
is_at None n = false
is_at (Some place) n = nat_eq place n

-- whether the table of a name stands at a place
abbrev pub is_named : List Table → List ℕ → ℕ → Bool
is_named tables name n = is_at (place_of tables name) n

-- whether a question reads the table at a place
abbrev pub is_read : List Table → Query → ℕ → Bool
is_read tables (Select name names preds) n = is_named tables name n
is_read tables (Count name preds) n = is_named tables name n
is_read tables (Sum name column preds) n = is_named tables name n
is_read tables (Min name column preds) n = is_named tables name n
is_read tables (Max name column preds) n = is_named tables name n
is_read tables (Group name key sum preds) n = is_named tables name n
is_read tables (Join left c right d) n = is_named tables left n || is_named tables right n

-- the rows of the tables that it reads
abbrev pub read_rows : List Table → Query → List (ℕ × Stored) → List (ℕ × Stored)
read_rows tables query rows = filter (λ (e : ℕ × Stored). is_read tables query e.1.table) rows

-- one who looks there
abbrev pub eyes_of : Sight → Eyes
eyes_of l = eyes l.fates l.snapshot l.own

-- what a shot has of the table at a place
abbrev pub taken : Sight → Query → ℕ → Staged → Staged
taken l query n s = cond (is_read l.tables query n) (shown_stages (eyes_of l) s) (no_rows s.columns)

-- what it has of tables, from one place on
abbrev pub taken_from : Sight → Query → ℕ → List Staged → List Staged
taken_from l query n [] = []
taken_from l query n (s ∷ ss) = taken l query n s ∷ taken_from l query (suc n) ss

abbrev pub taken_all : Sight → Query → List Staged
taken_all l query = taken_from l query 0 l.staged
