-- The refusals that a statement gets before any row is looked at.
use Rattle.std.specs.Prelude.{ℕ, Bool, List, Option, is_some}
use Rattle.std.specs.Option.{option_map}
use Rattle.ut_plain.specs.declared.table.Table.{Table}
use Rattle.ut_plain.specs.declared.stage.PendingMerge.{PendingMerge}
use Rattle.ut_plain.specs.declared.statement.Statement.{Statement}
use Rattle.ut_plain.specs.declared.reply.Refusal.{Refusal}
use Rattle.ut_plain.specs.declared.reply.Refusal.TheVariants as refusals
use Rattle.ut_plain.specs.Names.{names_known}
use Rattle.ut_plain.specs.Kinds.{kinds_fit}
use Rattle.ut_plain.specs.Refusals.{state_why, merge_why, unless, or_else}
use Rattle.ut_txn.specs.Seats.{opened_at}
use Rattle.ut_store.specs.Held.{Held}

-- whether the session is in a transaction, and whether a merge is pending
abbrev pub state_refusal : Bool → Option PendingMerge → Statement → Option Refusal
state_refusal is_open pending st =
    or_else (option_map refusals.State (state_why is_open st)) (option_map refusals.State (merge_why pending st))

-- names, kinds, and then these
abbrev pub early_refusal_of : List Table → Bool → Option PendingMerge → Statement → Option Refusal
early_refusal_of tables is_open pending st =
    or_else (unless (names_known tables st) refusals.Name)
    (or_else (unless (kinds_fit tables st) refusals.Kind) (state_refusal is_open pending st))

-- the same of a session of the store
abbrev pub early_refusal : Held → ℕ → Statement → Option Refusal
early_refusal e session st = early_refusal_of e.rows.tables (is_some (opened_at e.seats session)) e.counts.pending st
