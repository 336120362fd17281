-- Which piece of a savepoint is due.
use Rattle.std.specs.Prelude.{ℕ, ◌+◌, ◌*◌, Bool, ◌&&◌, if◌then◌else◌, nat_le, ltb, Option, None, Some}
use Rattle.ut_plain.specs.declared.statement.Statement.{Statement}
use Rattle.ut_plain.specs.declared.statement.Statement.TheVariants.{SaveBegin, SaveStep, SaveSeal, SaveFlip}
use Rattle.ut_plain.specs.declared.stage.Progress.{Progress}
use Rattle.ut_plain.specs.declared.stage.Progress.TheVariants.{Idle, Writing, Sealed}

-- since the last savepoint began 32 entries have come at least, and 64 for each page that it had
abbrev pub is_enough : (entries since pages : ℕ) → Bool
is_enough entries since pages = nat_le (since + 32) entries && nat_le (since + 64 * pages) entries

-- A savepoint begins where enough entries have come since the last one; then eight pages at a time, the root, and the choice of it.
abbrev pub due_piece : Progress → (entries since pages : ℕ) → Option Statement
due_piece Idle entries since pages = if is_enough entries since pages then Some SaveBegin else None
due_piece (Writing done all) entries since pages = if ltb done all then Some (SaveStep 8) else Some SaveSeal
due_piece (Sealed all) entries since pages = Some SaveFlip
