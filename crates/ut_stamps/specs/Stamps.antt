-- Who sees a row: a snapshot is a length of the journal, and perhaps a transaction whose changes are one's own.
use Rattle.std.specs.Prelude.{ℕ, Bool, true, false, ◌&&◌, ◌||◌, not, nat_eq, nat_le, nat_lt, List, Option, None, Some, slice_get, unwrap_or}
use Rattle.ut_stamps.specs.declared.fates.Fate.{Fate}
use Rattle.ut_stamps.specs.declared.fates.Fate.TheVariants.{Running, Committed, Aborted}
use Rattle.ut_stamps.specs.declared.visibility.Stamp.{Stamp}

-- what became of a transaction; one that was never started counts as aborted
abbrev pub fate_at : List Fate → ℕ → Fate
fate_at fates t = unwrap_or (slice_get fates t) Aborted

-- the transaction has neither committed nor aborted
abbrev pub is_running : Fate → Bool
is_running Running = true
is_running (Committed at) = false
is_running Aborted = false

-- committed by an entry that the snapshot holds
abbrev pub is_committed_by : Fate → ℕ → Bool
is_committed_by Running snapshot = false
is_committed_by (Committed at) snapshot = nat_le at snapshot
is_committed_by Aborted snapshot = false

-- the transaction is one's own
abbrev pub is_own : Option ℕ → ℕ → Bool
is_own None t = false
is_own (Some own) t = nat_eq own t

-- what a transaction did is there: it is one's own, or committed by the snapshot
abbrev pub counts : List Fate → ℕ → Option ℕ → ℕ → Bool
counts fates snapshot own t = is_own own t || is_committed_by (fate_at fates t) snapshot

-- a transaction ended the row, and passes the test
abbrev pub has_ended : (ℕ → Bool) → Option ℕ → Bool
has_ended test None = false
has_ended test (Some t) = test t

-- a row is seen where its begin counts and its end doesn't
abbrev pub sees : List Fate → ℕ → Option ℕ → Stamp → Bool
sees fates snapshot own stamp = counts fates snapshot own stamp.begin && not (has_ended (counts fates snapshot own) stamp.end)

-- the fate forbids another transaction of that snapshot to end the row: it runs, or was committed behind the snapshot
abbrev pub takes : Fate → ℕ → Bool
takes Running snapshot = true
takes (Committed at) snapshot = nat_lt snapshot at
takes Aborted snapshot = false

-- a row is taken where another transaction's end forbids one's own
abbrev pub is_taken : List Fate → ℕ → Option ℕ → Stamp → Bool
is_taken fates snapshot own stamp = has_ended (λ t. not (is_own own t) && takes (fate_at fates t) snapshot) stamp.end
