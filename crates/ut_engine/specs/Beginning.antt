-- What a call answers that makes or opens a store over a disk, and what becomes of that disk.
use base.Fml.{GName}
use Rattle.std.specs.Prelude.{ℕ, ◌≡◌, ◌≤◌, Result, Ok, Err, IfOk, OnOk, IsErrOf}
use Rattle.ut_outside.specs.Disk.{View, Image, IsTold}
use Rattle.ut_outside.specs.Faults.{Rose}
use Rattle.ut_outside.specs.Run.{Always, LeavesOnly, ReadsOnly}
use Rattle.ut_pages.specs.Layout.{IsMade}
use Rattle.ut_plain.specs.Journal.{Journal}
use Rattle.ut_durable.specs.Journals.{HoldsJournal}
use Rattle.ut_engine.specs.declared.error.OpenError.{OpenError}
use Rattle.ut_engine.specs.declared.error.OpenError.TheVariants as errors
use Rattle.ut_engine.specs.Logged.{Logged}
use Rattle.ut_engine.specs.Opening.{MayOnlyRead}
use Rattle.ut_engine.specs.Runs.{IsNew, Opens, NotMadeOrEmpty}
use Rattle.ut_engine.specs.declared.unopened.Unopened.{Unopened}
use Rattle.ut_engine.specs.Lent.{Lent}

-- the disk after the call: the engine's, or the one that is handed back
abbrev pub disk_left : {D : Type 0} → Result (Lent D) (Unopened D) → D
disk_left (Ok e) = e.disk
disk_left (Err u) = u.disk.now

-- the name of its loan
abbrev pub loan_left : {D : Type 0} → Result (Lent D) (Unopened D) → GName
loan_left (Ok e) = e.loan
loan_left (Err u) = u.disk.ghost_name

-- the store, or why there is none
abbrev pub store_or_cause : {D : Type 0} → Result (Lent D) (Unopened D) → Result Logged OpenError
store_or_cause (Ok e) = Ok e.store
store_or_cause (Err u) = Err u.cause

-- since its last moment a crash leaves of a disk what it leaves now
abbrev pub IsStill : View → Type 0
IsStill disk = (c : Image) → disk.crash_states_since disk.moment c → disk.crash_states c

-- a store that gives at most so many ids was to be made
pub record Makes (rows : ℕ) (before after : View) (answer : Result Logged OpenError) : Type 0 where
  -- `Made` exactly where the store is made
  pub new : IfOk answer (λ e. IsNew e rows before after)
  pub made : IsErrOf answer errors.Made → IsTold before → IsMade before.seen.pages
  pub cause : IsErrOf answer errors.Disk → Rose before.faults after.faults
  pub others : (IsErrOf answer errors.NotMade → ⊥) × (IsErrOf answer errors.Damaged → ⊥)
  -- Files that are made are only read, whatever the answer, and so are all where memory is wanting.
  pub reads : MayOnlyRead answer before → ReadsOnly before after
  -- Of files that no crash leaves made, a crash at any moment leaves none that are made, or an empty store.
  pub any_moment : IsTold before → Always before (λ c. IsMade c.pages → ⊥) → LeavesOnly before after NotMadeOrEmpty
  pub told : after.told ≡ before.told
  pub later : before.faults ≤ after.faults
  -- a fault that was counted is told
  pub no_fault : OnOk answer (after.faults ≡ before.faults)
  pub still : IsStill after

-- a store was to be opened with what its files say
pub record Reopens (rows : ℕ) (before after : View) (answer : Result Logged OpenError) : Type 0 where
  pub opens : IfOk answer (λ e. Opens e rows before after)
  -- `NotMade` exactly where the store isn't made, `Damaged` exactly where it is and its files hold no journal
  pub not_made : IsErrOf answer errors.NotMade → IsTold before → IsMade before.seen.pages → ⊥
  pub damaged : IsErrOf answer errors.Damaged → IsTold before → IsMade before.seen.pages × ((j : Journal) → HoldsJournal j before.seen → ⊥)
  pub cause : IsErrOf answer errors.Disk → Rose before.faults after.faults
  pub others : IsErrOf answer errors.Made → ⊥
  pub reads : ReadsOnly before after
  pub no_fault : OnOk answer (after.faults ≡ before.faults)
  pub still : IsStill after
