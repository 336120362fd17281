-- Whom a session's turn asks to be woken.
use Rattle.std.proofs.Common.{ℕ, ◌≡◌, Bool, true, false, refl}
use Rattle.ut_outside.specs.Disk.{View}
use Rattle.ut_engine.specs.Logged.{Logged}
use Rattle.ut_crowd.specs.declared.book.Begun.{Begun}
use Rattle.ut_crowd.specs.Going.{goes_on}
use Rattle.ut_crowd.specs.Waking.{Calls, Wakes, went_of}

pub goes_by : (more due : Bool) → goes_on (went_of more due) ≡ more
goes_by false due = refl
goes_by true true = refl
goes_by true false = refl

pub wakes_by : (l1 : ℕ) (last : Begun) (waited : Bool) (store : Logged) (disk : View) (stopped more due : Bool) → (more ≡ true → stopped ≡ false) → (stopped ≡ false → Calls l1 last waited store disk due) → (due ≡ true → store.down ≡ false)
    → Wakes l1 last waited store disk (went_of more due)
wakes_by l1 last waited store disk stopped false due going calls up = tt
wakes_by l1 last waited store disk stopped true true going calls up = (up refl, calls (going refl))
wakes_by l1 last waited store disk stopped true false going calls up = calls (going refl)
