-- Chains of changes of one file, each durable before the next begins.
use Rattle.std.specs.Prelude.{◌≡◌, ℕ, List, Result, OnOk}
use Rattle.ut_outside.specs.declared.disk.Which.{Which}
use Rattle.ut_outside.specs.declared.faults.Failed.{Failed}
use Rattle.ut_outside.specs.Disk.{Image, View, IsTold, OnFile, content}
use Rattle.ut_outside.specs.Faults.{HasCause}
use Rattle.ut_outside.specs.Run.{Always, LeavesOnly, ComesFrom, IsCounted}

-- A file is changed and made durable, by two calls: at Ok each outcome of a crash, and a read, has the new content;
-- until then each outcome of before has gone on partly.
pub record Settles
    {T : Type 0} (file : Which) (Partly : List ℕ → List ℕ → Type 0) (change : List ℕ → List ℕ) (old new : View)
    (result : Result T Failed) : Type 0 where
  pub told : new.told ≡ old.told
  pub any_moment : LeavesOnly old new (ComesFrom old file Partly)
  pub durable : IsTold old → OnOk result (Always new (ComesFrom old file (λ d c. Partly d c × (c ≡ change (content file old.seen)))))
  pub seen : IsTold old → OnOk result (OnFile file (λ d c. c ≡ change d) old.seen new.seen)
  pub calls : IsCounted 2 old new result
  pub cause : HasCause old.faults new.faults result

-- A chain of changes has come from one view to another. At no moment a crash left what isn't P.
-- Now each outcome has gone on by this step, and it and a read have these bytes.
pub record Reached (file : Which) (P : Image → Type 0) (Step : List ℕ → List ℕ → Type 0) (bytes : List ℕ) (old new : View) : Type 0 where
  pub told : IsTold new
  pub any_moment : LeavesOnly old new P
  pub each : Always new (ComesFrom old file (λ d c. Step d c × (c ≡ bytes)))
  pub seen : OnFile file (λ _ c. c ≡ bytes) old.seen new.seen
