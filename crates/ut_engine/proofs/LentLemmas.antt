-- A store that isn't down goes on from some plain state.
use Rattle.std.proofs.Common.{◌≡◌, ◌⊎◌, ⊎_elim, ℕ, false, true}
use Rattle.ut_outside.specs.Disk.{View}
use Rattle.ut_plain.specs.declared.statement.Statement.{Statement}
use Rattle.ut_plain.specs.declared.reply.Reply.{Reply}
use Rattle.ut_plain.specs.Plain.{Plain, no_image, new_store}
use Rattle.ut_durable.specs.Bytes.{image_pages}
use Rattle.ut_engine.specs.Logged.{Logged}
use Rattle.ut_engine.specs.Runs.{Runs, IsNew, Opens}
use Rattle.ut_engine.specs.Serves.{Serves, IsAnswered, IsLost}

pub goes_on : (old new : Logged) (before after : View) (session : ℕ) (st : Statement) (reply : Reply) (p : Plain) → Runs old before p → Serves old before session st reply new after → new.down ≡ false → (q : Plain) × Runs new after q
goes_on old new before after session st reply p runs serves up = by_case (serves.each p runs)
  where
    by_case : IsAnswered p before session st reply new after ⊎ IsLost p before session st reply new after → (q : Plain) × Runs new after q
    by_case is = ⊎_elim (λ answered. (answered.plain, answered.runs)) (λ lost. let down : new.down ≡ true = lost.down in cc) is

-- a store that was just made or opened runs from some plain state
pub made_runs : (e : Logged) (rows : ℕ) (before after : View) → IsNew e rows before after → (p : Plain) × Runs e after p
made_runs e rows before after new = (new_store (no_image image_pages) rows, new.runs)

pub opened_runs : (e : Logged) (rows : ℕ) (before after : View) → Opens e rows before after → (p : Plain) × Runs e after p
opened_runs e rows before after opens = (_, opens.runs)
