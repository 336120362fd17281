-- A run under way.
use Rattle.std.specs.Prelude.{ℕ, ◌≡◌, ◌≤◌, true, List, length, None}
use Rattle.ut_outside.specs.declared.ack.Ack.{Ack}
use Rattle.ut_script.specs.Lines.{Reading}
use Rattle.ut_engine.specs.Logged.{Logged}
use Rattle.ut_words.specs.declared.plan.Plan.{Plan}
use Rattle.ut_run.specs.World.{World, NoFault}
use Rattle.ut_run.specs.Script.{all_fit, IsReading}
use Rattle.ut_run.specs.Serving.{Progress}

-- So many lines were read and answered, the rest of the input is left, the store runs, and no count of faults rose.
pub record Going
    (plan : Plan) (before now : World) (count : ℕ) (lines : Reading) (store : Logged) (acks : List Ack)
    (journal : ℕ) : Type 0 where
  pub script : List (List ℕ)
  pub count_is : count ≡ length script
  pub few : count ≤ plan.lines
  pub fit : all_fit script ≡ true
  pub reading : IsReading before.source script lines.held now.source
  pub no_error : lines.failed ≡ None
  pub number : lines.number ≡ count
  pub limit : lines.limit ≡ plan.lines
  pub progress : Progress plan before now script store acks journal
  pub told : now.disk.told ≡ before.disk.told
  pub none : NoFault before now
