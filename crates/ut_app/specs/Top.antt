-- What the program comes to with some words.
use Rattle.std.specs.Prelude.{ℕ, ◌≡◌, List}
use Rattle.ut_outside.specs.declared.ack.Ack.{Ack}
use Rattle.ut_words.specs.declared.plan.Mode.{Mode}
use Rattle.ut_words.specs.declared.plan.Mode.TheVariants as modes
use Rattle.ut_words.specs.declared.plan.Plan.{Plan}
use Rattle.ut_words.specs.declared.plan.WordsError.{WordsError}
use Rattle.ut_words.specs.declared.plan.WordsError.TheVariants as errors
use Rattle.ut_words.specs.Plans.{Takes, Refuses}
use Rattle.ut_run.specs.declared.report.Status.{Status}
use Rattle.ut_run.specs.declared.report.Status.TheVariants.{Usage, Memory}
use Rattle.ut_run.specs.World.{World}
use Rattle.ut_run.specs.Serving.{DidNothing}
use Rattle.ut_run.specs.Ends.{Run}
use Rattle.ut_app.specs.Benching.{BenchRun}
use Rattle.ut_app.specs.Crowds.{CrowdRun}

-- The status is Usage, and nothing was done.
pub record IsTurnedDown (before after : World) (status : Status) (lines : ℕ) (acks : List Ack) (journal : ℕ) : Type 0 where
  pub says : status ≡ Usage
  pub nothing : DidNothing before after lines acks journal

-- what `serve` does with a plan, by its mode; it has no threads for the mode `crowd`, which it turns down
abbrev pub ServesMode : Mode → Plan → World → World → Status → ℕ → List Ack → ℕ → Type 0
ServesMode modes.Run plan before after status lines acks journal = Run plan before after status lines acks journal
ServesMode modes.Crowd plan before after status lines acks journal = IsTurnedDown before after status lines acks journal
ServesMode modes.Bench plan before after status lines acks journal = BenchRun plan before after status lines acks journal

-- what `serve` does with a plan
abbrev pub ServesPlan : Plan → World → World → Status → ℕ → List Ack → ℕ → Type 0
ServesPlan plan before after status lines acks journal = ServesMode plan.mode plan before after status lines acks journal

-- the run that a plan asks for, by its mode
abbrev pub RunsMode : Mode → Plan → World → World → Status → ℕ → List Ack → ℕ → Type 0
RunsMode modes.Run plan before after status lines acks journal = Run plan before after status lines acks journal
RunsMode modes.Crowd plan before after status lines acks journal = CrowdRun plan before after status lines acks journal
RunsMode modes.Bench plan before after status lines acks journal = BenchRun plan before after status lines acks journal

-- the run that a plan asks for
abbrev pub RunsPlan : Plan → World → World → Status → ℕ → List Ack → ℕ → Type 0
RunsPlan plan before after status lines acks journal = RunsMode plan.mode plan before after status lines acks journal

-- The words are refused, or there is no memory to read them, and nothing is done; or their plan is run.
pub data RunsWords (words : List (List ℕ)) (before after : World) (status : Status) (lines : ℕ) (acks : List Ack) (journal : ℕ) : Type 0 where
  Refused : Refuses words → IsTurnedDown before after status lines acks journal → RunsWords words before after status lines acks journal
  Lacking : status ≡ Memory → DidNothing before after lines acks journal → RunsWords words before after status lines acks journal
  Served : (plan : Plan) → Takes words plan → RunsPlan plan before after status lines acks journal
      → RunsWords words before after status lines acks journal

-- the status of words that have no plan
abbrev pub WordsStatus : WordsError → Status → Type 0
WordsStatus errors.Usage status = status ≡ Usage
WordsStatus errors.Memory status = status ≡ Memory
