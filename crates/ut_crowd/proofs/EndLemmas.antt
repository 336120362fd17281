-- What a run of the crowd rests on, and what it came to.
use base.Fml.{GName}
use Rattle.std.proofs.Common.{ℕ, ◌≤◌, ◌⊎◌, Bool, List, Option, Some, refl}
use Rattle.std.specs.Prelude.{IsTrue}
use Rattle.ut_outside.specs.Disk.{View}
use Rattle.ut_plain.specs.Plain.{Plain}
use Rattle.ut_merge.specs.Jobs.{JobValue}
use Rattle.ut_engine.specs.Logged.{Logged}
use Rattle.ut_engine.specs.Runs.{Runs}
use Rattle.ut_crowd.specs.declared.book.Begun.{Begun}
use Rattle.ut_crowd.specs.declared.book.Turn.{Turn}
use Rattle.ut_crowd.specs.Ground.{Ground}
use Rattle.ut_crowd.specs.Queues.{HasNone}
use Rattle.ut_crowd.specs.Standing.{StandsOn, Starts}
use Rattle.ut_crowd.specs.Crowding.{Crowded}
use Rattle.ut_crowd.proofs.WeaveLemmas.{all_answered}

-- the ground of a run over this store, with these lines
abbrev pub ground_of : Logged → View → GName → List (List ℕ) → ℕ → Ground
ground_of store disk name lines l1 = record { from = λ p. Runs store disk p; disk = disk; loan = Some name; lines = lines; l1 = l1 }

pub starts : (store : Logged) (disk : View) (name : GName) (lines : List (List ℕ)) (l1 : ℕ) → (1 ≤ l1) × (l1 ≤ 1048576) → ((p : Plain) × Runs store disk p) → Starts (ground_of store disk name lines l1) lines name disk store l1
starts store disk name lines l1 range runs = record {
  lines_are = refl;
  l1_is = refl;
  range = range;
  told = refl;
  moment = refl;
  faults = refl;
  since = λ t c left. left;
  keeps = λ t c left. left;
  some = runs;
  runs = λ p r. r;
  loan = refl;
}

pub crowded : (store new : Logged) (disk now : View) (name name' : GName) (lines : List (List ℕ)) (queues : List (List (List ℕ))) (book : List Turn) (job : Option JobValue) (l1 l : ℕ) (last : Begun) (all stopped : Bool) → StandsOn (ground_of store disk name lines l1) queues book name' now new job l last → (IsTrue all → HasNone queues)
    → IsTrue all ⊎ (IsTrue stopped ⊎ IsTrue new.down) → Crowded store disk l1 lines book all stopped new now
crowded store new disk now name name' lines queues book job l1 l last all stopped s none cause = record {
  queues = queues;
  weaves = s.weaves;
  course = s.course;
  asks = s.asks;
  ordered = s.ordered;
  timely = s.timely;
  told = s.told;
  faults = s.faults;
  answered = λ a. all_answered lines queues book s.weaves (none a);
  cause = cause;
}
