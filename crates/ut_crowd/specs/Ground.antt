-- What a run of the crowd rests on: what its caller has in hand when it calls.
use base.Fml.{GName}
use Rattle.std.specs.Prelude.{ℕ, false, List, [], Option, None}
use Rattle.ut_outside.specs.Disk.{View}
use Rattle.ut_plain.specs.Plain.{Plain}

-- the states that the store may run from, the disk with its loan, all lines, and how many rows of a stage are merged
pub record Ground : Type 1 where
  -- the plain states that the store may run from
  pub from : Plain → Type 0
  -- the disk then
  pub disk : View
  -- the name of its loan
  pub loan : Option GName
  -- all lines
  pub lines : List (List ℕ)
  -- so many rows of a stage at least are merged
  pub l1 : ℕ

-- a ground on which no store stands
abbrev pub no_ground : Ground
no_ground = record {
  from = λ p. ⊥;
  disk = record {
    told = false;
    seen = record { redo = []; pages = []; redo2 = [] };
    crash_states = λ c. ⊥;
    moment = 0;
    crash_states_since = λ t c. ⊥;
    faults = 0;
  };
  loan = None;
  lines = [];
  l1 = 0;
}
