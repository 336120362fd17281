-- The world outside as a run sees it: its source, its sink and its disk, and what is as it was.
use Rattle.std.specs.Prelude.{ℕ, ◌≡◌, List, Option}
use Rattle.ut_outside.specs.Disk.{View}
use Rattle.ut_outside.specs.Run.{ReadsOnly}
use Rattle.ut_outside.specs.declared.ask.Ask.{Ask}

-- all that a run reads, writes or changes outside of itself, at one moment
pub record World : Type 1 where
  -- the bytes that the source has left and the calls that it answered, where it tells them, and how often it has failed
  pub source : Option (List ℕ)
  pub asks : Option (List Ask)
  pub reads : ℕ
  -- the bytes that the sink took, where it tells them, the moment of each, and how often it has failed
  pub sink : Option (List ℕ)
  pub marks : List ℕ
  pub writes : ℕ
  pub disk : View

-- the source wasn't asked, and the sink was given nothing
pub record StreamsStay (before after : World) : Type 0 where
  pub source : after.source ≡ before.source
  pub asks : after.asks ≡ before.asks
  pub reads : after.reads ≡ before.reads
  pub sink : after.sink ≡ before.sink
  pub marks : after.marks ≡ before.marks
  pub writes : after.writes ≡ before.writes

-- no count of faults rose
pub record NoFault (before after : World) : Type 0 where
  pub reads : after.reads ≡ before.reads
  pub writes : after.writes ≡ before.writes
  pub disk : after.disk.faults ≡ before.disk.faults

-- the disk wasn't called
pub record DiskStays (before after : View) : Type 0 where
  pub moment : after.moment ≡ before.moment
  pub faults : after.faults ≡ before.faults
  pub same : ReadsOnly before after
