-- A group: entries that count at once, since they stand in one frame. It is written in pieces behind the closed gate.
use Rattle.std.specs.Prelude.{◌≡◌, ◌≤◌, ◌^◌, ℕ, ◌+◌, List, ◌++◌, length, drop}
use Rattle.std.specs.Int.{w32, to_le_bytes}
use Rattle.ut_outside.specs.Disk.{View, IsTold, content}
use Rattle.ut_value.specs.declared.entry.Entry.{Entry}
use Rattle.ut_redo.specs.Frames.{Holds}
use Rattle.ut_redo.specs.Appends.{LogPlace, HasClosedGate}

-- how many bytes of payload a group has room for, and how many it has
pub record Group : Type 0 where
  pub room : ℕ
  pub added : ℕ

-- a log as callers see it: where its next frame goes, and what of a group stands behind that gate
pub record Log : Type 0 where
  pub place : LogPlace
  pub group : Group

-- no group
abbrev pub no_group : Group
no_group = record { room = 0; added = 0 }

-- a log's place behind a group
abbrev pub behind_group : Log → LogPlace
behind_group log = record { file = log.place.file; end = log.place.end + log.group.room + 5 }

-- A group is under way: the gate is closed whatever a crash leaves, and a read finds behind it
-- the length of the group's payload and what was added of the payload.
pub record IsUnderWay (log : Log) (payload : List ℕ) (disk : View) : Type 0 where
  pub gate : HasClosedGate log.place disk
  pub low : log.place.end ≤ 2 ^ 61
  pub short : log.group.room ≤ 2 ^ 30
  pub added : log.group.added ≡ length payload
  pub there : IsTold disk → (rest : List ℕ)
      × (drop (log.place.end + 1) (content log.place.file disk.seen) ≡ (to_le_bytes w32 log.group.room ++ payload) ++ rest)

-- whatever entries the file held up to that end, from any offset, it holds now
abbrev pub Unmoved : (at : ℕ) → List ℕ → List ℕ → Type 0
Unmoved at old new = (from : ℕ) (held : List Entry) → Holds from held at old → Holds from held at new
