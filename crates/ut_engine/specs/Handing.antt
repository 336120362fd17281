-- How the reply of a response is handed out: at once, or once the frame of the store is on the disk.
use Rattle.std.specs.Prelude.{◌≡◌, ◌≤◌, ◌^◌, List, ℕ, true}
use Rattle.ut_outside.specs.Disk.{View, IsTold}
use Rattle.ut_outside.specs.Faults.{Rose}
use Rattle.ut_outside.specs.Run.{ReadsOnly}
use Rattle.ut_redo.specs.Appends.{behind}
use Rattle.ut_redo.specs.Logs.{IsLogFile}
use Rattle.ut_plain.specs.declared.statement.Statement.{Statement}
use Rattle.ut_plain.specs.declared.reply.Reply.{Reply}
use Rattle.ut_plain.specs.declared.reply.Reply.TheVariants.{DiskFault}
use Rattle.ut_durable.specs.Calls.{FilesHeld, IsSettled, Gains, MayGain}
use Rattle.ut_store.specs.declared.response.Response.{Response}
use Rattle.ut_store.specs.declared.response.Response.TheVariants.{Answered, Append}
use Rattle.ut_nextid.specs.NextIds.{noted}
use Rattle.ut_engine.specs.Logged.{Logged}

-- Files may be written: the log stands in one of its two and has room, and they are settled.
pub record AreReady (files : FilesHeld) (disk : View) : Type 0 where
  pub log : IsLogFile files.log.file
  pub room : files.log.end ≤ 2 ^ 61
  pub settled : IsSettled files disk

-- what is there once the payload was appended
pub record Appended (old new : FilesHeld) (payload : List ℕ) (before after : View) : Type 0 where
  pub place : new ≡ record old { log = behind old.log payload }
  pub gains : Gains payload old new before after
  pub pages : IsTold before → after.seen.pages ≡ before.seen.pages
  pub told : after.told ≡ before.told
  pub still : after.faults ≡ before.faults

-- what is known where it wasn't, since the disk failed
pub record NotAppended (before after : View) : Type 0 where
  pub told : after.told ≡ before.told
  pub later : before.faults ≤ after.faults
  pub rose : Rose before.faults after.faults

-- How the reply of a response is handed out, and what becomes of the store and of the disk.
pub data HandsOut (response : Response) (old : Logged) (before : View) (reply : Reply) (new : Logged) (after : View) : Type 0 where
  -- nothing was to be appended
  AtOnce : response ≡ Answered reply → new ≡ old → ReadsOnly before after → after.faults ≡ before.faults
      → HandsOut response old before reply new after
  -- the frame was appended, and the reply is handed out
  Logs : response ≡ Append reply → new ≡ record old { files = new.files } → MayGain old.store.frame old.files before after
      → Appended old.files new.files old.store.frame before after → HandsOut response old before reply new after
  -- the disk failed, the reply of the response is kept back, and the store is down, with all that it had in memory
  Fails : (kept : Reply) → response ≡ Append kept → reply ≡ DiskFault → new ≡ record old { down = true }
      → MayGain old.store.frame old.files before after → NotAppended before after → HandsOut response old before reply new after

-- The reply of a response is handed out, and the journal's next id is noted. The store's was `first` before the statement.
pub record Concludes (response : Response) (session : ℕ) (st : Statement) (first : ℕ) (old : Logged) (before : View) (reply : Reply) (new : Logged) (after : View) : Type 0 where
  pub handed : Logged
  pub hands : HandsOut response old before reply handed after
  pub notes : new ≡ record handed { next = noted handed.next session st reply first handed.store.counts.next_id }
