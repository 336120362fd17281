-- What the begin of a merge into main is answered, and why.
use Rattle.std.specs.Prelude.{ℕ, ◌≡◌, ◌⊎◌, ⊤, Bool, true, false, Option, None, Some, Result, Ok, Err, IsTrue}
use Rattle.std.specs.Option.{option_map}
use Rattle.ut_plain.specs.declared.stage.PendingMerge.{PendingMerge}
use Rattle.ut_plain.specs.declared.reply.Reply.{Reply}
use Rattle.ut_plain.specs.declared.reply.Reply.TheVariants as replies
use Rattle.ut_plain.specs.declared.reply.Refusal.TheVariants as refusals
use Rattle.ut_plain.specs.declared.reply.Why.TheVariants as whys
use Rattle.ut_merge.specs.Jobs.{JobValue}
use Rattle.ut_engine.specs.declared.error.BeginError.{BeginError}
use Rattle.ut_engine.specs.declared.error.BeginError.TheVariants as errors

-- the reply that an answer tells
abbrev pub begin_reply : Result JobValue BeginError → Reply
begin_reply (Ok job) = replies.Merge job.head.number
begin_reply (Err errors.Name) = replies.Refused refusals.Name
begin_reply (Err (errors.Busy n)) = replies.Refused (refusals.State (whys.Busy n))
begin_reply (Err errors.Full) = replies.Refused refusals.Full
begin_reply (Err errors.Memory) = replies.Refused refusals.Memory
begin_reply (Err errors.Disk) = replies.DiskFault

-- Where each answer may come, by whether the table is there and which merge is pending. Memory may always be wanting.
abbrev pub HasReason : Result JobValue BeginError → Bool → Option PendingMerge → Type 0
HasReason (Ok job) there pending = IsTrue there × (pending ≡ None)
HasReason (Err errors.Name) there pending = there ≡ false
HasReason (Err (errors.Busy n)) there pending = IsTrue there × (option_map (λ (m : PendingMerge). m.number) pending ≡ Some n)
HasReason (Err errors.Full) there pending = IsTrue there × (pending ≡ None)
HasReason (Err errors.Memory) there pending = ⊤
HasReason (Err errors.Disk) there pending = IsTrue there × (pending ≡ None)

-- whether an answer is that the disk failed
abbrev pub is_fault : Result JobValue BeginError → Bool
is_fault (Err errors.Disk) = true
is_fault answer = false

-- the reply to the end of the pending merge that an answer tells: its number, or that the disk failed
abbrev pub end_reply : {E : Type 0} → Result ℕ E → Reply
end_reply (Ok number) = replies.Merge number
end_reply (Err e) = replies.DiskFault

-- What the end of the pending merge is answered, with what was built of its job: its number, or that the disk failed.
abbrev pub EndsMerge : Option PendingMerge → Reply → Type 0
EndsMerge pending reply =
    (option_map (λ (m : PendingMerge). replies.Merge m.number) pending ≡ Some reply) ⊎ (reply ≡ replies.DiskFault)
