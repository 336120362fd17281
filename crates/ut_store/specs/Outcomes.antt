-- What an outcome is told as, and whether it has an entry.
use Rattle.std.specs.Prelude.{ℕ, Result, Ok, Err, None, Some}
use Rattle.ut_plain.specs.declared.reply.Reply.TheVariants as replies
use Rattle.ut_plain.specs.declared.reply.Refusal.TheVariants as refusals
use Rattle.ut_plain.specs.declared.reply.Why.TheVariants as whys
use Rattle.ut_plain.specs.declared.reply.Shape.{Shape}
use Rattle.ut_merge.specs.Jobs.{JobValue}
use Rattle.ut_store.specs.declared.response.Response.{Response}
use Rattle.ut_store.specs.declared.response.Response.TheVariants.{Answered, Append}
use Rattle.ut_store.specs.declared.outcome.Outcome.{Outcome}
use Rattle.ut_store.specs.declared.outcome.Outcome.TheVariants as outcomes
use Rattle.ut_store.specs.declared.merges.MergeStop.{MergeStop}
use Rattle.ut_store.specs.declared.merges.MergeStop.TheVariants as stops

-- the reply, and whether the frame of an entry goes before it
abbrev pub response_of : Outcome → Response
response_of (outcomes.Created n) = Append (replies.Committed n)
response_of (outcomes.Changed rows None) = Answered (replies.Changed rows None)
response_of (outcomes.Changed rows (Some n)) = Append (replies.Changed rows (Some n))
response_of (outcomes.Told reply) = Answered reply
response_of outcomes.Done = Answered replies.Done
response_of (outcomes.Committed n) = Append (replies.Committed n)
response_of (outcomes.Moved n) = Answered (replies.Moved n)
response_of (outcomes.Merging job) = Append (replies.Merge job.head.number)
response_of (outcomes.Shape shape) = Answered (replies.Shape shape)
response_of (outcomes.Refused why) = Answered (replies.Refused why)

-- the outcome of rows that were to be moved to a second stage
abbrev pub moved_outcome : {E : Type 0} → Result ℕ E → Outcome
moved_outcome (Ok moved) = outcomes.Moved moved
moved_outcome (Err e) = outcomes.Refused refusals.Memory

-- the outcome of the question how many rows stand in each stage
abbrev pub shape_outcome : {E : Type 0} → Result Shape E → Outcome
shape_outcome (Ok shape) = outcomes.Shape shape
shape_outcome (Err e) = outcomes.Refused refusals.Memory

-- the outcome of the begin of a merge
abbrev pub merging_outcome : Result JobValue MergeStop → Outcome
merging_outcome (Ok job) = outcomes.Merging job
merging_outcome (Err (stops.Busy n)) = outcomes.Refused (refusals.State (whys.Busy n))
merging_outcome (Err stops.Full) = outcomes.Refused refusals.Full
merging_outcome (Err stops.Memory) = outcomes.Refused refusals.Memory
