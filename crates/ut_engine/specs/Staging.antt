-- What the operator asks of the stages of a table, and which answer tells which reply.
use Rattle.std.specs.Prelude.{ℕ, Option, None, Some, Result, Ok, Err}
use Rattle.ut_plain.specs.declared.reply.Shape.{Shape}
use Rattle.ut_plain.specs.declared.reply.Reply.{Reply}
use Rattle.ut_plain.specs.declared.reply.Reply.TheVariants as replies
use Rattle.ut_plain.specs.declared.reply.Refusal.TheVariants as refusals
use Rattle.ut_engine.specs.declared.error.L1Error.{L1Error}
use Rattle.ut_engine.specs.declared.error.L1Error.TheVariants as errors

-- the reply to a merge of a first stage that an answer tells
abbrev pub merge_reply : Result ℕ L1Error → Reply
merge_reply (Ok moved) = replies.Moved moved
merge_reply (Err errors.Name) = replies.Refused refusals.Name
merge_reply (Err errors.Memory) = replies.Refused refusals.Memory

-- the reply to the question of a table's shape
abbrev pub shape_reply : {E : Type 0} → Result (Option Shape) E → Reply
shape_reply (Ok (Some shape)) = replies.Shape shape
shape_reply (Ok None) = replies.Refused refusals.Name
shape_reply (Err e) = replies.Refused refusals.Memory
