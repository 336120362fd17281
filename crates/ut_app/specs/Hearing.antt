-- What is heard of the answer to a line where its text isn't written, and what is counted of it.
use Rattle.std.specs.Prelude.{ℕ, ℤ, ◌+◌, ◌≡◌, ◌≤◌, Bool, true, false, List, [], ◌∷◌, ◌++◌, length, Option, None, Some}
use Rattle.std.specs.List.{filter}
use Rattle.ut_outside.specs.Disk.{View}
use Rattle.ut_outside.specs.Faults.{Rose}
use Rattle.ut_outside.specs.declared.ack.Ack.{Ack}
use Rattle.ut_plain.specs.declared.statement.Parsed.{Parsed}
use Rattle.ut_plain.specs.declared.reply.Reply.{Reply}
use Rattle.ut_plain.specs.declared.reply.Reply.TheVariants as replies
use Rattle.ut_plain.specs.Journal.{journal_len}
use Rattle.ut_plain.specs.Plain.{Plain}
use Rattle.ut_plain.specs.Transcript.{Answer, AnswersLine, Faults}
use Rattle.ut_engine.specs.Logged.{Logged}
use Rattle.ut_engine.specs.Runs.{Runs}
use Rattle.ut_app.specs.declared.tally.Heard.{Heard}
use Rattle.ut_app.specs.declared.tally.Heard.TheVariants.{Nothing, Refusal, Sum, Else, Fault}
use Rattle.ut_app.specs.declared.tally.Tally.{Tally}
use Rattle.ut_course.specs.Keeping.{Keeps}

-- ---- what is counted

-- whether a reply refuses its statement
abbrev pub is_refusal : Reply → Bool
is_refusal (replies.Refused why) = true
is_refusal _ = false

-- the sum that a reply tells
abbrev pub sum_in : Reply → Option ℤ
sum_in (replies.Sum n) = Some n
sum_in _ = None

-- how many answers refuse
abbrev pub refusals_in : List Answer → ℕ
refusals_in answers = length (filter (λ (a : Answer). is_refusal a.reply) answers)

-- the sum that the last answer tells
abbrev pub last_sum : List Answer → Option ℤ
last_sum [] = None
last_sum (a ∷ []) = sum_in a.reply
last_sum (a ∷ b ∷ answers) = last_sum (b ∷ answers)

-- what is counted of answers: those that refuse, and the sum that the last one tells
abbrev pub tally_of : List Answer → Tally
tally_of answers = record { refused = refusals_in answers; total = last_sum answers }

-- ---- a line

-- what is heard of a reply
abbrev pub heard_of : Reply → Heard
heard_of (replies.Refused why) = Refusal
heard_of (replies.Sum n) = Sum n
heard_of replies.DiskFault = Fault
heard_of _ = Else

-- whether it is heard that the disk failed
abbrev pub is_fault : Heard → Bool
is_fault Fault = true
is_fault _ = false

-- what is counted with one answer more
abbrev pub counted : Tally → Heard → Tally
counted t Nothing = t
counted t Refusal = record { refused = t.refused + 1; total = None }
counted t (Sum n) = record { refused = t.refused; total = Some n }
counted t Else = record { refused = t.refused; total = None }
counted t Fault = t

-- what is heard of a line from a plain state
pub data Hearing (p : Plain) (line : Parsed) (before : View) (heard : Heard) (new : Logged) (after : View) : Type 0 where
  Quiet : (q : Plain) → heard ≡ Nothing → AnswersLine p line [] q → Runs new after q
      → Keeps before after q.journal (journal_len p.journal) → Hearing p line before heard new after
  Answered : (a : Answer) (q : Plain) → heard ≡ heard_of a.reply → (a.reply ≡ replies.DiskFault → ⊥)
      → AnswersLine p line (a ∷ []) q → Runs new after q → Keeps before after q.journal (journal_len p.journal)
      → Hearing p line before heard new after
  Failed : (a : Answer) (q : Plain) → heard ≡ Fault → Faults p line (a ∷ []) q
      → Keeps before after q.journal (journal_len p.journal) → Hearing p line before heard new after

-- whatever plain state the store ran from
pub record Hears (old : Logged) (before : View) (line : Parsed) (heard : Heard) (new : Logged) (after : View) : Type 0 where
  pub each : (p : Plain) → Runs old before p → Hearing p line before heard new after

-- a fault of the disk is heard only where its count rose, and everything else only where it stayed
pub record MayHear (before after : View) (heard : Heard) : Type 0 where
  pub told : after.told ≡ before.told
  pub no_fewer : before.faults ≤ after.faults
  pub cause : heard ≡ Fault → Rose before.faults after.faults
  pub still : (heard ≡ Fault → ⊥) → after.faults ≡ before.faults

-- ---- what is noted

-- the acknowledgements so far, the length of the journal, and what was counted
pub record Noting : Type 0 where
  pub acks : List Ack
  pub journal : ℕ
  pub tally : Tally

-- With what was heard of one line more: the journal had one length before the line, and has another now.
abbrev pub noted_by : Heard → Noting → ℕ → ℕ → ℕ → Noting
noted_by Nothing n was now moment = record { acks = n.acks; journal = now; tally = n.tally }
noted_by Fault n was now moment = record { acks = n.acks ++ record { journal = was; moment = moment } ∷ []; journal = was; tally = n.tally }
noted_by heard n was now moment = record {
  acks = n.acks ++ record { journal = now; moment = moment } ∷ [];
  journal = now;
  tally = counted n.tally heard;
}
