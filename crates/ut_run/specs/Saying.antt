-- What a line is answered by a running store.
use Rattle.std.specs.Prelude.{ℕ, ◌≡◌, ◌≤◌, ◌<◌, false, List, [], ◌∷◌, Some, IsTrue}
use Rattle.ut_outside.specs.Disk.{View}
use Rattle.ut_outside.specs.Faults.{Rose}
use Rattle.ut_plain.specs.declared.statement.Parsed.{Parsed}
use Rattle.ut_plain.specs.declared.statement.Parsed.TheVariants.{Good}
use Rattle.ut_plain.specs.declared.reply.Reply.{Reply}
use Rattle.ut_plain.specs.declared.reply.Reply.TheVariants as replies
use Rattle.ut_plain.specs.declared.reply.Refusal.TheVariants as refusals
use Rattle.ut_plain.specs.Journal.{journal_len}
use Rattle.ut_plain.specs.Plain.{Plain}
use Rattle.ut_plain.specs.Spelled.{is_spelled}
use Rattle.ut_plain.specs.Transcript.{Answer, AnswersLine, Faults}
use Rattle.ut_store.specs.Standing.{suits_session}
use Rattle.ut_course.specs.Keeping.{Keeps}
use Rattle.ut_reply.specs.Texts.{reply_text, reply_room, is_small}
use Rattle.ut_engine.specs.Logged.{Logged}
use Rattle.ut_engine.specs.Runs.{Runs}
use Rattle.ut_run.specs.declared.say.Said.{Said}
use Rattle.ut_run.specs.declared.say.Said.TheVariants as saids
use Rattle.ut_run.specs.Writing.{answer_text}

-- a good line is of a session that there is, with a statement that suits it and that a line can spell
abbrev pub IsKnown : Parsed → Type 0
IsKnown (Good session st) = (session < 17) × IsTrue (suits_session session st) × IsTrue (is_spelled st)
IsKnown _ = Unit {0}

-- a fault of the disk comes only where its count rose, and everything else only where it stayed
pub record MayFault (before after : View) (said : Said) : Type 0 where
  pub told : after.told ≡ before.told
  pub no_fewer : before.faults ≤ after.faults
  pub cause : said ≡ saids.Fault → Rose before.faults after.faults
  pub still : (said ≡ saids.Fault → ⊥) → after.faults ≡ before.faults

-- what a reply comes to
abbrev pub said_of : Reply → Said
said_of replies.DiskFault = saids.Fault
said_of _ = saids.Reply

-- the text of a reply, or that there was no memory for it: it isn't a small one, and it may need more bytes than the buffer had room for
pub data IsText (room session : ℕ) (reply : Reply) (text : List ℕ) : Type 0 where
  Whole : text ≡ reply_text (Some session) reply → IsText room session reply text
  Lacking : is_small reply ≡ false → room < reply_room reply
      → text ≡ reply_text (Some session) (replies.Refused refusals.Memory) → IsText room session reply text

-- what a line comes to from a plain state, and the text of its answer
pub data Outcome (p : Plain) (line : Parsed) (before : View) (said : Said) (new : Logged) (after : View) (text : List ℕ) : Type 0 where
  Quiet : (q : Plain) → said ≡ saids.Nothing → AnswersLine p line [] q → Runs new after q
      → Keeps before after q.journal (journal_len p.journal) → text ≡ []
      → Outcome p line before said new after text
  Replied : (a : Answer) (q : Plain) → said ≡ saids.Reply → AnswersLine p line (a ∷ []) q → Runs new after q
      → Keeps before after q.journal (journal_len p.journal) → text ≡ answer_text a
      → Outcome p line before said new after text
  Failed : (a : Answer) (q : Plain) → said ≡ saids.Fault → Faults p line (a ∷ []) q
      → Keeps before after q.journal (journal_len p.journal) → text ≡ answer_text a
      → Outcome p line before said new after text

-- whatever plain state the store ran from
pub record Says (old : Logged) (before : View) (line : Parsed) (said : Said) (new : Logged) (after : View) (text : List ℕ) : Type 0 where
  pub each : (p : Plain) → Runs old before p → Outcome p line before said new after text

-- The store runs from some plain state.
pub record IsRunning (e : Logged) (disk : View) : Type 0 where
  pub plain : Plain
  pub runs : Runs e disk plain
