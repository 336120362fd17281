-- What a statement promises of the store in memory.
use Rattle.std.specs.Prelude.{ℕ, ◌≡◌, List}
use Rattle.ut_value.specs.declared.entry.Entry.{Entry}
use Rattle.ut_value.specs.Spelling.{spelling}
use Rattle.ut_plain.specs.declared.statement.Statement.{Statement}
use Rattle.ut_plain.specs.declared.reply.Reply.{Reply}
use Rattle.ut_plain.specs.Journal.{appended}
use Rattle.ut_plain.specs.Plain.{Plain}
use Rattle.ut_plain.specs.Step.{MayAnswer}
use Rattle.ut_txn.specs.Seats.{SeatsStay}
use Rattle.ut_store.specs.declared.response.Response.{Response}
use Rattle.ut_store.specs.declared.response.Response.TheVariants.{Answered, Append}
use Rattle.ut_store.specs.Held.{Held}
use Rattle.ut_store.specs.Stands.{StandsFor}

abbrev pub reply_of : Response → Reply
reply_of (Answered reply) = reply
reply_of (Append reply) = reply

-- The journal after a statement: as before, or with one entry more, which the frame spells.
abbrev pub Logs : Response → List ℕ → Plain → Plain → Type 0
Logs (Answered reply) frame p q = q.journal ≡ p.journal
Logs (Append reply) frame p q = (entry : Entry) × (q.journal ≡ appended p.journal entry) × (frame ≡ spelling entry)

-- what becomes of one plain state
pub record Answer (old : Held) (session : ℕ) (st : Statement) (response : Response) (new : Held) (p : Plain) : Type 0 where
  pub after : Plain
  pub may : MayAnswer p session st (reply_of response) after
  pub stands : StandsFor new after
  pub logs : Logs response new.frame p after

-- Whatever plain state the store stood for, the reply is one that it may give, the store stands for the state after it,
-- and the frame spells what the journal gained.
pub record Answers (old : Held) (session : ℕ) (st : Statement) (response : Response) (new : Held) : Type 0 where
  pub each : (p : Plain) → StandsFor old p → Answer old session st response new p

-- The store is as before, but for room that was made and the frame.
pub record Same (old new : Held) : Type 0 where
  pub rows : new.rows ≡ old.rows
  pub seats : SeatsStay old.seats new.seats
  pub counts : new.counts ≡ old.counts
