-- Lines in the queues of their sessions.
use Rattle.std.specs.Prelude.{ℕ, ◌≡◌, ◌≢◌, ◌++◌, List, [], ◌∷◌, length, map, All, None}
use Rattle.ut_plain.specs.declared.statement.Parsed.{Parsed}
use Rattle.ut_plain.specs.declared.statement.Parsed.TheVariants.{Comment, Stranger, Bad, Good}
use Rattle.ut_plain.specs.declared.reply.Reply.TheVariants.{Refused}
use Rattle.ut_plain.specs.declared.reply.Refusal.TheVariants.{Syntax}
use Rattle.ut_crowd.specs.declared.book.Turn.{Turn}
use Rattle.ut_crowd.specs.declared.sort.Whose.{Whose}
use Rattle.ut_crowd.specs.declared.sort.Whose.TheVariants as whoses
use Rattle.ut_crowd.specs.Book.{said, lines_of_session, strangers, IsStores}
use Rattle.ut_crowd.specs.Queues.{left_of}

-- whose a line is
abbrev pub whose_of : Parsed → Whose
whose_of Comment = whoses.Nothing
whose_of Stranger = whoses.Nobodys
whose_of (Bad session) = whoses.Of session
whose_of (Good session st) = whoses.Of session

-- a line stands behind the others of a session
pub record Adds (queues : List (List (List ℕ))) (session : ℕ) (line : List ℕ) (now : List (List (List ℕ))) : Type 0 where
  pub last : left_of now session ≡ left_of queues session ++ line ∷ []
  pub others : (other : ℕ) → other ≢ session → left_of now other ≡ left_of queues other

-- a turn of a stranger's, with this length of the journal and at this moment
pub record IsRefused (entries now : ℕ) (t : Turn) : Type 0 where
  pub stranger : said t.asked ≡ Stranger
  pub nobody : t.session ≡ None
  pub reply : t.reply ≡ Refused Syntax
  pub journal : t.journal ≡ entries
  pub moment : t.moment ≡ now
  pub stores : IsStores t.session t.asked

-- The lines stand in the queues of their sessions, and those of strangers were answered.
pub record Sorted (lines : List (List ℕ)) (queues : List (List (List ℕ))) (book : List Turn) (entries now : ℕ) : Type 0 where
  pub each : (session : ℕ) → left_of queues session ≡ lines_of_session session lines
  pub seats : length queues ≡ 17
  pub all : map (λ (t : Turn). t.asked) book ≡ strangers lines
  pub turns : All (IsRefused entries now) book
