-- What a book says.
use Rattle.std.specs.Prelude.{ℕ, ◌≡◌, ◌++◌, Bool, true, false, if◌then◌else◌, List, [], ◌∷◌, map, Option, None, Some, IsTrue}
use Rattle.ut_outside.specs.declared.ack.Ack.{Ack}
use Rattle.ut_plain.specs.declared.statement.Parsed.{Parsed}
use Rattle.ut_plain.specs.declared.statement.Parsed.TheVariants.{Stranger}
use Rattle.ut_plain.specs.Transcript.{Answer}
use Rattle.ut_store.specs.Standing.{is_of_store}
use Rattle.ut_script.specs.Grammar.{parsed}
use Rattle.ut_course.specs.Coming.{is_of, session_in}
use Rattle.ut_crowd.specs.declared.book.Asked.{Asked}
use Rattle.ut_crowd.specs.declared.book.Asked.TheVariants.{Line, Store}
use Rattle.ut_crowd.specs.declared.book.Turn.{Turn}
use Rattle.ut_crowd.specs.Texts.{asked_text}

-- what was asked, as the grammar reads it: a line as one of a crowd, and what the store asked as the line that the book has of it
abbrev pub said : Asked → Parsed
said (Line bytes) = parsed true bytes
said (Store st) = parsed false (asked_text (Store st))

-- what was asked in each turn, in order
abbrev pub lines_in : List Turn → List Parsed
lines_in book = map (λ (t : Turn). said t.asked) book

-- the answer of a turn: its session, and the reply
abbrev pub answer_of : Turn → Answer
answer_of t = record { session = t.session; reply = t.reply }

-- the answers of the turns, in order
abbrev pub answers_in : List Turn → List Answer
answers_in book = map answer_of book

-- each turn is an acknowledgement
abbrev pub ack_of : Turn → Ack
ack_of t = record { journal = t.journal; moment = t.moment }

-- the acknowledgements of the turns, in order
abbrev pub acks_in : List Turn → List Ack
acks_in book = map ack_of book

-- the lines of a session, in order
abbrev pub lines_of_session : ℕ → List (List ℕ) → List (List ℕ)
lines_of_session session [] = []
lines_of_session session (line ∷ lines) =
    if is_of session (session_in (parsed true line)) then line ∷ lines_of_session session lines
    else lines_of_session session lines

-- the line of a turn, if it is one of this session
abbrev pub line_by : ℕ → Option ℕ → Asked → List (List ℕ)
line_by session who (Line bytes) = if is_of session who then bytes ∷ [] else []
line_by session who (Store st) = []

-- the lines of a session's turns, in order
abbrev pub lines_by : ℕ → List Turn → List (List ℕ)
lines_by session [] = []
lines_by session (t ∷ book) = line_by session t.session t.asked ++ lines_by session book

-- a line whose session can't be read
abbrev pub is_strangers : Parsed → Bool
is_strangers Stranger = true
is_strangers _ = false

-- the lines of strangers, in order, as what was asked
abbrev pub strangers : List (List ℕ) → List Asked
strangers [] = []
strangers (line ∷ lines) = if is_strangers (parsed true line) then Line line ∷ strangers lines else strangers lines

-- a turn of no session: a stranger's line
abbrev pub IsNobodys : Turn → Type 0
IsNobodys t = t.session ≡ None

-- a turn of some session
abbrev pub IsSomebodys : Turn → Type 0
IsSomebodys t = (session : ℕ) × (t.session ≡ Some session)

-- what the store itself asks is a statement of the store, of session 0
abbrev pub IsStores : Option ℕ → Asked → Type 0
IsStores who (Line bytes) = Unit {0}
IsStores who (Store st) = (who ≡ Some 0) × IsTrue (is_of_store st)

-- a turn more, of this session and with this asked
abbrev pub HasTurn : (session : ℕ) → (Asked → Type 0) → List Turn → List Turn → Type 0
HasTurn session of before after = (t : Turn) × (after ≡ before ++ t ∷ []) × (t.session ≡ Some session) × of t.asked
