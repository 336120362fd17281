-- What a line of the script says.
use Rattle.std.specs.Prelude.{ℕ, ◌≡◌, Bool, true, nat_eq, if◌then◌else◌, List, [], ◌∷◌, Option, None, Some}
use Rattle.ut_plain.specs.declared.statement.Statement.{Statement}
use Rattle.ut_plain.specs.declared.statement.Parsed.{Parsed}
use Rattle.ut_plain.specs.declared.statement.Parsed.TheVariants.{Comment, Stranger, Bad, Good}
use Rattle.ut_script.specs.Words.{words_of}
use Rattle.ut_script.specs.Literals.{number_of, within}
use Rattle.ut_script.specs.Statements.{session_statement_of, store_statement_of, needs_memory}

-- a session number: 0 to 16, and in a crowd 1 to 16
abbrev pub session_of : Bool → List ℕ → Option ℕ
session_of crowd word = within (if crowd then 1 else 0) 16 (number_of word)

-- session 0 has the statements of the store, every other session those of sessions
abbrev pub statement_of : ℕ → List (List ℕ) → Option Statement
statement_of session words = if nat_eq session 0 then store_statement_of words else session_statement_of words

-- a line whose session is known
abbrev pub said_by : ℕ → Option Statement → Parsed
said_by session None = Bad session
said_by session (Some st) = Good session st

-- a line by its session number and its other words; with no such number it is a stranger's
abbrev pub line_with : Option ℕ → List (List ℕ) → Parsed
line_with None words = Stranger
line_with (Some session) words = said_by session (statement_of session words)

-- a session number and a statement
abbrev pub line_of : Bool → List (List ℕ) → Parsed
line_of crowd [] = Stranger
line_of crowd (session ∷ words) = line_with (session_of crowd session) words

-- what a line says: a line of no bytes and one that begins with `#` is a comment
abbrev pub parsed : Bool → List ℕ → Parsed
parsed crowd [] = Comment
parsed crowd (b ∷ bytes) = if nat_eq b 35 then Comment else line_of crowd (words_of (b ∷ bytes))

-- where memory may be wanting: for a good line of this session, with a name or a value
abbrev pub MayLackMemory : ℕ → Parsed → Type 0
MayLackMemory session (Good owner st) = (owner ≡ session) × (needs_memory (Some st) ≡ true)
MayLackMemory session _ = ⊥
