-- The lines that are left, in the queues of their sessions.
use Rattle.std.specs.Prelude.{ℕ, ◌≡◌, ◌≢◌, ◌⊎◌, ◌<◌, Bool, ◌++◌, List, [], ◌∷◌, map, slice_get, All, IsTrue}
use Rattle.std.specs.Option.{unwrap_or}
use Rattle.ut_engine.specs.Logged.{Logged}
use Rattle.ut_crowd.specs.declared.book.Turn.{Turn}
use Rattle.ut_crowd.specs.Book.{lines_of_session, lines_by, strangers, IsNobodys, IsSomebodys, IsStores}

-- the lines that are left of a session
abbrev pub left_of : List (List (List ℕ)) → ℕ → List (List ℕ)
left_of queues session = unwrap_or (slice_get queues session) []

-- the next line of a session was taken, or there is none
pub record Takes (queues : List (List (List ℕ))) (session : ℕ) (line : List ℕ) (now : List (List (List ℕ))) : Type 0 where
  pub first : left_of queues session ≡ line ∷ left_of now session
  pub others : (other : ℕ) → other ≢ session → left_of now other ≡ left_of queues other

-- the session has no line left, and no queue changes
pub record TakesNone (queues : List (List (List ℕ))) (session : ℕ) (now : List (List (List ℕ))) : Type 0 where
  pub none : left_of queues session ≡ []
  pub same : (other : ℕ) → left_of now other ≡ left_of queues other

-- no session has a line left
abbrev pub HasNone : List (List (List ℕ)) → Type 0
HasNone queues = (session : ℕ) → session < 17 → left_of queues session ≡ []

-- The book is a weave of these lines: the turns of strangers come first, and all of them;
-- each session's turns have its first lines, in order, and the others are left.
pub record Weaves (lines : List (List ℕ)) (queues : List (List (List ℕ))) (book : List Turn) : Type 0 where
  pub each : (session : ℕ) → lines_by session book ++ left_of queues session ≡ lines_of_session session lines
  pub first : List Turn
  pub rest : List Turn
  pub parts : book ≡ first ++ rest
  pub nobodys : All IsNobodys first
  pub all : map (λ (t : Turn). t.asked) first ≡ strangers lines
  pub somebodys : All IsSomebodys rest
  -- only statements of the store are asked by no line
  pub stores : All (λ (t : Turn). IsStores t.session t.asked) book

-- a hall is over, or the session has no line left
abbrev pub IsDone : ℕ → Bool → Logged → List (List (List ℕ)) → Type 0
IsDone session stopped store queues = IsTrue stopped ⊎ IsTrue store.down ⊎ (left_of queues session ≡ [])

-- The turn of a session that is over: nothing changes where the hall is done with it, or there was no room, and the hall is stopped.
abbrev pub EndsSession : ℕ → (was stopped : Bool) → Logged → List (List (List ℕ)) → List Turn → List Turn → Type 0
EndsSession session was stopped store queues before after =
    (after ≡ before)
    × ((IsDone session was store queues × (stopped ≡ was)) ⊎ ((IsDone session was store queues → ⊥) × IsTrue stopped))

-- a hall is over: it was stopped, the disk failed, or all lines were answered
abbrev pub IsOver : Bool → Logged → List (List (List ℕ)) → Type 0
IsOver stopped store queues = IsTrue stopped ⊎ IsTrue store.down ⊎ HasNone queues

-- each line of each session has its turn
abbrev pub HasAnswered : List (List ℕ) → List Turn → Type 0
HasAnswered lines book = (session : ℕ) → session < 17 → lines_by session book ≡ lines_of_session session lines
