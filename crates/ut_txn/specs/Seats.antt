-- The seats of the sessions: which transaction is open, and its own operations as the bytes that a commit will append.
use Rattle.std.specs.Prelude.{ℕ, ◌≡◌, ◌≢◌, ◌<◌, List, [], ◌∷◌, length, Option, None, Some, slice_get}
use Rattle.std.specs.List.{flat_map}
use Rattle.std.specs.Option.{option_map, unwrap_or}
use Rattle.ut_value.specs.declared.entry.Entry.TheVariants.{Txn}
use Rattle.ut_value.specs.Spelling.{spelling}
use Rattle.ut_txn.specs.declared.opened.Opened.{Opened}

-- what one session has
pub record Seat : Type 0 where
  pub opened : Option Opened
  -- the payload of a frame: a transaction of the own operations
  pub payload : List ℕ
  -- how many bytes can be added without memory
  pub spare : ℕ

-- the transaction of a session
abbrev pub opened_at : List Seat → ℕ → Option Opened
opened_at seats session = unwrap_or (option_map (λ (seat : Seat). seat.opened) (slice_get seats session)) None

-- the bytes of its own operations
abbrev pub payload_at : List Seat → ℕ → List ℕ
payload_at seats session = unwrap_or (option_map (λ (seat : Seat). seat.payload) (slice_get seats session)) []

-- how many bytes can be added to them without memory
abbrev pub spare_at : List Seat → ℕ → ℕ
spare_at seats session = unwrap_or (option_map (λ (seat : Seat). seat.spare) (slice_get seats session)) 0

-- the number of its transaction
abbrev pub number_at : List Seat → ℕ → ℕ
number_at seats session = unwrap_or (option_map (λ (o : Opened). o.number) (opened_at seats session)) 0

-- where a transaction looks, if one is open
abbrev pub looks_of : Option Opened → List ℕ
looks_of None = []
looks_of (Some o) = o.snapshot ∷ []

-- where the open ones look, by the number of the session
abbrev pub snapshots_of : List Seat → List ℕ
snapshots_of seats = flat_map (λ (seat : Seat). looks_of seat.opened) seats

-- So many seats, and no session has a transaction or an operation.
pub record AreEmpty (n : ℕ) (seats : List Seat) : Type 0 where
  pub count : length seats ≡ n
  pub opened : (s : ℕ) → opened_at seats s ≡ None
  pub payloads : (s : ℕ) → s < n → payload_at seats s ≡ spelling (Txn [])

-- The seats are as before, but for room that was made.
pub record SeatsStay (old new : List Seat) : Type 0 where
  pub count : length new ≡ length old
  pub opened : (s : ℕ) → opened_at new s ≡ opened_at old s
  pub payloads : (s : ℕ) → payload_at new s ≡ payload_at old s

-- The seat of one session is another, and the others are as before.
pub record SeatSet (old new : List Seat) (session : ℕ) (transaction : Option Opened) (bytes : List ℕ) : Type 0 where
  pub count : length new ≡ length old
  pub opened : opened_at new session ≡ transaction
  pub payload : payload_at new session ≡ bytes
  pub others : (s : ℕ) → s ≢ session → opened_at new s ≡ opened_at old s
  pub payloads : (s : ℕ) → s ≢ session → payload_at new s ≡ payload_at old s
