-- A stream of frames: what all of its bytes are read as.
use Rattle.std.specs.Prelude.{ℕ, ◌≡◌, false, List, ◌++◌}
use Rattle.std.specs.List.{flat_map, AllByRecursion}
use Rattle.ut_value.specs.declared.entry.Entry.{Entry}
use Rattle.ut_redo.specs.Frames.{frame, payload_of, IsFrame, IsEnd}
use Rattle.ut_stream.specs.Fronts.{IsShort, IsOff}

-- where reading stops: too little is there, the gate is closed, or what comes is no frame
pub data IsStop (bytes : List ℕ) : Type 0 where
  Waits : IsShort bytes → IsStop bytes
  Ends : IsEnd false bytes → IsStop bytes
  Breaks : IsOff bytes → IsStop bytes

-- The bytes are these frames, and then what stops the reading.
pub record IsStream (bytes : List ℕ) (frames : List (List Entry)) (rest : List ℕ) : Type 0 where
  pub are : bytes ≡ flat_map (λ (items : List Entry). frame (payload_of items)) frames ++ rest
  pub each : AllByRecursion IsFrame frames
  pub stop : IsStop rest

-- they are read so in one way
abbrev pub OneStream : Type 0
OneStream = (bytes : List ℕ) (a b : List (List Entry)) (x y : List ℕ) → IsStream bytes a x → IsStream bytes b y → (a ≡ b) × (x ≡ y)

-- what was read of a first piece, and then of what was left with a second, is what is read of both
abbrev pub StreamInPieces : Type 0
StreamInPieces =
    (first second : List ℕ) (a b : List (List Entry)) (x y : List ℕ) → IsStream first a x → IsStream (x ++ second) b y
    → IsStream (first ++ second) (a ++ b) y
