-- What bytes begin with: a frame, a closed gate, what is neither, or too little to say.
use Rattle.std.specs.Prelude.{ℕ, ◌≡◌, ◌<◌, ◌≤◌, ◌^◌, ◌⊎◌, false, List, [], ◌∷◌, ◌++◌, length, take}
use Rattle.std.specs.Int.{w32, to_le_bytes}
use Rattle.ut_value.specs.declared.entry.Entry.{Entry}
use Rattle.ut_redo.specs.Frames.{open_gate, frame, payload_of, IsPayload, IsFrame, IsEnd}
use Rattle.ut_stream.specs.declared.front.Front.{Front}
use Rattle.ut_stream.specs.declared.front.Front.TheVariants as fronts
use Rattle.ut_stream.specs.declared.frames.Heard.{Heard}
use Rattle.ut_stream.specs.declared.frames.Heard.TheVariants as heard

-- an open gate, a length in four bytes, and what stands behind it
pub record HasHeader (n : ℕ) (behind bytes : List ℕ) : Type 0 where
  pub small : n < 2 ^ 32
  pub are : bytes ≡ open_gate ∷ (to_le_bytes w32 n ++ behind)

-- Too few bytes to say: none, an open gate without its whole length, or one with a length that a frame may have and fewer bytes behind.
pub data IsShort (bytes : List ℕ) : Type 0 where
  None : bytes ≡ [] → IsShort bytes
  Gate : (behind : List ℕ) → bytes ≡ open_gate ∷ behind → length behind < 4 → IsShort bytes
  Part : (n : ℕ) (behind : List ℕ) → HasHeader n behind bytes → 1 ≤ n → n ≤ 2 ^ 30 → length behind < n → IsShort bytes

-- an open gate whose length no frame has, or whose payload is there and isn't whole entries
pub data IsOff (bytes : List ℕ) : Type 0 where
  Length : (n : ℕ) (behind : List ℕ) → HasHeader n behind bytes → (n ≡ 0) ⊎ (2 ^ 30 < n) → IsOff bytes
  Payload : (n : ℕ) (behind : List ℕ) → HasHeader n behind bytes → n ≤ length behind → ((items : List Entry) → IsPayload items (take n behind) → ⊥) → IsOff bytes

-- an open gate whose length no frame has
pub record HasNoFrame (bytes : List ℕ) : Type 0 where
  pub length_in : ℕ
  pub behind : List ℕ
  pub header : HasHeader length_in behind bytes
  pub never : (length_in ≡ 0) ⊎ (2 ^ 30 < length_in)

-- a whole frame that may be one of entries
pub record IsWhole (n : ℕ) (bytes : List ℕ) : Type 0 where
  pub behind : List ℕ
  pub header : HasHeader n behind bytes
  pub some : 1 ≤ n
  pub short : n ≤ 2 ^ 30
  pub there : n ≤ length behind

abbrev pub IsFront : List ℕ → Front → Type 0
IsFront bytes fronts.Short = IsShort bytes
IsFront bytes fronts.Closed = IsEnd false bytes
IsFront bytes (fronts.Whole n) = IsWhole n bytes
IsFront bytes fronts.Off = HasNoFrame bytes

-- What is heard of the bytes that were fed, and what is left of them. Nothing is lost.
abbrev pub Hears : List ℕ → Heard → List ℕ → Type 0
Hears old heard.More new = IsShort old × (new ≡ old)
Hears old (heard.Frame items) new = IsFrame items × (old ≡ frame (payload_of items) ++ new)
Hears old heard.End new = IsEnd false old × (new ≡ old)
Hears old heard.Bad new = IsOff old × (new ≡ old)
