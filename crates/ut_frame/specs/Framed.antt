-- A frame as callers see it.
use Rattle.std.specs.Prelude.{◌≡◌, ◌≤◌, ◌-◌, ◌^◌, ℕ, List, [], ◌∷◌, ◌++◌, length, take, drop}
use Rattle.std.specs.Int.{w32, to_le_bytes}

-- the payload, and for how many bytes more there is room
pub record Framed : Type 0 where
  pub payload : List ℕ
  pub spare : ℕ

-- the bytes of a frame behind its gate, and the next gate
abbrev pub body : List ℕ → List ℕ
body payload = to_le_bytes w32 (length payload) ++ payload ++ 0 ∷ []

-- what stands between the length and the next gate
abbrev pub payload_in : List ℕ → List ℕ
payload_in bytes = drop 4 (take (length bytes - 1) bytes)

-- the bytes are a length, its payload and a closed gate
pub record IsWhole (bytes : List ℕ) : Type 0 where
  pub parts : bytes ≡ body (payload_in bytes)
  pub short : length (payload_in bytes) ≤ 2 ^ 30
