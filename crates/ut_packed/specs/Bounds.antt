-- The least and the greatest code of each block of codes.
use Rattle.std.specs.Prelude.{ℕ, ◌*◌, ◌/◌, ◌<◌, ◌≤◌, Bool, ◌&&◌, nat_le, nat_lt, List, length, get_or}
use Rattle.ut_packed.specs.declared.bounds.Bounds.{Bounds}

-- a code stands between bounds, these included
abbrev pub IsBetween : Bounds → ℕ → Type 0
IsBetween bounds code = (bounds.least ≤ code) × (code ≤ bounds.greatest)

-- whether a range, without its end, reaches in between bounds
abbrev pub meets : Bounds → ℕ × ℕ → Bool
meets bounds range = nat_le range.0 bounds.greatest && nat_lt bounds.least range.1

-- whether a range, without its end, holds all that stands between bounds
abbrev pub covers : Bounds → ℕ × ℕ → Bool
covers bounds range = nat_le range.0 bounds.least && nat_lt bounds.greatest range.1

-- there are bounds for each block of 1024 codes, and each code stands between those of its block
pub record AreBounds (codes : List ℕ) (bounds : List Bounds) : Type 0 where
  pub count : length codes ≤ 1024 * length bounds
  pub each : (i : ℕ) (d : Bounds) → i < length codes → IsBetween (get_or bounds (i / 1024) d) (get_or codes i 0)
